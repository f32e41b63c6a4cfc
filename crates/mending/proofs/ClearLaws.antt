-- Laws of `cleared`: what it keeps of an image, and which nodes are recovered or have twins then. Assumes nothing.
use Prim.Native.Nat.{ℕ, ◌+◌, ◌≤◌, ◌<◌}
use mathlib.Core.Path.{◌≡◌, refl, sym, ap, ap₂, ◌∙◌}
use mathlib.Core.Bool.{Bool, true, false}
use mathlib.Core.List.{List, ◌++◌}
use native.Mathlib.Omega.{arith}
use native.Mathlib.Nat.{zero-add}
use lib.ListN.{length, get_or, drop, take-append-drop}
use lib.Seq.{drop_at}
use lib.Dec.{eqb, ltb}
use borrow.Author.Tests.{ltb-true, ltb-false}
use Rattle.lists.specs.Find.{least}
use Rattle.lists.specs.Tab.{tab, front}
use Rattle.lists.proofs.BoolLaws.{no_way, false_true, both_true, both_of}
use Rattle.lists.proofs.FindLaws.{least_none, least_clear, any_none, any_clear}
use Rattle.lists.proofs.TabLaws as tabs
use Rattle.image.specs.Layout.{content_at, no_content}
use Rattle.image.specs.Recovered.{head_of, recovered, recovered_at, twins, has_twin}
use Rattle.image.specs.declared.Content.{Content}
use Rattle.image.specs.declared.Image.{Image}
use Rattle.mending.specs.Mended.{unlinked, cleared, unclear_at}

-- a search below n that finds something ends below n
pub least_under : (f : ℕ → Bool) (n i : ℕ) → i < n → f i ≡ true → least f n 0 < n
least_under f n i h e = by (ltb (least f n 0) n) refl
  where
    by : (b : Bool) → ltb (least f n 0) n ≡ b → least f n 0 < n
    by true t = ltb-true (least f n 0) n t
    by false t = no_way (sym e ∙ least_clear f n 0 (omega (arith, ltb-false (least f n 0) n t)) i (omega arith) (omega arith))

pub least_all : (f : ℕ → Bool) (n : ℕ) → ((i : ℕ) → i < n → f i ≡ false) → least f n 0 ≡ n
least_all f n h = least_none f n 0 (λ i p q. h i (omega arith)) ∙ zero-add n

-- the elements of a list, put back from the front
pub front_own : {A : Type 0} (d : A) (l : List A) (n : ℕ) → n ≤ length l → front (λ i. get_or l i d) n l ≡ l
unfolding front
front_own {A} d l n h =
    ap (λ (z : List A). z ++ drop n l) (tabs.tab_same (λ i. get_or l i d) (λ j. get_or l (0 + j) d) n (λ i p. ap (λ k. get_or l k d) (sym (zero-add i))) ∙ sym (tabs.take_drop_tab l d 0 n (omega arith)))
    ∙ take-append-drop n l

-- ---- one content

recovered_then : (b : Bool) (h : ℕ) (c : Content) → recovered h (unlinked b c) ≡ true → (b ≡ false) × (recovered h c ≡ true)
unfolding recovered
recovered_then true h c e = false_true e
recovered_then false h c e = (refl, e)

recovered_linked : (h : ℕ) (c : Content) → recovered h c ≡ true → eqb c.linked 1 ≡ true
unfolding recovered
recovered_linked h c e = (both_true (eqb c.linked 1) (ltb h c.index) e).0

clear_then : (b : Bool) (c : Content) → ltb 1 c.linked ≡ false → ltb 1 (unlinked b c).linked ≡ false
clear_then true c e = refl
clear_then false c e = e

-- ---- twins taken apart

pub twins_apart : (g : Image) (i j : ℕ) → twins g i j ≡ true
    → (recovered_at g i ≡ true) × (recovered_at g j ≡ true) × (eqb (content_at g.nodes i).index (content_at g.nodes j).index ≡ true)
unfolding twins
twins_apart g i j e =
    let a = both_true (recovered_at g i) _ e in
    let b = both_true (recovered_at g j) _ a.1 in
    (a.0, b.0, b.1)

pub twins_of : (g : Image) (i j : ℕ) → recovered_at g i ≡ true → recovered_at g j ≡ true
    → eqb (content_at g.nodes i).index (content_at g.nodes j).index ≡ true → twins g i j ≡ true
unfolding twins
twins_of g i j a b c = both_of (recovered_at g i) _ a (both_of (recovered_at g j) _ b c)

-- a node with a twin is recovered
pub twin_recovered : (g : Image) (i : ℕ) → has_twin g i ≡ true → recovered_at g i ≡ true
unfolding has_twin
twin_recovered g i e = by (recovered_at g i) refl
  where
    none : recovered_at g i ≡ false → (j : ℕ) → (b : Bool) → twins g i j ≡ b → b ≡ false
    none n j true t = no_way (sym (twins_apart g i j t).0 ∙ n)
    none n j false t = refl

    by : (b : Bool) → recovered_at g i ≡ b → recovered_at g i ≡ true
    by true r = r
    by false r = no_way (sym e ∙ any_none (twins g i) i (λ j p. none r j (twins g i j) refl))

-- ---- the image

module _ (f : ℕ → Bool) (g : Image) where
  pub cleared_n : (cleared f g).n ≡ g.n
  unfolding cleared
  cleared_n = refl

  pub cleared_head : head_of (cleared f g) ≡ head_of g
  unfolding cleared head_of
  cleared_head = refl

  pub cleared_at : (i : ℕ) → i < g.n → content_at (cleared f g).nodes i ≡ unlinked (f i) (content_at g.nodes i)
  unfolding cleared
  cleared_at i h = tabs.front_at (λ i. unlinked (f i) (content_at g.nodes i)) g.n g.nodes i no_content h

  pub cleared_length : g.n ≤ length g.nodes → length (cleared f g).nodes ≡ length g.nodes
  unfolding cleared
  cleared_length h = tabs.front_size (λ i. unlinked (f i) (content_at g.nodes i)) g.n g.nodes h

  -- nodes beyond the last are as they were
  pub cleared_beyond : drop g.n (cleared f g).nodes ≡ drop g.n g.nodes
  unfolding cleared front
  cleared_beyond =
      let t = tab (λ i. unlinked (f i) (content_at g.nodes i)) g.n in
      drop_at t (drop g.n g.nodes) g.n (tabs.length_tab (λ i. unlinked (f i) (content_at g.nodes i)) g.n)

  recovered_is : (i : ℕ) → i < g.n → recovered_at (cleared f g) i ≡ recovered (head_of g) (unlinked (f i) (content_at g.nodes i))
  recovered_is i h = ap₂ recovered cleared_head (cleared_at i h)

  -- a node that is recovered then was recovered before, and its flag was not cleared
  pub cleared_recovered : (i : ℕ) → i < g.n → recovered_at (cleared f g) i ≡ true → (f i ≡ false) × (recovered_at g i ≡ true)
  cleared_recovered i h e = recovered_then (f i) (head_of g) (content_at g.nodes i) (sym (recovered_is i h) ∙ e)

  -- so one whose flag was cleared is not recovered, and one that was not recovered stays so
  pub cleared_not : (i : ℕ) → i < g.n → f i ≡ true → recovered_at (cleared f g) i ≡ false
  cleared_not i h e = by (recovered_at (cleared f g) i) refl
    where
      by : (b : Bool) → recovered_at (cleared f g) i ≡ b → recovered_at (cleared f g) i ≡ false
      by true r = no_way (sym e ∙ (cleared_recovered i h r).0)
      by false r = r

  pub cleared_still : (i : ℕ) → i < g.n → recovered_at g i ≡ false → recovered_at (cleared f g) i ≡ false
  cleared_still i h e = by (recovered_at (cleared f g) i) refl
    where
      by : (b : Bool) → recovered_at (cleared f g) i ≡ b → recovered_at (cleared f g) i ≡ false
      by true r = no_way (sym (cleared_recovered i h r).1 ∙ e)
      by false r = r

  pub cleared_index : (i : ℕ) → i < g.n → (content_at (cleared f g).nodes i).index ≡ (content_at g.nodes i).index
  cleared_index i h = ap (λ c. c.index) (cleared_at i h)

  pub cleared_twins : (i j : ℕ) → i < g.n → j < g.n → twins (cleared f g) i j ≡ true → (f i ≡ false) × (twins g i j ≡ true)
  cleared_twins i j hi hj e =
      let t = twins_apart (cleared f g) i j e in
      let a = cleared_recovered i hi t.0 in
      let b = cleared_recovered j hj t.1 in
      (a.0, twins_of g i j a.1 b.1 (sym (ap₂ eqb (cleared_index i hi) (cleared_index j hj)) ∙ t.2))

  -- a node has no twin then if it had none, or if its flag was cleared
  pub cleared_alone : (i : ℕ) → i < g.n → has_twin g i ≡ false → has_twin (cleared f g) i ≡ false
  unfolding has_twin
  cleared_alone i h e = any_none (twins (cleared f g) i) i (λ j p. by j p (twins (cleared f g) i j) refl)
    where
      by : (j : ℕ) → j < i → (b : Bool) → twins (cleared f g) i j ≡ b → twins (cleared f g) i j ≡ false
      by j p true t = no_way (sym (cleared_twins i j h (omega arith) t).1 ∙ any_clear (twins g i) i j e p)
      by j p false t = t

  pub cleared_gone : (i : ℕ) → i < g.n → f i ≡ true → has_twin (cleared f g) i ≡ false
  cleared_gone i h e = by (has_twin (cleared f g) i) refl
    where
      by : (b : Bool) → has_twin (cleared f g) i ≡ b → has_twin (cleared f g) i ≡ false
      by true t = no_way (sym (twin_recovered (cleared f g) i t) ∙ cleared_not i h e)
      by false t = t

  pub cleared_clear : (i : ℕ) → i < g.n → unclear_at g i ≡ false → unclear_at (cleared f g) i ≡ false
  unfolding unclear_at
  cleared_clear i h e = ap (λ c. ltb 1 c.linked) (cleared_at i h) ∙ clear_then (f i) (content_at g.nodes i) e

  -- where no flag is cleared the image is the same
  pub cleared_none : g.n ≤ length g.nodes → ((i : ℕ) → i < g.n → f i ≡ false) → cleared f g ≡ g
  unfolding cleared
  cleared_none h e =
      ap (λ (l : List Content). record { form = g.form; n = g.n; t = g.t; heads = g.heads; nodes = l })
      (tabs.front_same (λ i. unlinked (f i) (content_at g.nodes i)) (λ i. content_at g.nodes i) g.n g.nodes (λ i p. ap (λ b. unlinked b (content_at g.nodes i)) (e i p))
      ∙ front_own no_content g.nodes g.n h)

-- the linked flag of a recovered node is 1
pub recovered_flag : (g : Image) (i : ℕ) → recovered_at g i ≡ true → eqb (content_at g.nodes i).linked 1 ≡ true
recovered_flag g i e = recovered_linked (head_of g) (content_at g.nodes i) e
