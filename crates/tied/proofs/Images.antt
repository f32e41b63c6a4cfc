-- An image of the code and one of the abstract machine that show the same: the same nodes are recovered, in the same order, with the same dummy.
use mathlib.Core.Path.{◌≡◌, refl, sym, ap, ap₂, subst, ◌∙◌}
use mathlib.Core.Bool.{Bool, true, false, not}
use mathlib.Core.List.{List, [], ◌∷◌}
use mathlib.Core.Option.{Option, none, some}
use Prim.Native.Nat.{ℕ, zero, suc, max, ◌+◌, ◌≤◌, ◌<◌}
use native.Mathlib.Omega.{arith}
use native.Mathlib.Decide.{dec_lt}
use native.Mathlib.Nat.{zero-max}
use lib.Dec.{eqb, ltb}
use lib.ListN.{get_or}
use Rattle.lists.specs.Find.{pick, both, least}
use Rattle.lists.proofs.BoolLaws.{no_way}
use Rattle.image.specs.declared.Content.{Content}
use Rattle.image.specs.declared.Image.{Image}
use Rattle.image.specs.Layout.{content_at, image_shape, head_in}
use Rattle.image.proofs.HeadLaws.{lines_same, lines_some, lines_few}
use Rattle.image.proofs.ShapeLaws.{agree_is}
use Rattle.image.specs.Recovered.{largest, head_of, recovered, recovered_at, dummy_of}
use Rattle.image.specs.Refusals.{agree}
use Rattle.image.specs.Form.{top_of, head_lines}
use Rattle.machine.specs.Start as start
use Rattle.machine.specs.Start.{risen}
use Rattle.model.specs.Basics.{sel, bothb}
use Rattle.model.specs.Core as core
use Rattle.model.specs.Conf as model
use Rattle.model.specs.Choice.{lowest}
use Rattle.model.specs.Recovery as recovery
use Rattle.model.specs.Recovery.{or_zero}
use Rattle.model.proofs.Basics.{lt_true, lt_no}
use Rattle.tied.specs.Shown.{shown_content, conf_of}
use Rattle.tied.proofs.Engines.{lines_shown}
use Rattle.tied.proofs.Searches.{lowest_least, lowest_same}
use Rattle.tied.proofs.Relation.{Sizes}

pub record ImageT (g : Image) (t : ℕ) (G : recovery.Image) : Type 0 where
  pub conf : G.conf ≡ conf_of g.form g.n t
  pub sizes : Sizes g.form g.n t
  pub agrees : agree t (image_shape g) ≡ true
  pub head : (k : ℕ) → k < head_lines (image_shape g) → G.heads k ≡ head_in g k
  pub at : (i : ℕ) → i < g.n → G.at i ≡ shown_content (content_at g.nodes i)
  pub flag : (i : ℕ) → i < g.n → (content_at g.nodes i).linked ≤ 1
  pub narrow_head : (k : ℕ) → k < head_lines (image_shape g) → head_in g k ≤ top_of g.form
  pub narrow : (i : ℕ) → i < g.n → (content_at g.nodes i).index ≤ top_of g.form

-- numbers below n only
abbrev pub Under : ℕ → List ℕ → Type 0
Under n [] = Unit {0}
Under n (k ∷ q) = (k < n) × Under n q

pub under_insert : (l : List Content) (n i : ℕ) (q : List ℕ) → i < n → Under n q → Under n (start.insert l i q)
unfolding start.insert
under_insert l n i [] h u = (h, tt)
under_insert l n i (k ∷ q) h u = by (ltb (content_at l i).index (content_at l k).index) (under_insert l n i q h u.1)
  where
    by : (b : Bool) → Under n (start.insert l i q) → Under n (elim b as (λ _. List ℕ) [ true ↦ i ∷ k ∷ q | false ↦ k ∷ start.insert l i q ])
    by true r = (h, u)
    by false r = (u.0, r)

pub under_risen : (g : Image) (n k : ℕ) → k ≤ n → Under n (risen g k)
unfolding risen
under_risen g n zero h = tt
under_risen g n (suc k) h = by (recovered_at g k) (under_risen g n k (omega arith))
  where
    by : (b : Bool) → Under n (risen g k) → Under n (elim b as (λ _. List ℕ) [ true ↦ start.insert g.nodes k (risen g k) | false ↦ risen g k ])
    by true r = under_insert g.nodes n k (risen g k) (omega arith) r
    by false r = r

-- ---- the largest of the head lines

max_is : (r x : ℕ) → max r x ≡ pick (ltb r x) x r
max_is r x = by (dec_lt r x)
  where
    by : Dec (r < x) → max r x ≡ pick (ltb r x) x r
    by (yes h) = rw (lt_true r x h) (omega arith)
    by (no h) = rw (lt_no r x (omega arith)) (omega arith)

largest_is : (l : List ℕ) (f : ℕ → ℕ) (k : ℕ) → ((j : ℕ) → j < k → f j ≡ get_or l j 0) → recovery.largest k f ≡ largest l k
unfolding recovery.largest largest
largest_is l f zero h = refl
largest_is l f (suc k) h = ap₂ max (largest_is l f k (λ j q. h j (omega arith))) (h k (omega arith)) ∙ max_is (largest l k) (get_or l k 0)

module _ (g : Image) (t : ℕ) (G : recovery.Image) (d : ImageT g t G) where
  -- the head lines of the image are those of its start, here and there
  pub lines_at : head_lines (record { form = g.form; n = g.n; t = t }) ≡ head_lines (image_shape g)
  lines_at = lines_same g.form g.n t g.n g.t (λ e. sym (agree_is t (image_shape g) d.agrees e))

  pub lines_is : model.head_lines G.conf ≡ head_lines (image_shape g)
  lines_is = ap model.head_lines d.conf ∙ lines_shown g.form g.n t d.sizes.form ∙ lines_at

  pub first_line : 0 < head_lines (image_shape g)
  first_line = subst (λ h. 0 < h) lines_at (lines_some (record { form = g.form; n = g.n; t = t }) d.sizes.threads_lo)

  pub eight_lines : head_lines (image_shape g) ≤ 8
  eight_lines = subst (λ h. h ≤ 8) lines_at (lines_few (record { form = g.form; n = g.n; t = t }) d.sizes.threads_hi)

  pub head_is : recovery.head_of G ≡ head_of g
  unfolding recovery.head_of head_of
  head_is = ap (λ h. recovery.largest h G.heads) lines_is ∙ largest_is g.heads G.heads (head_lines (image_shape g)) d.head

  -- that of one line
  pub head_one : head_lines (image_shape g) ≡ 1 → recovery.head_of G ≡ head_in g 0
  unfolding recovery.head_of recovery.largest
  head_one e = ap (λ h. recovery.largest h G.heads) (lines_is ∙ e) ∙ zero-max (G.heads 0) ∙ d.head 0 first_line

  pub rec_is : (i : ℕ) → i < g.n → recovery.recovered (recovery.head_of G) (G.at i) ≡ recovered_at g i
  unfolding recovered
  rec_is i h = ap (λ y. recovery.recovered y (G.at i)) head_is ∙ ap (recovery.recovered (head_of g)) (d.at i h) ∙ by (eqb (content_at g.nodes i).linked 1)
    where
      by : (b : Bool) → bothb b (ltb (head_of g) (content_at g.nodes i).index) ≡ both b (ltb (head_of g) (content_at g.nodes i).index)
      by true = refl
      by false = refl

  pub nodes_is : G.conf.nodes ≡ g.n
  nodes_is = ap (λ z. z.nodes) d.conf

  pub low_is : lowest G.conf.nodes 0 (λ n. not (recovery.recovered (recovery.head_of G) (G.at n)))
      ≡ sel (ltb (dummy_of g) g.n) (some (dummy_of g)) none
  unfolding dummy_of
  low_is = ap (λ n. lowest n 0 (λ n. not (recovery.recovered (recovery.head_of G) (G.at n)))) nodes_is
      ∙ lowest_same _ (λ i. not (recovered_at g i)) g.n 0 (λ j h. ap not (rec_is j (omega arith)))
      ∙ lowest_least (λ i. not (recovered_at g i)) g.n 0
      ∙ ap (λ y. sel (ltb (least (λ i. not (recovered_at g i)) g.n 0) y) (some (least (λ i. not (recovered_at g i)) g.n 0)) none) (zero_plus g.n)
    where
      zero_plus : (n : ℕ) → 0 + n ≡ n
      zero_plus n = omega arith

  pub dummy_is : dummy_of g < g.n → or_zero (lowest G.conf.nodes 0 (λ n. not (recovery.recovered (recovery.head_of G) (G.at n)))) ≡ dummy_of g
  dummy_is h = ap or_zero (low_is ∙ ap (λ b. sel b (some (dummy_of g)) none) (lt_true (dummy_of g) g.n h))

  insert_is : (i : ℕ) → i < g.n → (q : List ℕ) → Under g.n q → recovery.insert G.at i q ≡ start.insert g.nodes i q
  unfolding recovery.insert start.insert
  insert_is i h [] u = refl
  insert_is i h (k ∷ q) u = by _ _ (ap (λ z. ltb z.index (G.at k).index) (d.at i h) ∙ ap (λ z. ltb (content_at g.nodes i).index z.index) (d.at k u.0)) (insert_is i h q u.1)
    where
      by : (a b : Bool) → a ≡ b → recovery.insert G.at i q ≡ start.insert g.nodes i q
          → ◌≡◌ {A = List ℕ} (elim a as (λ _. List ℕ) [ true ↦ i ∷ k ∷ q | false ↦ k ∷ recovery.insert G.at i q ]) (elim b as (λ _. List ℕ) [ true ↦ i ∷ k ∷ q | false ↦ k ∷ start.insert g.nodes i q ])
      by true true e r = refl
      by true false e r = no_way e
      by false true e r = no_way (sym e)
      by false false e r = ap (λ l. k ∷ l) r

  risen_is : (k : ℕ) → k ≤ g.n → recovery.queue_of G.at (recovery.head_of G) k ≡ risen g k
  unfolding recovery.queue_of risen
  risen_is zero h = refl
  risen_is (suc k) h = by _ _ (rec_is k (omega arith)) (risen_is k (omega arith))
    where
      by : (a b : Bool) → a ≡ b → recovery.queue_of G.at (recovery.head_of G) k ≡ risen g k
          → ◌≡◌ {A = List ℕ} (elim a as (λ _. List ℕ) [ true ↦ recovery.insert G.at k (recovery.queue_of G.at (recovery.head_of G) k) | false ↦ recovery.queue_of G.at (recovery.head_of G) k ])
          (elim b as (λ _. List ℕ) [ true ↦ start.insert g.nodes k (risen g k) | false ↦ risen g k ])
      by true true e r = ap (recovery.insert G.at k) r ∙ insert_is k (omega arith) (risen g k) (under_risen g g.n k (omega arith))
      by true false e r = no_way e
      by false true e r = no_way (sym e)
      by false false e r = r

  pub queue_is : recovery.queue_of G.at (recovery.head_of G) G.conf.nodes ≡ start.queue_of g
  queue_is = ap (recovery.queue_of G.at (recovery.head_of G)) nodes_is ∙ risen_is g.n (omega arith)
