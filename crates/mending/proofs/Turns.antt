-- One turn of each loop of the mender, and the parts that its list is written in. Assumes nothing.
use Prim.Native.Nat.{ℕ, zero, suc, ◌+◌, ◌*◌, ◌≤◌, ◌<◌}
use mathlib.Core.Path.{◌≡◌, refl, sym, ap, ap₂, subst, ◌∙◌}
use mathlib.Core.Bool.{Bool, true, false, not}
use mathlib.Core.List.{List, [], ◌∷◌, ◌++◌}
use native.Mathlib.Omega.{arith}
use native.Mathlib.Decide.{ℕ_discrete}
use native.Mathlib.Nat.{zero-add}
use native.Mathlib.Numerals.{add-one}
use lib.ListN.{length, set, length-append}
use lib.Dec.{eqb, ltb}
use Rattle.lists.specs.Find.{pick, both, count}
use Rattle.lists.specs.Tab.{joined, over, front}
use Rattle.lists.proofs.TabLaws as tabs
use Rattle.image.specs.Form.{node_place}
use Rattle.image.specs.Layout.{no_content, no_contents, content_at, image_shape, shape_in, read_content, read_nodes, image_in}
use Rattle.image.specs.declared.Shape.{Shape}
use Rattle.codec.specs.Parts.{Lies}
use Rattle.image.specs.Recovered.{has_twin, first_twin, dummy_of}
use Rattle.image.specs.declared.Content.{Content}
use Rattle.image.specs.declared.Image.{Image}
use Rattle.mending.specs.Mended.{unlinked, unclear_at, larger_at, largest_at, mended, spare_of, plain_reason, reason_at, is_changed, changed, entry_of, changes}
use Rattle.mending.proofs.ClearLaws as clear
use Rattle.mending.proofs.MendLaws as mend
use Rattle.mending.proofs.Plain.{reason_plain}

module _ (g : Image) where
  pub largest_none : 0 ≡ largest_at g 0
  unfolding largest_at
  largest_none = refl

  pub largest_next : (k : ℕ) → larger_at g (largest_at g k) k ≡ largest_at g (k + 1)
  unfolding largest_at
  largest_next k = ap (largest_at g) (sym (add-one k))

  -- ---- the reason, by the numbers that the searches find

  pub spare_by : (n t d : ℕ) → n ≡ g.n → t ≡ first_twin g → d ≡ dummy_of g → pick (both (eqb t n) (eqb d n)) (largest_at g n) n ≡ spare_of g
  unfolding spare_of
  spare_by n t d e p q = rw (e, p, q)

  pub reason_by : (i v : ℕ) (t : Bool) (spare : ℕ) → i < g.n → v ≡ (content_at g.nodes i).linked → t ≡ has_twin g i → spare ≡ spare_of g
      → pick (ltb 1 v) 6 (pick t 7 (pick (eqb i spare) 8 0)) ≡ reason_at g i
  unfolding plain_reason unclear_at
  reason_by i v t spare h e p q = rw (e, p, q) (sym (reason_plain g i h))

  -- ---- how many nodes are changed

  pub changed_none : 0 ≡ changed g 0
  unfolding changed count
  changed_none = refl

  pub changed_next : (i : ℕ) → changed g i + pick (not (eqb (reason_at g i) 0)) 1 0 ≡ changed g (i + 1)
  unfolding changed count is_changed
  changed_next i = omega arith ∙ ap (count (is_changed g)) (sym (add-one i))

  pub changed_le : (k : ℕ) → changed g k ≤ k
  unfolding changed count
  changed_le zero = omega arith
  changed_le (suc k) = by (is_changed g k) (changed_le k)
    where
      by : (b : Bool) → count (is_changed g) k ≤ k → pick b 1 0 + count (is_changed g) k ≤ suc k
      by true h = omega arith
      by false h = omega arith

  -- ---- the list

  pub changes_none : [] ≡ changes g 0
  unfolding changes joined
  changes_none = refl

  pub changes_next : (i : ℕ) → changes g i ++ entry_of i (reason_at g i) ≡ changes g (i + 1)
  unfolding changes joined
  changes_next i = ap (joined (λ i. entry_of i (reason_at g i))) (sym (add-one i))

  -- two bytes an entry
  pub changes_length : (k : ℕ) → length (changes g k) ≡ changed g k * 2
  unfolding changes changed joined count is_changed
  changes_length zero = refl
  changes_length (suc k) =
      length-append (changes g k) (entry_of k (reason_at g k)) ∙ ap₂ (λ (a b : ℕ). a + b) (changes_length k) (two (not (eqb (reason_at g k) 0))) ∙ omega arith
    where
      two : (b : Bool) → length (pick b (k ∷ reason_at g k ∷ []) []) ≡ pick b 1 0 * 2
      two true = refl
      two false = refl

  pub changes_upto : (i n : ℕ) → i ≤ n → length (changes g i) ≤ length (changes g n)
  unfolding changes joined
  changes_upto i zero h = let e : i ≡ 0 = omega arith in rw e (omega arith)
  changes_upto i (suc n) h = by (ℕ_discrete i (suc n)) (λ p. changes_upto i n p)
    where
      by : Dec (i ≡ suc n) → (i ≤ n → length (changes g i) ≤ length (changes g n)) → length (changes g i) ≤ length (changes g n ++ entry_of n (reason_at g n))
      by (yes e) f = rw e (omega arith)
      by (no ne) f = omega (arith, f (omega arith), length-append (changes g n) (entry_of n (reason_at g n)))

  -- node i's entry fits where the list of all does
  pub entry_within : (i n : ℕ) → i < n → length (changes g i) + length (entry_of i (reason_at g i)) ≤ length (changes g n)
  entry_within i n h =
      omega (arith, changes_upto (i + 1) n (omega arith), ap length (changes_next i), length-append (changes g i) (entry_of i (reason_at g i)))

  pub entry_over : (l : List ℕ) (i : ℕ) → over (over l 0 (changes g i)) (length (changes g i)) (entry_of i (reason_at g i)) ≡ over l 0 (changes g (i + 1))
  entry_over l i =
      ap (λ (k : ℕ). over (over l 0 (changes g i)) k (entry_of i (reason_at g i))) (sym (zero-add (length (changes g i))))
      ∙ tabs.over_append l 0 (changes g i) (entry_of i (reason_at g i))
      ∙ ap (over l 0) (changes_next i)

  -- ---- the nodes

  -- the first k nodes mended, the others as they came
  unfoldable pub nodes_mended : ℕ → List Content
  nodes_mended k = front (λ i. unlinked (not (eqb (reason_at g i) 0)) (content_at g.nodes i)) k g.nodes

  pub nodes_none : g.nodes ≡ nodes_mended 0
  unfolding nodes_mended
  nodes_none = tabs.front_none (λ i. unlinked (not (eqb (reason_at g i) 0)) (content_at g.nodes i)) g.nodes

  pub nodes_next : (i : ℕ) → i < length g.nodes → set (nodes_mended i) i (unlinked (not (eqb (reason_at g i) 0)) (content_at g.nodes i)) ≡ nodes_mended (i + 1)
  unfolding nodes_mended
  nodes_next i h = tabs.front_next (λ i. unlinked (not (eqb (reason_at g i) 0)) (content_at g.nodes i)) i g.nodes h

  pub nodes_all : g.n ≤ length g.nodes → nodes_mended g.n ≡ (mended g).nodes
  unfolding nodes_mended front
  nodes_all l =
      let own : ℕ → Content = λ i. content_at (mended g).nodes i in
      let fresh : ℕ → Content = λ i. unlinked (not (eqb (reason_at g i) 0)) (content_at g.nodes i) in
      ap₂ (λ (a b : List Content). a ++ b)
      (tabs.tab_same fresh own g.n (λ i p. sym (mend.mended_at g i p)))
      (sym (mend.mended_beyond g))
      ∙ clear.front_own no_content (mended g).nodes g.n (omega (arith, mend.mended_length g l))

  pub mended_by : g.n ≤ length g.nodes → (l : List Content) → l ≡ nodes_mended g.n → record { form = g.form; n = g.n; t = g.t; heads = g.heads; nodes = l } ≡ mended g
  mended_by h l e = sym (λ k. record { form = mend.mended_form g k; n = mend.size3 g k; t = mend.mended_threads g k; heads = mend.mended_heads g k; nodes = sym (e ∙ nodes_all h) k })

-- ---- bytes that are an image

pub shape_own : (s : List ℕ) → image_shape (image_in s) ≡ shape_in s
unfolding image_in
shape_own s = refl

pub form_in : (s : List ℕ) → (image_in s).form ≡ (shape_in s).form
unfolding image_in
form_in s = refl

pub nodes_in_lem : (s : List ℕ) → (image_in s).n ≡ (shape_in s).n
unfolding image_in
nodes_in_lem s = refl

pub in_length : (s : List ℕ) → (shape_in s).n ≤ 64 → length (image_in s).nodes ≡ 64
unfolding image_in read_nodes no_contents
in_length s h =
    let z = shape_in s in
    tabs.front_size (λ i. read_content z.form s (node_place z i)) z.n no_contents h

-- an image of shape z that lies in the bytes
pub lies_own : (s : List ℕ) (z : Shape) → Lies s z → Lies s (shape_in s)
lies_own s z l = subst (Lies s) l.shape l

pub one_or_none : (b : Bool) → pick b 1 0 ≤ 1
one_or_none true = omega arith
one_or_none false = omega arith
