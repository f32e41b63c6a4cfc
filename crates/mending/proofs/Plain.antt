-- The reasons can be read off the image as it came: the first two steps hide no recovered node that a later one asks for. Assumes nothing.
use Prim.Native.Nat.{ℕ, zero, suc, ◌≤◌, ◌<◌}
use mathlib.Core.Path.{◌≡◌, refl, sym, ap, ap₂, ◌∙◌}
use mathlib.Core.Bool.{Bool, true, false, not}
use native.Mathlib.Omega.{arith}
use lib.Dec.{eqb, ltb}
use borrow.Author.Tests.{eqb-true, eqb-false, ltb-true, eq-eqb, ne_eqb}
use Rattle.lists.specs.Find.{pick, both}
use Rattle.lists.proofs.FindLaws.{least_clear, any_same}
use Rattle.image.specs.Layout.{content_at}
use Rattle.image.specs.Recovered.{head_of, recovered, recovered_at, twins, has_twin, first_twin, dummy_of}
use Rattle.image.specs.declared.Content.{Content}
use Rattle.image.specs.declared.Image.{Image}
use Rattle.mending.specs.Mended.{unlinked, cleared, unclear_at, bytes_mended, twins_mended, larger_at, largest_at, spare_at, reason_at, spare_of, plain_reason}
use Rattle.mending.proofs.ClearLaws as clear
use Rattle.mending.proofs.MendLaws as mend

-- the largest goes by the indices
pub largest_le : (g : Image) (k : ℕ) → largest_at g k ≤ k
unfolding largest_at
largest_le g zero = omega arith
largest_le g (suc k) = let p = largest_le g k in mend.larger_one (λ j. j ≤ suc k) g (largest_at g k) k (omega arith) (omega arith)

abbrev SameIndex : Image → Image → ℕ → Type 0
SameIndex g g' k = (j : ℕ) → j < k → (content_at g.nodes j).index ≡ (content_at g'.nodes j).index

largest_same : (g g' : Image) (k : ℕ) → SameIndex g g' k → largest_at g k ≡ largest_at g' k
unfolding largest_at larger_at
largest_same g g' zero h = refl
largest_same g g' (suc k) h =
    let e = largest_same g g' k (λ j p. h j (omega arith)) in
    let l = largest_le g k in
    rw (h (largest_at g k) (omega arith), h k (omega arith), e)

-- a linked byte above 1 is no recovered node's, before or after
same_recovered : (h : ℕ) (c : Content) → (b : Bool) → ltb 1 c.linked ≡ b → recovered h (unlinked b c) ≡ recovered h c
unfolding recovered
same_recovered h c true e = sym (ap (λ b. both b (ltb h c.index)) (ne_eqb c.linked 1 (omega (arith, ltb-true 1 c.linked e))))
same_recovered h c false e = refl

-- a node whose flag is not cleared is recovered as before
kept_recovered : (f : ℕ → Bool) (g : Image) (i : ℕ) → i < g.n → f i ≡ false → recovered_at (cleared f g) i ≡ recovered_at g i
kept_recovered f g i h e =
    ap₂ recovered (clear.cleared_head f g) (clear.cleared_at f g i h ∙ ap (λ b. unlinked b (content_at g.nodes i)) e)

-- every node is recovered exactly where the search for a dummy finds none
none_left : (g : Image) → ((i : ℕ) → i < g.n → recovered_at g i ≡ true) → dummy_of g ≡ g.n
unfolding dummy_of
none_left g h = clear.least_all (λ i. not (recovered_at g i)) g.n (λ i p. ap not (h i p))

no_twin : (g : Image) → first_twin g ≡ g.n → (i : ℕ) → i < g.n → has_twin g i ≡ false
unfolding first_twin
no_twin g e i h = least_clear (has_twin g) g.n 0 (omega arith) i (omega arith) (omega arith)

module _ (g : Image) where
  recovered1 : (i : ℕ) → i < g.n → recovered_at (bytes_mended g) i ≡ recovered_at g i
  unfolding bytes_mended unclear_at
  recovered1 i h =
      ap₂ recovered (clear.cleared_head (unclear_at g) g) (clear.cleared_at (unclear_at g) g i h)
      ∙ same_recovered (head_of g) (content_at g.nodes i) (unclear_at g i) refl

  index1 : (i : ℕ) → i < g.n → (content_at (bytes_mended g).nodes i).index ≡ (content_at g.nodes i).index
  unfolding bytes_mended
  index1 i h = clear.cleared_index (unclear_at g) g i h

  index2 : (i : ℕ) → i < g.n → (content_at (twins_mended (bytes_mended g)).nodes i).index ≡ (content_at g.nodes i).index
  unfolding twins_mended
  index2 i h = clear.cleared_index (has_twin (bytes_mended g)) (bytes_mended g) i (rw (mend.size1 g) h) ∙ index1 i h

  pub twin1 : (i : ℕ) → i < g.n → has_twin (bytes_mended g) i ≡ has_twin g i
  unfolding has_twin twins
  twin1 i h =
      any_same (twins (bytes_mended g) i) (twins g i) i
      (λ j p. rw (recovered1 i h, recovered1 j (omega arith), index1 i h, index1 j (omega arith)))

  all2 : first_twin g ≡ g.n → dummy_of g ≡ g.n → dummy_of (twins_mended (bytes_mended g)) ≡ g.n
  unfolding twins_mended
  all2 t d = none_left (cleared (has_twin g1) g1) each ∙ mend.size2 g
    where
      g1 : Image
      g1 = bytes_mended g

      each : (i : ℕ) → i < (cleared (has_twin g1) g1).n → recovered_at (cleared (has_twin g1) g1) i ≡ true
      each i p =
          let h : i < g.n = rw (mend.size2 g) at p in
          kept_recovered (has_twin g1) g1 i (rw (mend.size1 g) h) (twin1 i h ∙ no_twin g t i h) ∙ recovered1 i h ∙ mend.all_recovered g (eq-eqb (dummy_of g) g.n d) i h

  -- and where every node is recovered behind the first two steps, neither had anything to do
  back2 : dummy_of (twins_mended (bytes_mended g)) ≡ g.n → (first_twin g ≡ g.n) × (dummy_of g ≡ g.n)
  back2 e = (mend.twin_none g (λ i h. sym (twin1 i h) ∙ (mend.recovered_through g i h (there i h)).1), none_left g (λ i h. (mend.recovered_through g i h (there i h)).2))
    where
      there : (i : ℕ) → i < g.n → recovered_at (twins_mended (bytes_mended g)) i ≡ true
      there i h = mend.all_recovered (twins_mended (bytes_mended g)) (eq-eqb _ _ (e ∙ sym (mend.size2 g))) i (rw (mend.size2 g) h)

  largest2 : largest_at (twins_mended (bytes_mended g)) (twins_mended (bytes_mended g)).n ≡ largest_at g g.n
  largest2 = ap (largest_at (twins_mended (bytes_mended g))) (mend.size2 g) ∙ largest_same (twins_mended (bytes_mended g)) g g.n index2

  spare2 : (i : ℕ) → i < g.n → spare_at (twins_mended (bytes_mended g)) i ≡ eqb i (spare_of g)
  unfolding spare_at spare_of
  spare2 i h = ap₂ (λ (a b : ℕ). both (eqb (dummy_of g2) a) (eqb i b)) (mend.size2 g) largest2 ∙ by (eqb (first_twin g) g.n) (eqb (dummy_of g) g.n) refl refl
    where
      g2 : Image
      g2 = twins_mended (bytes_mended g)

      big : ℕ
      big = largest_at g g.n

      off : (b : Bool) → eqb (dummy_of g2) g.n ≡ b → (first_twin g ≡ g.n → dummy_of g ≡ g.n → ⊥) → both b (eqb i big) ≡ eqb i g.n
      off true e n = let p = back2 (eqb-true (dummy_of g2) g.n e) in absurd (n p.0 p.1)
      off false e n = sym (ne_eqb i g.n (omega arith))

      by : (a b : Bool) → eqb (first_twin g) g.n ≡ a → eqb (dummy_of g) g.n ≡ b → both (eqb (dummy_of g2) g.n) (eqb i big) ≡ eqb i (pick (both a b) big g.n)
      by true true p q = ap (λ b. both b (eqb i big)) (eq-eqb (dummy_of g2) g.n (all2 (eqb-true (first_twin g) g.n p) (eqb-true (dummy_of g) g.n q)))
      by true false p q = off (eqb (dummy_of g2) g.n) refl (λ t d. eqb-false (dummy_of g) g.n q d)
      by false b p q = off (eqb (dummy_of g2) g.n) refl (λ t d. eqb-false (first_twin g) g.n p t)

  pub reason_plain : (i : ℕ) → i < g.n → reason_at g i ≡ plain_reason g (spare_of g) i
  unfolding reason_at plain_reason
  reason_plain i h = rw (twin1 i h, spare2 i h)
