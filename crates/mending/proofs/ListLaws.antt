-- The list of the changed nodes: empty where none was changed, one entry where one has the reason 8.
use Prim.Native.Nat.{ℕ, zero, suc, ◌<◌}
use mathlib.Core.Path.{◌≡◌, refl, ap, ap₂, ◌∙◌}
use mathlib.Core.List.{List, [], ◌∷◌, ◌++◌, append-nil}
use native.Mathlib.Omega.{arith}
use native.Mathlib.Decide.{ℕ_discrete}
use lib.ListN.{length}
use Rattle.lists.specs.Tab.{joined}
use Rattle.image.specs.declared.Image.{Image}
use Rattle.mending.specs.Mended.{reason_at, changed, entry_of, changes}
use Rattle.mending.proofs.MendLaws as mend
use Rattle.mending.proofs.Turns as turns

-- lists of which none, or only one, is not empty
joined_none : {A : Type 0} (f : ℕ → List A) (n : ℕ) → ((j : ℕ) → j < n → f j ≡ []) → joined f n ≡ []
unfolding joined
joined_none f zero h = refl
joined_none f (suc n) h = ap₂ (λ a b. a ++ b) (joined_none f n (λ j p. h j (omega arith))) (h n (omega arith))

joined_one : {A : Type 0} (f : ℕ → List A) (n i : ℕ) → i < n → ((j : ℕ) → j < n → (j ≡ i → ⊥) → f j ≡ []) → joined f n ≡ f i
unfolding joined
joined_one f zero i p h = absurd (omega arith)
joined_one {A} f (suc n) i p h = by (ℕ_discrete n i) (λ q. joined_one f n i q (λ j r. h j (omega arith)))
  where
    by : Dec (n ≡ i) → (i < n → joined f n ≡ f i) → joined f n ++ f n ≡ f i
    by (yes e) g = ap (λ l. l ++ f n) (joined_none f n (λ j q. h j (omega arith) (omega arith))) ∙ ap f e
    by (no ne) g = ap₂ (λ a b. a ++ b) (g (omega arith)) (h n (omega arith) ne) ∙ append-nil (f i)

module _ (g : Image) where
  pub changes_empty : (k : ℕ) → ((i : ℕ) → i < k → reason_at g i ≡ 0) → changes g k ≡ []
  unfolding changes
  changes_empty k h = joined_none (λ i. entry_of i (reason_at g i)) k (λ i p. ap (entry_of i) (h i p))

  pub changed_zero : (k : ℕ) → ((i : ℕ) → i < k → reason_at g i ≡ 0) → changed g k ≡ 0
  changed_zero k h = omega (arith, turns.changes_length g k, ap length (changes_empty k h))

  -- "A list with an 8 has no other entry"
  pub eight_alone : (i : ℕ) → i < g.n → reason_at g i ≡ 8 → changes g g.n ≡ i ∷ 8 ∷ []
  unfolding changes
  eight_alone i h e =
      joined_one (λ i. entry_of i (reason_at g i)) g.n i h (λ j p ne. ap (entry_of j) (mend.alone_eight g i e j p ne))
      ∙ ap (entry_of i) e
