-- A search in a loop gives what `found` says: the number at which it stops, or none at its end.
use Prim.Native.Nat.{ℕ, ◌-◌, ◌≤◌, ◌<◌}
use mathlib.Core.Path.{◌≡◌, refl, sym, ◌∙◌}
use mathlib.Core.Bool.{Bool, true, false}
use borrow.Author.Tests.{lt-ltb, le-ltb, ltb-true, ltb-false}
use lib.Dec.{ltb}
use Rattle.std.specs.Prelude.{Option, Some, None}
use Rattle.lists.specs.Find.{pick, least}
use Rattle.lists.proofs.FindLaws as find
use Rattle.judging.specs.Place.{found}

pub found_at : (f : ℕ → Bool) (n i k : ℕ) → k ≡ least f (n - i) i → i < n → f i ≡ true → Some i ≡ found n k
found_at f n i k e h t = rw (e, find.least_hit f n i h t, lt-ltb i n h)

pub found_end : (f : ℕ → Bool) (n i k : ℕ) → k ≡ least f (n - i) i → n ≤ i → None ≡ found n k
found_end f n i k e h = rw (e, find.least_end f n i h, le-ltb i n h)

-- and what is known of a number that was found, and where none was
pub found_some : (n k j : ℕ) (r : Option ℕ) → r ≡ found n k → r ≡ Some j → (k ≡ j) × (k < n)
found_some n k j r e w = by (ltb k n) refl (sym e ∙ w)
  where
    by : (b : Bool) → ltb k n ≡ b → pick b (Some k) None ≡ Some j → (k ≡ j) × (k < n)
    by true l q = (cc, ltb-true k n l)
    by false l q = cc

pub found_none : (n k : ℕ) (r : Option ℕ) → r ≡ found n k → r ≡ None → n ≤ k
found_none n k r e w = by (ltb k n) refl (sym e ∙ w)
  where
    by : (b : Bool) → ltb k n ≡ b → ◌≡◌ {A = Option ℕ} (pick b (Some k) None) None → n ≤ k
    by true l q = cc
    by false l q = ltb-false k n l
