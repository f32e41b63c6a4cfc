-- One number of a range is left out after the other; steps of an enqueue and of a dequeue.
use Prim.Native.Nat.{ℕ, suc, ◌≤◌, ◌<◌}
use mathlib.Core.Path.{◌≡◌, refl}
use mathlib.Core.Bool.{Bool, true, false}
use mathlib.Core.Logic.{◌≢◌}
use native.Mathlib.Omega.{arith}
use lib.Dec.{eqb, leb}
use borrow.Author.Tests.{eqb-true, eqb-false, leb-true, leb-false}
use Rattle.lists.specs.Find.{pick}
use Rattle.steps.specs.Numbers.{of_enqueue}

pub past : (n s : ℕ) → n ≤ s → s ≢ n → suc n ≤ s
past n s h d = omega arith

-- a step of an enqueue other than F10
pub enqueue_low : (s : ℕ) → of_enqueue s ≡ true → s ≢ 22 → s ≤ 12
enqueue_low s h d = by (leb s 12) refl h
  where
    by : (b : Bool) → leb s 12 ≡ b → pick b true (eqb s 22) ≡ true → s ≤ 12
    by true e z = leb-true s 12 e
    by false e z = absurd (d (eqb-true s 22 z))

-- a step of a dequeue
pub dequeue_past : (s : ℕ) → of_enqueue s ≡ false → (12 < s) × (s ≢ 22)
dequeue_past s h = by (leb s 12) refl h
  where
    by : (b : Bool) → leb s 12 ≡ b → pick b true (eqb s 22) ≡ false → (12 < s) × (s ≢ 22)
    by true e z = let o : ◌≡◌ {A = ℕ} 0 1 = cc in absurd (omega arith)
    by false e z = (leb-false s 12 e, eqb-false s 22 z)
