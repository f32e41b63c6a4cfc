-- A set of numbers below k stays one. Assumes nothing.
use Prim.Native.Nat.{ℕ, ◌+◌, ◌-◌, ◌^◌, ◌≤◌, ◌<◌}
use mathlib.Core.Path.{◌≡◌, refl}
use mathlib.Core.Bool.{Bool, true, false}
use native.Mathlib.Omega.{arith}
use Rattle.lists.specs.Find.{pick}
use Rattle.lists.specs.Word.{has, with, without}
use Rattle.lists.proofs.WordLaws.{add_lt}

pub with_lt : (k w i : ℕ) → i < k → w < 2 ^ k → with w i < 2 ^ k
unfolding with
with_lt k w i h l = by (has w i) refl
  where
    by : (b : Bool) → has w i ≡ b → pick b w (w + 2 ^ i) < 2 ^ k
    by true e = l
    by false e = add_lt k w i h l e

pub without_le : (w i : ℕ) → without w i ≤ w
unfolding without
without_le w i = by (has w i)
  where
    by : (b : Bool) → pick b (w - 2 ^ i) w ≤ w
    by true = omega arith
    by false = omega arith
