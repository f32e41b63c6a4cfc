-- The head line that a thread persists has a place.
use Prim.Native.Nat.{ℕ, ◌<◌}
use mathlib.Core.Path.{◌≡◌}
use mathlib.Core.Bool.{Bool, true, false}
use native.Mathlib.Omega.{arith}
use Rattle.lists.specs.Find.{pick}
use Rattle.image.specs.Form.{per_desk}

pub own_place : (f k r : ℕ) → r ≡ pick (per_desk f) k 0 → k < 8 → r < 8
own_place f k r e h = by (per_desk f) e
  where
    by : (b : Bool) → r ≡ pick b k 0 → r < 8
    by true e = omega arith
    by false e = omega arith
