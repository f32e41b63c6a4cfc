-- The parts of the tests against the definitions' own. Assumes nothing.
use Prim.Native.Nat.{ℕ}
use mathlib.Core.Path.{◌≡◌, refl}
use mathlib.Core.Bool.{Bool, true, false}
use Rattle.machine.specs.Range.{read_fits}
use Rattle.machine.specs.declared.Machine.{Machine}
use Rattle.range.specs.Parts.{read_in}

pub read_is : (m : Machine) (u : Bool) (x : ℕ) → read_in m.n u x ≡ read_fits m u x
read_is m true x = refl
read_is m false x = refl
