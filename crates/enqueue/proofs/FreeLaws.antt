-- The free node that A1 takes.
use Prim.Native.Nat.{◌^◌, ◌≤◌, ◌<◌}
use mathlib.Core.Path.{◌≡◌}
use mathlib.Core.Logic.{◌≢◌}
use native.Mathlib.Nat.{pos_of_ne-zero}
use native.Mathlib.Omega.{arith}
use lib.Pow.{pow_mono}
use Rattle.lists.specs.Find.{around}
use Rattle.lists.specs.Word.{has}
use Rattle.lists.proofs.FindLaws as find
use Rattle.lists.proofs.WordLaws as words
use Rattle.machine.specs.Retire.{next_free}
use Rattle.machine.specs.declared.Machine.{Machine}

module _ (m : Machine) (d : m.free ≢ 0) (h : m.n ≤ 64) (f : m.free < 2 ^ m.n) where
  pub after_free : m.last < m.n → around (has m.free) 64 m.last ≡ next_free m
  unfolding next_free
  after_free l = words.around_narrow m.n 64 m.free m.last l (pos_of_ne-zero d) f h (omega arith)

  pub after_lt : around (has m.free) 64 m.last < 64
  after_lt = find.around_lt (has m.free) 64 m.last (words.least_lt 64 m.free (pos_of_ne-zero d) (omega (arith, pow_mono h)))
