use Prim.Native.Nat.{◌+◌}
use mathlib.Core.Path.{◌≡◌}
use mathlib.Core.Bool.{false}
use Rattle.lists.specs.Find.{any}
use Rattle.judging.specs.Place.{differs}
use Rattle.judging.proofs.standing.Standing.is_same.Given as goal

abbrev pub invariant-loop-p : goal.invariant-loop-p
invariant-loop-p l = (any (differs l.self.history.bytes.now l.self.place) l.p ≡ false) × (l.a + l.self.place.put ≡ l.from + l.b)
