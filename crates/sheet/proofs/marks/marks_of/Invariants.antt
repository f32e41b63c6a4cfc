use Prim.Native.Nat.{◌≤◌}
use mathlib.Core.Path.{◌≡◌}
use Rattle.sheet.specs.Marks.{marks_of, items_in}
use Rattle.sheet.proofs.marks.marks_of.Given as goal

abbrev pub invariant-loop-e : goal.invariant-loop-e
invariant-loop-e l = (l.e ≤ l.last) × (l.ranks ≡ marks_of l.t l.counts l.e) × (l.items ≡ items_in l.t l.e)
