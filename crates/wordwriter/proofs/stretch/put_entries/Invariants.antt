use mathlib.Core.Path.{◌≡◌}
use Prim.Native.Nat.{◌+◌, ◌-◌, ◌≤◌}
use lib.ListN.{length}
use Rattle.lists.specs.Tab.{over}
use Rattle.page.specs.Filled.{lines_on, fitting}
use Rattle.spelling.specs.Writing.{entry_of}
use Rattle.wordwriter.proofs.stretch.put_entries.Given as goal

abbrev pub invariant-loop-k : goal.invariant-loop-k
invariant-loop-k l = (l.p ≤ length l.initial.b) × (l.p ≡ 0 + length (lines_on (entry_of l.s) l.from (l.k - l.from)))
    × (l.b ≡ over l.initial.b 0 (lines_on (entry_of l.s) l.from (l.k - l.from)))
    × (l.from + fitting (entry_of l.s) l.from (l.to - l.from) (length l.initial.b) ≡ l.k + fitting (entry_of l.s) l.k (l.to - l.k) (length l.initial.b - l.p))
