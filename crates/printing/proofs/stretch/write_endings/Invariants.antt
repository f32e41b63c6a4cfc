use Prim.Native.Nat.{◌+◌, ◌-◌, ◌≤◌, ◌<◌}
use mathlib.Core.Path.{◌≡◌}
use lib.ListN.{length}
use Rattle.lists.specs.Tab.{over, front}
use Rattle.image.specs.Layout.{no_contents, no_heads}
use Rattle.page.specs.Filled.{lines_on, fitting}
use Rattle.endtable.specs.Picks.{picks_of, picked_node, picked_head}
use Rattle.printing.specs.Lines.{line_from}
use Rattle.printing.proofs.stretch.write_endings.Given as goal

abbrev pub invariant-loop-i : goal.invariant-loop-i
invariant-loop-i l = (l.i ≤ l.count) × (l.nodes ≡ front (picked_node l.t l.picks l.z) l.i no_contents)

abbrev pub invariant-loop-h : goal.invariant-loop-h
invariant-loop-h l = (l.h ≤ l.lines) × (l.heads ≡ front (picked_head l.t l.picks) l.h no_heads)

abbrev pub invariant-loop-k : goal.invariant-loop-k
invariant-loop-k l = (l.from ≤ l.k) × (l.k ≤ l.to) × (l.p ≤ length l.initial.b) × (l.p ≡ l.at + length (lines_on (line_from l.t l.counts l.z) l.from (l.k - l.from)))
    × (l.b ≡ over l.initial.b l.at (lines_on (line_from l.t l.counts l.z) l.from (l.k - l.from)))
    × (l.from + fitting (line_from l.t l.counts l.z) l.from (l.to - l.from) (length l.initial.b - l.at) ≡ l.k + fitting (line_from l.t l.counts l.z) l.k (l.to - l.k) (length l.initial.b - l.p))
    × (l.picks ≡ picks_of l.counts l.z l.k) × (l.from < l.k → length (line_from l.t l.counts l.z l.from) ≤ 731)
