use Prim.Native.Nat.{◌+◌, ◌-◌, ◌≤◌}
use mathlib.Core.Path.{◌≡◌}
use lib.ListN.{length, take}
use Rattle.lists.specs.Tab.{over}
use Rattle.page.specs.Filled.{lines_on, fitting}
use Rattle.endtable.specs.Picks.{picks_of}
use Rattle.sheet.specs.Told.{head_mark, told_end, Told}
use Rattle.sheet.specs.Sheet.{line_told}
use Rattle.sheet.proofs.stretch.write_endings.Given as goal

abbrev pub invariant-loop-k : goal.invariant-loop-k
invariant-loop-k l = (l.from ≤ l.k) × (l.k ≤ l.to) × (l.p ≤ length l.initial.b) × (l.p ≡ l.at + length (lines_on (line_told l.ranks l.items l.slots l.count l.counts l.z) l.from (l.k - l.from)))
    × (l.b ≡ over l.initial.b l.at (lines_on (line_told l.ranks l.items l.slots l.count l.counts l.z) l.from (l.k - l.from)))
    × (l.from + fitting (line_told l.ranks l.items l.slots l.count l.counts l.z) l.from (l.to - l.from) (length l.initial.b - l.at) ≡ l.k + fitting (line_told l.ranks l.items l.slots l.count l.counts l.z) l.k (l.to - l.k) (length l.initial.b - l.p))
    × (l.picks ≡ picks_of l.counts l.z l.k) × Told l.ranks l.items l.slots l.picks (head_mark l.ranks l.picks) l.count l.end l.ends
    × (l.len ≤ 11468) × (take l.len l.end ≡ told_end l.ranks l.items l.slots l.picks (head_mark l.ranks l.picks) l.count)
    × (length l.end ≡ 11468) × (length l.ends ≡ 1041)
