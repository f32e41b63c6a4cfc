use Prim.Native.Nat.{◌+◌, ◌-◌, ◌*◌, ◌≤◌}
use mathlib.Core.Path.{◌≡◌}
use lib.ListN.{length}
use Rattle.page.specs.Filled.{lines_on}
use Rattle.filling.specs.Lines.{table_line}
use Rattle.printer.proofs.print_lines.Given as goal

abbrev pub invariant-loop-next : goal.invariant-loop-next
invariant-loop-next g l = (l.next ≤ l.count + 1) × (l.done ≡ length (lines_on (table_line l.t l.counts l.z l.threads l.events l.count) 0 l.next)) × (l.done ≤ l.next * 65536)

abbrev pub decreases-loop-next : goal.decreases-loop-next
decreases-loop-next g l = l.count + 1 - l.next
