use mathlib.Core.Path.{◌≡◌}
use Rattle.lists.specs.Tab.{front}
use Rattle.machine.specs.Record.{no_sets}
use Rattle.record.specs.Layout.{set_in}
use Rattle.record.proofs.reading.sets_in.Given as goal

abbrev pub invariant-loop-i : goal.invariant-loop-i
invariant-loop-i g l = l.l ≡ front (set_in l.s l.at) l.i (no_sets g.row.N)
