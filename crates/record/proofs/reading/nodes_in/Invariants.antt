use mathlib.Core.Path.{◌≡◌}
use Rattle.lists.specs.Tab.{front}
use Rattle.machine.specs.Record.{blank_nodes}
use Rattle.record.specs.Layout.{node_in}
use Rattle.record.proofs.reading.nodes_in.Given as goal

abbrev pub invariant-loop-i : goal.invariant-loop-i
invariant-loop-i l = l.l ≡ front (node_in l.s) l.i blank_nodes
