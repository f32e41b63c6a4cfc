use mathlib.Core.Path.{◌≡◌}
use Rattle.machine.specs.Start.{queue_of}
use Rattle.machine.specs.Laid.{start_nodes}
use Rattle.machine.proofs.start.nodes_of.Given as goal

abbrev pub invariant-loop-i : goal.invariant-loop-i
invariant-loop-i l = l.nodes ≡ start_nodes l.fn.g l.fn.d (queue_of l.fn.g) l.i
