use Rattle.machine.specs.Start.{fresh_from}
use Rattle.machine.proofs.Machine.fresh.Goals as goal

pub returns : goal.returns
unfolding fresh_from
returns c = rw (← c.no_contents-nodes.ensures, ← c.no_heads-heads.ensures) c.start_from.ensures
