use Rattle.machine.specs.Record.{idle_threads}
use Rattle.machine.proofs.blank.idle_threads.Goals as goal

pub returns : goal.returns
unfolding idle_threads
returns c = rw c.idle.ensures
