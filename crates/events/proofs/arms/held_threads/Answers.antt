use Rattle.events.proofs.OwnLaws as laws
use Rattle.events.proofs.arms.held_threads.Goals as goal

pub returns-then-z-eq4 : goal.returns-then-z-eq4
returns-then-z-eq4 c = laws.own_desks c.args.z c.if-z-eq4.true

pub returns-else-z-eq4 : goal.returns-else-z-eq4
returns-else-z-eq4 c = laws.own_none c.args.z c.if-z-eq4.false
