use Rattle.schedule.specs.Layout.{read_schedule, schedule_answer}
use borrow.Author.Rules.{rules}
use Rattle.codec.proofs.opening.open_schedule.Goals as goal

pub returns : goal.returns
unfolding read_schedule schedule_answer
returns c = search rules
