use Rattle.schedule.specs.Layout.{schedule_answer}
use borrow.Author.Rules.{rules}
use Rattle.codec.proofs.opening.check_schedule.Goals as goal

pub returns : goal.returns
unfolding schedule_answer
returns c = search rules
