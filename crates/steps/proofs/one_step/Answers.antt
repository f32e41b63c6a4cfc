use mathlib.Core.Path.{sym, ◌∙◌}
use Rattle.steps.proofs.one_step.Goals as goal

pub enqueue_step-requires : goal.enqueue_step-requires
enqueue_step-requires c = (c.requires, sym c.is_of_enqueue.ensures ∙ c.if-is_of_enqueue.true)

pub dequeue_step-requires : goal.dequeue_step-requires
dequeue_step-requires c = (c.requires, sym c.is_of_enqueue.ensures ∙ c.if-is_of_enqueue.false)
