use mathlib.Core.Path.{sym, ◌∙◌}
use Rattle.events.proofs.ByAnswer as by
use Rattle.events.proofs.count_places.Goals as goal

pub returns-then-in_range : goal.returns-then-in_range
returns-then-in_range c = rw (by.count_in_lem c.args.m (sym c.in_range.ensures ∙ c.if-in_range.true), c.places_of.ensures)

pub returns-else-in_range : goal.returns-else-in_range
returns-else-in_range c = rw (by.count_out c.args.m (sym c.in_range.ensures ∙ c.if-in_range.false))
