use mathlib.Core.Path.{◌∙◌}
use native.Mathlib.Omega.{arith}
use Rattle.codec.proofs.events.event_at.Goals as goal

pub overflow_add-size_of : goal.overflow_add-size_of
overflow_add-size_of c = omega (arith, c.size_of.ensures, c.requires.1)

pub overflow_mul-i : goal.overflow_mul-i
overflow_mul-i c = omega (arith, c.size_of.ensures, c.requires.1)

pub overflow_add-size_of-2 : goal.overflow_add-size_of-2
overflow_add-size_of-2 c = omega (arith, c.size_of.ensures, c.requires.1)

pub event_from-requires : goal.event_from-requires
event_from-requires c = omega (arith, c.size_of.ensures, c.requires.1)

pub returns : goal.returns
returns c = c.event_from.ensures ∙ rw c.size_of.ensures
