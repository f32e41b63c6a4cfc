use borrow.Author.Tests.{eq-eqb, ne_eqb}
use mathlib.Core.Path.{sym, ◌∙◌}
use Rattle.hands.proofs.leaving.free_after.Goals as goal

pub returns-then-rest-eq0 : goal.returns-then-rest-eq0
returns-then-rest-eq0 c = rw (c.with_bit.ensures, sym c.is_in8.ensures ∙ c.if-is_in8.true, eq-eqb _ _ (sym c.without_bit8-rest.ensures ∙ c.if-rest-eq0.true))

pub returns-then-is_in8 : goal.returns-then-is_in8
returns-then-is_in8 c = rw (sym c.is_in8.ensures ∙ c.if-is_in8.true, ne_eqb _ _ (λ z. c.if-rest-eq0.false (c.without_bit8-rest.ensures ∙ z)))

pub returns : goal.returns
returns c = rw (sym c.is_in8.ensures ∙ c.if-is_in8.false)
