use borrow.Author.Tests.{eq-eqb, ne_eqb}
use Rattle.hands.proofs.flushing.late_of.Goals as goal

pub returns-then-u-k : goal.returns-then-u-k
returns-then-u-k c = simp (eq-eqb _ _ c.if-u-k.true)

pub returns : goal.returns
returns c = simp (ne_eqb _ _ c.if-u-k.false, c.with_bit8.ensures)
