use borrow.Author.Tests.{eq-eqb, ne_eqb}
use Rattle.calls.specs.Packed.{packed}
use Rattle.calls.proofs.packing.packed_of.Goals as goal

pub returns-then-number-eq0 : goal.returns-then-number-eq0
unfolding packed
returns-then-number-eq0 c = rw (← c.told_of-t.ensures, eq-eqb _ _ c.if-number-eq0.true)

pub returns : goal.returns
unfolding packed
returns c = rw (← c.told_of-t.ensures, ne_eqb _ _ c.if-number-eq0.false)
