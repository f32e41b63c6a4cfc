use borrow.Author.Tests.{eq-eqb, ne_eqb}
use Rattle.hands.proofs.HandLaws as laws
use Rattle.hands.proofs.retiring.join.Goals as goal

pub returns-then-u-k : goal.returns-then-u-k
returns-then-u-k c = simp (eq-eqb _ _ c.if-u-k.true)

pub returns-then-th-eq0 : goal.returns-then-th-eq0
returns-then-th-eq0 c = simp (ne_eqb _ _ c.if-u-k.false, eq-eqb _ _ c.if-th-eq0.true)

pub returns : goal.returns
returns c = simp (ne_eqb _ _ c.if-u-k.false, ne_eqb _ _ c.if-th-eq0.false, c.with_bit8.ensures) (laws.with_new _ _ c.requires.1)
