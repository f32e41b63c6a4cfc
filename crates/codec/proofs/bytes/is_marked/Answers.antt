use Rattle.image.specs.Layout.{marked}
use borrow.Author.Tests.{eq-eqb, ne_eqb}
use Rattle.codec.proofs.bytes.is_marked.Goals as goal

pub returns-then-s-x : goal.returns-then-s-x
unfolding marked
returns-then-s-x c = simp (ne_eqb _ _ c.if-s-x.true)

pub returns-then-s-y : goal.returns-then-s-y
unfolding marked
returns-then-s-y c = simp (eq-eqb _ _ c.if-s-x.false, ne_eqb _ _ c.if-s-y.true)

pub returns-then-s-z : goal.returns-then-s-z
unfolding marked
returns-then-s-z c = simp (eq-eqb _ _ c.if-s-x.false, eq-eqb _ _ c.if-s-y.false, ne_eqb _ _ c.if-s-z.true)

pub returns-then-s-v : goal.returns-then-s-v
unfolding marked
returns-then-s-v c = simp (eq-eqb _ _ c.if-s-x.false, eq-eqb _ _ c.if-s-y.false, eq-eqb _ _ c.if-s-z.false, ne_eqb _ _ c.if-s-v.true)

pub returns : goal.returns
unfolding marked
returns c =
    rw (
      eq-eqb _ _ c.if-s-x.false,
      eq-eqb _ _ c.if-s-y.false,
      eq-eqb _ _ c.if-s-z.false,
      eq-eqb _ _ c.if-s-v.false,
    )
