use borrow.Author.Tests.{eq-eqb, ne_eqb, not-true, not-false}
use Rattle.answer.specs.Answers.{given}
use Rattle.answer.proofs.Results.{given_same}
use Rattle.record.specs.Layout.{read_answer, read_record, record_in}
use Rattle.record.proofs.read_record.Goals as goal

pub returns-then-s-ne-SIZE : goal.returns-then-s-ne-SIZE
unfolding read_record read_answer
returns-then-s-ne-SIZE c = rw (ne_eqb _ _ c.if-s-ne-SIZE.true)

pub returns-then-not-is_marked : goal.returns-then-not-is_marked
unfolding read_record read_answer
returns-then-not-is_marked c = rw (eq-eqb _ _ c.if-s-ne-SIZE.false, ← c.is_marked.ensures, not-true c.is_marked.result c.if-not-is_marked.true-raw)

pub returns : goal.returns
unfolding read_record read_answer
returns c = rw (eq-eqb _ _ c.if-s-ne-SIZE.false, ← c.is_marked.ensures, not-false c.is_marked.result c.if-not-is_marked.false-raw, c.record_in.ensures)
