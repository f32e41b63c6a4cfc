use mathlib.Core.Path.{refl}
use borrow.Author.Tests.{lt-ltb, le-ltb}
use Rattle.record.specs.Layout.{record_answer, record_written}
use Rattle.record.proofs.write_record.Goals as goal

pub returns-then-b-lt-SIZE : goal.returns-then-b-lt-SIZE
unfolding record_answer record_written
returns-then-b-lt-SIZE c = record { answers = rw (lt-ltb _ _ c.if-b-lt-SIZE.true) (refl); bytes = rw (lt-ltb _ _ c.if-b-lt-SIZE.true) (refl) }

pub returns : goal.returns
unfolding record_answer record_written
returns c = record { answers = rw (le-ltb _ _ c.if-b-lt-SIZE.false) (refl); bytes = rw (le-ltb _ _ c.if-b-lt-SIZE.false) (c.put_record.ensures) }
