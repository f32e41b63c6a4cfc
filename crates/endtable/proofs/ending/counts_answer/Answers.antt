use Rattle.endtable.specs.Picks.{counts_answer, prod}
use Rattle.endtable.proofs.Digits as laws
use mathlib.Core.Path.{◌≡◌, sym, ap, ◌∙◌}
use lib.Dec.{ltb}
use borrow.Author.Tests.{lt-ltb, le-ltb}
use mathlib.Core.Bool.{true, false}
use Rattle.endtable.proofs.ending.counts_answer.Goals as goal

pub returns-then-crowded-lines : goal.returns-then-crowded-lines
unfolding counts_answer
returns-then-crowded-lines c = rw (← c.first_crowded-crowded.ensures, lt-ltb _ _ c.if-crowded-lines.true)

pub returns-then-count-gt-ENDINGS : goal.returns-then-count-gt-ENDINGS
unfolding counts_answer
returns-then-count-gt-ENDINGS c =
    let e : ltb 65536 (prod c.args.counts c.args.lines) ≡ true =
    sym (laws.capped_limit (prod c.args.counts c.args.lines)) ∙ ap (ltb 65536) (sym c.ending_count-count.ensures) ∙ lt-ltb 65536 _ c.if-count-gt-ENDINGS.true in
    rw (← c.first_crowded-crowded.ensures, le-ltb _ _ c.if-crowded-lines.false, e)

pub returns : goal.returns
unfolding counts_answer
returns c =
    let e : ltb 65536 (prod c.args.counts c.args.lines) ≡ false =
    sym (laws.capped_limit (prod c.args.counts c.args.lines)) ∙ ap (ltb 65536) (sym c.ending_count-count.ensures) ∙ le-ltb 65536 _ c.if-count-gt-ENDINGS.false in
    rw (← c.first_crowded-crowded.ensures, le-ltb _ _ c.if-crowded-lines.false, e)
