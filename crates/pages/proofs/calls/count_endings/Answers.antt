use mathlib.Core.Path.{ap, ◌∙◌}
use native.Mathlib.Omega.{arith}
use Rattle.std.specs.Prelude.{Ok}
use Rattle.runs.proofs.PageLaws as laws
use Rattle.pages.proofs.calls.count_endings.Goals as goal

pub lines_of-requires : goal.lines_of-requires
lines_of-requires c = rw c.shape.ensures (laws.page_small c.args.s.now c.in_ok-page.page c.in_ok-page.ensures).1

pub ending_count-count-requires : goal.ending_count-count-requires
ending_count-count-requires c =
    let n = laws.page_small c.args.s.now c.in_ok-page.page c.in_ok-page.ensures in
    rw (c.lines_of.ensures, c.shape.ensures, c.counts_of.ensures) (omega (arith, n.0, n.1), laws.page_counted c.args.s.now c.in_ok-page.page c.in_ok-page.ensures)

pub returns : goal.returns
returns c =
    let e = rw (c.lines_of.ensures, c.shape.ensures, c.counts_of.ensures) at c.ending_count-count.ensures in
    rw (← c.in_ok-page.ensures.answer) (ap Ok (e ∙ laws.count_taken c.args.s.now c.in_ok-page.page c.in_ok-page.ensures))
