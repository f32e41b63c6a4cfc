use mathlib.Core.Path.{ap, ◌∙◌}
use native.Mathlib.Omega.{arith}
use Rattle.lists.specs.Tab.{front}
use Rattle.lists.proofs.TabLaws as tabs
use Rattle.runs.specs.Rows.{line_row, no_rows}
use Rattle.runs.proofs.RowLaws as laws
use Rattle.runs.proofs.rows.opened_rows.Goals as goal

pub lines_of-l-end-requires : goal.lines_of-l-end-requires
lines_of-l-end-requires c = rw c.shape-z.ensures (omega arith)

pub loop-l-init : goal.loop-l-init
loop-l-init c = c.no_rows-rows.ensures ∙ tabs.front_none (line_row c.args.m.now) no_rows

pub loop-l-preserved : goal.loop-l-preserved
loop-l-preserved c =
    rw (c.opened.ensures, c.persisted_at.ensures, c.cached_at.ensures, c.loop-l.invariant)
    (tabs.front_next (line_row c.args.m.now) c.loop-l.l no_rows (omega (arith, laws.length_no, (rw c.shape-z.ensures at c.lines_of-l-end.ensures))))

pub returns : goal.returns
returns c =
    let m = c.args.m.now in
    c.loop-l.invariant ∙ ap (λ k. front (line_row m) k no_rows) (omega (arith, (rw c.shape-z.ensures at c.lines_of-l-end.ensures))) ∙ laws.rows_opened m (omega arith)
