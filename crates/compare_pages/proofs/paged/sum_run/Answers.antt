use Rattle.std.proofs.Common.{arith}
use Rattle.runs.proofs.PageLaws as pages
use Rattle.compare_pages.proofs.paged.sum_run.Goals as goal

pub sum_table-requires : goal.sum_table-requires
sum_table-requires c =
    let s = c.args.s.now in
    let r = c.args.r in
    let n = pages.page_small s r c.requires in
    rw (c.shape.ensures, c.counts_of.ensures) (pages.page_form s r c.requires, n.0, n.1, pages.page_ready s r c.requires, omega arith)
