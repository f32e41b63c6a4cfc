use mathlib.Core.Path.{◌∙◌}
use native.Mathlib.Omega.{arith}
use Rattle.runs.proofs.PageLaws as pages
use Rattle.filling.proofs.Numbers as numbers
use Rattle.printer.proofs.Parting as parts
use Rattle.printer.proofs.print_run.Goals as goal

pub lines_of-requires : goal.lines_of-requires
lines_of-requires g c = rw c.shape-z.ensures (pages.page_small c.args.s.now c.args.r c.requires.0).1

pub ending_count-count-requires : goal.ending_count-count-requires
ending_count-count-requires g c =
    let n = pages.page_small c.args.s.now c.args.r c.requires.0 in
    rw (c.lines_of.ensures, c.shape-z.ensures, c.counts_of-counts.ensures) (omega (arith, n.0, n.1), pages.page_counted c.args.s.now c.args.r c.requires.0)

pub print_lines-requires : goal.print_lines-requires
print_lines-requires g c =
    let s = c.args.s.now in
    let r = c.args.r in
    let p = c.requires.0 in
    let w = pages.page_small s r p in
    let l = numbers.opened_limits s c.args.d c.requires.1 (numbers.schedule_yes s r p) in
    let d = numbers.opened_numbers s c.args.d c.requires.1 in
    let n = rw (c.lines_of.ensures, c.shape-z.ensures, c.counts_of-counts.ensures) at c.ending_count-count.ensures in record {
      n_bound = rw (c.shape-z.ensures, c.counts_of-counts.ensures) (w.0, w.1, pages.page_ready s r p, l.0, l.1, rw n (numbers.count_limit s r p), c.requires.2, c.requires.3);
      count_value = (rw c.shape-z.ensures (parts.page_is s r p _ _ _ _ _ c.table_of-t.ensures c.counts_of-counts.ensures d.0 d.1 (n ∙ pages.page_count s r p)), c.requires.4);
    }
