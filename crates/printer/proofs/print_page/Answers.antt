use mathlib.Core.Path.{refl, sym, ap, ◌∙◌}
use Rattle.answer.proofs.Results.{came_back}
use Rattle.page.specs.Printed.{refused_line}
use Rattle.printing.proofs.PageLaws as pages
use Rattle.printer.proofs.print_page.Goals as goal

pub print_refused-written-requires : goal.print_refused-written-requires
print_refused-written-requires g c =
    let a = c.in-Err.ensures.refused.0 in
    (ap refused_line a ∙ sym (pages.printed_refused c.args.s.now (came_back a refl)), c.in-Err.ensures.refused.1)
