use mathlib.Core.Path.{refl, sym, ◌∙◌}
use borrow.Author.Rules.{rules}
use Rattle.lists.proofs.BoolLaws.{false_true}
use Rattle.answer.proofs.Results.{came_back, given_taken, given_refused}
use Rattle.schedule.specs.Layout.{schedule_answer, schedule_in}
use Rattle.codec.proofs.Accepted as codec
use Rattle.filling.proofs.Numbers as numbers
use Rattle.printer.proofs.print_taken.Goals as goal

-- a page that is not refused has a schedule that is taken
pub returns-in_err-d-clause-refused : goal.returns-in_err-d-clause-refused
returns-in_err-d-clause-refused g c =
    let s = c.args.s.now in
    let a = given_refused (schedule_answer s) (schedule_in s) (c.open_schedule.ensures ∙ codec.schedule_given s) c.in_err-d.was in
    false_true (sym (came_back refl a) ∙ numbers.schedule_yes s c.in_ok-r.r c.in_ok-r.ensures)

pub print_run-requires : goal.print_run-requires
print_run-requires g c =
    let s = c.args.s.now in
    let d = given_taken (schedule_answer s) (schedule_in s) (c.open_schedule.ensures ∙ codec.schedule_given s) c.in_ok-d.was in
    (c.in_ok-r.ensures, d.1, search rules, search rules, c.requires.2)
