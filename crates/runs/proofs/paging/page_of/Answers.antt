use mathlib.Core.Path.{refl, sym, ◌∙◌}
use native.Mathlib.Omega.{arith}
use Rattle.answer.proofs.Results.{went_on, came_back, given_taken, given_refused}
use Rattle.schedule.specs.Layout.{schedule_answer, schedule_in}
use Rattle.codec.proofs.Accepted as codec
use Rattle.runs.proofs.PageLaws as laws
use Rattle.runs.proofs.paging.page_of.Goals as goal

pub returns-in_err-d : goal.returns-in_err-d
returns-in_err-d c =
    let s = c.args.s.now in
    let a = given_refused (schedule_answer s) (schedule_in s) (c.open_schedule.ensures ∙ codec.schedule_given s) c.in_err-d.was in
    laws.refused_page s _ _ c.from_residual.ensures.1 (sym a ∙ laws.page_bytes s (came_back refl a))

pub run_events-requires : goal.run_events-requires
run_events-requires c = let s = c.args.s.now in given_taken (schedule_answer s) (schedule_in s) (c.open_schedule.ensures ∙ codec.schedule_given s) c.in_ok-d.was

pub returns-in_err-r : goal.returns-in_err-r
returns-in_err-r c =
    let s = c.args.s.now in
    let t = given_taken (schedule_answer s) (schedule_in s) (c.open_schedule.ensures ∙ codec.schedule_given s) c.in_ok-d.was in
    laws.refused_page s _ _ c.from_residual-in_err-r.ensures.1 (c.in_err-r.ensures ∙ laws.page_events s t.0 (came_back refl (sym c.in_err-r.ensures)))

pub lines_of-requires : goal.lines_of-requires
lines_of-requires c = rw c.shape.ensures c.in_ok-r.ensures.small.1

pub counts_answer-requires : goal.counts_answer-requires
counts_answer-requires c =
    let n = c.in_ok-r.ensures.small in
    rw (c.lines_of.ensures, c.shape.ensures, c.counts_of.ensures) (omega (arith, n.0, n.1), laws.rows_counted c.args.s.now c.in_ok-r.r c.in_ok-r.ensures)

pub returns-in_err-counts_answer : goal.returns-in_err-counts_answer
returns-in_err-counts_answer c =
    let s = c.args.s.now in
    let t = given_taken (schedule_answer s) (schedule_in s) (c.open_schedule.ensures ∙ codec.schedule_given s) c.in_ok-d.was in
    let e = rw (c.lines_of.ensures, c.shape.ensures, c.counts_of.ensures) at c.counts_answer.ensures in
    laws.refused_page s _ _ c.from_residual-in_err-counts_answer.ensures.1 (sym c.in_err-counts_answer.was ∙ e ∙ laws.page_limits s c.in_ok-r.r c.in_ok-r.ensures t.0)

pub returns : goal.returns
returns c =
    let s = c.args.s.now in
    let t = given_taken (schedule_answer s) (schedule_in s) (c.open_schedule.ensures ∙ codec.schedule_given s) c.in_ok-d.was in
    let e = rw (c.lines_of.ensures, c.shape.ensures, c.counts_of.ensures) at c.counts_answer.ensures in
    laws.page_taken s c.in_ok-r.r c.in_ok-r.ensures t.0 (laws.counts_taken _ _ (went_on e c.in_ok-counts_answer.was))
