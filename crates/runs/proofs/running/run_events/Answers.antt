use mathlib.Core.Path.{refl, sym, ◌∙◌}
use native.Mathlib.Omega.{arith}
use Rattle.answer.proofs.Results.{went_on, came_back}
use Rattle.onward.proofs.Reached as onward
use Rattle.runs.proofs.GoingLaws as laws
use Rattle.runs.proofs.RowLaws as rows
use Rattle.runs.proofs.running.run_events.Goals as goal

pub opened-g-requires : goal.opened-g-requires
opened-g-requires c = c.requires

pub opened_rows-rows-requires : goal.opened_rows-rows-requires
opened_rows-rows-requires c = laws.start_small c.args.s.now c.requires.0 c.opened-g.result c.opened-g.ensures

pub loop-i-init : goal.loop-i-init
loop-i-init c = laws.under_start c.args.s.now c.requires.0 c.opened-g.result c.opened-g.ensures c.opened_rows-rows.result c.no_since-since.result c.opened_rows-rows.ensures c.no_since-since.ensures

pub event_at-e-requires : goal.event_at-e-requires
event_at-e-requires c = laws.under_fits c.args.s.now c.opened-g.result c.loop-i.i c.loop-i.m c.loop-i.rows c.loop-i.since c.loop-i.invariant c.loop-i-test.true

pub overflow_cast-i : goal.overflow_cast-i
overflow_cast-i c = omega (arith, laws.under_count c.args.s.now c.opened-g.result c.loop-i.i c.loop-i.m c.loop-i.rows c.loop-i.since c.loop-i.invariant c.loop-i-test.true)

pub act-out-requires : goal.act-out-requires
act-out-requires c = onward.reached_range c.args.s.now (laws.run_at c.opened-g.result c.loop-i.i c.loop-i.m) c.loop-i.invariant.2 (λ j. omega (arith, c.shared_slice_known-1.given j))

pub returns-in_err-out : goal.returns-in_err-out
returns-in_err-out c =
    let f = came_back refl c.in_err-out.was in
    laws.refused_run c.args.s.now _ _ c.from_residual.ensures.1 (sym c.in_err-out.was ∙ laws.further_stop c.args.s.now c.opened-g.result c.loop-i.i c.loop-i.m c.loop-i.rows c.loop-i.since c.loop-i.invariant c.loop-i-test.true c.event_at-e.result c.act-out.result c.event_at-e.ensures c.act-out.ensures f)

pub opened_rows-rows-requires-then-e-eq5 : goal.opened_rows-rows-requires-then-e-eq5
opened_rows-rows-requires-then-e-eq5 c = laws.further_small c.args.s.now c.opened-g.result c.loop-i.i c.loop-i.m c.loop-i.rows c.loop-i.since c.loop-i.invariant c.loop-i-test.true c.event_at-e.result c.act-out.result c.event_at-e.ensures c.act-out.ensures (went_on refl c.in_ok-out.was)

pub loop-i-preserved-then-e-eq5 : goal.loop-i-preserved-then-e-eq5
loop-i-preserved-then-e-eq5 c =
    let q = rows.after_crash c.loop-i.rows c.loop-i.since c.loop-i.m c.event_at-e.result c.act-out.result c.if-e-eq5.true in
    laws.further_under c.args.s.now c.opened-g.result c.loop-i.i c.loop-i.m c.loop-i.rows c.loop-i.since c.loop-i.invariant c.loop-i-test.true c.event_at-e.result c.act-out.result c.event_at-e.ensures c.act-out.ensures (went_on refl c.in_ok-out.was) _ _ (c.opened_rows-rows-then-e-eq5.ensures ∙ q.0, q.1)

pub follow-requires : goal.follow-requires
follow-requires c =
    let a = went_on refl c.in_ok-out.was in
    ((laws.further_small c.args.s.now c.opened-g.result c.loop-i.i c.loop-i.m c.loop-i.rows c.loop-i.since c.loop-i.invariant c.loop-i-test.true c.event_at-e.result c.act-out.result c.event_at-e.ensures c.act-out.ensures a).1, laws.further_threads c.args.s.now c.opened-g.result c.loop-i.i c.loop-i.m c.loop-i.rows c.loop-i.since c.loop-i.invariant c.loop-i-test.true c.event_at-e.result c.act-out.result c.event_at-e.ensures c.act-out.ensures a)

pub loop-i-preserved : goal.loop-i-preserved
loop-i-preserved c =
    laws.further_under c.args.s.now c.opened-g.result c.loop-i.i c.loop-i.m c.loop-i.rows c.loop-i.since c.loop-i.invariant c.loop-i-test.true c.event_at-e.result c.act-out.result c.event_at-e.ensures c.act-out.ensures (went_on refl c.in_ok-out.was) _ _
    (rows.after_touch c.loop-i.rows c.loop-i.since c.loop-i.m c.event_at-e.result c.act-out.result c.if-e-eq5.false _ _ c.follow.ensures.rows c.follow.ensures.since)

pub returns : goal.returns
returns c =
    let u = c.loop-i.invariant in
    laws.going_end c.args.s.now c.loop-i.i c.loop-i.m c.loop-i.rows c.loop-i.since u.1 (omega (arith, u.2.count))
