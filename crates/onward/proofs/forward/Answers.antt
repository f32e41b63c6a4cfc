use native.Mathlib.Omega.{arith}
use lib.ListN.{get_or}
use Rattle.codec.proofs.Accepted as codec
use Rattle.onward.proofs.Reached as laws
use Rattle.onward.proofs.forward.Goals as goal

pub bounds-s-5 : goal.bounds-s-5
bounds-s-5 c = omega (arith, (codec.schedule_taken c.args.s.now c.requires.0.schedule).long)

pub event_at-event-requires : goal.event_at-event-requires
event_at-event-requires c =
    let r = c.requires.0 in
    laws.event_lies c.args.s.now (record { form = c.args.g.form; n = c.args.g.n; t = get_or c.args.s.now 5 0 }) c.args.g.place (laws.shape_at c.args.s.now c.args.g.form c.args.g.n r.form r.nodes) r.schedule (omega (arith, r.count, c.requires.1))

pub overflow_cast-i : goal.overflow_cast-i
overflow_cast-i c = let r = c.requires.0 in omega (arith, r.count, c.requires.1, (codec.schedule_taken c.args.s.now r.schedule).count)

pub act-out-requires : goal.act-out-requires
act-out-requires c = laws.reached_range c.args.s.now c.args.g c.requires.0 (λ j. omega (arith, c.shared_slice_known-1.given j))

pub returns : goal.returns
returns c =
    let r = c.requires.0 in
    laws.forward_is c.args.s.now c.args.g (record { form = c.args.g.form; n = c.args.g.n; t = get_or c.args.s.now 5 0 }) (laws.shape_at c.args.s.now c.args.g.form c.args.g.n r.form r.nodes) c.event_at-event.result c.act-out.result c.event_at-event.ensures c.act-out.ensures
