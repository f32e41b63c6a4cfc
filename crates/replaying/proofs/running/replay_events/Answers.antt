use Prim.Native.Nat.{◌<◌}
use mathlib.Core.Path.{refl, sym, ap, ◌∙◌}
use native.Mathlib.Omega.{arith}
use Rattle.std.specs.Prelude.{Ok, Option}
use Rattle.answer.specs.Answers.{Answer, given}
use Rattle.answer.proofs.Results.{went_on, came_back, gave_none}
use Rattle.schedule.specs.Layout.{count_in}
use Rattle.replaying.specs.Replay.{Replayed, replay_of, difference_in}
use Rattle.replaying.specs.declared.Difference.{Difference}
use Rattle.replaying.proofs.ReplayLaws as laws
use Rattle.replaying.proofs.running.replay_events.Goals as goal

pub start-m-requires : goal.start-m-requires
start-m-requires c = laws.nodes_small c.args.s.now c.args.d c.requires.1 c.requires.0

pub loop-i-init : goal.loop-i-init
loop-i-init c = laws.under_begun c.args.s.now c.args.d c.requires.1 c.start-m.result c.start-m.ensures _ refl

pub probed_at-x-requires : goal.probed_at-x-requires
probed_at-x-requires c =
    let n = laws.count_is c.args.s.now c.args.d c.requires.1 in
    laws.probe_fits c.args.s.now c.requires.0 c.loop-i.i (omega (arith, n)) _ (laws.shape_is c.args.s.now c.args.d c.requires.1)

pub act-out-requires : goal.act-out-requires
act-out-requires c = laws.under_range c.args.s.now c.requires.0 (λ j. omega (arith, c.type_inv.s j)) c.loop-i.i c.loop-i.m (laws.replayed_by c.loop-i.known) c.loop-i.invariant

pub returns-in_err-answer_to : goal.returns-in_err-answer_to
returns-in_err-answer_to c =
    let s = c.args.s.now in
    let l : c.loop-i.i < count_in s = omega (arith, laws.count_is s c.args.d c.requires.1) in
    let x = laws.probed_is s c.loop-i.i _ (laws.shape_is s c.args.d c.requires.1) c.probed_at-x.result c.probed_at-x.ensures in
    let a = laws.under_stop s c.loop-i.i c.loop-i.m (laws.replayed_by c.loop-i.known) c.loop-i.invariant l c.probed_at-x.result x c.act-out.result c.act-out.ensures
    c.answer_to.result c.answer_to.ensures c.requires.0 (came_back refl c.in_err-answer_to.was) in
    gave_none (difference_in (replay_of s)) a c.in_err-answer_to.was c.from_residual.ensures.1

pub loop-i-preserved : goal.loop-i-preserved
loop-i-preserved c =
    let s = c.args.s.now in
    let l : c.loop-i.i < count_in s = omega (arith, laws.count_is s c.args.d c.requires.1) in
    let x = laws.probed_is s c.loop-i.i _ (laws.shape_is s c.args.d c.requires.1) c.probed_at-x.result c.probed_at-x.ensures in
    let q = ap laws.replayed_by c.note-known.ensures ∙ laws.noted_by c.loop-i.known c.loop-i.i c.probed_at-x.result c.act-out.result.answer in
    laws.under_next s c.loop-i.i c.loop-i.m (laws.replayed_by c.loop-i.known) c.loop-i.invariant l c.probed_at-x.result x c.act-out.result c.act-out.ensures
    c.answer_to.result c.answer_to.ensures (went_on refl c.in_ok-answer_to.was) (laws.replayed_by c.note-known.result) q

pub returns : goal.returns
returns c =
    let s = c.args.s.now in
    let k = c.loop-i.known in
    let e = laws.under_end s c.requires.0 c.loop-i.i c.loop-i.m (laws.replayed_by k) c.loop-i.invariant (omega (arith, laws.count_is s c.args.d c.requires.1)) in
    ap Ok (laws.difference_back k ∙ ap difference_in e.1) ∙ sym (ap (λ (a : Answer). given a (difference_in (replay_of s))) e.0)
