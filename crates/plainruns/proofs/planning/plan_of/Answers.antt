use Prim.Native.Nat.{◌<◌}
use mathlib.Core.Bool.{true, false}
use native.Mathlib.Omega.{arith}
use borrow.Author.Tests.{eq-eqb, ne_eqb}
use Rattle.schedule.specs.Layout.{count_in}
use Rattle.codec.proofs.Accepted as codec
use Rattle.onward.proofs.Reached as reached
use Rattle.pageproof.proofs.Holds.{page_schedule}
use Rattle.plainruns.proofs.PlanLaws as laws
use Rattle.plainruns.proofs.planning.plan_of.Goals as goal
use Rattle.plainruns.proofs.planning.plan_of.Goals.{then-crash, else-crash}

pub start-m-requires : goal.start-m-requires
start-m-requires c = reached.nodes_small c.args.s.now c.args.d c.requires.1 (page_schedule c.args.s.now c.requires.0)

pub loop-i-init : goal.loop-i-init
loop-i-init c = laws.coming_none c.args.s.now c.args.d c.start-m.result c.requires.1 c.start-m.ensures

pub event_at-e-requires : goal.event_at-e-requires
event_at-e-requires c =
    let s = c.args.s.now in
    reached.event_lies s _ c.loop-i.i (laws.shape_of_lem s c.args.d c.requires.1) (page_schedule s c.requires.0) (omega (arith, laws.count_of_lem s c.args.d c.requires.1))

pub act-out-requires : goal.act-out-requires
act-out-requires c = laws.coming_range c.args.s.now (λ j. omega (arith, c.type_inv.s j)) c.requires.0 c.loop-i.i c.loop-i.m c.loop-i.machine c.loop-i.at c.loop-i.invariant

pub loop-i-preserved : goal.loop-i-preserved
loop-i-preserved c =
    let s = c.args.s.now in
    let l : c.loop-i.i < count_in s = omega (arith, laws.count_of_lem s c.args.d c.requires.1) in
    let after = laws.coming_after s c.requires.0 c.loop-i.i c.loop-i.m c.loop-i.machine c.loop-i.at c.loop-i.invariant l _ (laws.shape_of_lem s c.args.d c.requires.1)
    c.event_at-e.result c.event_at-e.ensures c.act-out.result c.act-out.ensures in
    elim c.if-crash.branch [
      | then-crash w ↦ after true (eq-eqb _ _ w.if-crash.true) _ _ w.machine-is w.at-is
      | else-crash w ↦ after false (ne_eqb _ _ w.if-crash.false) _ _ w.machine-is w.at-is
    ]

pub overflow_sub-result : goal.overflow_sub-result
overflow_sub-result c =
    let s = c.args.s.now in
    omega (arith, laws.coming_at s c.loop-i.i c.loop-i.m c.loop-i.machine c.loop-i.at c.loop-i.invariant, laws.count_of_lem s c.args.d c.requires.1, c.loop-i.invariant.within)

pub returns : goal.returns
returns c =
    let s = c.args.s.now in
    let n = laws.count_of_lem s c.args.d c.requires.1 in
    laws.coming_end s c.requires.0 c.loop-i.i c.loop-i.m c.loop-i.machine c.loop-i.at c.args.d.count c.loop-i.invariant (omega (arith, n)) n
