use Prim.Native.Nat.{◌≤◌}
use mathlib.Core.Path.{◌≡◌}
use native.Mathlib.Omega.{arith}
use lib.ListN.{get_or-eq_default}
use Rattle.machine.specs.Event.{event_at, deeds, deed_of, unknown}
use Rattle.events.specs.Arms.{event_by}
use Rattle.events.proofs.arms.act.Goals as goal

pub returns-in-1 : goal.returns-in-1
unfolding event_at event_by
returns-in-1 c = rw c.in-1.is c.enqueue.ensures

pub returns-in-2 : goal.returns-in-2
unfolding event_at event_by
returns-in-2 c = rw c.in-2.is c.dequeue.ensures

pub returns-in-3 : goal.returns-in-3
unfolding event_at event_by
returns-in-3 c = rw c.in-3.is c.step.ensures

pub returns-in-4 : goal.returns-in-4
unfolding event_at event_by
returns-in-4 c = rw c.in-4.is c.write_back.ensures

pub returns-in-5 : goal.returns-in-5
unfolding event_at event_by
returns-in-5 c = rw c.in-5.is c.crash.ensures

pub returns-in-0 : goal.returns-in-0
unfolding event_at
returns-in-0 c = rw c.in-0.in-0-own.keys6

pub returns-in-0-2 : goal.returns-in-0-2
unfolding event_at
returns-in-0-2 c =
    let k = c.args.e.kind in
    let h : 6 ≤ k = omega arith in
    let e : deed_of k ≡ unknown = get_or-eq_default deeds unknown h in
    rw e
