use Prim.Native.Nat.{◌<◌}
use Rattle.steps.proofs.StepLaws as laws
use Rattle.machine.proofs.StageLaws.{no_step_lem}
use Rattle.machine.specs.Record.{thread}
use Rattle.steps.proofs.dequeue_step.Goals as goal

pub d2-requires : goal.d2-requires
d2-requires c = let r = c.requires.0 in (r.thread_in, r.head_in (rw c.in-14.is))

pub d4-requires : goal.d4-requires
d4-requires c = let r = c.requires.0 in (r.thread_in, r.next_in (rw c.in-16.is))

pub d5-requires : goal.d5-requires
d5-requires c = let r = c.requires.0 in (r.thread_in, r.next_in (rw c.in-17.is))

pub s3-requires : goal.s3-requires
s3-requires c = let r = c.requires.0 in (r.thread_in, r.head_in (rw c.in-20.is))

pub s6-requires : goal.s6-requires
s6-requires c = let r = c.requires.0 in (r.thread_in, r.next_in (rw c.in-21.is))

pub returns-in-13 : goal.returns-in-13
returns-in-13 c = rw (c.d1.ensures, c.in-13.is)

pub returns-in-14 : goal.returns-in-14
returns-in-14 c = rw (c.d2.ensures, c.in-14.is)

pub returns-in-15 : goal.returns-in-15
returns-in-15 c = rw (c.d3.ensures, c.in-15.is)

pub returns-in-16 : goal.returns-in-16
returns-in-16 c = rw (c.d4.ensures, c.in-16.is)

pub returns-in-17 : goal.returns-in-17
returns-in-17 c = rw (c.d5.ensures, c.in-17.is)

pub returns-in-18 : goal.returns-in-18
returns-in-18 c = rw (c.d6.ensures, c.in-18.is)

pub returns-in-19 : goal.returns-in-19
returns-in-19 c = rw (c.d7.ensures, c.in-19.is)

pub returns-in-20 : goal.returns-in-20
returns-in-20 c = rw (c.s3.ensures, c.in-20.is)

pub returns-in-21 : goal.returns-in-21
returns-in-21 c = rw (c.s6.ensures, c.in-21.is)

pub returns-in-23 : goal.returns-in-23
returns-in-23 c = rw (c.f3.ensures, c.in-23.is)

pub returns-in-24 : goal.returns-in-24
returns-in-24 c = rw (c.f6.ensures, c.in-24.is)

-- F10 is a step of an enqueue
pub returns-in-0-to-12 : goal.returns-in-0-to-12
returns-in-0-to-12 c = absurd ((laws.dequeue_past (thread c.args.m c.args.k).step c.requires.1).1 c.in-0-to-12.in-0-to-12-own.keys12)

pub returns-in-0-to-12-2 : goal.returns-in-0-to-12-2
returns-in-0-to-12-2 c =
    let r = c.in-0-to-12.in-0-to-12-own.rest in
    let q = r.0.0 in
    let s = (thread c.args.m c.args.k).step in
    let p = laws.dequeue_past s c.requires.1 in
    let d : 19 < s = laws.past 19 s (laws.past 18 s (laws.past 17 s (laws.past 16 s (laws.past 15 s (laws.past 14 s (laws.past 13 s p.0 q.0.0.0.0.0.0.0.0.0.1) q.0.0.0.0.0.0.0.0.1) q.0.0.0.0.0.0.0.1) q.0.0.0.0.0.0.1) q.0.0.0.0.0.1) q.0.0.0.0.1) q.0.0.0.1 in
    let h : 24 < s = laws.past 24 s (laws.past 23 s (laws.past 22 s (laws.past 21 s (laws.past 20 s d q.0.0.1) q.0.1) p.1) q.1) r.0.1 in
    rw (no_step_lem s h)
