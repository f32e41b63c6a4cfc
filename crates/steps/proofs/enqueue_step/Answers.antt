use Rattle.steps.proofs.StepLaws.{past, enqueue_low}
use Rattle.machine.specs.Record.{thread}
use Prim.Native.Nat.{◌≤◌}
use native.Mathlib.Omega.{arith}
use Rattle.steps.proofs.enqueue_step.Goals as goal

pub a2-requires : goal.a2-requires
a2-requires c = let r = c.requires.0 in (r.thread_in, r.own_in (rw c.in-2.is))

pub a3-requires : goal.a3-requires
a3-requires c = let r = c.requires.0 in (r.thread_in, r.own_in (rw c.in-3.is))

pub a4-requires : goal.a4-requires
a4-requires c = let r = c.requires.0 in (r.thread_in, r.own_in (rw c.in-4.is))

pub a6-requires : goal.a6-requires
a6-requires c = let r = c.requires.0 in (r.thread_in, r.t_in (rw c.in-6.is))

pub a7-requires : goal.a7-requires
a7-requires c = let r = c.requires.0 in (r.thread_in, r.nodes_in_lem, r.own_in (rw c.in-7.is), r.t_in (rw c.in-7.is))

pub a8-requires : goal.a8-requires
a8-requires c = let r = c.requires.0 in (r.thread_in, r.t_in (rw c.in-8.is))

pub a9-requires : goal.a9-requires
a9-requires c = let r = c.requires.0 in (r.thread_in, r.own_in (rw c.in-9.is))

pub a10-requires : goal.a10-requires
a10-requires c = let r = c.requires.0 in (r.thread_in, r.threads_in_lem, r.own_in (rw c.in-10.is))

pub a12-requires : goal.a12-requires
a12-requires c = let r = c.requires.0 in (r.thread_in, r.t_in (rw c.in-12.is))

pub f10-requires : goal.f10-requires
f10-requires c = let r = c.requires.0 in (r.thread_in, r.threads_in_lem, r.own_in (rw c.in-22.is))

pub returns-in-1 : goal.returns-in-1
returns-in-1 c = rw (c.a1.ensures, c.in-1.is)

pub returns-in-2 : goal.returns-in-2
returns-in-2 c = rw (c.a2.ensures, c.in-2.is)

pub returns-in-3 : goal.returns-in-3
returns-in-3 c = rw (c.a3.ensures, c.in-3.is)

pub returns-in-4 : goal.returns-in-4
returns-in-4 c = rw (c.a4.ensures, c.in-4.is)

pub returns-in-5 : goal.returns-in-5
returns-in-5 c = rw (c.a5.ensures, c.in-5.is)

pub returns-in-6 : goal.returns-in-6
returns-in-6 c = rw (c.a6.ensures, c.in-6.is)

pub returns-in-7 : goal.returns-in-7
returns-in-7 c = rw (c.a7.ensures, c.in-7.is)

pub returns-in-8 : goal.returns-in-8
returns-in-8 c = rw (c.a8.ensures, c.in-8.is)

pub returns-in-9 : goal.returns-in-9
returns-in-9 c = rw (c.a9.ensures, c.in-9.is)

pub returns-in-10 : goal.returns-in-10
returns-in-10 c = rw (c.a10.ensures, c.in-10.is)

pub returns-in-11 : goal.returns-in-11
returns-in-11 c = rw (c.a11.ensures, c.in-11.is)

pub returns-in-12 : goal.returns-in-12
returns-in-12 c = rw (c.a12.ensures, c.in-12.is)

pub returns-in-22 : goal.returns-in-22
returns-in-22 c = rw (c.f10.ensures, c.in-22.is)

pub returns-in-0 : goal.returns-in-0
returns-in-0 c = rw c.in-0.in-0-own.keys14

pub returns-in-0-2 : goal.returns-in-0-2
returns-in-0-2 c =
    let s = (thread c.args.m c.args.k).step in
    let r = c.in-0.in-0-own.rest in
    let q = r.0 in
    let h : 13 ≤ s = past 12 s (past 11 s (past 10 s (past 9 s (past 8 s (past 7 s (past 6 s (past 5 s (past 4 s (past 3 s (past 2 s (past 1 s (past 0 s (omega arith) r.1) q.0.0.0.0.0.0.0.0.0.0.0.0.1) q.0.0.0.0.0.0.0.0.0.0.0.1) q.0.0.0.0.0.0.0.0.0.0.1) q.0.0.0.0.0.0.0.0.0.1) q.0.0.0.0.0.0.0.0.1) q.0.0.0.0.0.0.0.1) q.0.0.0.0.0.0.1) q.0.0.0.0.0.1) q.0.0.0.0.1) q.0.0.0.1) q.0.0.1) q.0.1 in
    absurd (omega (arith, enqueue_low s c.requires.1 q.1))
