use mathlib.Core.Path.{◌≡◌, ◌∙◌}
use native.Mathlib.Omega.{arith}
use Rattle.lists.proofs.TabLaws as tabs
use Rattle.machine.specs.Record.{idle_threads}
use Rattle.record.specs.Layout.{thread_in}
use Rattle.record.proofs.reading.threads_in.Goals as goal

pub loop-i-init : goal.loop-i-init
loop-i-init c = c.idle_threads-l.ensures ∙ tabs.front_none (thread_in c.args.s.now) idle_threads

pub loop-i-preserved : goal.loop-i-preserved
unfolding thread_in idle_threads
loop-i-preserved c =
    let s = c.args.s.now in
    rw (c.thread_at.ensures, c.loop-i.invariant) (tabs.front_next (thread_in s) c.loop-i.i idle_threads (omega arith))

pub returns : goal.returns
returns c =
    let e : c.loop-i.i ≡ 8 = omega arith in
    rw (← e) c.loop-i.invariant
