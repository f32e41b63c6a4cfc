use mathlib.Core.Path.{◌≡◌, ◌∙◌}
use native.Mathlib.Omega.{arith}
use Rattle.lists.proofs.TabLaws as tabs
use Rattle.machine.specs.Record.{no_flushed}
use Rattle.record.specs.Layout.{flush_in}
use Rattle.record.proofs.reading.flushed_in.Goals as goal

pub loop-i-init : goal.loop-i-init
loop-i-init c = c.no_flushed-l.ensures ∙ tabs.front_none (flush_in c.args.s.now) no_flushed

pub loop-i-preserved : goal.loop-i-preserved
unfolding flush_in no_flushed
loop-i-preserved c =
    let s = c.args.s.now in
    rw (c.flush_at.ensures, c.loop-i.invariant) (tabs.front_next (flush_in s) c.loop-i.i no_flushed (omega arith))

pub returns : goal.returns
returns c =
    let e : c.loop-i.i ≡ 8 = omega arith in
    rw (← e) c.loop-i.invariant
