use mathlib.Core.Path.{◌≡◌}
use native.Mathlib.Omega.{arith}
use borrow.Author.Rules.{rules}
use lib.ListN.{length}
use Rattle.endtable.proofs.SinceRows as laws
use Rattle.endtable.proofs.since.join_since.Goals.{then-fence_row-l, else-fence_row-l}
use Rattle.endtable.proofs.since.join_since.Goals as goal

pub loop-k-init : goal.loop-k-init
loop-k-init c = laws.joined_none c.args.z c.args.threads.now c.args.since.now c.args.l c.args.c

pub loop-k-preserved : goal.loop-k-preserved
loop-k-preserved c =
    let z = c.args.z in
    let ts = c.args.threads.now in
    let since = c.args.since.now in
    let n : length since ≡ 8 = search rules in
    elim c.if-fence_row-l.branch [
      | then-fence_row-l w ↦
          rw (w.since-is, c.loop-k.invariant) (laws.joined_wait z ts since c.args.l c.args.c c.loop-k.k c.fence_row.result n (omega arith) c.fence_row.ensures w.if-fence_row-l.true _ (rw c.loop-k.invariant at w.joined.ensures))
      | else-fence_row-l w ↦ rw (w.since-is, c.loop-k.invariant) (laws.joined_pass z ts since c.args.l c.args.c c.loop-k.k c.fence_row.result n (omega arith) c.fence_row.ensures w.if-fence_row-l.false)
    ]
