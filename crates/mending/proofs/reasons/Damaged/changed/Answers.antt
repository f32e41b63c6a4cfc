use native.Mathlib.Omega.{arith}
use Rattle.image.specs.Layout.{image_in}
use Rattle.mending.specs.Mended.{reason_at}
use Rattle.mending.proofs.ReasonLaws.{one_more}
use Rattle.mending.proofs.Turns as turns
use Rattle.mending.proofs.reasons.Damaged.changed.Goals as goal

pub loop-i-init : goal.loop-i-init
loop-i-init c = turns.changed_none (image_in c.args.self.now.lying.bytes.now)

pub loop-i-preserved-then-is_none : goal.loop-i-preserved-then-is_none
loop-i-preserved-then-is_none c =
    let g = image_in c.args.self.now.lying.bytes.now in
    omega (arith, c.loop-i.invariant, turns.changed_next g c.loop-i.i, one_more c.reason.result (reason_at g c.loop-i.i) _ c.reason.ensures c.if-is_none.ensures)

pub overflow_add-count : goal.overflow_add-count
overflow_add-count c = omega (arith, c.loop-i.invariant, turns.changed_le (image_in c.args.self.now.lying.bytes.now) c.loop-i.i, c.count-n.type_inv)

pub loop-i-preserved : goal.loop-i-preserved
loop-i-preserved c =
    let g = image_in c.args.self.now.lying.bytes.now in
    omega (arith, c.loop-i.invariant, turns.changed_next g c.loop-i.i, one_more c.reason.result (reason_at g c.loop-i.i) _ c.reason.ensures c.if-is_none.ensures)
