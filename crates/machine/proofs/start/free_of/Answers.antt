use mathlib.Core.Path.{sym, ◌∙◌}
use native.Mathlib.Numerals.{add-one}
use native.Mathlib.Omega.{arith}
use Rattle.lists.proofs.WordLaws.{one_shifted}
use Rattle.image.proofs.HeadLaws.{recovered_by}
use Rattle.machine.proofs.TableLaws as tables
use Rattle.machine.proofs.start.free_of.Goals as goal
use Rattle.machine.proofs.start.free_of.Goals.{then-i-d+then-not-is_recovered, else-i-d, else-i-d-via-then-i-d+else-not-is_recovered, else-i-d-via-else-i-d}

pub loop-i-init : goal.loop-i-init
loop-i-init c = tables.free_none c.args.g.now c.args.d

pub overflow_add-w : goal.overflow_add-w
overflow_add-w c = record { fits = rw (one_shifted 64 c.loop-i.i (omega arith), c.loop-i.invariant) (tables.free_fits c.args.g.now c.args.d c.loop-i.i (omega arith)) }

pub loop-i-preserved : goal.loop-i-preserved
loop-i-preserved c =
    let g = c.args.g.now in
    let i = c.loop-i.i in
    let head = rw c.shape.ensures at c.head_of-h.ensures in
    rw add-one
    (elim c.if-i-d.branch [
      | then-i-d+then-not-is_recovered w ↦
          w.w-is ∙ rw (one_shifted 64 i (omega arith), c.loop-i.invariant)
          (tables.free_spare g c.args.d i w.if-i-d.true (recovered_by g i ∙ sym (rw head at w.is_recovered.ensures) ∙ w.if-not-is_recovered.true))
      | else-i-d w ↦
          w.w-is ∙ c.loop-i.invariant
          ∙ elim w.else-i-d.branch [
            | else-i-d-via-then-i-d+else-not-is_recovered x ↦ tables.free_recovered g c.args.d i x.if-i-d.true (recovered_by g i ∙ sym (rw head at x.is_recovered.ensures) ∙ x.if-not-is_recovered.false)
            | else-i-d-via-else-i-d x ↦ tables.free_dummy g c.args.d i x.if-i-d.false
          ]
    ])
