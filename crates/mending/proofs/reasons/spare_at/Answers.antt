use borrow.Author.Tests.{eq-eqb, ne_eqb}
use Rattle.image.specs.Layout.{image_in}
use Rattle.image.specs.Recovered.{dummy_of}
use mathlib.Core.Path.{refl}
use Rattle.mending.proofs.Turns as turns
use Rattle.mending.proofs.reasons.spare_at.Goals as goal
use Rattle.mending.proofs.reasons.spare_at.Goals.{then-first_twin-n-via-then-first_twin-n, then-first_twin-n-via-else-first_twin-n+then-dummy-n}

pub returns-then-first_twin-n : goal.returns-then-first_twin-n
returns-then-first_twin-n c =
    let g = image_in c.args.w.now.bytes.now in
    elim c.then-first_twin-n.branch [
      | then-first_twin-n-via-then-first_twin-n w ↦ rw (← turns.spare_by g c.count-n.result c.first_twin.result (dummy_of g) c.count-n.ensures c.first_twin.ensures refl, ne_eqb _ _ w.if-first_twin-n.true)
      | then-first_twin-n-via-else-first_twin-n+then-dummy-n w ↦ rw (← turns.spare_by g c.count-n.result c.first_twin.result w.dummy.result c.count-n.ensures c.first_twin.ensures w.dummy.ensures, eq-eqb _ _ w.if-first_twin-n.false, ne_eqb _ _ w.if-dummy-n.true)
    ]

pub returns : goal.returns
returns c =
    let g = image_in c.args.w.now.bytes.now in
    rw (
      ← turns.spare_by g c.count-n.result c.first_twin.result c.dummy.result c.count-n.ensures c.first_twin.ensures c.dummy.ensures,
      eq-eqb _ _ c.if-first_twin-n.false,
      eq-eqb _ _ c.if-dummy-n.false,
      c.count-n.ensures,
    ) c.largest_at.ensures
