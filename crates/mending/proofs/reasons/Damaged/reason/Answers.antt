use mathlib.Core.Path.{refl}
use borrow.Author.Tests.{lt-ltb, le-ltb, eq-eqb, ne_eqb}
use Rattle.image.specs.Layout.{image_in}
use Rattle.image.specs.Recovered.{has_twin}
use Rattle.mending.proofs.Turns as turns
use Rattle.mending.proofs.reasons.Damaged.reason.Goals as goal

pub returns-then-linked-gt1 : goal.returns-then-linked-gt1
returns-then-linked-gt1 c =
    let g = image_in c.args.self.now.lying.bytes.now in
    rw (← turns.reason_by g c.args.i c.linked.result (has_twin g c.args.i) c.args.self.now.spare c.requires c.linked.ensures refl c.args.self.now.chosen, lt-ltb _ _ c.if-linked-gt1.true)

pub returns-then-has_twin : goal.returns-then-has_twin
returns-then-has_twin c =
    let g = image_in c.args.self.now.lying.bytes.now in
    rw (
      ← turns.reason_by g c.args.i c.linked.result c.has_twin.result c.args.self.now.spare c.requires c.linked.ensures c.has_twin.ensures c.args.self.now.chosen,
      le-ltb _ _ c.if-linked-gt1.false,
      c.if-has_twin.true,
    )

pub returns-then-i-self : goal.returns-then-i-self
returns-then-i-self c =
    let g = image_in c.args.self.now.lying.bytes.now in
    rw (
      ← turns.reason_by g c.args.i c.linked.result c.has_twin.result c.args.self.now.spare c.requires c.linked.ensures c.has_twin.ensures c.args.self.now.chosen,
      le-ltb _ _ c.if-linked-gt1.false,
      c.if-has_twin.false,
      eq-eqb _ _ c.if-i-self.true,
    )

pub returns : goal.returns
returns c =
    let g = image_in c.args.self.now.lying.bytes.now in
    rw (
      ← turns.reason_by g c.args.i c.linked.result c.has_twin.result c.args.self.now.spare c.requires c.linked.ensures c.has_twin.ensures c.args.self.now.chosen,
      le-ltb _ _ c.if-linked-gt1.false,
      c.if-has_twin.false,
      ne_eqb _ _ c.if-i-self.false,
    )
