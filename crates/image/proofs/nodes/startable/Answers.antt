use mathlib.Core.Path.{refl}
use borrow.Author.Tests.{lt-ltb, le-ltb, eq-eqb, ne_eqb}
use Rattle.image.specs.Recovered.{dummy_of}
use Rattle.image.proofs.RecoveredLaws.{startable_by}
use Rattle.image.proofs.nodes.startable.Goals as goal

pub returns-then-j-n : goal.returns-then-j-n
returns-then-j-n g c =
    let m = g.S.Nodes.image c.args.s.now in
    rw (← startable_by m c.count-n.result c.first_twin-j.result (dummy_of m) c.count-n.ensures c.first_twin-j.ensures refl, lt-ltb _ _ c.if-j-n.true)

pub returns-then-dummy-n : goal.returns-then-dummy-n
returns-then-dummy-n g c =
    let m = g.S.Nodes.image c.args.s.now in
    rw (
      ← startable_by m c.count-n.result c.first_twin-j.result c.dummy.result c.count-n.ensures c.first_twin-j.ensures c.dummy.ensures,
      le-ltb _ _ c.if-j-n.false,
      eq-eqb _ _ c.if-dummy-n.true,
    )

pub returns : goal.returns
returns g c =
    let m = g.S.Nodes.image c.args.s.now in
    rw (
      ← startable_by m c.count-n.result c.first_twin-j.result c.dummy.result c.count-n.ensures c.first_twin-j.ensures c.dummy.ensures,
      le-ltb _ _ c.if-j-n.false,
      ne_eqb _ _ c.if-dummy-n.false,
    )
