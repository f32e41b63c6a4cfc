use mathlib.Core.Path.{◌≡◌}
use Rattle.lists.specs.Tab.{over}
use Rattle.plainway.specs.Plainly.{all_bytes}
use Rattle.plainway.specs.Noting.{images_to, NotedTo}
use native.Mathlib.Omega.{arith}
use mathlib.Core.Path.{subst, ◌∙◌}
use Rattle.lawful.specs.Demand3.{Bytes}
use Rattle.plainway.proofs.NoteLaws as notes
use Rattle.plainway.proofs.RunLaws as laws
use Rattle.plainway.proofs.noting.note_some.Goals as goal

pub loop-k-init : goal.loop-k-init
loop-k-init c =
    let y : Bytes c.args.s.now = λ j. omega (arith, c.type_inv.s j) in
    (c.requires.1, laws.noted_self c.args.s.now y c.requires.0.planned.taken c.args.from c.args.c c.args.b.now c.requires.1)

pub note-n-requires : goal.note-n-requires
note-n-requires c = (c.requires.0, c.loop-k.invariant.0, omega (arith, c.loop-k-test.true, c.requires.3))

pub loop-k-preserved : goal.loop-k-preserved
loop-k-preserved c =
    let y : Bytes c.args.s.now = λ j. omega (arith, c.type_inv.s j) in
    let l = c.requires.0 in
    let u = c.loop-k-test.true in
    let e = c.note-n.ensures in
    (e.0, e.1 ∙ notes.over_next c.args.s.now y l.planned.taken c.loop-k.k c.args.b.now c.loop-k.b (omega (arith, u, c.requires.3, l.runs)) c.requires.1.room c.loop-k.invariant.1)

pub returns : goal.returns
returns c =
    let e : c.loop-k.k ≡ c.args.to = omega arith in
    subst (λ k. NotedTo c.args.s.now k c.loop-k.b c.loop-k.n × (c.loop-k.b ≡ over c.args.b.now 0 (all_bytes (images_to c.args.s.now k)))) e (c.loop-k.invariant.0, c.loop-k.invariant.1)
