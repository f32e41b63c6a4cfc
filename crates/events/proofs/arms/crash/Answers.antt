use Prim.Native.Nat.{◌≤◌}
use mathlib.Core.Path.{◌≡◌, refl, sym, ap, subst, ◌∙◌}
use mathlib.Core.Bool.{true}
use native.Mathlib.Omega.{arith}
use borrow.Author.Tests.{eq-eqb, ne_eqb, not-true, not-false}
use Rattle.std.specs.Prelude.{Ok, Err}
use Rattle.answer.specs.Answers.{Answer, Taken, NotZero}
use Rattle.image.specs.Form.{head_lines}
use Rattle.image.specs.Layout.{image_shape}
use Rattle.image.specs.Refusals.{startable}
use Rattle.image.proofs.HeadLaws.{lines_few}
use Rattle.machine.specs.Line.{shape_of, persisted}
use Rattle.machine.specs.Range.{in_range}
use Rattle.machine.specs.declared.Machine.{Machine}
use Rattle.steps.proofs.Own.{own_lines}
use Rattle.image.specs.declared.Image.{Image}
use Rattle.machine.specs.Event.{crashes}
use Rattle.answer.proofs.Results.{came_back, went_on}
use Rattle.events.proofs.ByAnswer as by
use Rattle.range.proofs.InRange as range
use Rattle.events.proofs.arms.crash.Goals as goal

-- the persisted image has as many nodes and head lines as there are places for
startable-in : (m : Machine) (g : Image) → in_range m ≡ true → g ≡ persisted m → (g.n ≤ 64) × (head_lines (image_shape g) ≤ 8)
startable-in m g h e =
    let s = (range.in_range_lem m h).sizes in
    subst (λ (g : Image). (g.n ≤ 64) × (head_lines (image_shape g) ≤ 8)) (sym e) (s.nodes_high, omega (arith, own_lines m, lines_few (shape_of m) s.threads_high))

pub returns-then-e-ne0 : goal.returns-then-e-ne0
returns-then-e-ne0 c = c.quiet.ensures ∙ by.refused_by c.args.p c.args.m c.args.e crashes (NotZero c.args.p) (rw (ne_eqb _ _ c.if-e-ne0.true)) refl

pub returns-then-e-ne0-2 : goal.returns-then-e-ne0-2
returns-then-e-ne0-2 c =
    c.quiet-then-e-ne0-2.ensures
    ∙ by.refused_by c.args.p c.args.m c.args.e crashes (NotZero c.args.p) (rw (eq-eqb _ _ c.if-e-ne0.false, ne_eqb _ _ c.if-e-ne0-2.true)) refl

pub startable_of-requires : goal.startable_of-requires
startable_of-requires c = startable-in c.args.m _ c.requires c.kept_image-g.ensures

-- what the test for 7 and 8 answers
tested : (m : Machine) (g : Image) (a : Answer) → a ≡ startable g Taken → g ≡ persisted m → a ≡ startable (persisted m) Taken
tested m g a e f = e ∙ ap (λ (g : Image). startable g Taken) f

pub returns-in-Err : goal.returns-in-Err
returns-in-Err c =
    let z = tested c.args.m _ _ c.startable_of.ensures c.kept_image-g.ensures in
    c.quiet-in-Err.ensures
    ∙ by.refused_by c.args.p c.args.m c.args.e crashes (Err c.in-Err.refusal)
    (rw (eq-eqb _ _ c.if-e-ne0.false, eq-eqb _ _ c.if-e-ne0-2.false) (sym z ∙ c.in-Err.is)) (came_back refl refl)

pub start-machine-requires : goal.start-machine-requires
start-machine-requires c = startable-in c.args.m _ c.requires c.kept_image-g.ensures

pub returns : goal.returns
returns c =
    let z = tested c.args.m _ _ c.startable_of.ensures c.kept_image-g.ensures in
    rw (c.start-machine.ensures, c.kept_image-g.ensures)
    (by.taken_by c.args.p c.args.m c.args.e crashes (Ok c.in_default.field-0)
    (rw (eq-eqb _ _ c.if-e-ne0.false, eq-eqb _ _ c.if-e-ne0-2.false) (sym z ∙ c.in_default.is)) (went_on refl refl))
