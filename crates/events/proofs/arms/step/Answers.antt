use mathlib.Core.Path.{refl, ◌∙◌}
use native.Mathlib.Omega.{arith}
use borrow.Author.Tests.{eq-eqb, ne_eqb, le-leb, lt-leb}
use Rattle.answer.specs.Answers.{Taken, Number, Idle, NotZero}
use Rattle.machine.specs.Event.{steps}
use Rattle.events.proofs.ByAnswer as by
use Rattle.range.proofs.InRange as range
use Rattle.steps.proofs.Fit as fit
use Rattle.events.proofs.arms.step.Goals as goal

pub returns-then-m-e : goal.returns-then-m-e
returns-then-m-e c = c.quiet.ensures ∙ by.refused_by c.args.p c.args.m c.args.e steps (Number c.args.p) (rw (le-leb _ _ c.if-m-e.true)) refl

pub returns-then-e-ne0 : goal.returns-then-e-ne0
returns-then-e-ne0 c =
    c.quiet-then-e-ne0.ensures
    ∙ by.refused_by c.args.p c.args.m c.args.e steps (NotZero c.args.p) (rw (lt-leb _ _ c.if-m-e.false, ne_eqb _ _ c.if-e-ne0.true)) refl

pub bounds-threads-k : goal.bounds-threads-k
bounds-threads-k c = omega (arith, (range.in_range_lem _ c.requires).sizes.threads_high, c.if-m-e.false)

pub returns-then-threads-k-eq0 : goal.returns-then-threads-k-eq0
returns-then-threads-k-eq0 c =
    c.quiet-then-threads-k-eq0.ensures
    ∙ by.refused_by c.args.p c.args.m c.args.e steps (Idle c.args.p)
    (rw (lt-leb _ _ c.if-m-e.false, eq-eqb _ _ c.if-e-ne0.false, eq-eqb _ _ c.if-threads-k-eq0.true)) refl

pub one_step-requires : goal.one_step-requires
one_step-requires c = fit.ready c.args.m c.args.e.number c.requires c.if-m-e.false

pub returns : goal.returns
returns c =
    c.one_step.ensures
    ∙ by.taken_by c.args.p c.args.m c.args.e steps Taken (rw (lt-leb _ _ c.if-m-e.false, eq-eqb _ _ c.if-e-ne0.false, ne_eqb _ _ c.if-threads-k-eq0.false)) refl
