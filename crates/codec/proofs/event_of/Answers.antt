use Prim.Native.Nat.{◌+◌, ◌≤◌}
use mathlib.Core.Bool.{true}
use mathlib.Core.Path.{◌≡◌, refl, sym, ap, subst, ◌∙◌}
use Rattle.std.specs.Prelude.{Ok}
use native.Mathlib.Omega.{arith}
use lib.ListN.{length}
use borrow.Author.Tests.{lt-ltb}
use Rattle.answer.specs.Answers.{accepted, given, Answer}
use Rattle.answer.proofs.Results.{came_back, given_taken, given_refused, handed_none}
use Rattle.image.specs.Form.{known}
use Rattle.image.specs.Layout.{shape_in, image_in}
use Rattle.image.specs.declared.Shape.{Shape}
use Rattle.schedule.specs.Layout.{schedule_in, schedule_answer, schedule_shape, count_in, event_from, event_place}
use Rattle.schedule.specs.declared.Schedule.{Schedule}
use Rattle.codec.specs.Parts.{event_of}
use Rattle.codec.proofs.Accepted as laws
use Rattle.codec.proofs.Asked as asked
use Rattle.codec.proofs.event_of.Goals as goal
use Rattle.codec.proofs.event_of.Goals.{In_ok-d}

-- the schedule was taken, and is the one in the bytes
opened : (c : In_ok-d) → (accepted (schedule_answer c.args.s.now) ≡ true) × (c.in_ok-d.d ≡ schedule_in c.args.s.now)
opened c =
    let s = c.args.s.now in
    given_taken (schedule_answer s) (schedule_in s) (c.open_schedule.ensures ∙ laws.schedule_given s) c.in_ok-d.was

-- its machine's shape
abbrev shape_for : Schedule → Shape
shape_for d = record { form = d.image.form; n = d.image.n; t = d.t }

shape_is : (c : In_ok-d) → shape_for c.in_ok-d.d ≡ schedule_shape c.args.s.now
unfolding schedule_in image_in shape_in
shape_is c = ap shape_for (opened c).1

count_is : (c : In_ok-d) → c.in_ok-d.d.count ≡ count_in c.args.s.now
unfolding schedule_in
count_is c = ap (λ (d : Schedule). d.count) (opened c).1

pub returns-in_err-d : goal.returns-in_err-d
returns-in_err-d c =
    let s = c.args.s.now in
    let e = c.open_schedule.ensures ∙ laws.schedule_given s in
    let f = came_back refl (given_refused (schedule_answer s) (schedule_in s) e c.in_err-d.was) in
    let v = event_of s c.args.i in
    handed_none (schedule_answer s) (schedule_in s) v e c.in_err-d.was c.from_residual.ensures.1 ∙ ap (λ (a : Answer). given a v) (sym (asked.asked_refused s c.args.i f))

pub returns-then-count-i : goal.returns-then-count-i
returns-then-count-i c =
    let s = c.args.s.now in
    let o = (goal.at.returns-then-count-i c).In_ok-d in
    let h = (opened o).0 in
    let ec = count_is o in
    ap (λ (a : Answer). given a (event_of s c.args.i)) (sym (asked.asked_none s c.args.i h (omega (arith, ec, c.if-count-i.true))))

pub event_at-requires : goal.event_at-requires
event_at-requires c =
    let s = c.args.s.now in
    let o = (goal.at.event_at-requires c).In_ok-d in
    let h = (opened o).0 in
    let ec = count_is o in
    subst (λ (z : Shape). (known z.form ≡ true) × (event_place z c.args.i + 6 ≤ length s)) (sym (shape_is o)) ((laws.schedule_taken s h).part.mark, laws.event_fits s c.args.i h (omega (arith, ec, c.if-count-i.false)))

pub returns : goal.returns
unfolding event_of
returns c =
    let s = c.args.s.now in
    let i = c.args.i in
    let o = (goal.at.returns c).In_ok-d in
    let h = (opened o).0 in
    let ec = count_is o in
    rw (asked.asked_taken s i h (omega (arith, ec, c.if-count-i.false)), h, ← ec, lt-ltb _ _ c.if-count-i.false)
    (ap Ok (c.event_at.ensures ∙ ap (λ (z : Shape). event_from s (event_place z i)) (shape_is o)))
