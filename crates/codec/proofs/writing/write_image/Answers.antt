use mathlib.Core.Bool.{true, false}
use mathlib.Core.Path.{◌≡◌, sym, ap, ◌∙◌}
use lib.ListN.{length}
use Rattle.answer.specs.Answers.{told, accepted, Answer, Taken}
use Rattle.answer.proofs.Results.{went_on, came_back, returned}
use Rattle.image.specs.Form.{image_size}
use Rattle.image.specs.Layout.{image_shape}
use Rattle.image.specs.Refusals.{sound, fitting, whole, shape_answer}
use Rattle.image.proofs.ShapeLaws.{Shaped, shape_is, shaped_lines}
use Rattle.image.proofs.SoundLaws.{whole_unsound, whole_sound}
use Rattle.image.specs.declared.Shape.{Shape}
use Rattle.codec.proofs.Accepted as laws
use Rattle.codec.proofs.writing.write_image.Goals as goal
use Rattle.codec.proofs.writing.write_image.Goals.{In_ok-shape_of, In_ok-sound_of, In_ok-fitting_of}

-- what has been passed: 2, 3 and 4; 6, 7 and 8; 20
shaped : (c : In_ok-shape_of) → let g = c.args.g in Shaped g.t (image_shape g)
shaped c = let g = c.args.g in (shape_is g.t (image_shape g) Taken (went_on (c.shape_of.ensures ∙ ap (λ (z : Shape). shape_answer g.t z Taken) c.shape-z.ensures) c.in_ok-shape_of.was)).0

clear : (c : In_ok-sound_of) → accepted (sound c.args.g Taken) ≡ true
clear c = went_on c.sound_of.ensures c.in_ok-sound_of.was

taken : (c : In_ok-fitting_of) → accepted (whole c.args.g Taken) ≡ true
taken c = ap accepted (whole_sound _ (clear (goal.at-In_ok-fitting_of c).In_ok-sound_of)) ∙ went_on c.fitting_of.ensures c.in_ok-fitting_of.was

pub returns-in_err-shape_of : goal.returns-in_err-shape_of
returns-in_err-shape_of c =
    let g = c.args.g in
    let is = c.shape_of.ensures ∙ ap (λ (z : Shape). shape_answer g.t z Taken) c.shape-z.ensures in
    let h = came_back is c.in_err-shape_of.was in
    let e = laws.write_shape g (length c.args.b.now) h in
    record { answers = ap told (returned is c.in_err-shape_of.was c.from_residual.ensures.1 ∙ sym e); bytes = rw (e, h) }

pub sound_of-requires : goal.sound_of-requires
sound_of-requires c = shaped_lines _ _ (shaped (goal.at.sound_of-requires c).In_ok-shape_of)

pub returns-in_err-sound_of : goal.returns-in_err-sound_of
returns-in_err-sound_of c =
    let g = c.args.g in
    let h : accepted (sound g Taken) ≡ false = came_back c.sound_of.ensures c.in_err-sound_of.was in
    let w = whole_unsound g h in
    let e = laws.write_refused g (length c.args.b.now) (shaped (goal.at.returns-in_err-sound_of c).In_ok-shape_of) (ap accepted w ∙ h) ∙ w in
    record { answers = ap told (returned c.sound_of.ensures c.in_err-sound_of.was c.from_residual-in_err-sound_of.ensures.1 ∙ sym e); bytes = rw (e, h) }

pub fitting_of-requires : goal.fitting_of-requires
fitting_of-requires c = shaped_lines _ _ (shaped (goal.at.fitting_of-requires c).In_ok-shape_of)

pub returns-in_err-fitting_of : goal.returns-in_err-fitting_of
returns-in_err-fitting_of c =
    let g = c.args.g in
    let h : accepted (fitting g Taken) ≡ false = came_back c.fitting_of.ensures c.in_err-fitting_of.was in
    let w = whole_sound g (clear (goal.at.returns-in_err-fitting_of c).In_ok-sound_of) in
    let e = laws.write_refused g (length c.args.b.now) (shaped (goal.at.returns-in_err-fitting_of c).In_ok-shape_of) (ap accepted w ∙ h) ∙ w in
    record { answers = ap told (returned c.fitting_of.ensures c.in_err-fitting_of.was c.from_residual-in_err-fitting_of.ensures.1 ∙ sym e); bytes = rw (e, h) }

pub size_of-requires : goal.size_of-requires
size_of-requires c = rw c.shape-z.ensures (shaped (goal.at.size_of-requires c).In_ok-shape_of).form

pub returns-then-b-size_of : goal.returns-then-b-size_of
returns-then-b-size_of c =
    let m = c.size_of.ensures ∙ ap image_size c.shape-z.ensures in
    let e = laws.write_room c.args.g (length c.args.b.now) (shaped (goal.at.returns-then-b-size_of c).In_ok-shape_of) (taken (goal.at.returns-then-b-size_of c).In_ok-fitting_of) (rw (← m) c.if-b-size_of.true) in
    record { answers = rw e; bytes = rw e }

pub put_image-requires : goal.put_image-requires
put_image-requires c =
    let f = shaped (goal.at.put_image-requires c).In_ok-shape_of in
    let l = shaped_lines _ _ f in
    let m = c.size_of.ensures ∙ ap image_size c.shape-z.ensures in
    (f.form, (l.0, (l.1, rw (← m) c.if-b-size_of.false)))

pub returns : goal.returns
returns c =
    let m = c.size_of.ensures ∙ ap image_size c.shape-z.ensures in
    let e = laws.write_taken c.args.g (length c.args.b.now) (shaped (goal.at.returns c).In_ok-shape_of) (taken (goal.at.returns c).In_ok-fitting_of) (rw (← m) c.if-b-size_of.false) in
    record { answers = rw e; bytes = rw e c.put_image.ensures }
