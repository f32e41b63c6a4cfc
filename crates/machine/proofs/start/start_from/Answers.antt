use Prim.Native.Nat.{ℕ}
use mathlib.Core.Path.{◌≡◌, refl, sym, ap, ◌∙◌}
use mathlib.Core.Bool.{true}
use Rattle.std.specs.Prelude.{Ok}
use Rattle.answer.specs.declared.Reply.{Reply}
use Rattle.answer.specs.Answers.{Answer, Taken, Threads}
use Rattle.answer.proofs.Results.{went_on, came_back, gave_none, gave}
use Rattle.image.specs.declared.Shape.{Shape}
use Rattle.image.specs.declared.Image.{Image}
use Rattle.image.specs.Layout.{image_shape}
use Rattle.image.specs.Refusals.{threads_fit, shape_answer, sound, fitting}
use Rattle.image.proofs.ShapeLaws.{Shaped, shape_is, shaped_lines}
use Rattle.image.proofs.SoundLaws.{whole_unsound, whole_sound}
use Rattle.machine.specs.Start.{start_of}
use Rattle.machine.proofs.AnswerLaws as answers
use Rattle.machine.proofs.start.start_from.Goals as goal

-- the shape's test, of the image's own shape
of_it : {b : Answer} {z : Shape} (g : Image) (t : ℕ) → z ≡ image_shape g → b ≡ shape_answer t z Taken → b ≡ shape_answer t (image_shape g) Taken
of_it g t q e = e ∙ ap (λ (z : Shape). shape_answer t z Taken) q

-- behind it the shape is one of a machine
shaped : {b : Answer} {r : Reply} {z : Shape} (g : Image) (t : ℕ) → z ≡ image_shape g → b ≡ shape_answer t z Taken → b ≡ Ok r → Shaped t (image_shape g)
shaped g t q e was = (shape_is t (image_shape g) Taken (went_on (of_it g t q e) was)).0

pub returns-then-not-threads_fit : goal.returns-then-not-threads_fit
returns-then-not-threads_fit c =
    sym (answers.start_given c.args.g c.args.t Threads (answers.answer_threads c.args.g c.args.t (sym c.threads_fit.ensures ∙ c.if-not-threads_fit.true)))

pub returns-in_err-shape_of : goal.returns-in_err-shape_of
returns-in_err-shape_of c =
    let g = c.args.g in
    let t = c.args.t in
    let e = of_it g t c.shape.ensures c.shape_of.ensures in
    let yes : threads_fit t ≡ true = sym c.threads_fit.ensures ∙ c.if-not-threads_fit.false in
    gave_none (start_of g t) e c.in_err-shape_of.was c.from_residual.ensures.1
    ∙ sym (answers.start_given g t _ (answers.answer_shape g t yes _ refl (came_back e c.in_err-shape_of.was)))

pub sound_of-requires : goal.sound_of-requires
sound_of-requires c = shaped_lines _ _ (shaped c.args.g c.args.t c.shape.ensures c.shape_of.ensures c.in_ok-shape_of.was)

pub returns-in_err-sound_of : goal.returns-in_err-sound_of
returns-in_err-sound_of c =
    let g = c.args.g in
    let t = c.args.t in
    let yes : threads_fit t ≡ true = sym c.threads_fit.ensures ∙ c.if-not-threads_fit.false in
    let k = shaped g t c.shape.ensures c.shape_of.ensures c.in_ok-shape_of.was in
    let e = answers.answer_whole g t yes k ∙ whole_unsound g (came_back c.sound_of.ensures c.in_err-sound_of.was) in
    gave_none (start_of g t) c.sound_of.ensures c.in_err-sound_of.was c.from_residual-in_err-sound_of.ensures.1 ∙ sym (answers.start_given g t (sound g Taken) e)

pub fitting_of-requires : goal.fitting_of-requires
fitting_of-requires c = shaped_lines _ _ (shaped c.args.g c.args.t c.shape.ensures c.shape_of.ensures c.in_ok-shape_of.was)

pub returns-in_err-fitting_of : goal.returns-in_err-fitting_of
returns-in_err-fitting_of c =
    let g = c.args.g in
    let t = c.args.t in
    let yes : threads_fit t ≡ true = sym c.threads_fit.ensures ∙ c.if-not-threads_fit.false in
    let k = shaped g t c.shape.ensures c.shape_of.ensures c.in_ok-shape_of.was in
    let e = answers.answer_whole g t yes k ∙ whole_sound g (went_on c.sound_of.ensures c.in_ok-sound_of.was) in
    gave_none (start_of g t) c.fitting_of.ensures c.in_err-fitting_of.was c.from_residual-in_err-fitting_of.ensures.1 ∙ sym (answers.start_given g t (fitting g Taken) e)

pub start-requires : goal.start-requires
start-requires c = shaped_lines _ _ (shaped c.args.g c.args.t c.shape.ensures c.shape_of.ensures c.in_ok-shape_of.was)

pub returns : goal.returns
returns c =
    let g = c.args.g in
    let t = c.args.t in
    let yes : threads_fit t ≡ true = sym c.threads_fit.ensures ∙ c.if-not-threads_fit.false in
    let k = shaped g t c.shape.ensures c.shape_of.ensures c.in_ok-shape_of.was in
    let e = answers.answer_whole g t yes k ∙ whole_sound g (went_on c.sound_of.ensures c.in_ok-sound_of.was) in
    rw c.start.ensures (gave (start_of g t) c.fitting_of.ensures c.in_ok-fitting_of.was) ∙ sym (answers.start_given g t (fitting g Taken) e)
