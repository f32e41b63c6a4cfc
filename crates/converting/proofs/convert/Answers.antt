use mathlib.Core.Bool.{true, false}
use mathlib.Core.Path.{◌≡◌, sym, ap, ◌∙◌}
use lib.ListN.{length}
use Rattle.answer.proofs.Results.{went_on, came_back, returned}
use Rattle.answer.specs.Answers.{accepted, Taken}
use Rattle.lists.specs.Tab.{over}
use Rattle.image.specs.Form.{image_size}
use Rattle.image.specs.Layout.{in_form, image_shape, form_in, image_in, image_bytes}
use Rattle.image.specs.declared.Image.{Image}
use Rattle.image.specs.Refusals.{alone_answer, fitting}
use Rattle.codec.proofs.Accepted as acc
use Rattle.converting.proofs.Laws as laws
use Rattle.converting.proofs.convert.Goals as goal
use Rattle.converting.proofs.convert.Goals.{In_ok-check_alone}

-- the image is taken
taken : (c : In_ok-check_alone) → accepted (alone_answer c.args.s.now) ≡ true
taken c =
    went_on c.check_alone.ensures c.in_ok-check_alone.was

-- and is of the form that is asked for
formed : (c : In_ok-check_alone) → form_in c.args.s.now ≡ c.args.from
formed c =
    sym c.form_in.ensures ∙ c.if-form_in-from.false

pub returns-then-s-lt10 : goal.returns-then-s-lt10
returns-then-s-lt10 c = let e = laws.answer_short c.args.from c.args.to c.args.s.now (length c.args.b.now) c.if-s-lt10.true in record { answers = sym e; bytes = sym (laws.refused_same c.args.from c.args.to c.args.s.now c.args.b.now (ap accepted e)) }

pub returns-then-form_in-from : goal.returns-then-form_in-from
returns-then-form_in-from c = let e = laws.answer_mark c.args.from c.args.to c.args.s.now (length c.args.b.now) c.if-s-lt10.false (λ q. c.if-form_in-from.true (c.form_in.ensures ∙ q)) in record { answers = sym e; bytes = sym (laws.refused_same c.args.from c.args.to c.args.s.now c.args.b.now (ap accepted e)) }

pub returns-in_err-check_alone : goal.returns-in_err-check_alone
returns-in_err-check_alone c =
    let f = sym c.form_in.ensures ∙ c.if-form_in-from.false in
    let h : accepted (alone_answer c.args.s.now) ≡ false = came_back c.check_alone.ensures c.in_err-check_alone.was in
    let e = laws.answer_refused c.args.from c.args.to c.args.s.now (length c.args.b.now) c.if-s-lt10.false f h in record { answers = returned c.check_alone.ensures c.in_err-check_alone.was c.from_residual.ensures.1 ∙ sym e; bytes = sym (laws.refused_same c.args.from c.args.to c.args.s.now c.args.b.now (ap accepted e ∙ h)) }

pub image_in-g-requires : goal.image_in-g-requires
image_in-g-requires c = (acc.alone_taken _ (taken (goal.at.image_in-g-requires c).In_ok-check_alone)).lies

pub fitting_of-requires : goal.fitting_of-requires
fitting_of-requires c = (laws.taken_few c.args.s.now c.image_in-g.result (taken (goal.at.fitting_of-requires c).In_ok-check_alone) c.image_in-g.ensures, laws.one_line (image_shape (in_form c.args.to c.image_in-g.result)) c.requires.1)

pub returns-in_err-fitting_of : goal.returns-in_err-fitting_of
returns-in_err-fitting_of c =
    let is : c.fitting_of.result ≡ fitting (in_form c.args.to (image_in c.args.s.now)) Taken =
    c.fitting_of.ensures ∙ ap (λ (g : Image). fitting (in_form c.args.to g) Taken) c.image_in-g.ensures in
    let w : accepted (fitting (in_form c.args.to (image_in c.args.s.now)) Taken) ≡ false = came_back is c.in_err-fitting_of.was in
    let e = laws.answer_wide c.args.from c.args.to c.args.s.now (length c.args.b.now) (formed (goal.at.returns-in_err-fitting_of c).In_ok-check_alone) (taken (goal.at.returns-in_err-fitting_of c).In_ok-check_alone) w in record { answers = returned is c.in_err-fitting_of.was c.from_residual-in_err-fitting_of.ensures.1 ∙ sym e; bytes = sym (laws.refused_same c.args.from c.args.to c.args.s.now c.args.b.now (ap accepted e ∙ w)) }

pub size_of-requires : goal.size_of-requires
size_of-requires c = rw c.shape.ensures c.requires.0

pub returns-then-b-size_of : goal.returns-then-b-size_of
returns-then-b-size_of c =
    let is : c.fitting_of.result ≡ fitting (in_form c.args.to (image_in c.args.s.now)) Taken = c.fitting_of.ensures ∙ ap (λ (g : Image). fitting (in_form c.args.to g) Taken) c.image_in-g.ensures in
    let w : accepted (fitting (in_form c.args.to (image_in c.args.s.now)) Taken) ≡ true = went_on is c.in_ok-fitting_of.was in
    let size = c.size_of.ensures ∙ ap image_size c.shape.ensures ∙ ap (λ (g : Image). image_size (image_shape (in_form c.args.to g))) c.image_in-g.ensures in
    let e = laws.answer_room c.args.from c.args.to c.args.s.now (length c.args.b.now) (formed (goal.at.returns-then-b-size_of c).In_ok-check_alone) (taken (goal.at.returns-then-b-size_of c).In_ok-check_alone) w (rw (← size) c.if-b-size_of.true) in record { answers = sym e; bytes = sym (laws.refused_same c.args.from c.args.to c.args.s.now c.args.b.now (ap accepted e)) }

pub put_image-requires : goal.put_image-requires
put_image-requires c = let m = c.size_of.ensures ∙ ap image_size c.shape.ensures in (c.requires.0, (laws.taken_few c.args.s.now c.image_in-g.result (taken (goal.at.put_image-requires c).In_ok-check_alone) c.image_in-g.ensures, (laws.one_line (image_shape (in_form c.args.to c.image_in-g.result)) c.requires.1, rw (← m) c.if-b-size_of.false)))

pub returns : goal.returns
returns c =
    let is : c.fitting_of.result ≡ fitting (in_form c.args.to (image_in c.args.s.now)) Taken = c.fitting_of.ensures ∙ ap (λ (g : Image). fitting (in_form c.args.to g) Taken) c.image_in-g.ensures in
    let w : accepted (fitting (in_form c.args.to (image_in c.args.s.now)) Taken) ≡ true = went_on is c.in_ok-fitting_of.was in
    let size = c.size_of.ensures ∙ ap image_size c.shape.ensures ∙ ap (λ (g : Image). image_size (image_shape (in_form c.args.to g))) c.image_in-g.ensures in
    let e = laws.answer_taken c.args.from c.args.to c.args.s.now (length c.args.b.now) (formed (goal.at.returns c).In_ok-check_alone) (taken (goal.at.returns c).In_ok-check_alone) w (rw (← size) c.if-b-size_of.false) in
    let put = c.put_image.ensures ∙ ap (λ (g : Image). over c.args.b.now 0 (image_bytes (in_form c.args.to g))) c.image_in-g.ensures in record { answers = sym e; bytes = put ∙ sym (laws.taken_over c.args.from c.args.to c.args.s.now c.args.b.now (ap accepted e)) }
