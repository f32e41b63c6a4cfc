-- What a conversion answers, by the tests that the bytes pass; and what it says of them that they are taken.
use Prim.Native.Nat.{ℕ, ◌≤◌, ◌<◌}
use mathlib.Core.Path.{◌≡◌, refl, sym, ap, ◌∙◌}
use mathlib.Core.Bool.{Bool, true, false, not}
use mathlib.Core.List.{List}
use mathlib.Core.Logic.{◌≢◌}
use native.Mathlib.Omega.{arith}
use borrow.Author.Tests.{eqb-true, eq-eqb, ne_eqb, ltb-false, lt-ltb, le-ltb, not-false}
use lib.ListN.{length}
use lib.Dec.{eqb, ltb}
use Rattle.lists.specs.Find.{pick}
use Rattle.lists.proofs.BoolLaws.{no_way}
use Rattle.lists.specs.Tab.{over}
use Rattle.answer.specs.Answers.{check, accepted, Answer, Taken, Length, Mark, Room}
use Rattle.image.specs.Bytes.{at1}
use Rattle.image.specs.Form.{form_of, known, head_count, held_threads, per_desk, head_lines, own_threads}
use Rattle.image.proofs.FormLaws.{by_form}
use Rattle.image.specs.Layout.{in_form, form_in, is_image, shape_in, image_in, image_bytes}
use Rattle.image.specs.Refusals.{fitting, alone_answer}
use Rattle.image.specs.declared.Shape.{Shape}
use Rattle.image.proofs.HeadLaws.{own_few}
use Rattle.image.specs.declared.Image.{Image}
use Rattle.image.proofs.SoundLaws.{Fitting, fitting_then, fitting_else, fitting_is, is_fitting}
use Rattle.codec.proofs.Accepted as acc
use Rattle.converting.specs.Converted.{bytes_in, size_in, convert_answer, converted}

module _ (f f' : ℕ) (s : List ℕ) (room : ℕ) where
  -- the image that would be written, and 17
  abbrev other : Image
  other = in_form f' (image_in s)

  abbrev roomed : Answer
  roomed = check (ltb room (size_in f' s)) Room Taken

  pub answer_short : length s < 10 → convert_answer f f' s room ≡ Length
  unfolding convert_answer
  answer_short l = rw (lt-ltb (length s) 10 l)

  pub answer_mark : 10 ≤ length s → form_in s ≢ f → convert_answer f f' s room ≡ Mark
  unfolding convert_answer
  answer_mark l ne = rw (le-ltb (length s) 10 l, ne_eqb (form_in s) f ne)

  pub answer_refused : 10 ≤ length s → form_in s ≡ f → accepted (alone_answer s) ≡ false → convert_answer f f' s room ≡ alone_answer s
  unfolding convert_answer
  answer_refused l e h = rw (le-ltb (length s) 10 l, eq-eqb (form_in s) f e, h)

  -- an image in form f that is taken
  module _ (e : form_in s ≡ f) (h : accepted (alone_answer s) ≡ true) where
    answer_read : convert_answer f f' s room ≡ fitting other roomed
    unfolding convert_answer
    answer_read = rw (le-ltb (length s) 10 (acc.alone_taken s h).long, eq-eqb (form_in s) f e, h)

    pub answer_wide : accepted (fitting other Taken) ≡ false → convert_answer f f' s room ≡ fitting other Taken
    answer_wide w = answer_read ∙ fitting_else other roomed w

    pub answer_room : accepted (fitting other Taken) ≡ true → room < size_in f' s → convert_answer f f' s room ≡ Room
    answer_room w l = answer_read ∙ fitting_then other roomed w ∙ rw (lt-ltb room (size_in f' s) l)

    pub answer_taken : accepted (fitting other Taken) ≡ true → size_in f' s ≤ room → convert_answer f f' s room ≡ Taken
    answer_taken w l = answer_read ∙ fitting_then other roomed w ∙ rw (le-ltb room (size_in f' s) l)

-- the image is one in form f that is accepted alone, its head and every index fit in form f', and there is room
pub record Converts (f f' : ℕ) (s : List ℕ) (room : ℕ) : Type 0 where
  pub form : form_in s ≡ f
  pub image : accepted (alone_answer s) ≡ true
  pub fits : Fitting (in_form f' (image_in s))
  pub long : size_in f' s ≤ room

-- it is taken exactly then
pub converts_taken : (f f' : ℕ) (s : List ℕ) (room : ℕ) → Converts f f' s room → convert_answer f f' s room ≡ Taken
converts_taken f f' s room c = answer_taken f f' s room c.form c.image (ap accepted (is_fitting (in_form f' (image_in s)) Taken c.fits)) c.long

pub taken_converts : (f f' : ℕ) (s : List ℕ) (room : ℕ) → accepted (convert_answer f f' s room) ≡ true → Converts f f' s room
unfolding convert_answer
taken_converts f f' s room h =
    let a = acc.check_true (ltb (length s) 10) Length _ refl h in
    let b = acc.check_true (not (eqb (form_in s) f)) Mark _ refl a.1 in
    let e = eqb-true (form_in s) f (not-false (eqb (form_in s) f) b.0) in
    by e (accepted (alone_answer s)) refl b.1
  where
    by : form_in s ≡ f → (x : Bool) → accepted (alone_answer s) ≡ x → accepted (pick x (fitting (other f f' s room) (roomed f f' s room)) (alone_answer s)) ≡ true → Converts f f' s room
    by e false i h = no_way (sym h ∙ i)
    by e true i h = at (accepted (fitting (other f f' s room) Taken)) refl
      where
        at : (y : Bool) → accepted (fitting (other f f' s room) Taken) ≡ y → Converts f f' s room
        at false w = no_way (sym h ∙ ap accepted (fitting_else (other f f' s room) (roomed f f' s room) w) ∙ w)
        at true w =
            let k = acc.check_true (ltb room (size_in f' s)) Room Taken refl (ap accepted (sym (fitting_then (other f f' s room) (roomed f f' s room) w)) ∙ h) in
            record { form = e; image = i; fits = fitting_is (other f f' s room) w; long = ltb-false room (size_in f' s) k.0 }

-- what the code reads of an image that is taken
pub taken_few : (s : List ℕ) (g : Image) → accepted (alone_answer s) ≡ true → g ≡ image_in s → g.n ≤ 64
unfolding image_in
taken_few s g h e = omega (arith, ap (λ (g : Image). g.n) e, (acc.alone_taken s h).lies.nodes)

-- the head line of a form without T
pub one_line : (z : Shape) → per_desk z.form ≡ false → head_lines z ≤ 8
one_line z h = own_few z (rw h)

pub one_head : (z : Shape) → known z.form ≡ true → per_desk z.form ≡ false → head_lines z ≡ 1
unfolding per_desk head_lines
one_head z k d = by_form (λ f. eqb f 4 ≡ false → head_count (form_of f) z.t ≡ 1) z.form k (λ h. refl) (λ h. refl) (λ h. no_way h) d

-- it holds no T, and none is read in it
pub no_own : (z : Shape) → known z.form ≡ true → per_desk z.form ≡ false → own_threads z ≡ 0
unfolding per_desk own_threads
no_own z k d = by_form (λ f. eqb f 4 ≡ false → held_threads (form_of f) z.t ≡ 0) z.form k (λ h. refl) (λ h. refl) (λ h. no_way h) d

pub no_threads : (s : List ℕ) → is_image s ≡ true → per_desk (form_in s) ≡ false → (shape_in s).t ≡ 0
unfolding per_desk shape_in
no_threads s k d = by_form (λ f. eqb f 4 ≡ false → held_threads (form_of f) (at1 s 6) ≡ 0) (form_in s) k (λ h. refl) (λ h. refl) (λ h. no_way h) d

-- A REFUSED CONVERSION WRITES NOTHING; one that is taken writes the image
pub refused_same : (f f' : ℕ) (s b : List ℕ) → accepted (convert_answer f f' s (length b)) ≡ false → converted f f' s b ≡ b
unfolding converted
refused_same f f' s b h = rw h

pub taken_over : (f f' : ℕ) (s b : List ℕ) → accepted (convert_answer f f' s (length b)) ≡ true → converted f f' s b ≡ over b 0 (image_bytes (in_form f' (image_in s)))
unfolding converted bytes_in
taken_over f f' s b h = rw h
