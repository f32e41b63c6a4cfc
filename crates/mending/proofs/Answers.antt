-- The mender's answer in each of its cases, and what it leaves behind in each.
use Prim.Native.Nat.{ℕ, ◌*◌, ◌≤◌, ◌<◌}
use mathlib.Core.Path.{◌≡◌, refl, sym, ap, subst, ◌∙◌}
use mathlib.Core.Bool.{Bool, true, false}
use mathlib.Core.List.{List}
use native.Mathlib.Omega.{arith}
use borrow.Author.Tests.{lt-ltb, le-ltb}
use lib.ListN.{length}
use lib.Dec.{ltb}
use Rattle.lists.specs.Tab.{over}
use Rattle.std.specs.Prelude.{Result, Ok, Err}
use Rattle.answer.specs.declared.Refusal.{Refusal}
use Rattle.answer.proofs.Results.{came_back}
use Rattle.answer.specs.Answers.{check, accepted, given, Answer, Taken, Length, Mark, Room}
use Rattle.image.specs.Form.{known, head_lines, image_size, per_desk}
use Rattle.image.specs.Layout.{form_in, image_shape, shape_in, image_in}
use Rattle.image.specs.declared.Shape.{Shape}
use Rattle.image.proofs.ShapeLaws.{shaped_lines}
use Rattle.lists.proofs.BoolLaws.{false_true}
use Rattle.codec.specs.Parts.{shape}
use Rattle.codec.proofs.Accepted as acc
use Rattle.mending.specs.Mended.{mended}
use Rattle.mending.specs.Bytes.{mend_bytes, mend_list, mend_changed, mend_shape, mend_answer, mend_count, mend_written, list_written}
use Rattle.mending.proofs.MendLaws as mend

-- 1, 2, 3, 1 in front of what follows
mend_by : (a b : Bool) (x y : Answer) → accepted (check a Length (check b Mark x)) ≡ true → (check a Length (check b Mark y) ≡ y) × (accepted x ≡ true)
mend_by true b x y h = false_true h
mend_by false true x y h = false_true h
mend_by false false x y h = (refl, h)

unmend_by : (a b : Bool) (x y : Answer) → (accepted x ≡ false → y ≡ x) → accepted (check a Length (check b Mark x)) ≡ false → check a Length (check b Mark y) ≡ check a Length (check b Mark x)
unmend_by true b x y e h = refl
unmend_by false true x y e h = refl
unmend_by false false x y e h = e h

pub mendshape_is : (s : List ℕ) → accepted (mend_shape s Taken) ≡ true → accepted (shape 0 0 s Taken) ≡ true
unfolding mend_shape
mendshape_is s h = (mend_by (ltb (length s) 10) (per_desk (form_in s)) (shape 0 0 s Taken) Taken h).1

mendshape_then : (s : List ℕ) (rest : Answer) → accepted (mend_shape s Taken) ≡ true → mend_shape s rest ≡ rest
unfolding mend_shape
mendshape_then s rest h =
    let m = mend_by (ltb (length s) 10) (per_desk (form_in s)) (shape 0 0 s Taken) (shape 0 0 s rest) h in
    m.0 ∙ acc.shape_then 0 0 s rest m.1

mendshape_else : (s : List ℕ) (rest : Answer) → accepted (mend_shape s Taken) ≡ false → mend_shape s rest ≡ mend_shape s Taken
unfolding mend_shape
mendshape_else s rest h = unmend_by (ltb (length s) 10) (per_desk (form_in s)) (shape 0 0 s Taken) (shape 0 0 s rest) (acc.shape_else 0 0 s rest) h

-- 17, for so much room
abbrev roomed : List ℕ → ℕ → ℕ → Answer
roomed s room listed = check (ltb room (image_size (shape_in s))) Room (check (ltb listed (mend_changed s * 2)) Room Taken)

module _ (s : List ℕ) (room listed : ℕ) where
  pub mend_misshapen : accepted (mend_shape s Taken) ≡ false → mend_answer s room listed ≡ mend_shape s Taken
  unfolding mend_answer
  mend_misshapen h = mendshape_else s (roomed s room listed) h

  pub mend_short : accepted (mend_shape s Taken) ≡ true → room < length s → mend_answer s room listed ≡ Room
  unfolding mend_answer
  mend_short h l =
      let z = (acc.shape_taken 0 0 s (mendshape_is s h)).size in
      mendshape_then s (roomed s room listed) h ∙ rw (lt-ltb room (image_size (shape_in s)) (omega arith))

  pub mend_unlisted : accepted (mend_shape s Taken) ≡ true → length s ≤ room → listed < mend_changed s * 2 → mend_answer s room listed ≡ Room
  unfolding mend_answer
  mend_unlisted h l m =
      let z = (acc.shape_taken 0 0 s (mendshape_is s h)).size in
      mendshape_then s (roomed s room listed) h ∙ rw (le-ltb room (image_size (shape_in s)) (omega arith), lt-ltb listed (mend_changed s * 2) m)

  pub mend_taken : accepted (mend_shape s Taken) ≡ true → length s ≤ room → mend_changed s * 2 ≤ listed → mend_answer s room listed ≡ Taken
  unfolding mend_answer
  mend_taken h l m =
      let z = (acc.shape_taken 0 0 s (mendshape_is s h)).size in
      mendshape_then s (roomed s room listed) h ∙ rw (le-ltb room (image_size (shape_in s)) (omega arith), le-ltb listed (mend_changed s * 2) m)

-- what the contract asks, of what is given, r, and the bytes that are left
abbrev pub Given : List ℕ → List ℕ → List ℕ → Result ℕ Refusal → List ℕ → List ℕ → Type 0
Given s b l r b' l' =
    (r ≡ given (mend_answer s (length b) (length l)) (mend_count s (length b) (length l))) × ((b' ≡ mend_written s b l) × (l' ≡ list_written s b l))

module _ (s b l : List ℕ) where
  pub given_refused : (r : Result ℕ Refusal) (w : Refusal) → r ≡ Err w → mend_answer s (length b) (length l) ≡ Err w → Given s b l r b l
  unfolding mend_count mend_written list_written
  given_refused r w is e =
      let h : accepted (mend_answer s (length b) (length l)) ≡ false = came_back refl e in
      (is ∙ ap (λ (a : Answer). given a (mend_count s (length b) (length l))) (sym e), (rw h, rw h))

  pub given_taken : mend_answer s (length b) (length l) ≡ Taken → Given s b l (Ok (mend_changed s)) (over b 0 (mend_bytes s)) (over l 0 (mend_list s))
  unfolding mend_count mend_written list_written
  given_taken e = rw e (refl, (refl, refl))

-- the mended image can be written where there is room for the bytes that it came as
pub put_fits : (s : List ℕ) (room : ℕ) → accepted (mend_shape s Taken) ≡ true → length s ≤ room
    → (known (mended (image_in s)).form ≡ true) × (((mended (image_in s)).n ≤ 64) × ((head_lines (image_shape (mended (image_in s))) ≤ 8) × (image_size (image_shape (mended (image_in s))) ≤ room)))
unfolding image_in
put_fits s room h l =
    let t = acc.shape_taken 0 0 s (mendshape_is s h) in
    let z = shaped_lines 0 (shape_in s) t.shape in
    let e : image_shape (mended (image_in s)) ≡ shape_in s = λ k. record { form = mend.mended_form (image_in s) k; n = mend.size3 (image_in s) k; t = mend.mended_threads (image_in s) k } in
    subst (λ (z : Shape). (known z.form ≡ true) × ((z.n ≤ 64) × ((head_lines z ≤ 8) × (image_size z ≤ room)))) (sym e) (t.shape.form, (z.0, (z.1, omega (arith, t.size))))
