-- What it says of bytes or contents that they are taken.
use Prim.Native.Nat.{ℕ, suc, ◌+◌, ◌*◌, ◌≤◌, ◌<◌}
use mathlib.Core.Path.{◌≡◌, refl, sym, ap, ◌∙◌}
use mathlib.Core.Bool.{Bool, true, false, not}
use mathlib.Core.List.{List}
use native.Mathlib.Omega.{arith}
use native.Mathlib.Nat.{suc-mul, mul-le-mul_right}
use borrow.Author.Tests.{eqb-true, ltb-false, leb-true, lt-ltb, le-ltb, not-false}
use lib.ListN.{length, length-drop}
use lib.Dec.{eqb, ltb, leb}
use Rattle.lists.proofs.BoolLaws.{false_true, both_true}
use Rattle.answer.proofs.Results.{given_same}
use Rattle.answer.specs.Answers.{check, accepted, given, Answer, Taken, Length, Mark, Threads, Events, Room}
use Rattle.image.specs.Bytes.{at1}
use Rattle.image.specs.Form.{known, image_size}
use Rattle.image.specs.Layout.{form_in, is_image, image_shape, shape_in, image_in}
use Rattle.image.specs.Refusals.{nodes_fit, threads_fit, sound, whole, shape_answer, image_answer, alone_answer, read_image, write_answer}
use Rattle.image.proofs.ShapeLaws.{Shaped, shape_is, nodes_range, shaped_lines, agree_is}
use Rattle.image.proofs.ShapeLaws as shapes
use Rattle.image.proofs.SoundLaws.{whole_then, whole_else}
use Rattle.image.specs.declared.Image.{Image}
use Rattle.image.specs.declared.Shape.{Shape}
use Rattle.codec.specs.Parts.{Lies, shape}
use Rattle.codec.proofs.Shapes.{form_of_lem, nodes_of, size_same}
use Rattle.schedule.specs.Layout.{is_file, threads_in, count_in, image_part, schedule_shape, place_in, event_place, schedule_in, file_answer, schedule_answer, read_by, read_schedule}

pub nodes_least : (n : ℕ) → nodes_fit n ≡ true → 2 ≤ n
nodes_least n h = leb-true 2 n (both_true (leb 2 n) (leb n 64) h).0

pub nodes_most : (n : ℕ) → nodes_fit n ≡ true → n ≤ 64
nodes_most n h = leb-true n 64 (both_true (leb 2 n) (leb n 64) h).1

-- ---- a check that was passed

pub check_true : (b : Bool) (a rest : Answer) → accepted a ≡ false → accepted (check b a rest) ≡ true → (b ≡ false) × (accepted rest ≡ true)
check_true true a rest e h = false_true (sym e ∙ h)
check_true false a rest e h = (refl, h)

check_not : (b : Bool) (a rest : Answer) → accepted a ≡ false → accepted (check (not b) a rest) ≡ true → (b ≡ true) × (accepted rest ≡ true)
check_not b a rest e h = let p = check_true (not b) a rest e h in (not-false b p.0, p.1)

-- ---- an image for t threads with `more` bytes behind it

-- 1, what a shape asks, and 1 again, in front of what follows
module _ (t : ℕ) (z : Shape) where
  shape_by : (w x : Bool) (rest : Answer) → accepted (check w Length (shape_answer t z (check x Length Taken))) ≡ true
      → check w Length (shape_answer t z (check x Length rest)) ≡ rest
  shape_by true x rest h = false_true h
  shape_by false x rest h =
      let f = shape_is t z (check x Length Taken) h in
      let e = check_true x Length Taken refl f.1 in
      shapes.shape_then t z (check x Length rest) f.0 ∙ rw e.0

  misshape_by : (w x : Bool) (rest : Answer) → accepted (check w Length (shape_answer t z (check x Length Taken))) ≡ false
      → check w Length (shape_answer t z (check x Length rest)) ≡ check w Length (shape_answer t z (check x Length Taken))
  misshape_by true x rest h = refl
  misshape_by false true rest h = refl
  misshape_by false false rest h = shapes.shape_else t z rest h

pub shape_then : (t more : ℕ) (s : List ℕ) (rest : Answer) → accepted (shape t more s Taken) ≡ true → shape t more s rest ≡ rest
unfolding shape
shape_then t more s rest h = shape_by t (shape_in s) (ltb (length s) 10) (not (eqb (length s) (image_size (shape_in s) + more))) rest h

pub shape_else : (t more : ℕ) (s : List ℕ) (rest : Answer) → accepted (shape t more s Taken) ≡ false → shape t more s rest ≡ shape t more s Taken
unfolding shape
shape_else t more s rest h = misshape_by t (shape_in s) (ltb (length s) 10) (not (eqb (length s) (image_size (shape_in s) + more))) rest h

-- 6, 7, 8 follow
pub answer_shape : (t more : ℕ) (s : List ℕ) → image_answer t more s ≡ shape t more s (sound (image_in s) Taken)
unfolding shape image_answer
answer_shape t more s = refl

pub record ShapeTaken (t more : ℕ) (s : List ℕ) : Type 0 where
  pub long : 10 ≤ length s
  pub shape : Shaped t (shape_in s)
  pub mark : is_image s ≡ true
  pub nodes : nodes_fit (at1 s 5) ≡ true
  pub size : length s ≡ image_size (shape_in s) + more

pub shape_taken : (t more : ℕ) (s : List ℕ) → accepted (shape t more s Taken) ≡ true → ShapeTaken t more s
unfolding shape
shape_taken t more s h =
    let a = check_true (ltb (length s) 10) Length _ refl h in
    let b = shape_is t (shape_in s) (check (not (eqb (length s) (image_size (shape_in s) + more))) Length Taken) a.1 in
    let d = check_not (eqb (length s) (image_size (shape_in s) + more)) Length Taken refl b.1 in
    record {
      long = ltb-false _ _ a.0;
      shape = b.0;
      mark = ap known (sym (form_of_lem s)) ∙ b.0.form;
      nodes = ap nodes_fit (sym (nodes_of s)) ∙ b.0.nodes;
      size = eqb-true _ _ d.0;
    }

-- the image lies in the bytes
pub shape_lies : (t more : ℕ) (s : List ℕ) → accepted (shape t more s Taken) ≡ true → Lies s (shape_in s)
shape_lies t more s h =
    let a = shape_taken t more s h in
    record { shape = refl; form = a.shape.form; nodes = (nodes_range (shape_in s).n a.shape.nodes).1; own = a.shape.own; long = omega (arith, a.size) }

pub record PartTaken (t more : ℕ) (s : List ℕ) : Type 0 where
  pub long : 10 ≤ length s
  pub shape : Shaped t (shape_in s)
  pub mark : is_image s ≡ true
  pub nodes : nodes_fit (at1 s 5) ≡ true
  pub size : length s ≡ image_size (shape_in s) + more
  pub lies : Lies s (shape_in s)
  pub clear : accepted (sound (image_in s) Taken) ≡ true

-- what follows is accepted only behind 1, 2, 3, 4, 1
pub shaped : (t more : ℕ) (s : List ℕ) (rest : Answer) → accepted (shape t more s rest) ≡ true → (accepted (shape t more s Taken) ≡ true) × (accepted rest ≡ true)
shaped t more s rest h = by (accepted (shape t more s Taken)) refl
  where
    by : (b : Bool) → accepted (shape t more s Taken) ≡ b → (accepted (shape t more s Taken) ≡ true) × (accepted rest ≡ true)
    by true e = (e, sym (ap accepted (shape_then t more s rest e)) ∙ h)
    by false e = false_true (sym e ∙ sym (ap accepted (shape_else t more s rest e)) ∙ h)

pub part_taken : (t more : ℕ) (s : List ℕ) → accepted (image_answer t more s) ≡ true → PartTaken t more s
part_taken t more s h =
    let e = shaped t more s (sound (image_in s) Taken) (sym (ap accepted (answer_shape t more s)) ∙ h) in
    let a = shape_taken t more s e.0 in
    record { long = a.long; shape = a.shape; mark = a.mark; nodes = a.nodes; size = a.size; lies = shape_lies t more s e.0; clear = e.1 }

-- an image alone
pub alone_is : (s : List ℕ) → alone_answer s ≡ image_answer (shape_in s).t 0 s
unfolding alone_answer
alone_is s = refl

pub alone_taken : (s : List ℕ) → accepted (alone_answer s) ≡ true → PartTaken (shape_in s).t 0 s
unfolding alone_answer
alone_taken s h = part_taken (shape_in s).t 0 s h

-- ---- contents to be written into a buffer of `room` bytes

pub record ContentsTaken (g : Image) (room : ℕ) : Type 0 where
  pub shape : Shaped g.t (image_shape g)
  pub clear : accepted (whole g Taken) ≡ true
  pub long : image_size (image_shape g) ≤ room

whole_through : (g : Image) (rest : Answer) (b : Bool) → accepted (whole g Taken) ≡ b → accepted (whole g rest) ≡ true → (accepted (whole g Taken) ≡ true) × (accepted rest ≡ true)
whole_through g rest true e h = (e, ap accepted (sym (whole_then g rest e)) ∙ h)
whole_through g rest false e h = false_true (sym e ∙ ap accepted (sym (whole_else g rest e)) ∙ h)

-- 17, for so much room
abbrev roomed : Image → ℕ → Answer
roomed g room = check (ltb room (image_size (image_shape g))) Room Taken

pub contents_taken : (g : Image) (room : ℕ) → accepted (write_answer g room) ≡ true → ContentsTaken g room
unfolding write_answer
contents_taken g room h =
    let a = shape_is g.t (image_shape g) (whole g (roomed g room)) h in
    let b = whole_through g (roomed g room) (accepted (whole g Taken)) refl a.1 in
    let c = check_true (ltb room (image_size (image_shape g))) Room Taken refl b.1 in
    record { shape = a.0; clear = b.0; long = ltb-false _ _ c.0 }

-- which answer contents get, by the tests they pass
module _ (g : Image) (room : ℕ) where
  pub write_shape : accepted (shape_answer g.t (image_shape g) Taken) ≡ false → write_answer g room ≡ shape_answer g.t (image_shape g) Taken
  unfolding write_answer
  write_shape h = shapes.shape_else g.t (image_shape g) (whole g (roomed g room)) h

  pub write_refused : Shaped g.t (image_shape g) → accepted (whole g Taken) ≡ false → write_answer g room ≡ whole g Taken
  unfolding write_answer
  write_refused f h = shapes.shape_then g.t (image_shape g) (whole g (roomed g room)) f ∙ whole_else g (roomed g room) h

  pub write_room : Shaped g.t (image_shape g) → accepted (whole g Taken) ≡ true → room < image_size (image_shape g) → write_answer g room ≡ Room
  unfolding write_answer
  write_room f h l =
      shapes.shape_then g.t (image_shape g) (whole g (roomed g room)) f ∙ whole_then g (roomed g room) h ∙ rw (lt-ltb room (image_size (image_shape g)) l)

  pub write_taken : Shaped g.t (image_shape g) → accepted (whole g Taken) ≡ true → image_size (image_shape g) ≤ room → write_answer g room ≡ Taken
  unfolding write_answer
  write_taken f h l =
      shapes.shape_then g.t (image_shape g) (whole g (roomed g room)) f ∙ whole_then g (roomed g room) h ∙ rw (le-ltb room (image_size (image_shape g)) l)

-- ---- a file of the mark "UQ" and z with w bytes an event

pub record FileTaken (z w : ℕ) (s : List ℕ) : Type 0 where
  pub long : 8 ≤ length s
  pub mark : is_file z s ≡ true
  pub threads : threads_fit (threads_in s) ≡ true
  pub count : count_in s ≤ 4096
  pub part : PartTaken (threads_in s) (count_in s * w) (image_part s)

pub file_taken : (z w : ℕ) (s : List ℕ) → accepted (file_answer z w s) ≡ true → FileTaken z w s
file_taken z w s h =
    let a = check_true (ltb (length s) 8) Length _ refl h in
    let b = check_not (is_file z s) Mark _ refl a.1 in
    let c = check_not (threads_fit (threads_in s)) Threads _ refl b.1 in
    let d = check_true (ltb 4096 (count_in s)) Events _ refl c.1 in
    record { long = ltb-false _ _ a.0; mark = b.0; threads = c.0; count = ltb-false _ _ d.0; part = part_taken (threads_in s) (count_in s * w) (image_part s) d.1 }

-- its image is as long as its machine's shape says
pub file_size : (z w : ℕ) (s : List ℕ) → accepted (file_answer z w s) ≡ true → image_size (shape_in (image_part s)) ≡ image_size (schedule_shape s)
unfolding shape_in
file_size z w s h =
    let p = image_part s in
    let a = (file_taken z w s h).part.shape.agrees in
    size_same (form_in p) (at1 p 5) (shape_in p).t (threads_in s) (agree_is (threads_in s) (shape_in p) a)

-- every event of one that is taken stands in its bytes
pub file_fits : (z w : ℕ) (s : List ℕ) (i : ℕ) → accepted (file_answer z w s) ≡ true → i < count_in s → place_in w (schedule_shape s) i + w ≤ length s
file_fits z w s i h p =
    let t = file_taken z w s h in
    let l = t.long in
    let m : suc i * w ≤ count_in s * w = mul-le-mul_right w p in
    omega (arith, length-drop 8 s, t.part.size, file_size z w s h, m, suc-mul i w)

-- its image lies in them, too
pub file_lies : (z w : ℕ) (s : List ℕ) → accepted (file_answer z w s) ≡ true → Lies (image_part s) (shape_in (image_part s))
file_lies z w s h = (file_taken z w s h).part.lies

-- ---- a schedule

abbrev pub ScheduleTaken : List ℕ → Type 0
ScheduleTaken = FileTaken 83 6

pub schedule_taken : (s : List ℕ) → accepted (schedule_answer s) ≡ true → ScheduleTaken s
unfolding schedule_answer
schedule_taken s h = file_taken 83 6 s h

pub opened_answer : (s : List ℕ) → (read_schedule s).answer ≡ schedule_answer s
unfolding read_schedule
opened_answer s = refl

pub opened_schedule : (s : List ℕ) → accepted (schedule_answer s) ≡ true → (read_schedule s).schedule ≡ schedule_in s
unfolding read_schedule
opened_schedule s h = rw h

pub event_fits : (s : List ℕ) (i : ℕ) → accepted (schedule_answer s) ≡ true → i < count_in s → event_place (schedule_shape s) i + 6 ≤ length s
unfolding schedule_answer
event_fits s i h p = file_fits 83 6 s i h p

pub schedule_size : (s : List ℕ) → accepted (schedule_answer s) ≡ true → image_size (shape_in (image_part s)) ≡ image_size (schedule_shape s)
unfolding schedule_answer
schedule_size s h = file_size 83 6 s h

pub schedule_lies : (s : List ℕ) → accepted (schedule_answer s) ≡ true → Lies (image_part s) (shape_in (image_part s))
unfolding schedule_answer
schedule_lies s h = file_lies 83 6 s h

-- ---- what the calls that read give: the value itself, where the answer is accepted
pub read_given : (s : List ℕ) → given (read_image s).answer (read_image s).image ≡ given (alone_answer s) (image_in s)
unfolding read_image
read_given s = given_same (alone_answer s) (λ h. rw h)

pub opened_given : (a : Answer) (s : List ℕ) → given (read_by a s).answer (read_by a s).schedule ≡ given a (schedule_in s)
opened_given a s = given_same a (λ h. rw h)

pub schedule_given : (s : List ℕ) → given (read_schedule s).answer (read_schedule s).schedule ≡ given (schedule_answer s) (schedule_in s)
unfolding read_schedule
schedule_given s = opened_given (schedule_answer s) s
