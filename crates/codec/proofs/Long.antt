-- What is longer than the longest schedule, 25,430 bytes, is refused, and by its first 15 bytes alone: as its first part is.
-- The same of a file of another mark with w bytes an event.
use Prim.Native.Nat.{ℕ, ◌+◌, ◌*◌, ◌≤◌, ◌<◌}
use mathlib.Core.Path.{◌≡◌, refl, sym, ap, ◌∙◌}
use mathlib.Core.Bool.{Bool, true, false, not}
use mathlib.Core.List.{List}
use native.Mathlib.Omega.{arith}
use native.Mathlib.Nat.{zero-add, mul-le-mul_right}
use borrow.Author.Tests.{eqb-true, ltb-false, le-ltb}
use lib.ListN.{length, take, length-drop}
use lib.Seq.{get_or-take, get_or-drop, length-take-le}
use lib.Dec.{eqb, ltb}
use Rattle.answer.specs.Answers.{check, accepted, Answer, Taken, Length, Mark, Threads, Events}
use Rattle.image.specs.Bytes.{at1}
use Rattle.image.proofs.ByteLaws.{at_same}
use Rattle.image.specs.Form.{image_size}
use Rattle.image.specs.Layout.{marked, form_in, shape_in, image_in}
use Rattle.image.specs.Refusals.{threads_fit, shape_answer, sound, image_answer}
use Rattle.image.specs.declared.Shape.{Shape}
use Rattle.image.proofs.ShapeLaws.{Shaped, shape_is, shape_else, nodes_range}
use Rattle.codec.proofs.Shapes.{size_most}
use Rattle.schedule.specs.Layout.{is_file, threads_in, count_in, image_part, file_answer, schedule_answer}

-- a check is passed, or what follows is not looked at
under : (b : Bool) (a x y : Answer) → (b ≡ false → x ≡ y) → check b a x ≡ check b a y
under true a x y h = refl
under false a x y h = h refl

-- the answer without a look at the length
unfoldable front_answer : ℕ → List ℕ → Answer
front_answer z s =
    check (not (is_file z s)) Mark
    (check (not (threads_fit (threads_in s))) Threads
    (check (ltb 4096 (count_in s)) Events
    (shape_answer (threads_in s) (shape_in (image_part s)) Length)))

never : (b : Bool) (x : Answer) → (b ≡ true → ⊥) → check (not b) Length x ≡ Length
never true x h = absurd (h refl)
never false x h = refl

-- what a shape's refusals stand in front of counts where they accept
shape_under : (t : ℕ) (z : Shape) (x y : Answer) → (Shaped t z → x ≡ y) → shape_answer t z x ≡ shape_answer t z y
shape_under t z x y h = by (accepted (shape_answer t z Taken)) refl
  where
    by : (b : Bool) → accepted (shape_answer t z Taken) ≡ b → shape_answer t z x ≡ shape_answer t z y
    by true e = ap (shape_answer t z) (h (shape_is t z Taken e).0)
    by false e = shape_else t z x e ∙ sym (shape_else t z y e)

shape_refused : (t : ℕ) (z : Shape) → accepted (shape_answer t z Length) ≡ false
shape_refused t z = by (accepted (shape_answer t z Length)) refl
  where
    by : (b : Bool) → accepted (shape_answer t z Length) ≡ b → b ≡ false
    by true e = sym (shape_is t z Length e).1
    by false e = refl

-- longer than every such file
module _ (z w : ℕ) (s : List ℕ) (h : 854 + 4096 * w < length s) where
  events_most : count_in s ≤ 4096 → count_in s * w ≤ 4096 * w
  events_most c = mul-le-mul_right w c

  image_front : count_in s ≤ 4096
      → image_answer (threads_in s) (count_in s * w) (image_part s) ≡ shape_answer (threads_in s) (shape_in (image_part s)) Length
  unfolding image_answer
  image_front c =
      let p = image_part s in
      let k = shape_in p in
      let e : ltb (length p) 10 ≡ false = le-ltb (length p) 10 (omega (arith, length-drop 8 s)) in
      rw (e, check) refl
      ∙ shape_under (threads_in s) k _ _ (λ f.
      never (eqb (length p) (image_size k + count_in s * w)) (sound (image_in p) Taken)
      (λ q. let e' = eqb-true (length p) (image_size k + count_in s * w) q in
      omega (arith, e', events_most c, length-drop 8 s, (size_most k f.form (nodes_range k.n f.nodes).1 f.own).1)))

  front_is : file_answer z w s ≡ front_answer z s
  unfolding front_answer
  front_is =
      let e : ltb (length s) 8 ≡ false = le-ltb (length s) 8 (omega arith) in
      rw (e, check) refl
      ∙ under (not (is_file z s)) Mark _ _ (λ m.
      under (not (threads_fit (threads_in s))) Threads _ _ (λ t.
      under (ltb 4096 (count_in s)) Events _ _ (λ c. image_front (ltb-false 4096 (count_in s) c))))

front_refused : (a b c : Bool) (x : Answer) → accepted x ≡ false → accepted (check a Mark (check b Threads (check c Events x))) ≡ false
front_refused true b c x h = refl
front_refused false true c x h = refl
front_refused false false true x h = refl
front_refused false false false x h = h

-- refused
pub file_long : (z w : ℕ) (s : List ℕ) → 854 + 4096 * w < length s → accepted (file_answer z w s) ≡ false
unfolding front_answer
file_long z w s h =
    ap accepted (front_is z w s h)
    ∙ front_refused (not (is_file z s)) (not (threads_fit (threads_in s))) (ltb 4096 (count_in s)) (shape_answer (threads_in s) (shape_in (image_part s)) Length)
    (shape_refused (threads_in s) (shape_in (image_part s)))

pub long_refused : (s : List ℕ) → 25430 < length s → accepted (schedule_answer s) ≡ false
unfolding schedule_answer
long_refused s h = file_long 83 6 s (omega arith)

-- two inputs whose first 15 bytes are the same
module _ (s p : List ℕ) (long : 15 ≤ length s) (long' : 15 ≤ length p) (h : (i : ℕ) → i < 15 → at1 p i ≡ at1 s i) where
  part : (i : ℕ) → i < 7 → at1 (image_part p) i ≡ at1 (image_part s) i
  part i l = get_or-drop 8 p i 0 ∙ h (8 + i) (omega arith) ∙ sym (get_or-drop 8 s i 0)

  count : count_in p ≡ count_in s
  count = at_same 2 p s 0 6 15 (λ k l. ap (at1 p) (zero-add k) ∙ h k l) (omega arith) (omega arith) (omega arith)

  front_same : (z : ℕ) → front_answer z p ≡ front_answer z s
  unfolding marked form_in shape_in front_answer
  front_same z =
      rw (
        h 0 (omega arith),
        h 1 (omega arith),
        h 2 (omega arith),
        h 3 (omega arith),
        h 4 (omega arith),
        h 5 (omega arith),
        count,
        part 0 (omega arith),
        part 1 (omega arith),
        part 2 (omega arith),
        part 3 (omega arith),
        part 4 (omega arith),
        part 5 (omega arith),
        part 6 (omega arith),
      ) refl

-- refused as its first part is
pub file_same : (z w : ℕ) (s : List ℕ) (room : ℕ) → 854 + 4096 * w < room → room ≤ length s → file_answer z w (take room s) ≡ file_answer z w s
file_same z w s room h l =
    front_is z w (take room s) (omega (arith, length-take-le room s l))
    ∙ front_same s (take room s) (omega arith) (omega (arith, length-take-le room s l)) (λ i q. get_or-take room s i 0 (omega arith)) z
    ∙ sym (front_is z w s (omega arith))

pub long_same : (s : List ℕ) (room : ℕ) → 25430 < room → room ≤ length s → schedule_answer (take room s) ≡ schedule_answer s
unfolding schedule_answer
long_same s room h l = file_same 83 6 s room (omega arith) l
