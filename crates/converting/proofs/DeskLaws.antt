-- What import and export answer, by the tests that the bytes pass.
use Prim.Native.Nat.{ℕ, ◌+◌, ◌≤◌, ◌<◌}
use mathlib.Core.Path.{◌≡◌, refl, sym, ap, ◌∙◌}
use mathlib.Core.Bool.{Bool, true, false, not}
use mathlib.Core.List.{List}
use mathlib.Core.Logic.{◌≢◌}
use native.Mathlib.Omega.{arith}
use borrow.Author.Tests.{eqb-true, eq-eqb, ne_eqb, ltb-false, lt-ltb, le-ltb, not-false}
use lib.ListN.{length, set}
use lib.Dec.{eqb, ltb}
use Rattle.lists.specs.Find.{pick}
use Rattle.lists.specs.Tab.{over, front}
use Rattle.lists.proofs.BoolLaws.{no_way}
use Rattle.lists.proofs.TabLaws as tabs
use Rattle.answer.specs.Answers.{check, accepted, Answer, Taken, Length, Mark, Threads, Room}
use Rattle.image.specs.Form.{head_lines, image_size}
use Rattle.image.specs.Layout.{no_heads, heads_of, image_shape, form_in, shape_in, image_in, image_bytes}
use Rattle.image.specs.Refusals.{threads_fit, sound, alone_answer}
use Rattle.image.specs.declared.Shape.{Shape}
use Rattle.image.proofs.HeadLaws.{own_few}
use Rattle.image.proofs.ShapeLaws.{Shaped, shape_is, shape_then, nodes_range}
use Rattle.image.proofs.SoundLaws.{sound_then}
use Rattle.codec.specs.Parts.{Lies}
use Rattle.codec.proofs.Accepted as acc
use Rattle.converting.specs.Desks.{other_of, room_answer, put_as, desks_answer, import_answer, imported, plain_answer, threads_answer, export_answer, exported}

-- ---- one index in the first k head lines

unfoldable pub same_to : ℕ → ℕ → List ℕ
same_to h k = front (λ j. h) k no_heads

pub same_none : (h : ℕ) → no_heads ≡ same_to h 0
unfolding same_to
same_none h = tabs.front_none (λ j. h) no_heads

pub same_next : (h k : ℕ) → k < 8 → set (same_to h k) k h ≡ same_to h (k + 1)
unfolding same_to no_heads
same_next h k l = tabs.front_next (λ j. h) k no_heads l

pub same_all : (z : Shape) (h : ℕ) → same_to h (head_lines z) ≡ heads_of z (λ k. h)
unfolding same_to heads_of
same_all z h = refl

-- ---- an image that lies in the bytes

pub lies_few : (s : List ℕ) → Lies s (shape_in s) → ((image_in s).n ≤ 64) × (head_lines (image_shape (image_in s)) ≤ 8)
unfolding image_in
lies_few s l = (l.nodes, own_few (shape_in s) l.own)

-- ---- 17

module _ (f t : ℕ) (s : List ℕ) where
  pub room_none : (room : ℕ) → room < image_size (image_shape (other_of f t s)) → room_answer f t s room ≡ Room
  unfolding room_answer
  room_none room l = rw (lt-ltb room (image_size (image_shape (other_of f t s))) l)

  pub room_there : (room : ℕ) → image_size (image_shape (other_of f t s)) ≤ room → room_answer f t s room ≡ Taken
  unfolding room_answer
  room_there room l = rw (le-ltb room (image_size (image_shape (other_of f t s))) l)

  pub put_none : (b : List ℕ) → accepted (room_answer f t s (length b)) ≡ false → put_as f t s b ≡ b
  unfolding put_as
  put_none b h = rw h

  pub put_there : (b : List ℕ) → accepted (room_answer f t s (length b)) ≡ true → put_as f t s b ≡ over b 0 (image_bytes (other_of f t s))
  unfolding put_as
  put_there b h = rw h

  pub room_is : (room : ℕ) → accepted (room_answer f t s room) ≡ true → image_size (image_shape (other_of f t s)) ≤ room
  unfolding room_answer
  room_is room h = ltb-false _ _ (acc.check_true (ltb room (image_size (image_shape (other_of f t s)))) Room Taken refl h).0

-- ---- import

-- what 1, 2, 3, 4, 1, 6, 7, 8 say of an image that is imported
pub record Desked (s : List ℕ) : Type 0 where
  pub form : (shape_in s).form ≡ 4
  pub shape : Shaped (shape_in s).t (shape_in s)
  pub lies : Lies s (shape_in s)

pub desks_taken : (s : List ℕ) → accepted (desks_answer s) ≡ true → Desked s
unfolding desks_answer
desks_taken s h =
    let z = shape_in s in
    let a = acc.check_true (ltb (length s) 7) Length _ refl h in
    let b = acc.check_true (not (eqb z.form 4)) Mark _ refl a.1 in
    let c = shape_is z.t z (check (not (eqb (length s) (image_size z))) Length (sound (image_in s) Taken)) b.1 in
    let d = acc.check_true (not (eqb (length s) (image_size z))) Length (sound (image_in s) Taken) refl c.1 in
    let e = eqb-true (length s) (image_size z) (not-false _ d.0) in
    record {
      form = eqb-true z.form 4 (not-false _ b.0);
      shape = c.0;
      lies = record { shape = refl; form = c.0.form; nodes = (nodes_range z.n c.0.nodes).1; own = c.0.own; long = omega (arith, e) };
    }

-- an image that is taken alone, of "UQP", is one of them
pub alone_desks : (s : List ℕ) → accepted (alone_answer s) ≡ true → (shape_in s).form ≡ 4 → desks_answer s ≡ Taken
unfolding desks_answer
alone_desks s h e =
    let z = shape_in s in
    let p = acc.alone_taken s h in
    rw (le-ltb (length s) 7 (omega (arith, p.long)), eq-eqb z.form 4 e)
    (shape_then z.t z (check (not (eqb (length s) (image_size z))) Length (sound (image_in s) Taken)) p.shape
    ∙ rw (eq-eqb (length s) (image_size z) (omega (arith, p.size))) (sound_then (image_in s) Taken p.clear))

module _ (s : List ℕ) where
  pub import_refused : (room : ℕ) → accepted (desks_answer s) ≡ false → import_answer s room ≡ desks_answer s
  unfolding import_answer
  import_refused room h = rw h

  pub import_then : (room : ℕ) → accepted (desks_answer s) ≡ true → import_answer s room ≡ room_answer 1 0 s room
  unfolding import_answer
  import_then room h = rw h

  pub imported_refused : (b : List ℕ) → accepted (desks_answer s) ≡ false → imported s b ≡ b
  unfolding imported
  imported_refused b h = rw h

  pub imported_then : (b : List ℕ) → accepted (desks_answer s) ≡ true → imported s b ≡ put_as 1 0 s b
  unfolding imported
  imported_then b h = rw h

-- ---- export

module _ (s : List ℕ) where
  pub plain_short : length s < 10 → plain_answer s ≡ Length
  unfolding plain_answer
  plain_short l = rw (lt-ltb (length s) 10 l)

  pub plain_mark : 10 ≤ length s → form_in s ≢ 1 → plain_answer s ≡ Mark
  unfolding plain_answer
  plain_mark l ne = rw (le-ltb (length s) 10 l, ne_eqb (form_in s) 1 ne)

  pub plain_alone : 10 ≤ length s → form_in s ≡ 1 → plain_answer s ≡ alone_answer s
  unfolding plain_answer
  plain_alone l e = rw (le-ltb (length s) 10 l, eq-eqb (form_in s) 1 e)

module _ (s : List ℕ) (t : ℕ) where
  pub threads_stop : (x : Answer) → plain_answer s ≡ x → accepted x ≡ false → threads_answer s t ≡ x
  unfolding threads_answer
  threads_stop x e h = rw (e, h)

  pub threads_no : accepted (plain_answer s) ≡ true → threads_fit t ≡ false → threads_answer s t ≡ Threads
  unfolding threads_answer
  threads_no h e = rw (h, e)

  pub threads_yes : accepted (plain_answer s) ≡ true → threads_fit t ≡ true → threads_answer s t ≡ Taken
  unfolding threads_answer
  threads_yes h e = rw (h, e)

  pub export_stop : (room : ℕ) (x : Answer) → threads_answer s t ≡ x → accepted x ≡ false → export_answer s t room ≡ x
  unfolding export_answer
  export_stop room x e h = rw (e, h)

  pub exported_stop : (b : List ℕ) (x : Answer) → threads_answer s t ≡ x → accepted x ≡ false → exported s t b ≡ b
  unfolding exported
  exported_stop b x e h = rw (e, h)

  pub export_then : (room : ℕ) → threads_answer s t ≡ Taken → export_answer s t room ≡ room_answer 4 t s room
  unfolding export_answer
  export_then room e = rw e

  pub exported_then : (b : List ℕ) → threads_answer s t ≡ Taken → exported s t b ≡ put_as 4 t s b
  unfolding exported
  exported_then b e = rw e

-- the tests in front of 17 are passed with Taken
threads_taken : (a : Answer) (b : Bool) → accepted (pick (accepted a) (check (not b) Threads Taken) a) ≡ true → pick (accepted a) (check (not b) Threads Taken) a ≡ Taken
threads_taken a b h = by (accepted a) b refl h
  where
    by : (x y : Bool) → accepted a ≡ x → accepted (pick x (check (not y) Threads Taken) a) ≡ true → pick x (check (not y) Threads Taken) a ≡ Taken
    by true true e h = refl
    by true false e h = no_way (sym h)
    by false y e h = no_way (sym h ∙ e)

front_taken : (s : List ℕ) (t : ℕ) → accepted (threads_answer s t) ≡ true → threads_answer s t ≡ Taken
unfolding threads_answer
front_taken s t h = threads_taken (plain_answer s) (threads_fit t) h

-- what is exported: an image of "UQI" version 1 that is taken, for 1 to 8 threads, and there is room
pub record Exports (s : List ℕ) (t room : ℕ) : Type 0 where
  pub image : accepted (alone_answer s) ≡ true
  pub form : form_in s ≡ 1
  pub threads : threads_fit t ≡ true
  pub front : threads_answer s t ≡ Taken
  pub long : image_size (image_shape (other_of 4 t s)) ≤ room

plain_taken : (s : List ℕ) → accepted (plain_answer s) ≡ true → (accepted (alone_answer s) ≡ true) × (form_in s ≡ 1)
unfolding plain_answer
plain_taken s h =
    let a = acc.check_true (ltb (length s) 10) Length _ refl h in
    let b = acc.check_true (not (eqb (form_in s) 1)) Mark _ refl a.1 in
    (b.1, eqb-true (form_in s) 1 (not-false _ b.0))

pub export_taken : (s : List ℕ) (t room : ℕ) → accepted (export_answer s t room) ≡ true → Exports s t room
unfolding export_answer
export_taken s t room h = by (accepted (plain_answer s)) (threads_fit t) refl refl
  where
    by : (x y : Bool) → accepted (plain_answer s) ≡ x → threads_fit t ≡ y → Exports s t room
    by false y e f = let w = threads_stop s t (plain_answer s) refl e in no_way (sym h ∙ ap accepted (export_stop s t room (plain_answer s) w e) ∙ e)
    by true false e f = let w = threads_no s t e f in no_way (sym h ∙ ap accepted (export_stop s t room Threads w refl))
    by true true e f =
        let w = threads_yes s t e f in
        let p = plain_taken s e in
        record { image = p.0; form = p.1; threads = f; front = w; long = room_is 4 t s room (ap accepted (sym (export_then s t room w)) ∙ h) }

-- A REFUSED CALL WRITES NOTHING
pub import_stays : (s b : List ℕ) → accepted (import_answer s (length b)) ≡ false → imported s b ≡ b
import_stays s b h = by (accepted (desks_answer s)) refl
  where
    by : (x : Bool) → accepted (desks_answer s) ≡ x → imported s b ≡ b
    by false e = imported_refused s b e
    by true e = imported_then s b e ∙ put_none 1 0 s b (ap accepted (sym (import_then s (length b) e)) ∙ h)

pub export_stays : (s : List ℕ) (t : ℕ) (b : List ℕ) → accepted (export_answer s t (length b)) ≡ false → exported s t b ≡ b
export_stays s t b h = by (accepted (threads_answer s t)) refl
  where
    by : (x : Bool) → accepted (threads_answer s t) ≡ x → exported s t b ≡ b
    by false e = exported_stop s t b (threads_answer s t) refl e
    by true e =
        let w = front_taken s t e in
        exported_then s t b w ∙ put_none 4 t s b (ap accepted (sym (export_then s t (length b) w)) ∙ h)
