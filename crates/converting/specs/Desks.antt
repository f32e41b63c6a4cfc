-- Request 101: "a way to and from its image": "UQP", one head index per desk, from and to "UQI" version 1.
use Rattle.std.specs.Prelude.{ℕ, ◌≤◌, ◌≡◌, true, not, List, length, eqb, ltb}
use Rattle.lists.specs.Find.{pick}
use Rattle.lists.specs.Tab.{over}
use Rattle.answer.specs.Answers.{check, accepted, Answer, Taken, Length, Mark, Threads, Room}
use Rattle.image.specs.Form.{known, image_size}
use Rattle.image.specs.Layout.{heads_of, image_shape, form_in, shape_in, image_in, image_bytes}
use Rattle.image.specs.Recovered.{head_of}
use Rattle.image.specs.Refusals.{threads_fit, shape_answer, sound, alone_answer}
use Rattle.image.specs.declared.Image.{Image}
use Rattle.codec.specs.Parts.{Lies}

-- the contents of g in form f for t threads, with its head index in every head line
abbrev pub reheaded : ℕ → ℕ → Image → Image
reheaded f t g = record {
  form = f;
  n = g.n;
  t = t;
  heads = heads_of (record { form = f; n = g.n; t = t }) (λ k. head_of g);
  nodes = g.nodes;
}

-- "Import sets the head to the largest"; in "UQI" version 1 no T is held
abbrev pub import_of : Image → Image
import_of = reheaded 1 0

-- "export writes the head T times"
abbrev pub export_of : ℕ → Image → Image
export_of = reheaded 4

-- ---- written into a lent buffer of `room` bytes

-- an image lies in the bytes, and can be written so
pub record Leaves (s : List ℕ) (f t : ℕ) : Type 0 where
  pub lies : Lies s (shape_in s)
  pub form : known f ≡ true
  pub threads : t ≤ 8

abbrev pub other_of : ℕ → ℕ → List ℕ → Image
other_of f t s = reheaded f t (image_in s)

-- 17 goes by the form that is written
unfoldable pub room_answer : ℕ → ℕ → List ℕ → ℕ → Answer
room_answer f t s room = check (ltb room (image_size (image_shape (other_of f t s)))) Room Taken

-- the image in the first bytes, the rest as it was; or all as it was
unfoldable pub put_as : ℕ → ℕ → List ℕ → List ℕ → List ℕ
put_as f t s b = pick (accepted (room_answer f t s (length b))) (over b 0 (image_bytes (other_of f t s))) b

-- ---- import

-- "import in the order 1 (fewer than 7 bytes), 2, 3, 4, 1, 6, 7, 8": 2 is anything but "UQP" version 1
unfoldable pub desks_answer : List ℕ → Answer
desks_answer s =
    check (ltb (length s) 7) Length
    (check (not (eqb (shape_in s).form 4)) Mark
    (shape_answer (shape_in s).t (shape_in s)
    (check (not (eqb (length s) (image_size (shape_in s)))) Length (sound (image_in s) Taken))))

-- then 17
unfoldable pub import_answer : List ℕ → ℕ → Answer
import_answer s room = pick (accepted (desks_answer s)) (room_answer 1 0 s room) (desks_answer s)

unfoldable pub imported : List ℕ → List ℕ → List ℕ
imported s b = pick (accepted (desks_answer s)) (put_as 1 0 s b) b

-- ---- export

-- "in 01's order for an image": fewer than 10 bytes are 1, anything but "UQI" version 1 is 2; 3, 1, 6, 7, 8
unfoldable pub plain_answer : List ℕ → Answer
plain_answer s =
    check (ltb (length s) 10) Length
    (check (not (eqb (form_in s) 1)) Mark (alone_answer s))

-- "then 4", T is 1 to 8; "then 17"
unfoldable pub threads_answer : List ℕ → ℕ → Answer
threads_answer s t = pick (accepted (plain_answer s)) (check (not (threads_fit t)) Threads Taken) (plain_answer s)

unfoldable pub export_answer : List ℕ → ℕ → ℕ → Answer
export_answer s t room = pick (accepted (threads_answer s t)) (room_answer 4 t s room) (threads_answer s t)

unfoldable pub exported : List ℕ → ℕ → List ℕ → List ℕ
exported s t b = pick (accepted (threads_answer s t)) (put_as 4 t s b) b
