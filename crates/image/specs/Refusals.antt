-- The order of refusals for an image, and for contents to be written as one; what the two calls give.
use Rattle.std.specs.Prelude.{ℕ, ◌+◌, Bool, true, not, List, length, eqb, ltb, leb}
use Rattle.lists.specs.Find.{pick, both}
use Rattle.lists.specs.Tab.{over}
use Rattle.answer.specs.Answers.{check, accepted, Answer, Taken, Length, Mark, Nodes, Threads, Linked, Twin, NoDummy, Room, Narrow}
use Rattle.image.specs.Form.{known, per_desk, image_size}
use Rattle.image.specs.Layout.{no_contents, no_heads, image_shape, shape_in, image_in, image_bytes}
use Rattle.image.specs.Recovered.{first_unclear, first_twin, dummy_of, head_too_wide, first_too_wide}
use Rattle.image.specs.declared.Image.{Image}
use Rattle.image.specs.declared.Shape.{Shape}

-- 3: N is 2 to 64
abbrev pub nodes_fit : ℕ → Bool
nodes_fit n = both (leb 2 n) (leb n 64)

-- 4: T is 1 to 8
abbrev pub threads_fit : ℕ → Bool
threads_fit t = both (leb 1 t) (leb t 8)

-- of an image that holds T
abbrev pub own_fit : Shape → Bool
own_fit z = pick (per_desk z.form) (threads_fit z.t) true

-- #101: "A schedule may carry such an image where both T agree"
abbrev pub agree : ℕ → Shape → Bool
agree t z = pick (per_desk z.form) (eqb z.t t) true

-- 7, then 8: what a start asks of an image, with what follows
unfoldable pub startable : Image → Answer → Answer
startable g rest =
    check (ltb (first_twin g) g.n) (Twin (first_twin g))
    (check (eqb (dummy_of g) g.n) NoDummy rest)

-- 6, 7, 8
unfoldable pub sound : Image → Answer → Answer
sound g rest = check (ltb (first_unclear g) g.n) (Linked (first_unclear g)) (startable g rest)

-- 20: an index that the form has no room for; "N for the head, the head tested first"
unfoldable pub fitting : Image → Answer → Answer
fitting g rest =
    check (head_too_wide g) (Narrow g.n)
    (check (ltb (first_too_wide g) g.n) (Narrow (first_too_wide g)) rest)

-- 6, 7, 8, 20: contents by value
unfoldable pub whole : Image → Answer → Answer
whole g rest = sound g (fitting g rest)

-- 2, 3; #101: 4 for the image's own T, and "a schedule whose two T differ is 4, right after the image's own 4"; with what follows
abbrev pub shape_answer : ℕ → Shape → Answer → Answer
shape_answer t z rest =
    check (not (known z.form)) Mark
    (check (not (nodes_fit z.n)) Nodes
    (check (not (own_fit z)) Threads (check (not (agree t z)) Threads rest)))

-- 1, 2, 3, 4, 1, 6, 7, 8: an image for t threads, with `more` bytes behind it that its length has to allow for
unfoldable pub image_answer : ℕ → ℕ → List ℕ → Answer
image_answer t more s =
    check (ltb (length s) 10) Length
    (shape_answer t (shape_in s)
    (check (not (eqb (length s) (image_size (shape_in s) + more))) Length
    (sound (image_in s) Taken)))

-- an image alone agrees with itself
unfoldable pub alone_answer : List ℕ → Answer
alone_answer s = image_answer (shape_in s).t 0 s

-- what is handed back beside a refusal
abbrev pub blank_image : Image
blank_image = record { form = 0; n = 0; t = 0; heads = no_heads; nodes = no_contents }

-- what reading an image answers, and the image beside it
pub record Read : Type 0 where
  pub answer : Answer
  pub image : Image

-- an image alone
unfoldable pub read_image : List ℕ → Read
read_image s = record {
  answer = alone_answer s;
  image = pick (accepted (alone_answer s)) (image_in s) blank_image;
}

-- contents to be written into a lent buffer of `room` bytes: an unknown form is 2; then 3, 4, 6, 7, 8, 20, 17
unfoldable pub write_answer : Image → ℕ → Answer
write_answer g room = shape_answer g.t (image_shape g) (whole g (check (ltb room (image_size (image_shape g))) Room Taken))

-- what the lent buffer holds then: the image in its first bytes, the rest as it was; or all as it was
abbrev pub written : Image → List ℕ → List ℕ
written g b = pick (accepted (write_answer g (length b))) (over b 0 (image_bytes g)) b
