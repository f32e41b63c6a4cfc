-- Request 107: an image written in the other version, there and back.
use Rattle.std.specs.Prelude.{ℕ, not, List, length, eqb, ltb}
use Rattle.lists.specs.Find.{pick}
use Rattle.lists.specs.Tab.{over}
use Rattle.answer.specs.Answers.{check, accepted, Answer, Taken, Length, Mark, Room}
use Rattle.image.specs.Form.{image_size}
use Rattle.image.specs.Layout.{in_form, image_shape, form_in, image_in, image_bytes}
use Rattle.image.specs.Refusals.{fitting, alone_answer}

-- the image that the bytes hold, as bytes in form f: the same contents
unfoldable pub bytes_in : ℕ → List ℕ → List ℕ
bytes_in f s = image_bytes (in_form f (image_in s))

-- and how many they are
abbrev pub size_in : ℕ → List ℕ → ℕ
size_in f s = image_size (image_shape (in_form f (image_in s)))

-- an image in form f to be written in form f' into a lent buffer of `room` bytes. Fewer than 10 bytes are 1, another form, "UQP" too, is 2; then an image's own
-- refusals, 3, 1, 6, 7, 8; then 20, which "stands after 8 and before 17"; 17 goes by the form that is written
unfoldable pub convert_answer : ℕ → ℕ → List ℕ → ℕ → Answer
convert_answer f f' s room =
    check (ltb (length s) 10) Length
    (check (not (eqb (form_in s) f)) Mark
    (pick (accepted (alone_answer s))
    (fitting (in_form f' (image_in s)) (check (ltb room (size_in f' s)) Room Taken))
    (alone_answer s)))

-- what the lent buffer holds then: the image in its first bytes, the rest as it was; or all as it was
unfoldable pub converted : ℕ → ℕ → List ℕ → List ℕ → List ℕ
converted f f' s b = pick (accepted (convert_answer f f' s (length b))) (over b 0 (bytes_in f' s)) b

-- "Version 1 converts to 2 always"
abbrev pub widen_answer : List ℕ → ℕ → Answer
widen_answer = convert_answer 1 2

abbrev pub widened : List ℕ → List ℕ → List ℕ
widened = converted 1 2

-- "2 to 1 when head and every index fit"
abbrev pub narrow_answer : List ℕ → ℕ → Answer
narrow_answer = convert_answer 2 1

abbrev pub narrowed : List ℕ → List ℕ → List ℕ
narrowed = converted 2 1
