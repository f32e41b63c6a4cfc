-- The mender on bytes: its refusals in their order, and what the two lent buffers hold then.
use Rattle.std.specs.Prelude.{ℕ, ◌*◌, List, length, ltb}
use Rattle.lists.specs.Find.{pick}
use Rattle.lists.specs.Tab.{over}
use Rattle.answer.specs.Answers.{check, accepted, Answer, Taken, Length, Mark, Room}
use Rattle.image.specs.Form.{per_desk, image_size}
use Rattle.image.specs.Layout.{form_in, shape_in, image_in, image_bytes}
use Rattle.codec.specs.Parts.{shape}
use Rattle.mending.specs.Mended.{mended, changed, changes}

-- the mended image, and the list of the nodes that were changed
unfoldable pub mend_bytes : List ℕ → List ℕ
mend_bytes s = image_bytes (mended (image_in s))

unfoldable pub mend_list : List ℕ → List ℕ
mend_list s = changes (image_in s) (shape_in s).n

-- how many were changed: the list has two bytes for each
unfoldable pub mend_changed : List ℕ → ℕ
mend_changed s = changed (image_in s) (shape_in s).n

-- "Refusals: 1, 2, 3, 1", with what follows. A mark that is none of an image with a mender is 2, "UQP" too
unfoldable pub mend_shape : List ℕ → Answer → Answer
mend_shape s rest = check (ltb (length s) 10) Length (check (per_desk (form_in s)) Mark (shape 0 0 s rest))

-- "then 17", with `room` bytes for the image and `listed` for the list
unfoldable pub mend_answer : List ℕ → ℕ → ℕ → Answer
mend_answer s room listed =
    mend_shape s
    (check (ltb room (image_size (shape_in s))) Room
    (check (ltb listed (mend_changed s * 2)) Room Taken))

-- the number of changed nodes; 0 beside a refusal
unfoldable pub mend_count : List ℕ → ℕ → ℕ → ℕ
mend_count s room listed = pick (accepted (mend_answer s room listed)) (mend_changed s) 0

-- the mended image in the first bytes of b, the list in the first bytes of l; or both as they were: "nothing written"
unfoldable pub mend_written : List ℕ → List ℕ → List ℕ → List ℕ
mend_written s b l = pick (accepted (mend_answer s (length b) (length l))) (over b 0 (mend_bytes s)) b

unfoldable pub list_written : List ℕ → List ℕ → List ℕ → List ℕ
list_written s b l = pick (accepted (mend_answer s (length b) (length l))) (over l 0 (mend_list s)) l
