-- What the plain way answers for a schedule, and what it leaves in a lent buffer.
use Rattle.std.specs.Prelude.{ℕ, ◌*◌, Bool, true, false, List, [], ◌∷◌, ◌++◌, length, ltb}
use Rattle.lists.specs.Find.{pick}
use Rattle.lists.specs.Tab.{over}
use Rattle.answer.specs.Answers.{check, accepted, Answer, Taken, Endings, Room}
use Rattle.image.specs.Form.{image_size}
use Rattle.image.specs.Layout.{image_bytes}
use Rattle.image.specs.declared.Image.{Image}
use Rattle.schedule.specs.Layout.{count_in, nodes_in, schedule_shape}
use Rattle.page.specs.Refusals.{page_answer}
use Rattle.plainproof.specs.Plain.{lines_in, plain_images}

-- "for every schedule of at most 12 events, 4 nodes and 6 lines": any one of the three passed
abbrev pub too_large : List ℕ → Bool
too_large s = pick (ltb 12 (count_in s)) true (pick (ltb 4 (nodes_in s)) true (ltb 6 (lines_in s)))

-- the bytes that all of its images take
abbrev pub plain_room : List ℕ → ℕ
plain_room s = length (plain_images s) * image_size (schedule_shape s)

-- "larger ones get 15, place 0, after all others but 16 and 17"; 17 where the images do not all fit. No ending is named, so 16 has no place
unfoldable pub plain_answer : List ℕ → ℕ → Answer
plain_answer s room = elim (accepted (page_answer s)) [
  | true ↦ check (too_large s) Endings (check (ltb room (plain_room s)) Room Taken)
  | false ↦ page_answer s
]

-- how many images; none on a refusal
unfoldable pub plain_count : List ℕ → ℕ → ℕ
plain_count s room = elim (accepted (plain_answer s room)) [ true ↦ length (plain_images s) | false ↦ 0 ]

-- the images one after the other
unfoldable pub all_bytes : List Image → List ℕ
all_bytes [] = []
all_bytes (g ∷ l) = image_bytes g ++ all_bytes l

-- what the lent buffer holds then: the bytes behind the images stay, and on a refusal all of them
unfoldable pub plain_written : List ℕ → List ℕ → List ℕ
plain_written s b = elim (accepted (plain_answer s (length b))) [ true ↦ over b 0 (all_bytes (plain_images s)) | false ↦ b ]
