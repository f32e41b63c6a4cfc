-- What the call on one line returns, and what it leaves in the lent bytes.
use Rattle.std.specs.Prelude.{ℕ, ◌*◌, Bool, true, false, List, length, ltb}
use Rattle.lists.specs.Find.{pick}
use Rattle.lists.specs.Tab.{joined, over}
use Rattle.answer.specs.Answers.{told, check, accepted, Answer, Taken, Room}
use Rattle.image.specs.Bytes.{le}
use Rattle.image.specs.Form.{head_lines}
use Rattle.image.specs.Layout.{content_at, body_bytes}
use Rattle.image.specs.declared.Content.{Content}
use Rattle.schedule.specs.Layout.{schedule_shape}
use Rattle.page.specs.Refusals.{and_then}
use Rattle.pages.specs.Lines.{line_answer, line_in}
use Rattle.calls.specs.Packed.{packed}

unfoldable pub index_bytes : List Content → ℕ → List ℕ
index_bytes c n = joined (λ j. le 8 (content_at c j).index) n

-- "for line 0 the head index", #101: for each thread's line its index, "for a node its linked flag, index and item", with indices of 64 bits whatever the schedule's image has (as
-- version 2 has them): the first n contents of a head line, or of a node's
abbrev pub parts_of : Bool → List Content → ℕ → List ℕ
parts_of true c n = index_bytes c n
parts_of false c n = body_bytes 2 c n

-- how many bytes these are
abbrev pub room_of : Bool → ℕ → ℕ
room_of true n = n * 8
room_of false n = n * 13

-- the contents of line l, the oldest first
unfoldable pub line_bytes : List ℕ → ℕ → List ℕ
line_bytes s l = parts_of (ltb l (head_lines (schedule_shape s))) (line_in s l) (length (line_in s l))

-- the line's own refusals; then 17
unfoldable pub line_answered : List ℕ → ℕ → ℕ → Answer
line_answered s l room = and_then (line_answer s l) (check (ltb room (length (line_bytes s l))) Room Taken)

-- the value is how many contents there are
abbrev pub line_given : List ℕ → ℕ → ℕ → ℕ
line_given s l room = packed (told (line_answered s l room)) (length (line_in s l))

unfoldable pub line_written : List ℕ → ℕ → List ℕ → List ℕ
line_written s l b = pick (accepted (line_answered s l (length b))) (over b 0 (line_bytes s l)) b
