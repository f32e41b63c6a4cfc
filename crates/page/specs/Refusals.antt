-- The refusals of a page and of one ending, after those of the schedule and of its events: 14, 15; then 16, 17.
use Rattle.std.specs.Prelude.{ℕ, Bool, true, false, List, [], length, get_or, ltb, leb}
use Rattle.lists.specs.Find.{pick, least}
use Rattle.lists.specs.Tab.{over}
use Rattle.answer.specs.Answers.{check, accepted, Answer, Taken, Contents, Endings, NoEnding, Room}
use Rattle.image.specs.Form.{image_size}
use Rattle.image.specs.Layout.{image_bytes}
use Rattle.image.specs.declared.Content.{Content}
use Rattle.image.specs.declared.Image.{Image}
use Rattle.machine.specs.Line.{shape_of}
use Rattle.schedule.specs.Layout.{schedule_answer}
use Rattle.schedule.specs.Run.{Bench, Ran, ran}
use Rattle.page.specs.Contents.{table_of}
use Rattle.page.specs.Endings.{product, ending}

-- what follows a call that was taken; a refusal stays
abbrev pub and_then : Answer → Answer → Answer
and_then a rest = elim (accepted a) [ true ↦ rest | false ↦ a ]

-- the table of contents at the schedule's end
unfoldable pub table_in : List ℕ → List (List Content)
table_in s = table_of (ran s).bench

-- the first line that has more than 16 contents; their number where none has
unfoldable pub first_crowded : List (List Content) → ℕ
first_crowded table = least (λ l. ltb 16 (length (get_or table l []))) (length table) 0

-- 14, 15
unfoldable pub table_answer : List (List Content) → Answer
table_answer table =
    check (ltb (first_crowded table) (length table)) (Contents (first_crowded table))
    (check (ltb 65536 (product table)) Endings Taken)

-- a schedule's page: its bytes, its events in turn, then 14, 15
unfoldable pub page_answer : List ℕ → Answer
page_answer s = elim (accepted (schedule_answer s)) [
  | true ↦ elim (accepted (ran s).answer) [ true ↦ table_answer (table_in s) | false ↦ (ran s).answer ]
  | false ↦ schedule_answer s
]

-- how many endings it has
unfoldable pub ending_count : List ℕ → ℕ
ending_count s = product (table_in s)

-- ending number k, in the shape that the machine has
unfoldable pub ending_in : List ℕ → ℕ → Image
ending_in s k = ending (shape_of (ran s).bench.machine) (table_in s) k

-- one ending, into a lent buffer of `room` bytes: then 16, 17
unfoldable pub ending_answer : List ℕ → ℕ → ℕ → Answer
ending_answer s k room = elim (accepted (page_answer s)) [
  | true ↦ check (leb (ending_count s) k) NoEnding (check (ltb room (image_size (shape_of (ran s).bench.machine))) Room Taken)
  | false ↦ page_answer s
]

-- what the lent buffer holds then
unfoldable pub ending_written : List ℕ → ℕ → List ℕ → List ℕ
ending_written s k b = elim (accepted (ending_answer s k (length b))) [
  | true ↦ over b 0 (image_bytes (ending_in s k))
  | false ↦ b
]
