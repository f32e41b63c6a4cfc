-- The printed page line by line, and how many of its lines a lent buffer takes.
use Rattle.std.specs.Prelude.{ℕ, zero, suc, ◌+◌, ◌-◌, Bool, true, false, List, [], length, ltb}
use Rattle.lists.specs.Tab.{joined, over}
use Rattle.answer.specs.Answers.{check, accepted, Answer, Taken, NoEnding, Room}
use Rattle.schedule.specs.Layout.{threads_in, nodes_in, count_in}
use Rattle.page.specs.Printed.{first_line, ending_line}
use Rattle.page.specs.Refusals.{page_answer, ending_count, ending_in}

-- ---- lines in general: f gives each line by its number

-- c lines from line k on, joined
unfoldable pub lines_on : (ℕ → List ℕ) → ℕ → ℕ → List ℕ
lines_on f k c = joined (λ i. f (k + i)) c

-- how many of the c lines from line k on go whole into `room` bytes, one behind the other
unfoldable pub fitting : (ℕ → List ℕ) → ℕ → ℕ → ℕ → ℕ
fitting f k zero room = 0
fitting f k (suc c) room = elim (ltb room (length (f k))) [ true ↦ 0 | false ↦ suc (fitting f (suc k) c (room - length (f k))) ]

-- ---- the lines of a page that is not refused

-- line 0 is the first line, line k + 1 is that of ending k
unfoldable pub page_line : List ℕ → ℕ → List ℕ
page_line s zero = first_line (threads_in s) (nodes_in s) (count_in s) (ending_count s)
page_line s (suc k) = ending_line k (ending_in s k)

-- how many lines there are from line k on
unfoldable pub lines_left : List ℕ → ℕ → ℕ
lines_left s k = suc (ending_count s) - k

-- ---- as many lines as fit from line k on, into a lent buffer of `room` bytes

-- the page's refusals; then 16 where there is no line k, 17 where not even line k fits
unfoldable pub lines_answer : List ℕ → ℕ → ℕ → Answer
lines_answer s k room = elim (accepted (page_answer s)) [
  | true ↦ check (ltb (ending_count s) k) NoEnding (check (ltb room (length (page_line s k))) Room Taken)
  | false ↦ page_answer s
]

-- how many lines are written, and their bytes; none on a refusal
unfoldable pub lines_taken : List ℕ → ℕ → ℕ → ℕ
lines_taken s k room = elim (accepted (lines_answer s k room)) [ true ↦ fitting (page_line s) k (lines_left s k) room | false ↦ 0 ]

unfoldable pub lines_bytes : List ℕ → ℕ → ℕ → List ℕ
lines_bytes s k room = lines_on (page_line s) k (lines_taken s k room)

-- what the lent buffer holds then: the bytes behind the lines stay, and on a refusal all of them
unfoldable pub lines_written : List ℕ → ℕ → List ℕ → List ℕ
lines_written s k b = over b 0 (lines_bytes s k (length b))
