-- The page's lines from the table that the code keeps, and the line of a refusal.
use Rattle.std.specs.Prelude.{ℕ, zero, suc, ◌≤◌, ◌≡◌, true, List, length, ltb, Result, Ok, Err}
use Rattle.lists.specs.Tab.{over}
use Rattle.answer.specs.declared.Refusal.{Refusal}
use Rattle.answer.specs.Answers.{told, check, accepted, Answer, Taken, Room}
use Rattle.image.specs.declared.Content.{Content}
use Rattle.image.specs.declared.Shape.{Shape}
use Rattle.page.specs.Printed.{first_line}
use Rattle.page.specs.Refusals.{page_answer, ending_count}
use Rattle.page.specs.Filled.{lines_taken, lines_bytes}
use Rattle.filling.specs.declared.calls.Lines.{Lines}
use Rattle.printing.specs.Bounds.{line_room}
use Rattle.printing.specs.Lines.{line_from, refused_text, if_fits}

-- line 0 is the first line, line k + 1 is that of ending k: the table t with its counts, the shape, T, the event count and the ending count
unfoldable pub table_line : List (List Content) → List ℕ → Shape → ℕ → ℕ → ℕ → ℕ → List ℕ
table_line t cs z threads events count zero = first_line threads z.n events count
table_line t cs z threads events count (suc k) = line_from t cs z k

-- how many lines the call writes, and how many bytes they are
abbrev pub lines_said : List ℕ → ℕ → ℕ → Lines
lines_said s k room = record { lines = lines_taken s k room; bytes = length (lines_bytes s k room) }

-- the answer of a call that gives a value: number and place are its `told`
abbrev pub answered : {A : Type 0} → Result A Refusal → Answer
answered (Ok x) = Taken
answered (Err e) = Err e

-- a buffer with room for the longest line takes line k, where the page is not refused and has that line
abbrev pub TakesOne : List ℕ → ℕ → ℕ → Answer → Type 0
TakesOne s k room a = accepted (page_answer s) ≡ true → k ≤ ending_count s → line_room 64 ≤ room → told a ≡ told Taken

-- ---- the line of a refusal, into a lent buffer of `room` bytes

-- 17 where it does not fit
unfoldable pub refusal_answer : ℕ → ℕ → ℕ → Answer
refusal_answer number place room = check (ltb room (length (refused_text number place))) Room Taken

unfoldable pub refusal_bytes : ℕ → ℕ → ℕ → List ℕ
refusal_bytes number place room = if_fits room (refused_text number place)

-- what the lent buffer holds then
unfoldable pub refusal_written : ℕ → ℕ → List ℕ → List ℕ
refusal_written number place b = over b 0 (refusal_bytes number place (length b))
