-- What the page's code gives.
use Rattle.std.specs.Prelude.{Result, Ok, Err, ℕ, ◌≤◌, ◌≡◌, true, List}
use Rattle.lists.specs.Find.{pick}
use Rattle.answer.specs.Answers.{accepted, Taken}
use Rattle.answer.specs.declared.Refusal.{Refusal}
use Rattle.image.specs.Form.{head_lines}
use Rattle.machine.specs.Line.{shape_of}
use Rattle.schedule.specs.Run.{ran}
use Rattle.page.specs.Refusals.{table_in, table_answer, page_answer, ending_count}
use Rattle.endtable.specs.Tables.{Tables}
use Rattle.runs.specs.Rows.{ats_of, counts_of}
use Rattle.runs.specs.declared.running.Run.{Run}

-- the page is not refused, and these are the machine and the contents of its lines
pub record PageTaken (s : List ℕ) (r : Run) : Type 0 where
  pub answer : Taken ≡ page_answer s
  pub machine : r.machine ≡ (ran s).bench.machine
  pub small : ((ran s).bench.machine.n ≤ 64) × (head_lines (shape_of (ran s).bench.machine) ≤ 8)
  pub tables : Tables (ats_of r.rows) (counts_of r.rows) (table_in s)
  pub limits : accepted (table_answer (table_in s)) ≡ true

-- the page's refusal, or the machine and the contents of its lines
abbrev pub PageIs : List ℕ → Result Run Refusal → Type 0
PageIs s (Ok r) = PageTaken s r
PageIs s (Err e) = Err e ≡ page_answer s

-- the number that the count call gives
unfoldable pub count_of : List ℕ → ℕ
count_of s = pick (accepted (page_answer s)) (ending_count s) 0
