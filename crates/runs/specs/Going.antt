-- A run on its way, and a run that has come to its end.
use Rattle.std.specs.Prelude.{Result, Ok, Err, ℕ, ◌≤◌, ◌≡◌, true, List, drop}
use Rattle.answer.specs.Answers.{accepted, Taken}
use Rattle.answer.specs.declared.Refusal.{Refusal}
use Rattle.image.specs.Form.{head_lines}
use Rattle.machine.specs.Line.{shape_of}
use Rattle.machine.specs.declared.Machine.{Machine}
use Rattle.schedule.specs.Layout.{events_in}
use Rattle.schedule.specs.Run.{run, ran}
use Rattle.schedule.specs.Running.{bench_to, ran_to}
use Rattle.page.specs.Refusals.{table_in}
use Rattle.endtable.specs.Tables.{Tables}
use Rattle.endtable.specs.Benches.{Stands}
use Rattle.runs.specs.Rows.{ats_of, counts_of}
use Rattle.endtable.specs.declared.row.Row.{Row}
use Rattle.runs.specs.declared.running.Run.{Run}

-- the first i events were taken, and left the machine m, the rows of the lines and those since the flushes; what is left of the run gives what the whole run gives
pub record Going (s : List ℕ) (i : ℕ) (m : Machine) (rows since : List Row) : Type 0 where
  pub stands : Stands (bench_to s i) m (ats_of rows) (counts_of rows) since
  pub taken : accepted (ran_to s i).answer ≡ true
  pub come : (ran_to s i).bench ≡ bench_to s i
  pub answer : (ran s).answer ≡ (run i (bench_to s i) (drop i (events_in s))).answer
  pub bench : (ran s).bench ≡ (run i (bench_to s i) (drop i (events_in s))).bench

-- no event of the schedule is refused, and these are the machine behind the last one and the contents of its lines
pub record RunTaken (s : List ℕ) (r : Run) : Type 0 where
  pub answer : Taken ≡ (ran s).answer
  pub machine : r.machine ≡ (ran s).bench.machine
  pub small : (r.machine.n ≤ 64) × (head_lines (shape_of r.machine) ≤ 8)
  pub tables : Tables (ats_of r.rows) (counts_of r.rows) (table_in s)

-- what the code's run of a schedule gives: the run's refusal, or, where no event is refused, its machine and the contents of its lines
abbrev pub RunIs : List ℕ → Result Run Refusal → Type 0
RunIs s (Ok r) = RunTaken s r
RunIs s (Err e) = Err e ≡ (ran s).answer
