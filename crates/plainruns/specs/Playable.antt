-- What the runs of the plain way need.
use Rattle.std.specs.Prelude.{ℕ, ◌<◌, ◌≤◌, ◌≡◌, true, List, ◌≢◌}
use Rattle.answer.specs.Answers.{accepted}
use Rattle.machine.specs.Line.{shape_of, line_count}
use Rattle.machine.specs.Event.{crashes, deed_of}
use Rattle.machine.specs.declared.Machine.{Machine}
use Rattle.machine.specs.declared.Event.{Event}
use Rattle.page.specs.Refusals.{page_answer}
use Rattle.steps.specs.Ready.{Ready}
use Rattle.plainproof.specs.Plain.{last_start, start_machine, since_count}
use Rattle.plainruns.specs.declared.Plan.{Plan}

-- the machine's tables have places for all its lines, its sets for all its threads
pub record Small (m : Machine) : Type 0 where
  pub nodes : m.n ≤ 64
  pub threads : m.t ≤ 8

-- an event that is no crash, its thread or line one that there is, and the thread ready for its step
pub record Playable (m : Machine) (e : Event) : Type 0 where
  pub small : Small m
  pub free : deed_of e.kind ≢ crashes
  pub enqueue : e.kind ≡ 1 → e.number < 8
  pub dequeue : e.kind ≡ 2 → e.number < 8
  pub step : e.kind ≡ 3 → Ready m e.number
  pub line : e.kind ≡ 4 → e.number < line_count (shape_of m)

-- p is the schedule s taken apart: the machine at the last start, the number of the first event since, and how many there are
pub record Planned (s : List ℕ) (p : Plan) : Type 0 where
  pub taken : accepted (page_answer s) ≡ true
  pub machine : p.machine ≡ start_machine s
  pub at : p.at ≡ last_start s
  pub since : p.since ≡ since_count s
