-- Demand 3, as types about the bytes of a schedule and the run of its events.
use Rattle.std.specs.Prelude.{ℕ, ◌<◌, ◌≡◌, Bool, true, false, List, [], ◌↔◌, length, get_or}
use Rattle.answer.specs.Answers.{accepted, Answer}
use Rattle.image.specs.Layout.{content_at, no_contents, head_in, heads_of}
use Rattle.image.specs.declared.Image.{Image}
use Rattle.lists.specs.Tab.{front}
use Rattle.machine.specs.Line.{shape_of, line_count, persisted}
use Rattle.machine.specs.Start.{start_answer, start_of, blank_machine}
use Rattle.machine.specs.declared.Machine.{Machine}
use Rattle.machine.specs.declared.Event.{Event}
use Rattle.schedule.specs.Layout.{schedule_in, events_in, threads_in, schedule_shape}
use Rattle.schedule.specs.Run.{Bench, Ran, run, ran, opened}
use Rattle.page.specs.Refusals.{page_answer, ending_count, ending_in}
use Rattle.lawful.specs.Operation.{operations}
use Rattle.lawful.specs.Plain.{queue_in}
use Rattle.lawful.specs.Lawful.{Lawful}
use Rattle.lawful.specs.Added.{AddsLate}

-- a list of bytes
abbrev pub Bytes : List ℕ → Type 0
Bytes s = (i : ℕ) → get_or s i 0 < 256

-- the run of any list of events from the schedule's start; `ran s` is that of its own events
abbrev pub run_of : List ℕ → List Event → Ran
run_of s l = run 0 (opened (schedule_in s)) l

-- the image that the machine's persisted copies are
abbrev pub image_left : Machine → Image
image_left m = record {
  form = m.form;
  n = m.n;
  t = (persisted m).t;
  heads = heads_of (shape_of m) (head_in (persisted m));
  nodes = front (content_at (persisted m).nodes) m.n no_contents;
}

-- the image is left by some run with write-backs added after the last start: accepted, its recorded events answering as they did.
-- "demand 3 adds write-backs of changed lines only, none that makes a recorded one clean" (request 102): in an accepted run 19 refuses no write-back, so each one,
-- added or recorded, is of a line that is not clean when its turn comes
pub record Leaves (s : List ℕ) (g : Image) : Type 0 where
  pub events : List Event
  pub taken : accepted (run_of s events).answer ≡ true
  pub added : AddsLate (line_count (schedule_shape s)) (events_in s) (ran s).replies events (run_of s events).replies
  pub left : image_left (run_of s events).bench.machine ≡ g

-- the first half: a page that is not refused holds each image that a crash can leave, once, and no other
abbrev pub PageHolds : List ℕ → Type 0
PageHolds s =
    ((g : Image) → ((k : ℕ) × (k < ending_count s) × (ending_in s k ≡ g)) ↔ Leaves s g)
    × ((j k : ℕ) → j < ending_count s → k < ending_count s → ending_in s j ≡ ending_in s k → j ≡ k)

-- the queue at the last start
abbrev pub first_queue : List ℕ → List ℕ
first_queue s = queue_in (get_or (ran s).bench.past 0 blank_machine)

-- the second half: each ending recovers, and to a lawful queue
pub record Recovers (s : List ℕ) (g : Image) : Type 0 where
  pub starts : accepted (start_answer g (threads_in s)) ≡ true
  pub lawful : Lawful (operations 0 (events_in s) (ran s).replies []) (first_queue s) (queue_in (start_of g (threads_in s)))

abbrev pub PageLawful : List ℕ → Type 0
PageLawful s = (k : ℕ) → k < ending_count s → Recovers s (ending_in s k)

-- demand 3, for every byte string
abbrev pub Demand3 : Type 0
Demand3 = (s : List ℕ) → Bytes s → accepted (page_answer s) ≡ true → PageHolds s × PageLawful s
