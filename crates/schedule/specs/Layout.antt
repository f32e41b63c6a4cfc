-- The schedule's layout, and its refusals up to the first event.
use Rattle.std.specs.Prelude.{ℕ, ◌+◌, ◌*◌, Bool, true, false, not, List, length, drop, ltb}
use Rattle.lists.specs.Find.{pick}
use Rattle.lists.specs.Tab.{tab}
use Rattle.answer.specs.Answers.{check, accepted, Answer, Length, Mark, Threads, Events}
use Rattle.image.specs.Bytes.{at1, at2, at4}
use Rattle.image.specs.Form.{image_size}
use Rattle.image.specs.Layout.{marked, form_in, image_in}
use Rattle.image.specs.Refusals.{threads_fit, image_answer, blank_image}
use Rattle.image.specs.declared.Image.{Image}
use Rattle.image.specs.declared.Shape.{Shape}
use Rattle.machine.specs.declared.Event.{Event}
use Rattle.schedule.specs.declared.Schedule.{Schedule}

-- mark "UQ" with a third letter z, version 1; T; the event count; one image; then the events
abbrev pub is_file : ℕ → List ℕ → Bool
is_file z = marked 85 81 z 1

-- a schedule's mark is "UQS"
abbrev pub is_schedule : List ℕ → Bool
is_schedule = is_file 83

abbrev pub threads_in : List ℕ → ℕ
threads_in s = at1 s 5

abbrev pub count_in : List ℕ → ℕ
count_in s = at2 s 6

abbrev pub image_part : List ℕ → List ℕ
image_part s = drop 8 s

unfoldable pub schedule_in : List ℕ → Schedule
schedule_in s = record { t = threads_in s; count = count_in s; image = image_in (image_part s) }

-- an event's six bytes: kind, number, item
abbrev pub event_from : List ℕ → ℕ → Event
event_from s at = record { kind = at1 s at; number = at1 s (at + 1); item = at4 s (at + 2) }

-- where event i of a file with w bytes an event begins whose image has shape z; of a schedule
abbrev pub place_in : ℕ → Shape → ℕ → ℕ
place_in w z i = 8 + image_size z + i * w

abbrev pub event_place : Shape → ℕ → ℕ
event_place = place_in 6

abbrev pub nodes_in : List ℕ → ℕ
nodes_in s = at1 (image_part s) 5

-- the shape of its machine: the form and N of its image, and T
abbrev pub schedule_shape : List ℕ → Shape
schedule_shape s = record { form = form_in (image_part s); n = nodes_in s; t = threads_in s }

abbrev pub event_in : List ℕ → ℕ → Event
event_in s i = event_from s (event_place (schedule_shape s) i)

unfoldable pub events_in : List ℕ → List Event
events_in s = tab (event_in s) (count_in s)

-- 1, 2, 4, 5, then the image, for T threads, whose length allows for w bytes an event: 1, 2, 3, 4, 1, 6, 7, 8
abbrev pub file_answer : ℕ → ℕ → List ℕ → Answer
file_answer z w s =
    check (ltb (length s) 8) Length
    (check (not (is_file z s)) Mark
    (check (not (threads_fit (threads_in s))) Threads
    (check (ltb 4096 (count_in s)) Events (image_answer (threads_in s) (count_in s * w) (image_part s)))))

-- a schedule has six bytes an event
unfoldable pub schedule_answer : List ℕ → Answer
schedule_answer s = file_answer 83 6 s

-- what is handed back beside a refusal
abbrev pub blank_schedule : Schedule
blank_schedule = record { t = 0; count = 0; image = blank_image }

-- what reading a schedule up to its events gives: on a refusal the schedule is the blank one
pub record Opened : Type 0 where
  pub answer : Answer
  pub schedule : Schedule

-- what reading a file up to its events gives, by its answer
abbrev pub read_by : Answer → List ℕ → Opened
read_by a s = record {
  answer = a;
  schedule = pick (accepted a) (schedule_in s) blank_schedule;
}

-- a schedule read up to its events
unfoldable pub read_schedule : List ℕ → Opened
read_schedule s = read_by (schedule_answer s) s
