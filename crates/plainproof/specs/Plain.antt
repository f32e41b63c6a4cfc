-- The plain way to a page: "for each line pick nothing, or one write-back moment (just after the last start or any later event), run the schedule with just those
-- added, and note the image left. Picks run in order of time, nothing first, line 0 slowest."
use Rattle.std.specs.Prelude.{ℕ, zero, suc, ◌+◌, ◌-◌, Bool, true, false, List, map, get_or, replicate, eqb}
use Rattle.lists.specs.Find.{pick}
use Rattle.lists.specs.Tab.{tab}
use Rattle.image.specs.declared.Image.{Image}
use Rattle.machine.specs.Line.{line_count}
use Rattle.machine.specs.Event.{deed_of, done}
use Rattle.machine.specs.declared.Machine.{Machine}
use Rattle.machine.specs.declared.Event.{Event}
use Rattle.machine.specs.declared.Acted.{Acted}
use Rattle.schedule.specs.Layout.{count_in, event_in, schedule_shape}
use Rattle.schedule.specs.Run.{Bench}
use Rattle.schedule.specs.Running.{bench_to}
use Rattle.lawful.specs.Added.{write_back}
use Rattle.lawful.specs.Demand3.{image_left}
use Rattle.plainproof.specs.Once.{once, choices_of, same_image}

-- ---- the last start, and the events since

-- how many of the first i events f 0, f 1, .. stand up to the last start: those up to the last crash (kind 5), none where there is none
unfoldable pub start_at : (ℕ → Event) → ℕ → ℕ
start_at f zero = 0
start_at f (suc i) = pick (eqb (f i).kind 5) (suc i) (start_at f i)

unfoldable pub last_start : List ℕ → ℕ
last_start s = start_at (event_in s) (count_in s)

-- the machine there; how many events are since, and event r of them
unfoldable pub start_machine : List ℕ → Machine
start_machine s = (bench_to s (last_start s)).machine

unfoldable pub since_count : List ℕ → ℕ
since_count s = count_in s - last_start s

abbrev pub event_since : List ℕ → ℕ → Event
event_since s r = event_in s (r + last_start s)

-- ---- a run with write-backs added

-- "19 is not given for an added write-back, nor for a recorded one that an added one made needless": an event is done, whatever it would be refused by
abbrev pub played : Machine → Event → Machine
played m e = (done m e (deed_of e.kind)).machine

-- a line's pick: 0 is nothing, suc r is moment r; moment 0 is just after the last start, moment r just after the r-th event since. In order of time, nothing first
abbrev pub picks_of : ℕ → List ℕ
picks_of e = tab (λ p. p) (suc (suc e))

-- m with the write-backs that π, a pick a line, has for moment r, those of the first n lines
unfoldable pub backed : List ℕ → ℕ → Machine → ℕ → Machine
backed π r m zero = m
backed π r m (suc j) = let x = backed π r m j in pick (eqb (get_or π j 0) (suc r)) (played x (write_back j)) x

-- the machine at moment r of the run with the picks π added: n lines, m is the machine at the start, f 0, f 1, .. are the events since
unfoldable pub played_at : List ℕ → ℕ → Machine → (ℕ → Event) → ℕ → Machine
played_at π n m f zero = backed π 0 m n
played_at π n m f (suc r) = backed π (suc r) (played (played_at π n m f r) (f r)) n

-- ---- the images

-- how many lines a schedule's machine has
abbrev pub lines_in : List ℕ → ℕ
lines_in s = line_count (schedule_shape s)

-- "run the schedule with just those added, and note the image left"
unfoldable pub left_by : List ℕ → List ℕ → Image
left_by s π = image_left (played_at π (lines_in s) (start_machine s) (event_since s) (since_count s))

-- every pick of every line, line 0 slowest
abbrev pub picks_in : List ℕ → List (List ℕ)
picks_in s = choices_of (replicate (lines_in s) (picks_of (since_count s)))

-- "With repeats after the first dropped"
unfoldable pub plain_images : List ℕ → List Image
plain_images s = once same_image (map (left_by s) (picks_in s))
