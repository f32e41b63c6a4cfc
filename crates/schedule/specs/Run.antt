-- A run: a machine with what has been since its last start, and the events in turn up to the first that is refused.
use Rattle.std.specs.Prelude.{ℕ, zero, suc, max, Bool, true, false, List, [], ◌∷◌, ◌++◌, length, eqb}
use Rattle.lists.specs.Find.{pick}
use Rattle.answer.specs.Answers.{accepted, Answer, Taken}
use Rattle.machine.specs.Line.{put_line}
use Rattle.machine.specs.declared.Line.{Line}
use Rattle.machine.specs.declared.Touch.{Touch}
use Rattle.machine.specs.declared.Touch.TheVariants.{Nothing as nothing, Store as a_store, Persist as a_persist, Flush as a_flush, Fence as a_fence}
use Rattle.machine.specs.Start.{start_of}
use Rattle.machine.specs.Event.{Deed, unknown, enqueues, dequeues, steps, writes_back, crashes, deed_of, event_at}
use Rattle.machine.specs.declared.Machine.{Machine}
use Rattle.machine.specs.declared.Event.{Event}
use Rattle.machine.specs.declared.Acted.{Acted}
use Rattle.schedule.specs.Layout.{schedule_in, events_in}
use Rattle.schedule.specs.declared.Schedule.{Schedule}

-- ---- the bench: moments are counted from the last start, which is moment 0; each event since is the next one

pub record Bench : Type 0 where
  -- the machine now
  pub machine : Machine
  -- the machine at each moment since the last start, moment 0 first, the present one last
  pub past : List Machine
  -- for each line the moment from which its contents count: that of the content that is persisted
  pub from : Line → ℕ
  -- for each thread the moment of its last flush
  pub mark : ℕ → ℕ

abbrev pub begins : Machine → Bench
begins m = record { machine = m; past = m ∷ []; from = λ l. 0; mark = λ t. 0 }

-- what a touch at moment k does to the moments of the last flushes
abbrev pub mark_after : Touch → ℕ → (ℕ → ℕ) → ℕ → ℕ
mark_after nothing k f = f
mark_after (a_store l) k f = f
mark_after (a_persist l) k f = f
mark_after (a_flush t l) k f = λ u. pick (eqb u t) k (f u)
mark_after (a_fence t l) k f = f

-- and to the moments from which contents count, f, the threads' last flushes being at g: a line that is persisted at once counts from there; #104: "From the fence on,
-- the line's contents start no earlier than the one at the flush; if a later one was persisted already, that one stays"
abbrev pub from_after : Touch → ℕ → (ℕ → ℕ) → (Line → ℕ) → Line → ℕ
from_after nothing k g f = f
from_after (a_store l) k g f = f
from_after (a_persist l) k g f = put_line f l k
from_after (a_flush t l) k g f = f
from_after (a_fence t l) k g f = put_line f l (max (f l) (g t))

abbrev pub goes_on : Bench → Machine → Touch → Bench
goes_on b m w = record {
  machine = m;
  past = b.past ++ (m ∷ []);
  from = from_after w (length b.past) b.mark b.from;
  mark = mark_after w (length b.past) b.mark;
}

-- the bench after a taken event with the outcome o: a crash is a start
abbrev pub turned : Bench → Acted → Deed → Bench
turned b o unknown = b
turned b o enqueues = goes_on b o.machine o.touch
turned b o dequeues = goes_on b o.machine o.touch
turned b o steps = goes_on b o.machine o.touch
turned b o writes_back = goes_on b o.machine o.touch
turned b o crashes = begins o.machine

-- one step forward: event e, at place p of a run, was taken
abbrev pub forward : ℕ → Bench → Event → Bench
forward p b e = turned b (event_at p b.machine e) (deed_of e.kind)

-- the bench b after the first i of the events f 0, f 1, .., where all of them are taken
unfoldable pub bench_at : Bench → (ℕ → Event) → ℕ → Bench
bench_at b f zero = b
bench_at b f (suc i) = forward i (bench_at b f i) (f i)

-- ---- the run

-- what was answered in the end: Taken, or the first refusal; each taken event's answer; and the bench
pub record Ran : Type 0 where
  pub answer : Answer
  pub replies : List Answer
  pub bench : Bench

abbrev pub and_before : Answer → Ran → Ran
and_before a r = record { answer = r.answer; replies = a ∷ r.replies; bench = r.bench }

-- "The first refused event ends the run." The first event of the list has number p
unfoldable pub run : ℕ → Bench → List Event → Ran
run p b [] = record { answer = Taken; replies = []; bench = b }
run p b (e ∷ l) =
    let o = event_at p b.machine e in
    elim (accepted o.answer) [
      | true ↦ and_before o.answer (run (suc p) (forward p b e) l)
      | false ↦ record { answer = o.answer; replies = []; bench = b }
    ]

-- "The bench begins by recovering the schedule's image"
abbrev pub opened : Schedule → Bench
opened d = begins (start_of d.image d.t)

unfoldable pub ran : List ℕ → Ran
ran s = run 0 (opened (schedule_in s)) (events_in s)
