-- An event: its refusals in their order, and what it does. p is the place that a refusal names.
use Rattle.std.specs.Prelude.{ℕ, Bool, true, false, not, List, [], ◌∷◌, get_or, eqb, leb}
use Rattle.lists.specs.Find.{pick}
use Rattle.answer.specs.Answers.{check, accepted, Answer, Taken, Kind, Number, Busy, Idle, NotZero, Record, Clean}
use Rattle.image.specs.Layout.{same_content}
use Rattle.image.specs.Refusals.{startable}
use Rattle.machine.specs.Record.{thread, put_thread}
use Rattle.machine.specs.Stage.{Stage, no_step, A1, A2, A3, A4, A5, A6, A7, A8, A9, A10, A11, A12, D1, D2, D3, D4, D5, D6, D7, S3, S6, F10, F3, F6, number, stage, busy}
use Rattle.machine.specs.Line.{Line, shape_of, line_count, line_at, cached_at, persisted_at, persist, persisted}
use Rattle.machine.specs.Start.{start_of}
use Rattle.machine.specs.Retire.{out, quiet, persisting}
use Rattle.machine.specs.Enqueue.{step_a1, step_a2, step_a3, step_a4, step_a5, step_a6, step_a7, step_a8, step_a9, step_a10, step_a11, step_a12, step_f10}
use Rattle.machine.specs.Dequeue.{step_d1, step_d2, step_d3, step_d4, step_d5, step_d6, step_d7, step_s3, step_s6, step_f3, step_f6}
use Rattle.machine.specs.Range.{in_range}
use Rattle.machine.specs.declared.Machine.{Machine}
use Rattle.machine.specs.declared.Event.{Event}
use Rattle.machine.specs.declared.Acted.{Acted}
use Rattle.machine.specs.declared.Out.{Out}

-- ---- "The kind byte decides what an event does"

pub data Deed : Type 0 where
  unknown enqueues dequeues steps writes_back crashes : Deed

abbrev pub deeds : List Deed
deeds = unknown ∷ enqueues ∷ dequeues ∷ steps ∷ writes_back ∷ crashes ∷ []

-- 1 to 5, and all others
abbrev pub deed_of : ℕ → Deed
deed_of k = get_or deeds k unknown

-- ---- what is refused: 9, 10, 13, then 11 or 12, or 19 (request 102); of a crash 7, then 8, after 13

abbrev pub thread_too_large : Machine → Event → Bool
thread_too_large m e = leb m.t e.number

abbrev pub line_too_large : Machine → Event → Bool
line_too_large m e = leb (line_count (shape_of m)) e.number

abbrev pub item_not_zero : Event → Bool
item_not_zero e = not (eqb e.item 0)

-- "a line whose cached and persisted contents are equal": by content, whether or not it was stored to since it was last persisted
abbrev pub clean : Machine → Line → Bool
clean m l = same_content (cached_at m l) (persisted_at m l)

-- in kind 5 the number is neither a thread nor a line: one that is not zero is 13, however large
abbrev pub event_answer : ℕ → Machine → Event → Deed → Answer
event_answer p m e unknown = Kind p
event_answer p m e enqueues = check (thread_too_large m e) (Number p) (check (busy m e.number) (Busy p) Taken)
event_answer p m e dequeues = check (thread_too_large m e) (Number p) (check (item_not_zero e) (NotZero p) (check (busy m e.number) (Busy p) Taken))
event_answer p m e steps = check (thread_too_large m e) (Number p) (check (item_not_zero e) (NotZero p) (check (not (busy m e.number)) (Idle p) Taken))
event_answer p m e writes_back =
    check (line_too_large m e) (Number p) (check (item_not_zero e) (NotZero p) (check (clean m (line_at (shape_of m) e.number)) (Clean p) Taken))
event_answer p m e crashes = check (pick (eqb e.number 0) (item_not_zero e) true) (NotZero p) (startable (persisted m) Taken)

-- ---- what is done

-- thread k begins at step s with item v; it has read nothing
abbrev pub begun : Machine → ℕ → ℕ → ℕ → Machine
begun m k s v =
    put_thread m k
    (record { step = s; node = 255; tail = 255; head = 255; index = 0; next = 255; item = v; held = (thread m k).held })

-- one step of thread k, by its stage
abbrev pub stepped : Machine → ℕ → Stage → Acted
stepped m k no_step = quiet Taken m
stepped m k A1 = step_a1 m k
stepped m k A2 = step_a2 m k
stepped m k A3 = step_a3 m k
stepped m k A4 = step_a4 m k
stepped m k A5 = step_a5 m k
stepped m k A6 = step_a6 m k
stepped m k A7 = step_a7 m k
stepped m k A8 = step_a8 m k
stepped m k A9 = step_a9 m k
stepped m k A10 = step_a10 m k
stepped m k A11 = step_a11 m k
stepped m k A12 = step_a12 m k
stepped m k D1 = step_d1 m k
stepped m k D2 = step_d2 m k
stepped m k D3 = step_d3 m k
stepped m k D4 = step_d4 m k
stepped m k D5 = step_d5 m k
stepped m k D6 = step_d6 m k
stepped m k D7 = step_d7 m k
stepped m k S3 = step_s3 m k
stepped m k S6 = step_s6 m k
stepped m k F10 = step_f10 m k
stepped m k F3 = step_f3 m k
stepped m k F6 = step_f6 m k

-- 1 begins an enqueue, 2 a dequeue, 3 moves the thread by one step, 4 writes back a line, 5 is a crash followed by recovery
-- a start is no touch: it begins the moments anew
abbrev pub done : Machine → Event → Deed → Acted
done m e unknown = quiet Taken m
done m e enqueues = quiet Taken (begun m e.number (number A1) e.item)
done m e dequeues = quiet Taken (begun m e.number (number D1) 0)
done m e steps = stepped m e.number (stage m e.number)
done m e writes_back =
    let l = line_at (shape_of m) e.number in
    persisting l (quiet Taken (persist m l))
done m e crashes = quiet Taken (start_of (persisted m) m.t)

-- ---- the event at place p of a run: a refused one changes nothing

abbrev pub if_taken : Answer → Machine → Event → Deed → Acted
if_taken a m e d = elim (accepted a) [ true ↦ done m e d | false ↦ quiet a m ]

unfoldable pub event_at : ℕ → Machine → Event → Acted
event_at p m e = if_taken (event_answer p m e (deed_of e.kind)) m e (deed_of e.kind)

-- what a public call hands back of it
abbrev pub handed : Acted → Out
handed o = out o.answer o.machine

-- a single event on a record that is handed in: 18 before all else, then as the event at place 0
unfoldable pub event_on : Machine → Event → Out
event_on m e = elim (in_range m) [ true ↦ handed (event_at 0 m e) | false ↦ out Record m ]
