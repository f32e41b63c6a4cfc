-- "Pages of schedules still taken stay the same" (request 102): the run and the page without 19, and what that says of them.
use Rattle.std.specs.Prelude.{ℕ, suc, ◌≡◌, true, false, List, [], ◌∷◌, ◌++◌, ◌≢◌}
use Rattle.answer.specs.Answers.{told, check, accepted, Answer, Taken, Number, NotZero}
use Rattle.machine.specs.Event.{Deed, unknown, enqueues, dequeues, steps, writes_back, crashes, deed_of, line_too_large, item_not_zero, event_answer, if_taken}
use Rattle.machine.specs.declared.Machine.{Machine}
use Rattle.machine.specs.declared.Event.{Event}
use Rattle.machine.specs.declared.Acted.{Acted}
use Rattle.schedule.specs.Layout.{schedule_in, events_in, threads_in, nodes_in, count_in, schedule_shape, schedule_answer}
use Rattle.schedule.specs.Run.{Bench, Ran, and_before, turned, opened, ran}
use Rattle.page.specs.Contents.{table_of}
use Rattle.page.specs.Endings.{product, endings}
use Rattle.page.specs.Refusals.{table_answer, page_answer}
use Rattle.page.specs.Printed.{first_line, lines_from, refused_line, printed}

-- ---- an event without 19: a write-back is refused by 10 and 13 alone, every other event as it is

abbrev pub answer_without : ℕ → Machine → Event → Deed → Answer
answer_without p m e unknown = event_answer p m e unknown
answer_without p m e enqueues = event_answer p m e enqueues
answer_without p m e dequeues = event_answer p m e dequeues
answer_without p m e steps = event_answer p m e steps
answer_without p m e writes_back = check (line_too_large m e) (Number p) (check (item_not_zero e) (NotZero p) Taken)
answer_without p m e crashes = event_answer p m e crashes

unfoldable pub event_without : ℕ → Machine → Event → Acted
event_without p m e = if_taken (answer_without p m e (deed_of e.kind)) m e (deed_of e.kind)

-- ---- the run and the page of given events f; of `event_at` they are `run` and `printed` (proofs/Without, `run_is`, `printed_is`)

unfoldable pub run_by : (ℕ → Machine → Event → Acted) → ℕ → Bench → List Event → Ran
run_by f p b [] = record { answer = Taken; replies = []; bench = b }
run_by f p b (e ∷ l) =
    let o = f p b.machine e in
    elim (accepted o.answer) [
      | true ↦ and_before o.answer (run_by f (suc p) (turned b o (deed_of e.kind)) l)
      | false ↦ record { answer = o.answer; replies = []; bench = b }
    ]

unfoldable pub ran_by : (ℕ → Machine → Event → Acted) → List ℕ → Ran
ran_by f s = run_by f 0 (opened (schedule_in s)) (events_in s)

-- the page's answer and its bytes, of a schedule that ran so
unfoldable pub answer_of : List ℕ → Ran → Answer
answer_of s r = elim (accepted (schedule_answer s)) [
  | true ↦ elim (accepted r.answer) [ true ↦ table_answer (table_of r.bench) | false ↦ r.answer ]
  | false ↦ schedule_answer s
]

unfoldable pub printed_of : List ℕ → Ran → List ℕ
printed_of s r = elim (accepted (answer_of s r)) [
  | true ↦ first_line (threads_in s) (nodes_in s) (count_in s) (product (table_of r.bench)) ++ lines_from 0 (endings (schedule_shape s) (table_of r.bench))
  | false ↦ refused_line (answer_of s r)
]

-- ---- what stays the same: the page's answer, its bytes, and, of a schedule whose bytes are accepted, the whole run: its answer, the events' answers, the machine,
-- all moments; so every line's contents and every ending

pub record Stays (s : List ℕ) : Type 0 where
  pub answer : answer_of s (ran_by event_without s) ≡ page_answer s
  pub page : printed_of s (ran_by event_without s) ≡ printed s
  pub run : accepted (schedule_answer s) ≡ true → ran_by event_without s ≡ ran s

-- for every byte string that 19 does not refuse: the schedules still taken, and all that are refused by another number
abbrev pub PagesStay : Type 0
PagesStay = (s : List ℕ) → (told (page_answer s)).number ≢ 19 → Stays s
