-- Pages of schedules still taken stay the same: what 19 does not refuse runs as it did without that test.
use Prim.Native.Nat.{ℕ, suc}
use mathlib.Core.Path.{◌≡◌, refl, sym, ap, ◌∙◌}
use mathlib.Core.Bool.{Bool, true, false}
use mathlib.Core.List.{List, [], ◌∷◌}
use mathlib.Core.Logic.{◌≢◌}
use lib.Dec.{eqb}
use Rattle.lists.proofs.BoolLaws.{no_way, false_true, no_of}
use Rattle.answer.specs.Answers.{told, check, accepted, Answer, Taken, Number, NotZero, Clean}
use Rattle.machine.specs.Line.{shape_of, line_at}
use Rattle.machine.specs.Event.{Deed, unknown, enqueues, dequeues, steps, writes_back, crashes, deed_of, line_too_large, item_not_zero, clean, event_answer, if_taken, event_at}
use Rattle.machine.specs.declared.Machine.{Machine}
use Rattle.machine.specs.declared.Event.{Event}
use Rattle.machine.specs.declared.Acted.{Acted}
use Rattle.schedule.specs.Layout.{schedule_in, events_in, schedule_answer}
use Rattle.schedule.specs.Run.{Bench, Ran, run, ran, opened, and_before, turned}
use Rattle.page.specs.Contents.{table_of}
use Rattle.page.specs.Refusals.{table_in, table_answer, page_answer, ending_count}
use Rattle.page.specs.Printed.{refused_line, printed}
use Rattle.pageproof.specs.Without.{answer_without, event_without, run_by, ran_by, answer_of, printed_of, Stays, PagesStay}

-- ---- of the events as they are, run and page are the paper's own

pub run_is : (l : List Event) (p : ℕ) (b : Bench) → run_by event_at p b l ≡ run p b l
unfolding run_by run
run_is [] p b = refl
run_is (e ∷ l) p b = ap (step (event_at p b.machine e)) (run_is l (suc p) (turned b (event_at p b.machine e) (deed_of e.kind)))
  where
    step : Acted → Ran → Ran
    step o r = elim (accepted o.answer) [ true ↦ and_before o.answer r | false ↦ record { answer = o.answer; replies = []; bench = b } ]

pub answer_is : (s : List ℕ) → answer_of s (ran s) ≡ page_answer s
unfolding answer_of page_answer table_in
answer_is s = refl

pub printed_is : (s : List ℕ) → printed_of s (ran s) ≡ printed s
unfolding printed_of printed answer_of page_answer table_in ending_count
printed_is s = refl

-- ---- one event

event_same : (p : ℕ) (m : Machine) (e : Event) → (told (event_at p m e).answer).number ≢ 19 → event_without p m e ≡ event_at p m e
unfolding event_without event_at
event_same p m e h = by (deed_of e.kind) h
  where
    back : (x y z : Bool) → (told (if_taken (check x (Number p) (check y (NotZero p) (check z (Clean p) Taken))) m e writes_back).answer).number ≢ 19
        → if_taken (check x (Number p) (check y (NotZero p) Taken)) m e writes_back ≡ if_taken (check x (Number p) (check y (NotZero p) (check z (Clean p) Taken))) m e writes_back
    back true y z k = refl
    back false true z k = refl
    back false false true k = absurd (k refl)
    back false false false k = refl

    by : (d : Deed) → (told (if_taken (event_answer p m e d) m e d).answer).number ≢ 19 → if_taken (answer_without p m e d) m e d ≡ if_taken (event_answer p m e d) m e d
    by unknown k = refl
    by enqueues k = refl
    by dequeues k = refl
    by steps k = refl
    by writes_back k = back (line_too_large m e) (item_not_zero e) (clean m (line_at (shape_of m) e.number)) k
    by crashes k = refl

-- ---- the run

abbrev stepped : Bench → Event → (ℕ → Bench → Ran) → ℕ → Acted → Bool → Ran
stepped b e f p o x = elim x [ true ↦ and_before o.answer (f (suc p) (turned b o (deed_of e.kind))) | false ↦ record { answer = o.answer; replies = []; bench = b } ]

pub run_same : (l : List Event) (p : ℕ) (b : Bench) → (told (run p b l).answer).number ≢ 19 → run_by event_without p b l ≡ run p b l
unfolding run_by run
run_same [] p b h = refl
run_same (e ∷ l) p b h =
    ap (λ (o : Acted). stepped b e (λ q c. run_by event_without q c l) p o (accepted o.answer)) (event_same p b.machine e (λ k. h (by (accepted o.answer) refl k)))
    ∙ on (accepted o.answer) h (λ k. run_same l (suc p) (turned b o (deed_of e.kind)) k)
  where
    o : Acted
    o = event_at p b.machine e

    -- refused by 19 here is refused by 19
    by : (x : Bool) → accepted o.answer ≡ x → (told o.answer).number ≡ 19 → (told (stepped b e (λ q c. run q c l) p o x).answer).number ≡ 19
    by true q k = no_way (sym q ∙ ap (λ n. eqb n 0) k)
    by false q k = k

    later : Ran
    later = run (suc p) (turned b o (deed_of e.kind)) l

    on : (x : Bool) → (told (stepped b e (λ q c. run q c l) p o x).answer).number ≢ 19
        → ((told later.answer).number ≢ 19 → run_by event_without (suc p) (turned b o (deed_of e.kind)) l ≡ later)
        → stepped b e (λ q c. run_by event_without q c l) p o x ≡ stepped b e (λ q c. run q c l) p o x
    on true k f = ap (and_before o.answer) (f k)
    on false k f = refl

pub ran_without : (s : List ℕ) → (told (ran s).answer).number ≢ 19 → ran_by event_without s ≡ ran s
unfolding ran_by ran
ran_without s h = run_same (events_in s) 0 (opened (schedule_in s)) h

-- ---- the page

-- a schedule whose bytes are refused is refused the same however it would run
module _ (s : List ℕ) (h : accepted (schedule_answer s) ≡ false) (r : Ran) where
  answer_no : answer_of s r ≡ schedule_answer s
  unfolding answer_of
  answer_no = no_of (elim (accepted r.answer) as (λ _. Answer) [ true ↦ table_answer (table_of r.bench) | false ↦ r.answer ]) (schedule_answer s) (accepted (schedule_answer s)) h

  printed_no : printed_of s r ≡ refused_line (schedule_answer s)
  unfolding printed_of
  printed_no = no_of _ (refused_line (answer_of s r)) (accepted (answer_of s r)) (ap accepted answer_no ∙ h) ∙ ap refused_line answer_no

-- and one whose run 19 refuses is refused by 19
page_19 : (s : List ℕ) → accepted (schedule_answer s) ≡ true → (told (ran s).answer).number ≡ 19 → (told (page_answer s)).number ≡ 19
unfolding page_answer
page_19 s a k = by (accepted (schedule_answer s)) (accepted (ran s).answer) a (ap (λ n. eqb n 0) k)
  where
    by : (x y : Bool) → x ≡ true → y ≡ false
        → (told (elim x as (λ _. Answer) [ true ↦ elim y as (λ _. Answer) [ true ↦ table_answer (table_in s) | false ↦ (ran s).answer ] | false ↦ schedule_answer s ])).number ≡ 19
    by true true p q = no_way q
    by true false p q = k
    by false y p q = false_true p

pub pages_stay : PagesStay
pages_stay s h = record {
  answer = by (accepted (schedule_answer s)) refl;
  page = so (accepted (schedule_answer s)) refl;
  run = same;
}
  where
    same : accepted (schedule_answer s) ≡ true → ran_by event_without s ≡ ran s
    same a = ran_without s (λ k. h (page_19 s a k))

    by : (x : Bool) → accepted (schedule_answer s) ≡ x → answer_of s (ran_by event_without s) ≡ page_answer s
    by true a = ap (answer_of s) (same a) ∙ answer_is s
    by false a = answer_no s a (ran_by event_without s) ∙ sym (answer_no s a (ran s)) ∙ answer_is s

    so : (x : Bool) → accepted (schedule_answer s) ≡ x → printed_of s (ran_by event_without s) ≡ printed s
    so true a = ap (printed_of s) (same a) ∙ printed_is s
    so false a = printed_no s a (ran_by event_without s) ∙ sym (printed_no s a (ran s)) ∙ printed_is s
