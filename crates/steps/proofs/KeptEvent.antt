-- Every event keeps a record's numbers in their ranges: refused or taken, a crash too. Of the event's own numbers nothing is asked.
use Prim.Native.Nat.{ℕ, ◌<◌}
use mathlib.Core.Path.{◌≡◌, refl, ap, ◌∙◌}
use mathlib.Core.Bool.{Bool, true, false, not}
use native.Mathlib.Omega.{arith}
use lib.Dec.{eqb, ltb, leb}
use borrow.Author.Tests.{ltb-true, le-leb, leb-false}
use Rattle.lists.specs.Find.{pick}
use Rattle.lists.proofs.BoolLaws.{both_of}
use Rattle.lists.proofs.FindLaws.{least_found}
use Rattle.answer.specs.Answers.{check, accepted, Answer, Taken, Busy, Idle, Number, NotZero, Record, Clean}
use Rattle.image.specs.Layout.{content_at}
use Rattle.image.specs.Recovered.{first_unclear}
use Rattle.image.specs.Refusals.{startable, sound, fitting, whole}
use Rattle.image.proofs.SoundLaws.{Fitting, sound_then, is_fitting}
use Rattle.machine.specs.Stage.{busy}
use Rattle.machine.specs.Line.{shape_of, line_count, line_at, persisted}
use Rattle.machine.specs.Start.{start_of, start_answer}
use Rattle.machine.proofs.AnswerLaws.{answer_whole}
use Rattle.machine.specs.Retire.{out, quiet}
use Rattle.machine.specs.Event.{Deed, unknown, enqueues, dequeues, steps, writes_back, crashes, deed_of, thread_too_large, line_too_large, item_not_zero, clean, event_answer, done, event_at, handed, event_on}
use Rattle.machine.specs.Range.{in_range}
use Rattle.machine.specs.declared.Machine.{Machine}
use Rattle.machine.specs.declared.Event.{Event}
use Rattle.machine.specs.declared.Acted.{Acted}
use Rattle.machine.specs.declared.Out.{Out}
use Rattle.machine.proofs.RangeLaws.{start_in_range}
use Rattle.machine.proofs.LineLaws.{line_in}
use Rattle.steps.specs.Numbers.{numbers_fit}
use Rattle.steps.proofs.Fit.{fit_range, narrow_range}
use Rattle.steps.proofs.Flushes.{range_numbers}
use Rattle.steps.proofs.Own.{own_lines, own_shaped}
use Rattle.steps.proofs.Kept.{kept_step, kept_begun, kept_persist}

-- ---- what a taken event has passed

-- its first test, where that refuses with 10
passed_number : (b : Bool) (p : ℕ) (r : Answer) → accepted (check b (Number p) r) ≡ true → b ≡ false
passed_number true p r h = let z : ◌≡◌ {A = ℕ} 0 1 = cc in absurd (omega arith)
passed_number false p r h = refl

-- of a crash: what follows 13
passed_zero : (b : Bool) (p : ℕ) (r : Answer) → accepted (check b (NotZero p) r) ≡ true → accepted r ≡ true
passed_zero true p r h = let z : ◌≡◌ {A = ℕ} 0 1 = cc in absurd (omega arith)
passed_zero false p r h = h

-- ---- a crash: what is persisted has passed 3, 4 and 6 already, as the record is in range

clear : (m : Machine) → in_range m ≡ true → ltb (first_unclear (persisted m)) m.n ≡ false
unfolding first_unclear
clear m h = by (ltb (first_unclear (persisted m)) m.n) refl
  where
    by : (b : Bool) → ltb (first_unclear (persisted m)) m.n ≡ b → b ≡ false
    by false e = refl
    by true e =
        let i = first_unclear (persisted m) in
        let l : i < m.n = ltb-true i m.n e in
        let u = ltb-true 1 (content_at m.kept i).linked (least_found (λ i. ltb 1 (content_at m.kept i).linked) m.n 0 (omega arith)) in
        absurd (omega (arith, u, ((fit_range m h).nodes i l).kept_flag))

persisted_sound : (m : Machine) → in_range m ≡ true → accepted (startable (persisted m) Taken) ≡ true → accepted (sound (persisted m) Taken) ≡ true
unfolding sound
persisted_sound m h a = rw (clear m h) a

persisted_fits : (m : Machine) → in_range m ≡ true → Fitting (persisted m)
persisted_fits m h = let w = narrow_range m h in record { head = λ k l. (w.head k (omega (arith, own_lines m))).1; at = λ i l. (w.node i l).1 }

persisted_whole : (m : Machine) → in_range m ≡ true → accepted (startable (persisted m) Taken) ≡ true → whole (persisted m) Taken ≡ Taken
unfolding whole
persisted_whole m h a = sound_then (persisted m) (fitting (persisted m) Taken) (persisted_sound m h a) ∙ is_fitting (persisted m) Taken (persisted_fits m h)

restart : (m : Machine) → in_range m ≡ true → accepted (startable (persisted m) Taken) ≡ true → accepted (start_answer (persisted m) m.t) ≡ true
restart m h a =
    let s = (fit_range m h).sizes in
    let ts = both_of (leb 1 m.t) (leb m.t 8) (le-leb 1 m.t s.t_lo) (le-leb m.t 8 s.t_hi) in
    let ns = both_of (leb 2 m.n) (leb m.n 64) (le-leb 2 m.n s.n_lo) (le-leb m.n 64 s.n_hi) in
    ap accepted (answer_whole (persisted m) m.t ts (own_shaped m (narrow_range m h).form ns ts) ∙ persisted_whole m h a)

kept_crash : (m : Machine) → in_range m ≡ true → accepted (startable (persisted m) Taken) ≡ true → numbers_fit (start_of (persisted m) m.t) ≡ true
kept_crash m h a = range_numbers (start_of (persisted m) m.t) (start_in_range (persisted m) m.t (restart m h a))

-- ---- the laws

-- a taken event, by what it does
pub kept_done : (p : ℕ) (m : Machine) (e : Event) (d : Deed) → in_range m ≡ true → accepted (event_answer p m e d) ≡ true → numbers_fit (done m e d).machine ≡ true
kept_done p m e unknown h a = range_numbers m h
kept_done p m e enqueues h a =
    let l = leb-false m.t e.number (passed_number (thread_too_large m e) p (check (busy m e.number) (Busy p) Taken) a) in
    kept_begun m e.number 1 e.item (range_numbers m h) l (omega arith)
kept_done p m e dequeues h a =
    let l = leb-false m.t e.number (passed_number (thread_too_large m e) p (check (item_not_zero e) (NotZero p) (check (busy m e.number) (Busy p) Taken)) a) in
    kept_begun m e.number 13 0 (range_numbers m h) l (omega arith)
kept_done p m e steps h a =
    let l = leb-false m.t e.number (passed_number (thread_too_large m e) p (check (item_not_zero e) (NotZero p) (check (not (busy m e.number)) (Idle p) Taken)) a) in
    kept_step m e.number h l
kept_done p m e writes_back h a =
    let l = leb-false (line_count (shape_of m)) e.number (passed_number (line_too_large m e) p (check (item_not_zero e) (NotZero p) (check (clean m (line_at (shape_of m) e.number)) (Clean p) Taken)) a) in
    kept_persist m (line_at (shape_of m) e.number) (range_numbers m h) (line_in (shape_of m) e.number l)
kept_done p m e crashes h a = kept_crash m h (passed_zero (pick (eqb e.number 0) (item_not_zero e) true) p (startable (persisted m) Taken) a)

-- the event at place p of a run
pub kept_event : (p : ℕ) (m : Machine) (e : Event) → in_range m ≡ true → numbers_fit (event_at p m e).machine ≡ true
unfolding event_at
kept_event p m e h = by (accepted a) refl
  where
    d : Deed
    d = deed_of e.kind

    a : Answer
    a = event_answer p m e d

    by : (b : Bool) → accepted a ≡ b → numbers_fit (elim b as (λ _. Acted) [ true ↦ done m e d | false ↦ quiet a m ]).machine ≡ true
    by true t = kept_done p m e d h t
    by false t = range_numbers m h

-- a single event on a record that is handed in
pub kept_on : (m : Machine) (e : Event) → in_range m ≡ true → numbers_fit (event_on m e).machine ≡ true
unfolding event_on
kept_on m e h = by (in_range m)
  where
    by : (b : Bool) → numbers_fit (elim b as (λ _. Out) [ true ↦ handed (event_at 0 m e) | false ↦ out Record m ]).machine ≡ true
    by true = kept_event 0 m e h
    by false = range_numbers m h
