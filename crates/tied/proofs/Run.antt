-- A run: event by event the record and the abstract machine take, answer and show the same, up to the first event that is refused.
use mathlib.Core.Path.{◌≡◌, refl, sym, ap, ap₂, subst, ◌∙◌}
use mathlib.Core.Bool.{Bool, true, false}
use mathlib.Core.List.{List, [], ◌∷◌, ◌++◌, map}
use mathlib.Core.Logic.{◌≢◌}
use Prim.Native.Nat.{ℕ, suc, ◌+◌, ◌<◌}
use native.Mathlib.Omega.{arith}
use native.Mathlib.Nat.{add-zero}
use lib.ListN.{length}
use Rattle.lists.proofs.BoolLaws.{no_way}
use Rattle.answer.specs.Answers.{told, accepted, Answer, Taken}
use Rattle.image.specs.declared.Image.{Image}
use Rattle.image.specs.declared.Shape.{Shape}
use Rattle.machine.specs.Line.{shape_of}
use Rattle.tied.specs.Memory as memory
use Rattle.machine.specs.Start.{start_of, start_answer}
use Rattle.machine.specs.Retire.{quiet}
use Rattle.machine.specs.Range.{in_range}
use Rattle.machine.specs.Event.{deed_of, event_answer, event_at, done}
use Rattle.machine.specs.declared.Machine.{Machine}
use Rattle.machine.specs.declared.Event.{Event}
use Rattle.machine.specs.declared.Acted.{Acted}
use Rattle.schedule.specs.Run as schedule
use Rattle.schedule.specs.Run.{Ran, run, and_before, turned, begins}
use Rattle.moments.proofs.Known.{known_start}
use Rattle.model.specs.Core.{Ans, nothing, full, worn, empty, item}
use Rattle.model.specs.Core as core
use Rattle.model.specs.Machine.{answer, answers}
use Rattle.model.specs.Bench.{Bench, turn, bench, opening}
use Rattle.model.specs.Demand3.{TakesAll}
use Rattle.model.specs.Conf.{head_lines}
use Rattle.model.specs.Always.{Steady}
use Rattle.model.proofs.Always.Runs.{open_kept}
use Rattle.tied.specs.Always.{Rises}
use Rattle.tied.specs.Shown.{image_shown, Narrow, event_shown, answer_of}
use Rattle.tied.proofs.Engines.{lines_shown}
use Rattle.tied.proofs.Range.{tied_in_range}
use Rattle.tied.proofs.Accepted.{sound_is, shown_t, tidy, fit_of}
use Rattle.tied.proofs.Bench.{BenchT}
use Rattle.tied.proofs.Past.{past_begins}
use Rattle.tied.proofs.Begins.{shape_at, shape_is, started_t, begins_t}
use Rattle.tied.proofs.Refusals.{Late, taken_late, refused_late}
use Rattle.tied.proofs.Turn.{ranged, takes, turns, turned_shape, answers_same}

-- ---- one event of a run

event_taken : (q : ℕ) (m : Machine) (e : Event) → accepted (event_answer q m e (deed_of e.kind)) ≡ true → event_at q m e ≡ done m e (deed_of e.kind)
unfolding event_at
event_taken q m e a = by (accepted (event_answer q m e (deed_of e.kind))) a
  where
    by : (x : Bool) → x ≡ true → ◌≡◌ {A = Acted} (elim x as (λ _. Acted) [ true ↦ done m e (deed_of e.kind) | false ↦ quiet (event_answer q m e (deed_of e.kind)) m ]) (done m e (deed_of e.kind))
    by true z = refl
    by false z = no_way (sym z)

event_refused : (q : ℕ) (m : Machine) (e : Event) → accepted (event_answer q m e (deed_of e.kind)) ≡ false → event_at q m e ≡ quiet (event_answer q m e (deed_of e.kind)) m
unfolding event_at
event_refused q m e a = by (accepted (event_answer q m e (deed_of e.kind))) a
  where
    by : (x : Bool) → x ≡ false → ◌≡◌ {A = Acted} (elim x as (λ _. Acted) [ true ↦ done m e (deed_of e.kind) | false ↦ quiet (event_answer q m e (deed_of e.kind)) m ]) (quiet (event_answer q m e (deed_of e.kind)) m)
    by true z = no_way z
    by false z = refl

abbrev pub stopped : Answer → schedule.Bench → Ran
stopped a b = record { answer = a; replies = []; bench = b }

abbrev onward : ℕ → schedule.Bench → Event → List Event → Acted → Ran
onward q b e l o = and_before o.answer (run (suc q) (turned b o (deed_of e.kind)) l)

run_by : (q : ℕ) (b : schedule.Bench) (e : Event) (l : List Event) (o : Acted) → event_at q b.machine e ≡ o → (x : Bool) → accepted o.answer ≡ x
    → ◌≡◌ {A = Ran} (run q b (e ∷ l)) (elim x as (λ _. Ran) [ true ↦ onward q b e l o | false ↦ stopped o.answer b ])
unfolding run
run_by q b e l o h x a = ap (λ (o : Acted). elim (accepted o.answer) as (λ _. Ran) [ true ↦ onward q b e l o | false ↦ stopped o.answer b ]) h
    ∙ ap (λ (x : Bool). elim x as (λ _. Ran) [ true ↦ onward q b e l o | false ↦ stopped o.answer b ]) a

says_taken : (a : Ans) → accepted (answer_of a) ≡ true
says_taken nothing = refl
says_taken core.done = refl
says_taken full = refl
says_taken worn = refl
says_taken empty = refl
says_taken (item v) = refl

-- an event of a run, taken or refused
pub run_taken : (q : ℕ) (b : schedule.Bench) (B : Bench) (r : BenchT b B) (e : Event) (l : List Event) → accepted (event_answer q b.machine e (deed_of e.kind)) ≡ true
    → run q b (e ∷ l) ≡ and_before (done b.machine e (deed_of e.kind)).answer (run (suc q) (turned b (done b.machine e (deed_of e.kind)) (deed_of e.kind)) l)
run_taken q b B r e l a = run_by q b e l (done b.machine e (deed_of e.kind)) (event_taken q b.machine e a) true
    (ap accepted (answers_same b B r q e (deed_of e.kind) a) ∙ says_taken (answer B.mach (event_shown (shape_of b.machine) e)))

pub run_refused : (q : ℕ) (b : schedule.Bench) (e : Event) (l : List Event) → accepted (event_answer q b.machine e (deed_of e.kind)) ≡ false
    → run q b (e ∷ l) ≡ stopped (event_answer q b.machine e (deed_of e.kind)) b
run_refused q b e l a = run_by q b e l (quiet (event_answer q b.machine e (deed_of e.kind)) b.machine) (event_refused q b.machine e a) false a

-- a run that is accepted takes its first event
pub first_taken : (q : ℕ) (b : schedule.Bench) (e : Event) (l : List Event) → accepted (run q b (e ∷ l)).answer ≡ true → accepted (event_answer q b.machine e (deed_of e.kind)) ≡ true
first_taken q b e l h = by (accepted (event_answer q b.machine e (deed_of e.kind))) refl
  where
    by : (x : Bool) → accepted (event_answer q b.machine e (deed_of e.kind)) ≡ x → accepted (event_answer q b.machine e (deed_of e.kind)) ≡ true
    by true a = a
    by false a = no_way (sym h ∙ ap (λ R. accepted R.answer) (run_refused q b e l a) ∙ a)

-- ---- the run

-- Taken where no event is left; else the first of those left is refused, at place q
abbrev pub Stops : Machine → Answer → ℕ → List Event → Type 0
Stops m a q [] = a ≡ Taken
Stops m a q (e ∷ l) = a ≡ event_answer q m e (deed_of e.kind)

-- the events that were taken, all of them if none was refused; what they answered; what the benches, of shape z, show in the end
pub record RunT (z : Shape) (q : ℕ) (B : Bench) (l : List Event) (R : Ran) : Type 0 where
  pub taken : List Event
  pub rest : List Event
  pub begin : l ≡ taken ++ rest
  pub all : accepted R.answer ≡ true → taken ≡ l
  pub takes : TakesAll B.mach (map (event_shown z) taken)
  pub replies : R.replies ≡ map answer_of (answers B.mach (map (event_shown z) taken))
  pub ends : BenchT R.bench (bench B (map (event_shown z) taken))
  pub stops : Stops R.bench.machine R.answer (q + length taken) rest

pub run_t : (l : List Event) (q : ℕ) (b : schedule.Bench) (B : Bench) → BenchT b B → RunT (shape_of b.machine) q B l (run q b l)
unfolding run bench answers
run_t [] q b B r = record { taken = []; rest = []; begin = refl; all = λ h. refl; takes = tt; replies = refl; ends = r; stops = refl }
run_t (e ∷ l) q b B r = by (accepted (event_answer q b.machine e (deed_of e.kind))) refl (run_t l)
  where
    later : (q n : ℕ) → suc q + n ≡ q + suc n
    later q n = omega arith

    stop : Stops b.machine (event_answer q b.machine e (deed_of e.kind)) (q + 0) (e ∷ l)
    stop = ap (λ q. event_answer q b.machine e (deed_of e.kind)) (sym (add-zero q))

    by : (x : Bool) → accepted (event_answer q b.machine e (deed_of e.kind)) ≡ x
        → ((q : ℕ) (b : schedule.Bench) (B : Bench) → BenchT b B → RunT (shape_of b.machine) q B l (run q b l)) → RunT (shape_of b.machine) q B (e ∷ l) (run q b (e ∷ l))
    by true a rec =
        let says = answers_same b B r q e (deed_of e.kind) a in
        let b' = turned b (done b.machine e (deed_of e.kind)) (deed_of e.kind) in
        let s = subst (λ z. RunT z (suc q) (turn B (event_shown (shape_of b.machine) e)) l (run (suc q) b' l)) (turned_shape b B r q e (deed_of e.kind) a)
        (rec (suc q) b' (turn B (event_shown (shape_of b.machine) e)) (turns b B r q e (deed_of e.kind) a)) in
        subst (RunT (shape_of b.machine) q B (e ∷ l)) (sym (run_taken q b B r e l a))
        (record {
          taken = e ∷ s.taken;
          rest = s.rest;
          begin = ap (λ z. e ∷ z) s.begin;
          all = λ h. ap (λ z. e ∷ z) (s.all h);
          takes = (takes b B r q e (deed_of e.kind) a, s.takes);
          replies = ap₂ (λ x y. x ∷ y) says s.replies;
          ends = s.ends;
          stops = subst (λ n. Stops (run (suc q) b' l).bench.machine (run (suc q) b' l).answer n s.rest) (later q (length s.taken)) s.stops;
        })
    by false a rec =
        subst (RunT (shape_of b.machine) q B (e ∷ l)) (sym (run_refused q b e l a))
        (record { taken = []; rest = e ∷ l; begin = refl; all = λ h. no_way (sym h ∙ a); takes = tt; replies = refl; ends = r; stops = stop })

-- no run stops with 7 or 8
stop_by : (b : schedule.Bench) (B : Bench) → BenchT b B → (a : Answer) (p : ℕ) (rest : List Event) → Stops b.machine a p rest → Late a
stop_by b B r a p [] s = subst Late (sym s) taken_late
stop_by b B r a p (d ∷ l) s = subst Late (sym s) (refused_late b B r p d (deed_of d.kind))

pub stop_number : (z : Shape) (q : ℕ) (B : Bench) (l : List Event) (R : Ran) → RunT z q B l R → ((told R.answer).number ≢ 7) × ((told R.answer).number ≢ 8)
stop_number z q B l R r =
    let s = stop_by R.bench _ r.ends R.answer _ r.rest r.stops in
    (s.late 7 (omega arith) (omega arith), s.late 8 (omega arith) (omega arith))

-- ---- from an accepted start

module _ (g : Image) (t : ℕ) (a : accepted (start_answer g t) ≡ true) (w : Narrow g) where
  pub opens_t : BenchT (begins (start_of g t)) (opening (image_shown g t))
  opens_t =
      let s = sound_is g t a in
      let i = shown_t g t s w in
      record {
        kept = open_kept (image_shown g t) (fit_of g t (image_shown g t) i s) (tidy g t s w);
        tied = started_t g t (image_shown g t) i s.dummy;
        lists = begins_t g t (image_shown g t) i s.dummy;
        past = past_begins (start_of g t);
        known = known_start g t s.sizes.threads_hi s.sizes.nodes_hi;
      }

  pub start_t : (q : ℕ) (l : List Event) → RunT (shape_at g t) q (opening (image_shown g t)) l (run q (begins (start_of g t)) l)
  start_t q l = subst (λ z. RunT z q (opening (image_shown g t)) l (run q (begins (start_of g t)) l)) (shape_is g t) (run_t l q (begins (start_of g t)) (opening (image_shown g t)) opens_t)

-- 18 refuses no record of a run, at whatever event it stopped
pub bench_in_range : (b : schedule.Bench) (B : Bench) → BenchT b B → in_range b.machine ≡ true
bench_in_range b B r = tied_in_range _ b.machine B.mach.core r.tied (ranged b B r)

-- no head line falls
pub bench_rises : (b : schedule.Bench) (B : Bench) → BenchT b B → Steady B.mach → Rises b
bench_rises b B r s k there i j le lt =
    let m = b.machine in
    let one : k < head_lines B.mach.core.conf = subst (λ c. k < head_lines c) (sym r.tied.conf) (subst (λ x. k < x) (sym (lines_shown m.form m.n m.t r.tied.sizes.form)) there) in
    let h = s.heads k one (suc i) (suc j) (omega arith) (omega (arith, r.lists.now)) in
    let x = ap (λ c. c.index) (r.lists.times (memory.of_head k) there i (omega arith)) in
    let y = ap (λ c. c.index) (r.lists.times (memory.of_head k) there j lt) in
    omega (arith, h, x, y)
