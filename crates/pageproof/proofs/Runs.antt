-- Runs: event by event, one after another, and from the last start on.
use Prim.Native.Nat.{ℕ, suc, ◌+◌}
use mathlib.Core.Path.{◌≡◌, refl, sym, ap, subst, ◌∙◌}
use mathlib.Core.Bool.{Bool, true, false}
use mathlib.Core.List.{List, [], ◌∷◌, ◌++◌}
use mathlib.Core.Logic.{◌⊎◌, inl, inr, ◌≢◌}
use native.Mathlib.Omega.{arith}
use lib.ListN.{length}
use Rattle.lists.proofs.BoolLaws.{no_way}
use Rattle.answer.specs.Answers.{accepted, Answer}
use Rattle.machine.specs.Line.{shape_of}
use Rattle.machine.specs.Start.{start_with}
use Rattle.machine.specs.Event.{Deed, unknown, enqueues, dequeues, steps, writes_back, crashes, deed_of, done, event_at}
use Rattle.machine.specs.declared.Machine.{Machine}
use Rattle.machine.specs.declared.Event.{Event}
use Rattle.machine.specs.declared.Acted.{Acted}
use Rattle.schedule.specs.Run.{Bench, Ran, run, and_before, turned, begins}
use Rattle.lawful.specs.Added.{NoCrash, EndsInStart}
use Rattle.pageproof.proofs.Events.{Takes, Crash, taken_is, Good, onto, onto_good, onto_size, crash_good}

abbrev pub Accepts : ℕ → Bench → List Event → Type 0
Accepts p b l = accepted (run p b l).answer ≡ true

-- ---- the first event

abbrev stopped : Answer → Bench → Ran
stopped a b = record { answer = a; replies = []; bench = b }

abbrev going_on : ℕ → Bench → Event → List Event → Acted → Ran
going_on p b e l o = and_before o.answer (run (suc p) (turned b o (deed_of e.kind)) l)

run_by : (p : ℕ) (b : Bench) (e : Event) (l : List Event) (o : Acted) → event_at p b.machine e ≡ o → (x : Bool) → accepted o.answer ≡ x
    → ◌≡◌ {A = Ran} (run p b (e ∷ l)) (elim x as (λ _. Ran) [ true ↦ going_on p b e l o | false ↦ stopped o.answer b ])
unfolding run
run_by p b e l o h x a =
    ap (λ (o : Acted). elim (accepted o.answer) as (λ _. Ran) [ true ↦ going_on p b e l o | false ↦ stopped o.answer b ]) h
    ∙ ap (λ (x : Bool). elim x as (λ _. Ran) [ true ↦ going_on p b e l o | false ↦ stopped o.answer b ]) a

pub run_first : (p : ℕ) (b : Bench) (e : Event) (l : List Event) → Accepts p b (e ∷ l) → Takes p b.machine e
run_first p b e l h = by (accepted (event_at p b.machine e).answer) refl
  where
    by : (x : Bool) → accepted (event_at p b.machine e).answer ≡ x → Takes p b.machine e
    by true a = a
    by false a = no_way (sym h ∙ ap (λ (r : Ran). accepted r.answer) (run_by p b e l (event_at p b.machine e) refl false a) ∙ a)

pub run_cons : (p : ℕ) (b : Bench) (e : Event) (l : List Event) → Takes p b.machine e
    → run p b (e ∷ l) ≡ and_before (event_at p b.machine e).answer (run (suc p) (onto b e) l)
run_cons p b e l h =
    run_by p b e l (event_at p b.machine e) refl true h
    ∙ ap (λ (o : Acted). and_before (event_at p b.machine e).answer (run (suc p) (turned b o (deed_of e.kind)) l)) (taken_is p b.machine e h)

pub run_rest : (p : ℕ) (b : Bench) (e : Event) (l : List Event) → Accepts p b (e ∷ l) → Accepts (suc p) (onto b e) l
run_rest p b e l h = sym (ap (λ (r : Ran). accepted r.answer) (run_cons p b e l (run_first p b e l h))) ∙ h

pub run_bench : (p : ℕ) (b : Bench) (e : Event) (l : List Event) → Takes p b.machine e → (run p b (e ∷ l)).bench ≡ (run (suc p) (onto b e) l).bench
run_bench p b e l h = ap (λ (r : Ran). r.bench) (run_cons p b e l h)

pub run_none : (p : ℕ) (b : Bench) → run p b [] ≡ stopped (run p b []).answer b
unfolding run
run_none p b = refl

pub run_nothing : (p : ℕ) (b : Bench) → (run p b []).bench ≡ b
run_nothing p b = ap (λ (r : Ran). r.bench) (run_none p b)

pub run_silent : (p : ℕ) (b : Bench) → (run p b []).replies ≡ []
run_silent p b = ap (λ (r : Ran). r.replies) (run_none p b)

pub run_taken : (p : ℕ) (b : Bench) → Accepts p b []
unfolding run
run_taken p b = refl

-- ---- one list of events after another

abbrev pub and_after : Ran → Ran → Ran
and_after a c = record { answer = c.answer; replies = a.replies ++ c.replies; bench = c.bench }

pub run_front : (l r : List Event) (p : ℕ) (b : Bench) → Accepts p b (l ++ r) → Accepts p b l
run_front [] r p b h = run_taken p b
run_front (e ∷ l) r p b h =
    let t = run_first p b e (l ++ r) h in
    ap (λ (x : Ran). accepted x.answer) (run_cons p b e l t) ∙ run_front l r (suc p) (onto b e) (run_rest p b e (l ++ r) h)

pub run_append : (l r : List Event) (p : ℕ) (b : Bench) → Accepts p b l → run p b (l ++ r) ≡ and_after (run p b l) (run (p + length l) (run p b l).bench r)
run_append [] r p b h =
    ap (λ (x : ℕ). run x b r) (let z : p ≡ p + 0 = omega arith in z)
    ∙ ap (λ (x : Ran). and_after x (run (p + 0) x.bench r)) (sym (run_none p b))
run_append (e ∷ l) r p b h =
    run_cons p b e (l ++ r) t ∙ ap (and_before (event_at p b.machine e).answer) (run_append l r (suc p) (onto b e) (run_rest p b e l h))
    ∙ ap (λ (x : ℕ). and_before (event_at p b.machine e).answer (and_after (run (suc p) (onto b e) l) (run x (run (suc p) (onto b e) l).bench r)))
    (let z : suc p + length l ≡ p + suc (length l) = omega arith in z)
    ∙ ap (λ (x : Ran). and_after x (run (p + suc (length l)) x.bench r)) (sym (run_cons p b e l t))
  where
    t : Takes p b.machine e
    t = run_first p b e l h

-- ---- what stays so

crash_or : (d : Deed) → (d ≡ crashes) ⊎ (d ≢ crashes)
crash_or unknown = inr (λ e. let z : ◌≡◌ {A = ℕ} 0 1 = cc in absurd (omega arith))
crash_or enqueues = inr (λ e. let z : ◌≡◌ {A = ℕ} 0 1 = cc in absurd (omega arith))
crash_or dequeues = inr (λ e. let z : ◌≡◌ {A = ℕ} 0 1 = cc in absurd (omega arith))
crash_or steps = inr (λ e. let z : ◌≡◌ {A = ℕ} 0 1 = cc in absurd (omega arith))
crash_or writes_back = inr (λ e. let z : ◌≡◌ {A = ℕ} 0 1 = cc in absurd (omega arith))
crash_or crashes = inl refl

crash_size : (b : Bench) (e : Event) (d : Deed) → d ≡ crashes → shape_of (turned b (done b.machine e d) d).machine ≡ shape_of b.machine
unfolding start_with
crash_size b e d c = rw c

module _ (p : ℕ) (b : Bench) (e : Event) (t : Takes p b.machine e) where
  good_onto : Good b → Good (onto b e)
  good_onto g = by (crash_or (deed_of e.kind))
    where
      by : Crash e ⊎ (Crash e → ⊥) → Good (onto b e)
      by (inl c) = crash_good b g e c
      by (inr ne) = onto_good p b e t ne g

  size_onto : shape_of (onto b e).machine ≡ shape_of b.machine
  size_onto = by (crash_or (deed_of e.kind))
    where
      by : Crash e ⊎ (Crash e → ⊥) → shape_of (onto b e).machine ≡ shape_of b.machine
      by (inl c) = crash_size b e (deed_of e.kind) c
      by (inr ne) = onto_size p b e t ne

pub good_run : (l : List Event) (p : ℕ) (b : Bench) → Good b → Accepts p b l → Good (run p b l).bench
good_run [] p b g h = rw (run_nothing p b) g
good_run (e ∷ l) p b g h =
    let t = run_first p b e l h in
    rw (run_bench p b e l t) (good_run l (suc p) (onto b e) (good_onto p b e t g) (run_rest p b e l h))

-- N stays
pub run_size : (l : List Event) (p : ℕ) (b : Bench) → Accepts p b l → shape_of (run p b l).bench.machine ≡ shape_of b.machine
run_size [] p b h = ap (λ (x : Bench). shape_of x.machine) (run_nothing p b)
run_size (e ∷ l) p b h =
    let t = run_first p b e l h in
    ap (λ (x : Bench). shape_of x.machine) (run_bench p b e l t)
    ∙ run_size l (suc p) (onto b e) (run_rest p b e l h)
    ∙ size_onto p b e t

-- ---- the last start

pub record Last (l : List Event) : Type 0 where
  pub before : List Event
  pub since : List Event
  pub start : EndsInStart before
  pub free : NoCrash since
  pub is : l ≡ before ++ since

pub last_of : (l : List Event) → Last l
last_of [] = record { before = []; since = []; start = tt; free = tt; is = refl }
last_of (e ∷ l) = more (last_of l)
  where
    more : Last l → Last (e ∷ l)
    more r = by r.before refl (crash_or (deed_of e.kind))
      where
        by : (x : List Event) → r.before ≡ x → (deed_of e.kind ≡ crashes) ⊎ (deed_of e.kind ≢ crashes) → Last (e ∷ l)
        by [] q (inl c) = record { before = e ∷ []; since = r.since; start = c; free = r.free; is = ap (λ z. e ∷ z) (r.is ∙ ap (λ z. z ++ r.since) q) }
        by [] q (inr n) = record { before = []; since = e ∷ r.since; start = tt; free = (n, r.free); is = ap (λ z. e ∷ z) (r.is ∙ ap (λ z. z ++ r.since) q) }
        by (d ∷ x) q c = record {
          before = e ∷ d ∷ x;
          since = r.since;
          start = subst EndsInStart q r.start;
          free = r.free;
          is = ap (λ z. e ∷ z) (r.is ∙ ap (λ z. z ++ r.since) q);
        }

-- there the bench begins
pub started : (l : List Event) (e : Event) (p : ℕ) (b : Bench) → EndsInStart (e ∷ l) → Accepts p b (e ∷ l) → (m : Machine) × ((run p b (e ∷ l)).bench ≡ begins m)
started [] e p b c h = (
  (done b.machine e crashes).machine,
  run_bench p b e [] (run_first p b e [] h) ∙ run_nothing (suc p) (onto b e)
      ∙ ap (λ (d : Deed). turned b (done b.machine e d) d) c,
)
started (d ∷ l) e p b c h =
    let r = started l d (suc p) (onto b e) c (run_rest p b e (d ∷ l) h) in
    (r.0, run_bench p b e (d ∷ l) (run_first p b e (d ∷ l) h) ∙ r.1)

pub begins_at : (l : List Event) (p : ℕ) (m : Machine) → EndsInStart l → Accepts p (begins m) l → (m₀ : Machine) × ((run p (begins m) l).bench ≡ begins m₀)
begins_at [] p m c h = (m, run_nothing p (begins m))
begins_at (e ∷ l) p m c h = started l e p (begins m) c h
