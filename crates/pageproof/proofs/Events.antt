-- One event that is taken: what it makes of a bench, and of a machine that is alike.
use Prim.Native.Nat.{ℕ, ◌<◌}
use mathlib.Core.Path.{◌≡◌, refl, sym, ap, subst, ◌∙◌}
use mathlib.Core.Bool.{Bool, true, false, not}
use native.Mathlib.Omega.{arith}
use lib.Dec.{eqb, leb, leb→le}
use borrow.Author.Tests.{leb-false}
use Rattle.lists.specs.Find.{pick}
use Rattle.lists.proofs.BoolLaws.{no_way}
use Rattle.answer.specs.Answers.{check, accepted, Answer, Taken, Number, Busy, Idle, NotZero, Clean}
use Rattle.image.specs.Refusals.{startable}
use Rattle.machine.specs.Stage.{busy}
use Rattle.machine.specs.Line.{shape_of, line_count, line_at, persisted}
use Rattle.machine.specs.Retire.{quiet}
use Rattle.machine.specs.Event.{Deed, unknown, enqueues, dequeues, steps, writes_back, crashes, deed_of, thread_too_large, line_too_large, item_not_zero, clean, event_answer, done, event_at}
use Rattle.machine.specs.declared.Machine.{Machine}
use Rattle.machine.specs.declared.Event.{Event}
use Rattle.machine.specs.declared.Acted.{Acted}
use Rattle.machine.specs.declared.Touch.{Touch}
use Rattle.schedule.specs.Run.{Bench, goes_on, turned}
use Rattle.lawful.specs.Added.{write_back}
use Rattle.moments.specs.Frame.{Even}
use Rattle.moments.specs.Moments.{Timed}
use Rattle.moments.proofs.Steps as acts
use Rattle.moments.proofs.Moments as moments
use Rattle.moments.proofs.Known.{Known, known_done}
use Rattle.pageproof.proofs.Alike.{Alike, alike_done, alike_answer}
use Rattle.pageproof.proofs.Even.{even_done}

abbrev pub Takes : ℕ → Machine → Event → Type 0
Takes p m e = accepted (event_at p m e).answer ≡ true

-- the machine after a taken event
abbrev pub next : Machine → Event → Machine
next m e = (done m e (deed_of e.kind)).machine

-- what it touches
abbrev pub touch : Machine → Event → Touch
touch m e = (done m e (deed_of e.kind)).touch

abbrev pub Crash : Event → Type 0
Crash e = deed_of e.kind ≡ crashes

-- ---- what is taken is taken at every place, and by every machine that is alike, of a write-back if its line is as clean there

pub tests : (p : ℕ) (m : Machine) (e : Event) → Takes p m e → accepted (event_answer p m e (deed_of e.kind)) ≡ true
unfolding event_at
tests p m e h = by (accepted (event_answer p m e (deed_of e.kind))) refl h
  where
    by : (b : Bool) → accepted (event_answer p m e (deed_of e.kind)) ≡ b
        → accepted (elim b as (λ _. Acted) [ true ↦ done m e (deed_of e.kind) | false ↦ quiet (event_answer p m e (deed_of e.kind)) m ]).answer ≡ true
        → accepted (event_answer p m e (deed_of e.kind)) ≡ true
    by true q z = q
    by false q z = no_way (sym z ∙ q)

passes : (p : ℕ) (m : Machine) (e : Event) → accepted (event_answer p m e (deed_of e.kind)) ≡ true → event_at p m e ≡ done m e (deed_of e.kind)
unfolding event_at
passes p m e h = by (accepted (event_answer p m e (deed_of e.kind))) h
  where
    by : (b : Bool) → b ≡ true → ◌≡◌ {A = Acted} (elim b as (λ _. Acted) [ true ↦ done m e (deed_of e.kind) | false ↦ quiet (event_answer p m e (deed_of e.kind)) m ]) (done m e (deed_of e.kind))
    by true z = refl
    by false z = no_way (sym z)

-- a check that names another place
again : (b : Bool) (w w' r r' : Answer) → accepted w ≡ false → (accepted r ≡ true → accepted r' ≡ true) → accepted (check b w r) ≡ true → accepted (check b w' r') ≡ true
again true w w' r r' n f h = no_way (sym h ∙ n)
again false w w' r r' n f h = f h

replaced : (p q : ℕ) (m : Machine) (e : Event) (d : Deed) → accepted (event_answer p m e d) ≡ true → accepted (event_answer q m e d) ≡ true
replaced p q m e unknown h = no_way (sym h)
replaced p q m e enqueues h =
    again (thread_too_large m e) (Number p) (Number q) (check (busy m e.number) (Busy p) Taken) (check (busy m e.number) (Busy q) Taken) refl
    (again (busy m e.number) (Busy p) (Busy q) Taken Taken refl (λ z. z)) h
replaced p q m e dequeues h =
    again (thread_too_large m e) (Number p) (Number q) (check (item_not_zero e) (NotZero p) (check (busy m e.number) (Busy p) Taken))
    (check (item_not_zero e) (NotZero q) (check (busy m e.number) (Busy q) Taken)) refl
    (again (item_not_zero e) (NotZero p) (NotZero q) (check (busy m e.number) (Busy p) Taken) (check (busy m e.number) (Busy q) Taken) refl
    (again (busy m e.number) (Busy p) (Busy q) Taken Taken refl (λ z. z))) h
replaced p q m e steps h =
    again (thread_too_large m e) (Number p) (Number q) (check (item_not_zero e) (NotZero p) (check (not (busy m e.number)) (Idle p) Taken))
    (check (item_not_zero e) (NotZero q) (check (not (busy m e.number)) (Idle q) Taken)) refl
    (again (item_not_zero e) (NotZero p) (NotZero q) (check (not (busy m e.number)) (Idle p) Taken) (check (not (busy m e.number)) (Idle q) Taken) refl
    (again (not (busy m e.number)) (Idle p) (Idle q) Taken Taken refl (λ z. z))) h
replaced p q m e writes_back h =
    let c = clean m (line_at (shape_of m) e.number) in
    again (line_too_large m e) (Number p) (Number q) (check (item_not_zero e) (NotZero p) (check c (Clean p) Taken)) (check (item_not_zero e) (NotZero q) (check c (Clean q) Taken)) refl
    (again (item_not_zero e) (NotZero p) (NotZero q) (check c (Clean p) Taken) (check c (Clean q) Taken) refl
    (again c (Clean p) (Clean q) Taken Taken refl (λ z. z))) h
replaced p q m e crashes h =
    again (pick (eqb e.number 0) (item_not_zero e) true) (NotZero p) (NotZero q) (startable (persisted m) Taken) (startable (persisted m) Taken) refl (λ z. z) h

pub taken_is : (p : ℕ) (m : Machine) (e : Event) → Takes p m e → event_at p m e ≡ done m e (deed_of e.kind)
taken_is p m e h = passes p m e (tests p m e h)

pub placed : (p q : ℕ) (m : Machine) (e : Event) → Takes p m e → event_at q m e ≡ event_at p m e
placed p q m e h = passes q m e (replaced p q m e (deed_of e.kind) (tests p m e h)) ∙ sym (taken_is p m e h)

module _ (p q : ℕ) (m m' : Machine) (a : Alike m m') (e : Event) (ne : Crash e → ⊥) (h : Takes p m e) where
  -- where both take it they answer the same
  pub alike_reply : Takes q m' e → (event_at q m' e).answer ≡ (event_at p m e).answer
  alike_reply h' =
      ap (λ (o : Acted). o.answer) (taken_is q m' e h') ∙ (alike_done m m' a e (deed_of e.kind) ne).answer
      ∙ ap (λ (o : Acted). o.answer) (sym (taken_is p m e h))

  -- the other machine takes it, unless it is a write-back of a line that is clean there alone
  pub alike_takes : (deed_of e.kind ≡ writes_back → clean m' (line_at (shape_of m) e.number) ≡ clean m (line_at (shape_of m) e.number)) → Takes q m' e
  alike_takes s =
      ap (λ (o : Acted). accepted o.answer)
      (passes q m' e (ap accepted (alike_answer q m m' a e (deed_of e.kind) ne s) ∙ replaced p q m e (deed_of e.kind) (tests p m e h)))
      ∙ ap accepted ((alike_done m m' a e (deed_of e.kind) ne).answer ∙ ap (λ (o : Acted). o.answer) (sym (taken_is p m e h))) ∙ h

pub alike_touch : (m m' : Machine) → Alike m m' → (e : Event) → (Crash e → ⊥) → touch m' e ≡ touch m e
alike_touch m m' a e ne = (alike_done m m' a e (deed_of e.kind) ne).touch

pub alike_next : (m m' : Machine) → Alike m m' → (e : Event) → (Crash e → ⊥) → Alike (next m e) (next m' e)
alike_next m m' a e ne = (alike_done m m' a e (deed_of e.kind) ne).machine

-- a write-back of a line that there is

pub no_crash : (i : ℕ) → Crash (write_back i) → ⊥
no_crash i c = let z : ◌≡◌ {A = ℕ} 0 1 = cc in omega arith

beyond : (n i : ℕ) → i < n → leb n i ≡ false
beyond n i h = by (leb n i) refl
  where
    by : (b : Bool) → leb n i ≡ b → b ≡ false
    by true e = absurd (omega (arith, leb→le n i (rw e tt)))
    by false e = refl

pub back_taken : (q : ℕ) (m : Machine) (i : ℕ) → i < line_count (shape_of m) → clean m (line_at (shape_of m) i) ≡ false → Takes q m (write_back i)
back_taken q m i h c =
    ap (λ (o : Acted). accepted o.answer)
    (passes q m (write_back i) (fits (line_too_large m (write_back i)) (clean m (line_at (shape_of m) i)) (beyond (line_count (shape_of m)) i h) c))
  where
    fits : (b z : Bool) → b ≡ false → z ≡ false → accepted (check b (Number q) (check (item_not_zero (write_back i)) (NotZero q) (check z (Clean q) Taken))) ≡ true
    fits true z e f = no_way e
    fits false true e f = no_way f
    fits false false e f = refl

-- "write-backs of changed lines only": a write-back that is taken, added or recorded, is of a line that there is and that is not clean
pub back_changed : (p : ℕ) (m : Machine) (e : Event) → Takes p m e → deed_of e.kind ≡ writes_back
    → (e.number < line_count (shape_of m)) × (clean m (line_at (shape_of m) e.number) ≡ false)
back_changed p m e h w =
    by (line_too_large m e) (item_not_zero e) (clean m (line_at (shape_of m) e.number)) refl refl
    (subst (λ (d : Deed). accepted (event_answer p m e d) ≡ true) w (tests p m e h))
  where
    by : (x y z : Bool) → line_too_large m e ≡ x → clean m (line_at (shape_of m) e.number) ≡ z
        → accepted (check x (Number p) (check y (NotZero p) (check z (Clean p) Taken))) ≡ true
        → (e.number < line_count (shape_of m)) × (clean m (line_at (shape_of m) e.number) ≡ false)
    by true y z f g a = no_way (sym a)
    by false true z f g a = no_way (sym a)
    by false false true f g a = no_way (sym a)
    by false false false f g a = (leb-false (line_count (shape_of m)) e.number f, g)

-- ---- a bench that goes on

pub record Good (b : Bench) : Type 0 where
  pub timed : Timed b
  pub even : Even b.machine

-- the bench after a taken event
abbrev pub onto : Bench → Event → Bench
onto b e = turned b (done b.machine e (deed_of e.kind)) (deed_of e.kind)

module _ (p : ℕ) (b : Bench) (e : Event) (h : Takes p b.machine e) where
  -- what the moments know goes on
  pub onto_known : Known b → Known (onto b e)
  onto_known k = known_done p b e k (deed_of e.kind) (tests p b.machine e h)

  module _ (ne : Crash e → ⊥) where
    pub onto_goes : onto b e ≡ goes_on b (next b.machine e) (touch b.machine e)
    onto_goes = subst (λ (o : Acted). turned b o (deed_of e.kind) ≡ goes_on b o.machine o.touch) (taken_is p b.machine e h) (acts.turned_on p b e h ne)

    pub onto_machine : (onto b e).machine ≡ next b.machine e
    onto_machine = ap (λ (x : Bench). x.machine) onto_goes

    pub onto_size : shape_of (onto b e).machine ≡ shape_of b.machine
    onto_size = ap shape_of onto_machine ∙ (acts.frame_done b.machine e (deed_of e.kind) ne).shape

    pub onto_good : Good b → Good (onto b e)
    onto_good g = record {
      timed = rw onto_goes (moments.timed_goes b (next b.machine e) (touch b.machine e) g.timed);
      even = rw onto_machine (even_done b.machine e (deed_of e.kind) g.even);
    }

-- a crash begins anew
pub crash_good : (b : Bench) → Good b → (e : Event) → Crash e → Good (onto b e)
crash_good b g e c =
    rw c (record { timed = moments.timed_begins (done b.machine e crashes).machine; even = even_done b.machine e crashes g.even })
