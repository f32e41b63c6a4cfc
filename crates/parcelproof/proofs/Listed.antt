-- Every moment of an accepted run: the enqueues on the list are as they are at every moment of the abstract machine's run of the same events.
use Prim.Native.Nat.{ℕ, zero, suc, ◌≤◌, ◌<◌}
use mathlib.Core.Path.{◌≡◌, refl, sym, ap, subst, ◌∙◌}
use mathlib.Core.Bool.{Bool, true, false}
use mathlib.Core.List.{List, [], ◌∷◌, ◌++◌}
use mathlib.Core.Logic.{◌≢◌}
use native.Mathlib.Omega.{arith}
use native.Mathlib.Decide.{ℕ_discrete}
use Rattle.lists.specs.Tab.{tab}
use Rattle.lists.proofs.BoolLaws.{no_way}
use Rattle.answer.specs.Answers.{accepted}
use Rattle.machine.specs.Line.{shape_of}
use Rattle.machine.specs.Retire.{quiet}
use Rattle.machine.specs.Event.{Deed, unknown, enqueues, dequeues, steps, writes_back, crashes, deed_of, event_answer, event_at, done}
use Rattle.machine.specs.declared.Machine.{Machine}
use Rattle.machine.specs.declared.Event.{Event}
use Rattle.machine.specs.declared.Acted.{Acted}
use Rattle.schedule.specs.Layout.{schedule_in, schedule_answer, event_in, events_in, count_in}
use Rattle.schedule.specs.Run as schedule
use Rattle.schedule.specs.Run.{ran, opened, bench_at}
use Rattle.schedule.specs.Running.{bench_to}
use Rattle.lawful.specs.Demand3.{Bytes}
use Rattle.model.specs.Basics.{upd}
use Rattle.model.specs.Lines.{Line, flushes, issues}
use Rattle.model.specs.Core.{Core, Th, content, idle, a1, d1}
use Rattle.model.specs.Places.{owns_d}
use Rattle.model.specs.Steps.{Act, enq, deq, does}
use Rattle.model.specs.Machine.{M, goes_on}
use Rattle.model.specs.Bench.{Bench, turn, opening}
use Rattle.model.proofs.Basics.{upd_same, upd_other}
use Rattle.model.proofs.Times.{hist_of, Grown, on_grown}
use Rattle.model.proofs.Always.Runs.{Kept}
use Rattle.tied.specs.Memory as memory
use Rattle.tied.specs.Shown.{image_shown, event_by, line_shown}
use Rattle.tied.proofs.Bench.{BenchT}
use Rattle.tied.proofs.Turn.{takes, turns}
use Rattle.tied.proofs.Run.{opens_t}
use Rattle.tied.proofs.Schedules.{schedule_starts, schedule_narrow}
use Rattle.pageproof.proofs.Events.{taken_is}
use Rattle.pageproof.proofs.Runs as runs
use Rattle.plainproof.proofs.Since.{come_all, reply_taken}
use Rattle.std.specs.Prelude.{Option, None, Some}
use Rattle.answer.specs.declared.Reply.TheVariants as reply
use Rattle.parcels.specs.Parcel.{is_linked, fresh, noted, machine_at, parcels_to, parcels_in}
use Rattle.parcels.specs.declared.Parcel.{Parcel}
use Rattle.parcelproof.proofs.Taking.{Taking, taking_owns, covered_on, taking_on}
use Rattle.parcelproof.proofs.Went.{phase}
use Rattle.parcelproof.proofs.Held.{Held, idle_of, takes_on, stays}
use Rattle.parcelproof.proofs.Moves.{zero_not}
use Rattle.parcelproof.proofs.Steps.{Each, each_map, held_steps}

-- ---- the begin of an operation of thread t, which had none

module _ (B : Bench) (k : Kept B) (x : Act) (t : ℕ) (s' : Th) where
  abbrev c : Core
  c = B.mach.core

  abbrev c' : Core
  c' = (does c x).core

  held_begun : c'.thr ≡ upd c.thr t s' → c.thr t ≡ idle → ((y : ℕ) → (c'.node y).index ≡ (c.node y).index) → ((u : ℕ) → (does c x).touch ≢ issues u)
      → (p : Parcel) → Held B.mach p → Held (goes_on B.mach c' (does c x).touch) p
  held_begun th id ik nf p h = stays B k x p h (λ e. open' e (ℕ_discrete p.thread t)) (λ e u ne z. take u (ℕ_discrete u t) z)
    where
      open' : p.said ≡ reply.Taken → Dec (p.thread ≡ t) → phase (c'.thr p.thread) ≡ phase (c.thr p.thread)
      open' e (yes f) = absurd (zero_not (is_linked p) (sym (ap (λ (u : ℕ). phase (c.thr u)) f ∙ ap phase id) ∙ h.opened e))
      open' e (no ne) = ap phase (ap (λ (f : ℕ → Th). f p.thread) th ∙ upd_other c.thr t s' ne)

      take : (u : ℕ) → Dec (u ≡ t) → Taking c.conf.engine B.mach u p.index (c.thr u)
          → Taking c'.conf.engine (goes_on B.mach c' (does c x).touch) u p.index (c'.thr u)
      take u (yes f) z = absurd (taking_owns c.conf.engine B.mach u p.index (c.thr u) z (ap (λ (u : ℕ). owns_d (c.thr u)) f ∙ ap owns_d id))
      take u (no ne) z = takes_on B k x (λ y f. ik y) u p.index (nf u) (ap (λ (f : ℕ → Th). f u) th ∙ upd_other c.thr t s' ne) z

-- ---- a write-back

module _ (B : Bench) (k : Kept B) (l : Line) where
  abbrev m₀ : M
  m₀ = B.mach

  abbrev c₀ : Core
  c₀ = m₀.core

  grown : Grown (flushes l) (content c₀) (hist_of m₀) (hist_of (goes_on m₀ c₀ (flushes l)))
  grown = on_grown m₀ c₀ k.timed (flushes l) (λ l n. refl)

  held_back : (p : Parcel) → Held m₀ p → Held (goes_on m₀ c₀ (flushes l)) p
  held_back p h = record {
    opened = h.opened;
    turned = h.turned;
    taken = h.taken;
    handed = λ e. ((h.handed e).0, (h.handed e).1, covered_on m₀ c₀ (flushes l) k.timed grown (λ j. omega arith) refl p.index (h.handed e).2);
    taking = λ e u ne. taking_on m₀ c₀ (flushes l) k.timed grown (λ j. omega arith) c₀.conf.engine u p.index (c₀.thr u)
        (λ f. let q : ◌≡◌ {A = ℕ} 0 1 = cc in omega arith) (λ g y f. refl) (λ g y v f. refl) (h.taking e u ne);
  }

-- ---- an event that is taken

none_some : {u : ℕ} → ◌≡◌ {A = Option ℕ} None (Some u) → ⊥
none_some e = cc

each_as : (P Q : Parcel → Type 0) → ((p : Parcel) → P p → Q p) → (l : List Parcel) → Each P l → Each Q l
each_as P Q f [] a = tt
each_as P Q f (p ∷ l) a = (f p a.0, each_as P Q f l a.1)

each_add : (P : Parcel → Type 0) (l : List Parcel) (p : Parcel) → Each P l → P p → Each P (l ++ (p ∷ []))
each_add P [] p a b = (b, tt)
each_add P (r ∷ l) p a b = (a.0, each_add P l p a.1 b)

module _ (b : schedule.Bench) (B : Bench) (r : BenchT b B) (i : ℕ) (e : Event) (l : List Parcel) where
  abbrev m : Machine
  m = b.machine

  abbrev t : ℕ
  t = e.number

  abbrev thr : ℕ → Th
  thr = B.mach.core.thr

  pub event_held : (δ : Deed) → accepted (event_answer i m e δ) ≡ true → Each (Held B.mach) l
      → Each (Held (turn B (event_by (shape_of m) δ e)).mach) (noted i e m (done m e δ) l δ)
  event_held unknown a h = no_way (sym a)
  event_held enqueues a h = each_add (Held (turn B (event_by (shape_of m) enqueues e)).mach) l (fresh i e)
      (each_as (Held B.mach) (Held (turn B (event_by (shape_of m) enqueues e)).mach)
      (held_begun B r.kept (enq t e.item) t (a1 e.item) refl (idle_of (thr t) (takes b B r i e enqueues a).1) (λ y. refl)
      (λ u f. let q : ◌≡◌ {A = ℕ} 0 1 = cc in omega arith)) l h)
      (record {
        opened = λ f. ap phase (upd_same thr t (a1 e.item));
        turned = λ f. refl;
        taken = λ u f. absurd (none_some f);
        handed = λ f. no_way (sym f);
        taking = λ f u ne. absurd (none_some ne);
      })
  event_held dequeues a h = each_as (Held B.mach) (Held (turn B (event_by (shape_of m) dequeues e)).mach)
      (held_begun B r.kept (deq t) t d1 refl (idle_of (thr t) (takes b B r i e dequeues a).1) (λ y. refl)
      (λ u f. let q : ◌≡◌ {A = ℕ} 0 1 = cc in omega arith)) l h
  event_held steps a h = each_map (Held B.mach) (Held (turn B (event_by (shape_of m) steps e)).mach) _ (held_steps b B r i e a) l h
  event_held writes_back a h = each_as (Held B.mach) (Held (turn B (event_by (shape_of m) writes_back e)).mach)
      (held_back B r.kept (line_shown (memory.line_at (shape_of m) t))) l h
  event_held crashes a h = tt

-- ---- the run

taken_answer : (q : ℕ) (m : Machine) (e : Event) → accepted (event_at q m e).answer ≡ true → accepted (event_answer q m e (deed_of e.kind)) ≡ true
unfolding event_at
taken_answer q m e = by (accepted (event_answer q m e (deed_of e.kind))) refl
  where
    by : (x : Bool) → accepted (event_answer q m e (deed_of e.kind)) ≡ x
        → accepted (elim x as (λ _. Acted) [ true ↦ done m e (deed_of e.kind) | false ↦ quiet (event_answer q m e (deed_of e.kind)) m ]).answer ≡ true
        → accepted (event_answer q m e (deed_of e.kind)) ≡ true
    by true f h = f
    by false f h = h

pub record Listed (s : List ℕ) (b : schedule.Bench) (l : List Parcel) : Type 0 where
  pub model : Bench
  pub tied : BenchT b model
  pub held : Each (Held model.mach) l

module _ (s : List ℕ) (bytes : Bytes s) (a : accepted (schedule_answer s) ≡ true) (all : accepted (ran s).answer ≡ true) where
  taken_all : runs.Accepts 0 (opened (schedule_in s)) (tab (event_in s) (count_in s))
  unfolding ran events_in
  taken_all = all

  next : (i : ℕ) → i < count_in s → Listed s (bench_to s i) (parcels_to s i) → Listed s (bench_to s (suc i)) (parcels_to s (suc i))
  unfolding bench_at parcels_to
  next i h p =
      let e = event_in s i in
      let m = machine_at s i in
      let x = reply_taken (opened (schedule_in s)) (event_in s) (count_in s) taken_all i h in
      let y = taken_answer i m e x in
      let o = sym (taken_is i m e x) in
      record {
        model = turn p.model (event_by (shape_of m) (deed_of e.kind) e);
        tied = subst (λ (o : Acted). BenchT (schedule.turned (bench_to s i) o (deed_of e.kind)) (turn p.model (event_by (shape_of m) (deed_of e.kind) e))) o
            (turns (bench_to s i) p.model p.tied i e (deed_of e.kind) y);
        held = subst (λ (o : Acted). Each (Held (turn p.model (event_by (shape_of m) (deed_of e.kind) e)).mach) (noted i e m o (parcels_to s i) (deed_of e.kind))) o
            (event_held (bench_to s i) p.model p.tied i e (parcels_to s i) (deed_of e.kind) y p.held);
      }

  pub listed : (i : ℕ) → i ≤ count_in s → Listed s (bench_to s i) (parcels_to s i)
  unfolding bench_at parcels_to
  listed zero h = record {
    model = opening (image_shown (schedule_in s).image (schedule_in s).t);
    tied = opens_t (schedule_in s).image (schedule_in s).t (schedule_starts s bytes a) (schedule_narrow s bytes);
    held = tt;
  }
  listed (suc i) h = next i (omega arith) (listed i (omega arith))

  -- at the schedule's end
  pub listed_end : Listed s (ran s).bench (parcels_in s)
  unfolding ran events_in
  listed_end = subst (λ (b : schedule.Bench). Listed s b (parcels_in s))
      (sym (come_all (opened (schedule_in s)) (event_in s) (count_in s) taken_all (count_in s) (omega arith)).come) (listed (count_in s) (omega arith))
