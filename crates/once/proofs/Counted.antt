-- Request 103's claim, for every accepted schedule. Assumes nothing.
use Prim.Native.Nat.{ℕ, zero, suc, ◌+◌, ◌≤◌, ◌<◌}
use mathlib.Core.Path.{◌≡◌, refl, sym, ap, subst, ◌∙◌}
use mathlib.Core.Bool.{Bool, true, false, not}
use mathlib.Core.List.{List, [], ◌∷◌}
use mathlib.Core.Logic.{◌⊎◌, inl, inr}
use native.Mathlib.Omega.{arith}
use native.Mathlib.Decide.{dec_lt}
use borrow.Author.Tests.{eq-eqb, eqb-true, eqb-false}
use lib.ListN.{get_or, set, length, get_or-replicate}
use lib.Seq.{get_or-set_other}
use lib.Dec.{eqb}
use Rattle.lists.specs.Find.{pick}
use Rattle.lists.proofs.BoolLaws.{no_way, false_true, yes_of}
use Rattle.answer.specs.Answers.{accepted, Answer, Taken}
use Rattle.image.specs.declared.Image.{Image}
use Rattle.machine.specs.Record.{thread, zero_thread, idle_thread, idle_threads, put_thread}
use Rattle.machine.specs.Stage.{Stage, no_step, A1, D1, stage_of, number, stage}
use Rattle.machine.specs.Line.{shape_of, line_at, persist, persisted}
use Rattle.machine.specs.declared.Line.{Line}
use Rattle.machine.specs.declared.Line.TheVariants.{OfHead as of_head, OfNode as of_node}
use Rattle.machine.specs.Start.{start_of, start_with}
use Rattle.machine.specs.Retire.{quiet}
use Rattle.machine.specs.Event.{Deed, unknown, enqueues, dequeues, steps, writes_back, crashes, deed_of, event_answer, if_taken, done, begun, stepped, event_at}
use Rattle.machine.specs.declared.Machine.{Machine}
use Rattle.machine.specs.declared.Event.{Event}
use Rattle.machine.specs.declared.Acted.{Acted}
use Rattle.machine.specs.declared.Thread.{Thread}
use Rattle.schedule.specs.Layout.{schedule_in, events_in}
use Rattle.schedule.specs.Run.{Bench, Ran, turned, forward, and_before, run, opened, ran}
use Rattle.once.specs.Once.{counts, touch_of, count_by, counts_after, Answered, replies, noted, answered_by, answered, due, Once, Each, OnePersistEach}
use Rattle.once.proofs.Flow.{sofar, Agrees, sure, no_thread, put_own, put_idle, Goes, step_own, Spares, spared, step_spares}

-- what is kept from event to event: each thread's count agrees with where it stands
abbrev Kept : Machine → (ℕ → ℕ) → Type 0
Kept m c = (u : ℕ) → Agrees (stage m u) (c u)

-- ---- an event that is done, by its deed

-- the count where e answered is due; and the counts behind it agree again
abbrev Counted : Machine → Event → (ℕ → ℕ) → Deed → Type 0
Counted m e c d =
    (replies (done m e d).answer ≡ true → count_by (c e.number) (done m e d).touch d ≡ due (done m e d).answer)
    × ((u : ℕ) → Agrees (stage (done m e d).machine u) (pick (eqb u e.number) (count_by (c u) (done m e d).touch d) (c u)))

-- one of two counts, by whether the thread is the event's
by_thread : (m' : Machine) (k u x y : ℕ) → (u ≡ k → Agrees (stage m' u) x) → ((u ≡ k → ⊥) → Agrees (stage m' u) y) → Agrees (stage m' u) (pick (eqb u k) x y)
by_thread m' k u x y f g = by (eqb u k) refl
  where
    by : (b : Bool) → eqb u k ≡ b → Agrees (stage m' u) (pick b x y)
    by true e = f (eqb-true u k e)
    by false e = g (eqb-false u k e)

stage_same : (m m' : Machine) (u x : ℕ) → thread m' u ≡ thread m u → Agrees (stage m u) x → Agrees (stage m' u) x
stage_same m m' u x e a = subst (λ (v : Thread). Agrees (stage_of v.step) x) (sym e) a

-- a begin: the thread stands at its first step with nothing performed, or is beyond the table
begins_counted : (m : Machine) (k : ℕ) (v : Thread) (c : ℕ → ℕ) (s : Stage) → stage_of v.step ≡ s → sofar s ≡ 0 → Kept m c
    → (u : ℕ) → Agrees (stage (put_thread m k v) u) (pick (eqb u k) 0 (c u))
begins_counted m k v c s e z i u =
    by_thread (put_thread m k v) k u 0 (c u) (λ q. rw q (own (dec_lt k (length m.threads))))
    (λ ne. stage_same m (put_thread m k v) u (c u) (get_or-set_other m.threads k u v zero_thread ne) (i u))
  where
    own : Dec (k < length m.threads) → Agrees (stage (put_thread m k v) k) 0
    own (yes h) = inr (sym (ap sofar (put_own m.threads k v h ∙ e) ∙ z))
    own (no h) = inl (no_thread (set m.threads k v) k (omega (arith, lib.ListN.length-set m.threads k v)))

persist_threads : (m : Machine) (l : Line) → (persist m l).threads ≡ m.threads
persist_threads m (of_head k) = refl
persist_threads m (of_node i) = refl

start_idle : (g : Image) (t u : ℕ) → stage (start_of g t) u ≡ no_step
unfolding start_with idle_threads
start_idle g t u = by (dec_lt u 8)
  where
    by : Dec (u < 8) → stage_of (get_or (start_of g t).threads u zero_thread).step ≡ no_step
    by (yes h) = ap (λ (v : Thread). stage_of v.step) (get_or-replicate 8 u (idle_thread 255) zero_thread h)
    by (no h) = no_thread (start_of g t).threads u (omega arith)

-- the thread as a begin leaves it
abbrev started : Machine → ℕ → ℕ → ℕ → Thread
started m k s v = record { step = s; node = 255; tail = 255; head = 255; index = 0; next = 255; item = v; held = (thread m k).held }

-- what is to be shown of a step of thread k, which stands at s
abbrev Stepped : Machine → ℕ → (ℕ → ℕ) → Stage → Type 0
Stepped m k c s =
    Goes (stepped m k s) (c k) k
    × ((u : ℕ) → Agrees (stage (stepped m k s).machine u) (pick (eqb u k) (c u + counts (stepped m k s).touch) (c u)))

-- a thread that has none
idle_counted : (m : Machine) (k : ℕ) (c : ℕ → ℕ) → stage m k ≡ no_step → Kept m c → Stepped m k c no_step
idle_counted m k c e i =
    ((λ z. false_true z, inl e), λ u. by_thread m k u (c u + 0) (c u) (λ q. inl (ap (stage m) q ∙ e)) (λ _. i u))

busy_counted : (m : Machine) (k : ℕ) (c : ℕ → ℕ) (s : Stage) → stage m k ≡ s → k < length m.threads → c k ≡ sofar s → Kept m c → Stepped m k c s
busy_counted m k c s e h q i = let r = step_own m k (c k) s e h q in (
  r,
  λ u. by_thread (stepped m k s).machine k u (c u + counts (stepped m k s).touch) (c u)
      (λ z. subst (λ (u : ℕ). Agrees (stage (stepped m k s).machine u) (c u + counts (stepped m k s).touch)) (sym z) r.1)
      (λ ne. stage_same m (stepped m k s).machine u (c u) (spared m (stepped m k s).machine k u (step_spares m k s) ne) (i u)),
)

step_counted : (m : Machine) (k : ℕ) (c : ℕ → ℕ) → Kept m c → Stepped m k c (stage m k)
step_counted m k c i = by (dec_lt k (length m.threads)) (i k)
  where
    none : stage m k ≡ no_step → Stepped m k c (stage m k)
    none e = subst (Stepped m k c) (sym e) (idle_counted m k c e i)

    by : Dec (k < length m.threads) → Agrees (stage m k) (c k) → Stepped m k c (stage m k)
    by (yes h) (inl e) = none e
    by (yes h) (inr q) = busy_counted m k c (stage m k) refl h q i
    by (no h) a = none (no_thread m.threads k (omega arith))

pub counted : (m : Machine) (e : Event) (c : ℕ → ℕ) (d : Deed) → Kept m c → Counted m e c d
counted m e c unknown i = (λ z. false_true z, λ u. by_thread m e.number u (c u) (c u) (λ _. i u) (λ _. i u))
counted m e c enqueues i = (λ z. false_true z, begins_counted m e.number (started m e.number 1 e.item) c A1 refl refl i)
counted m e c dequeues i = (λ z. false_true z, begins_counted m e.number (started m e.number 13 0) c D1 refl refl i)
counted m e c steps i = let r = step_counted m e.number c i in (r.0.0, r.1)
counted m e c writes_back i = (λ z. false_true z, λ u. by_thread (persist m (line_at (shape_of m) e.number)) e.number u (c u) (c u) (λ _. same u) (λ _. same u))
  where
    same : (u : ℕ) → Agrees (stage (persist m (line_at (shape_of m) e.number)) u) (c u)
    same u = stage_same m (persist m (line_at (shape_of m) e.number)) u (c u) (ap (λ (ts : List Thread). get_or ts u zero_thread) (persist_threads m (line_at (shape_of m) e.number))) (i u)
counted m e c crashes i =
    (λ z. false_true z, λ u. by_thread (start_of (persisted m) m.t) e.number u (c u) (c u) (λ _. inl (start_idle (persisted m) m.t u)) (λ _. inl (start_idle (persisted m) m.t u)))

-- ---- an event of a run

-- an event that is not refused is done
abbrev chosen : Answer → Machine → Event → Deed → Bool → Acted
chosen a m e d b = elim b [ true ↦ done m e d | false ↦ quiet a m ]

chosen_done : (a : Answer) (m : Machine) (e : Event) (d : Deed) (b : Bool) → accepted a ≡ b → accepted (chosen a m e d b).answer ≡ true → chosen a m e d b ≡ done m e d
chosen_done a m e d true z h = refl
chosen_done a m e d false z h = no_way (sym h ∙ z)

event_done : (p : ℕ) (m : Machine) (e : Event) → accepted (event_at p m e).answer ≡ true → event_at p m e ≡ done m e (deed_of e.kind)
unfolding event_at
event_done p m e h =
    let a = event_answer p m e (deed_of e.kind) in
    chosen_done a m e (deed_of e.kind) (accepted a) refl h

module _ (p : ℕ) (m : Machine) (e : Event) (c : ℕ → ℕ) (taken : accepted (event_at p m e).answer ≡ true) (i : Kept m c) where
  abbrev c' : ℕ → ℕ
  c' = counts_after c (touch_of p m e) e

  own_count : c' e.number ≡ count_by (c e.number) (touch_of p m e) (deed_of e.kind)
  own_count = rw (eq-eqb e.number e.number refl) refl

  -- what is so of the event as it is done is so of it in the run
  abbrev So : Acted → Type 0
  So o =
      (replies o.answer ≡ true → count_by (c e.number) o.touch (deed_of e.kind) ≡ due o.answer)
      × Kept o.machine (counts_after c o.touch e)

  so : So (event_at p m e)
  so = subst So (sym (event_done p m e taken)) (counted m e c (deed_of e.kind) i)

  event_due : replies (event_at p m e).answer ≡ true → c' e.number ≡ due (event_at p m e).answer
  event_due z = own_count ∙ so.0 z

  event_kept : Kept (event_at p m e).machine c'
  event_kept = so.1

-- the bench goes on with the machine that the event left
bench_now : (b : Bench) (o : Acted) (e : Event) (d : Deed) → o.machine ≡ (done b.machine e d).machine → (turned b o d).machine ≡ o.machine
bench_now b o e unknown q = sym q
bench_now b o e enqueues q = refl
bench_now b o e dequeues q = refl
bench_now b o e steps q = refl
bench_now b o e writes_back q = refl
bench_now b o e crashes q = refl

-- ---- the run

-- a run that no refusal ended took its first event, and the rest
module _ (p : ℕ) (b : Bench) (e : Event) (l : List Event) where
  abbrev first : Acted
  first = event_at p b.machine e

  abbrev rest : Ran
  rest = run (suc p) (forward p b e) l

  abbrev either : Bool → Ran
  either t = elim t [ true ↦ and_before first.answer rest | false ↦ record { answer = first.answer; replies = []; bench = b } ]

  either_taken : (t : Bool) → accepted first.answer ≡ t → accepted (either t).answer ≡ true → (accepted first.answer ≡ true) × (accepted rest.answer ≡ true)
  either_taken true z h = (z, h)
  either_taken false z h = no_way (sym h ∙ z)

  run_taken : accepted (run p b (e ∷ l)).answer ≡ true → (accepted first.answer ≡ true) × (accepted rest.answer ≡ true)
  unfolding run
  run_taken h = either_taken (accepted first.answer) refl h

noted_each : (p k : ℕ) (a : Answer) (x : ℕ) (l : List Answered) → (replies a ≡ true → x ≡ due a) → Each Once l → Each Once (noted p k a x l)
noted_each p k a x l f g = by (replies a) refl
  where
    by : (t : Bool) → replies a ≡ t → Each Once (pick t (record { event = p; thread = k; answer = a; persists = x } ∷ l) l)
    by true z = (f z, g)
    by false z = g

pub each_once : (p : ℕ) (b : Bench) (c : ℕ → ℕ) (l : List Event) → accepted (run p b l).answer ≡ true → Kept b.machine c
    → Each Once (answered_by touch_of p b.machine c l)
unfolding answered_by
each_once p b c [] h i = tt
each_once p b c (e ∷ l) h i =
    let t = run_taken p b e l h in
    let o = event_at p b.machine e in
    let b' = forward p b e in
    let c'' = counts_after c (touch_of p b.machine e) e in
    let now : b'.machine ≡ o.machine = bench_now b o e (deed_of e.kind) (ap (λ (o : Acted). o.machine) (event_done p b.machine e t.0)) in
    noted_each p e.number o.answer (c'' e.number) (answered_by touch_of (suc p) o.machine c'' l) (event_due p b.machine e c t.0 i)
    (subst (λ (m : Machine). Each Once (answered_by touch_of (suc p) m c'' l)) now
    (each_once (suc p) b' c'' l t.1 (subst (λ (m : Machine). Kept m c'') (sym now) (event_kept p b.machine e c t.0 i))))

-- "Prove, for every accepted schedule": whatever the bytes, where the run of their events is not refused
pub one_persist_each : (s : List ℕ) → accepted (ran s).answer ≡ true → OnePersistEach s
unfolding ran answered
one_persist_each s h = each_once 0 (opened (schedule_in s)) (λ k. 0) (events_in s) h (λ u. inl (start_idle (schedule_in s).image (schedule_in s).t u))
