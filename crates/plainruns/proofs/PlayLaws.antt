-- The machines that the plain way runs through: each event that was recorded can be played on them.
use Prim.Native.Nat.{ℕ, zero, suc, ◌+◌, ◌≤◌, ◌<◌}
use mathlib.Core.Path.{◌≡◌, refl, sym, ap, ap₂, subst, ◌∙◌}
use mathlib.Core.Bool.{Bool, true, false, not}
use mathlib.Core.List.{List}
use native.Mathlib.Omega.{arith}
use native.Mathlib.Numerals.{add-one}
use lib.ListN.{get_or}
use lib.Dec.{eqb}
use borrow.Author.Tests.{leb-false}
use Rattle.lists.specs.Find.{pick}
use Rattle.lists.specs.Tab.{tab}
use Rattle.lists.proofs.BoolLaws.{no_way}
use Rattle.answer.specs.Answers.{check, accepted, Answer, Taken, Number, Busy, Idle, NotZero}
use Rattle.image.specs.declared.Shape.{Shape}
use Rattle.image.proofs.HeadLaws.{lines_few}
use Rattle.machine.specs.Line.{shape_of, line_count, line_at}
use Rattle.machine.specs.Stage.{busy}
use Rattle.machine.specs.Retire.{quiet}
use Rattle.machine.specs.Range.{in_range}
use Rattle.machine.specs.Event.{Deed, enqueues, dequeues, steps, deed_of, thread_too_large, item_not_zero, event_answer, done, event_at}
use Rattle.machine.specs.declared.Line.{Line}
use Rattle.machine.specs.declared.Machine.{Machine}
use Rattle.machine.specs.declared.Event.{Event}
use Rattle.machine.specs.declared.Acted.{Acted}
use Rattle.machine.proofs.LineLaws.{line_in}
use Rattle.schedule.specs.Layout.{event_from, event_place, event_in, count_in, schedule_shape}
use Rattle.schedule.specs.Run.{Bench, ran}
use Rattle.schedule.specs.Running.{bench_to}
use Rattle.page.specs.Refusals.{page_answer}
use Rattle.lawful.specs.Added.{write_back}
use Rattle.lawful.specs.Demand3.{Bytes}
use Rattle.moments.proofs.Frame.{frame_persist}
use Rattle.moments.proofs.Steps as acts
use Rattle.hands.specs.Places.{HasPlace}
use Rattle.hands.proofs.HandLaws.{place_in}
use Rattle.steps.specs.Ready.{Ready}
use Rattle.steps.proofs.Fit as fit
use Rattle.tied.proofs.Schedules as schedules
use Rattle.pageproof.proofs.Alike.{Copies, holding, Alike, alike_size}
use Rattle.pageproof.proofs.Events as events
use Rattle.pageproof.proofs.Holds.{page_ran, page_schedule}
use Rattle.plainproof.specs.Plain.{last_start, start_machine, since_count, event_since, lines_in, played, backed, played_at}
use Rattle.plainproof.specs.Times.{Recorded}
use Rattle.plainproof.proofs.ByTimes as times
use Rattle.plainproof.proofs.Since as since
use Rattle.plainruns.specs.Playable.{Small, Playable}

-- ---- sizes

small_shape : (m m' : Machine) → shape_of m' ≡ shape_of m → Small m → Small m'
small_shape m m' e h = record { nodes = subst (λ (z : Shape). z.n ≤ 64) (sym e) h.nodes; threads = subst (λ (z : Shape). z.t ≤ 8) (sym e) h.threads }

-- a line that there is has its place in the tables
pub there : (m : Machine) (l : Line) (x : ℕ) → Small m → x < line_count (shape_of m) → l ≡ line_at (shape_of m) x → HasPlace l
there m l x h i e = subst HasPlace (sym e) (place_in (shape_of m) (line_at (shape_of m) x) h.nodes (lines_few (shape_of m) h.threads) (line_in (shape_of m) x i))

backed_shape : (π : List ℕ) (r : ℕ) (m : Machine) (n : ℕ) → shape_of (backed π r m n) ≡ shape_of m
unfolding backed
backed_shape π r m zero = refl
backed_shape π r m (suc n) = by (eqb (get_or π n 0) (suc r)) (backed_shape π r m n)
  where
    by : (x : Bool) → shape_of (backed π r m n) ≡ shape_of m → shape_of (pick x (played (backed π r m n) (write_back n)) (backed π r m n)) ≡ shape_of m
    by true e = (frame_persist (backed π r m n) (line_at (shape_of (backed π r m n)) n)).shape ∙ e
    by false e = e

pub backed_small : (π : List ℕ) (r : ℕ) (m : Machine) (n : ℕ) → Small m → Small (backed π r m n)
backed_small π r m n h = small_shape m (backed π r m n) (backed_shape π r m n) h

pub backed_line : (π : List ℕ) (r : ℕ) (m : Machine) (n j : ℕ) → j < line_count (shape_of m) → j < line_count (shape_of (backed π r m n))
backed_line π r m n j h = subst (λ (z : Shape). j < line_count z) (sym (backed_shape π r m n)) h

-- one line more
pub backed_next : (π : List ℕ) (r : ℕ) (m x : Machine) (j : ℕ) → x ≡ backed π r m j → (b : Bool) → eqb (get_or π j 0) (suc r) ≡ b
    → pick b (played x (write_back j)) x ≡ backed π r m (suc j)
unfolding backed
backed_next π r m x j e b h = ap (λ (y : Machine). pick b (played y (write_back j)) y) e ∙ ap (λ (c : Bool). pick c (played (backed π r m j) (write_back j)) (backed π r m j)) (sym h)

-- ---- what a taken event is

answer_taken : (p : ℕ) (m : Machine) (e : Event) → accepted (event_at p m e).answer ≡ true → accepted (event_answer p m e (deed_of e.kind)) ≡ true
unfolding event_at
answer_taken p m e h = by (accepted (event_answer p m e (deed_of e.kind))) refl h
  where
    by : (b : Bool) → accepted (event_answer p m e (deed_of e.kind)) ≡ b
        → accepted (elim b as (λ _. Acted) [ true ↦ done m e (deed_of e.kind) | false ↦ quiet (event_answer p m e (deed_of e.kind)) m ]).answer ≡ true
        → accepted (event_answer p m e (deed_of e.kind)) ≡ true
    by true q z = q
    by false q z = no_way (sym z ∙ q)

first_check : (b : Bool) (p : ℕ) (rest : Answer) → accepted (check b (Number p) rest) ≡ true → b ≡ false
first_check true p rest h = no_way (sym h)
first_check false p rest h = refl

module _ (p : ℕ) (m : Machine) (e : Event) (h : accepted (event_at p m e).answer ≡ true) where
  thread_by : (d : Deed) → deed_of e.kind ≡ d → (rest : Answer) → event_answer p m e d ≡ check (thread_too_large m e) (Number p) rest → e.number < m.t
  thread_by d k rest q =
      leb-false m.t e.number (first_check (thread_too_large m e) p rest (ap accepted (sym (ap (event_answer p m e) k ∙ q)) ∙ answer_taken p m e h))

  enqueue_thread : e.kind ≡ 1 → e.number < m.t
  enqueue_thread k = thread_by enqueues (ap deed_of k) (check (busy m e.number) (Busy p) Taken) refl

  dequeue_thread : e.kind ≡ 2 → e.number < m.t
  dequeue_thread k = thread_by dequeues (ap deed_of k) (check (item_not_zero e) (NotZero p) (check (busy m e.number) (Busy p) Taken)) refl

  step_thread : e.kind ≡ 3 → e.number < m.t
  step_thread k = thread_by steps (ap deed_of k) (check (item_not_zero e) (NotZero p) (check (not (busy m e.number)) (Idle p) Taken)) refl

  back_line : e.kind ≡ 4 → e.number < line_count (shape_of m)
  back_line k = (events.back_changed p m e h (ap deed_of k)).0

-- ---- a machine that differs in its persisted copies and who is over them alone is as ready

ready_holding : (m : Machine) (c : Copies) (k : ℕ) → Ready m k → Ready (holding m c) k
ready_holding m c k r = record {
  thread_in = r.thread_in;
  nodes_in_lem = r.nodes_in_lem;
  threads_in_lem = r.threads_in_lem;
  free_in = r.free_in;
  last_in = r.last_in;
  own_in = r.own_in;
  t_in = r.t_in;
  head_in = r.head_in;
  next_in = r.next_in;
  held_in = r.held_in;
}

ready_alike : (m m' : Machine) (k : ℕ) → Alike m m' → Ready m k → Ready m' k
ready_alike m m' k a r = subst (λ (x : Machine). Ready x k) (sym a.is) (ready_holding m a.copies k r)

small_range : (m : Machine) → in_range m ≡ true → Small m
small_range m h = let s = (fit.fit_range m h).sizes in record { nodes = s.n_hi; threads = s.t_hi }

pub playable : (p : ℕ) (m m' : Machine) → Alike m m' → in_range m ≡ true → (e : Event) → (events.Crash e → ⊥) → accepted (event_at p m e).answer ≡ true → Playable m' e
playable p m m' a h e ne t =
    let few = (fit.fit_range m h).sizes.t_hi in
    record {
      small = small_shape m m' (alike_size m m' a) (small_range m h);
      free = ne;
      enqueue = λ k. omega (arith, enqueue_thread p m e t k, few);
      dequeue = λ k. omega (arith, dequeue_thread p m e t k, few);
      step = λ k. ready_alike m m' e.number a (fit.ready m e.number h (step_thread p m e t k));
      line = λ k. subst (λ (z : Shape). e.number < line_count z) (sym (alike_size m m' a)) (back_line p m e t k);
    }

-- ---- a schedule whose page is not refused

module _ (s : List ℕ) (y : Bytes s) (h : accepted (page_answer s) ≡ true) where
  abbrev ran' : accepted (ran s).answer ≡ true
  ran' = page_ran s h

  -- no record of the run is refused by 18
  pub bench_range : (i : ℕ) → i ≤ count_in s → in_range (bench_to s i).machine ≡ true
  bench_range i q =
      ap (λ (b : Bench). in_range b.machine) (sym (since.come_to s ran' i q).come)
      ∙ schedules.events_in_range s y (page_schedule s h) 0 (tab (event_in s) i)

  recorded : Recorded (start_machine s) (event_since s) (since_count s) (λ r. bench_to s (r + last_start s))
  recorded = since.since_recorded s ran' (page_schedule s h)

  pub start_small : Small (start_machine s)
  unfolding start_machine
  start_small = small_range (start_machine s) (bench_range (last_start s) (since.start_within s ran'))

  pub start_lines : lines_in s ≡ line_count (shape_of (start_machine s))
  start_lines = ap line_count (sym (since.start_shape s ran'))

  module _ (π : List ℕ) where
    abbrev M : ℕ → Machine
    M i = played_at π (lines_in s) (start_machine s) (event_since s) i

    alike : (i : ℕ) → i ≤ since_count s → Alike (bench_to s (i + last_start s)).machine (M i)
    alike i q = subst (λ (n : ℕ). Alike (bench_to s (i + last_start s)).machine (played_at π n (start_machine s) (event_since s) i)) (sym start_lines)
        (times.alike_moment (start_machine s) (event_since s) (since_count s) (λ r. bench_to s (r + last_start s)) recorded π i q)

    pub shape_at : (i : ℕ) → i ≤ since_count s → shape_of (M i) ≡ schedule_shape s
    shape_at i q = subst (λ (n : ℕ). shape_of (played_at π n (start_machine s) (event_since s) i) ≡ schedule_shape s) (sym start_lines)
        (times.size_moment (start_machine s) (event_since s) (since_count s) (λ r. bench_to s (r + last_start s)) recorded π i q ∙ since.start_shape s ran')

    pub since_end : (i : ℕ) → i < since_count s → i + last_start s < count_in s
    unfolding since_count
    since_end i q = omega (arith, since.start_within s ran')

    pub playable_at : (i : ℕ) → i < since_count s → Playable (M i) (event_since s i)
    playable_at i q =
        let n = recorded.next i q in
        playable n.0 (bench_to s (i + last_start s)).machine (M i) (alike i (omega arith)) (bench_range (i + last_start s) (omega (arith, since_end i q))) (event_since s i) (recorded.free i q) n.1

    -- behind the event
    pub next_shape : (i : ℕ) → i < since_count s → shape_of (played (M i) (event_since s i)) ≡ schedule_shape s
    next_shape i q =
        let n = recorded.next i q in
        let m = (bench_to s (i + last_start s)).machine in
        alike_size (played m (event_since s i)) (played (M i) (event_since s i)) (events.alike_next m (M i) (alike i (omega arith)) (event_since s i) (recorded.free i q))
        ∙ (acts.frame_done m (event_since s i) (deed_of (event_since s i).kind) (recorded.free i q)).shape
        ∙ sym (alike_size m (M i) (alike i (omega arith))) ∙ shape_at i (omega arith)

    pub next_small : (i : ℕ) → i < since_count s → Small (played (M i) (event_since s i))
    next_small i q = small_shape (start_machine s) (played (M i) (event_since s i)) (next_shape i q ∙ sym (since.start_shape s ran')) start_small

-- ---- the run at the code's terms

pub run_begin : (π : List ℕ) (f : ℕ → Event) (m m' : Machine) (n n' : ℕ) → m ≡ m' → n ≡ n' → backed π 0 m n ≡ played_at π n' m' f 0
unfolding played_at
run_begin π f m m' n n' e q = ap₂ (λ (x : Machine) (k : ℕ). backed π 0 x k) e q

pub run_next : (π : List ℕ) (f : ℕ → Event) (m x : Machine) (n n' i : ℕ) → n ≡ n' → x ≡ played (played_at π n' m f i) (f i) → backed π (i + 1) x n ≡ played_at π n' m f (i + 1)
unfolding played_at
run_next π f m x n n' i q e =
    ap (λ (k : ℕ). backed π k x n) (add-one i) ∙ ap₂ (λ (y : Machine) (k : ℕ). backed π (suc i) y k) e q ∙ ap (played_at π n' m f) (sym (add-one i))

pub event_since_lem : (s : List ℕ) (z : Shape) (at i : ℕ) → z ≡ schedule_shape s → at ≡ last_start s → event_from s (event_place z (i + at)) ≡ event_since s i
event_since_lem s z at i e q = ap₂ (λ (x : Shape) (k : ℕ). event_from s (event_place x (i + k))) e q

-- ---- only the picks of the lines that there are count

module _ (π ρ : List ℕ) (n : ℕ) (same : (j : ℕ) → j < n → get_or π j 0 ≡ get_or ρ j 0) where
  backed_same : (r : ℕ) (m : Machine) (k : ℕ) → k ≤ n → backed π r m k ≡ backed ρ r m k
  unfolding backed
  backed_same r m zero q = refl
  backed_same r m (suc k) q =
      ap₂ (λ (p : ℕ) (x : Machine). pick (eqb p (suc r)) (played x (write_back k)) x) (same k (omega arith)) (backed_same r m k (omega arith))

  pub played_same : (m : Machine) (f : ℕ → Event) (r : ℕ) → played_at π n m f r ≡ played_at ρ n m f r
  unfolding played_at
  played_same m f zero = backed_same 0 m n (omega arith)
  played_same m f (suc r) =
      ap (λ (x : Machine). backed π (suc r) (played x (f r)) n) (played_same m f r) ∙ backed_same (suc r) (played (played_at ρ n m f r) (f r)) n (omega arith)
