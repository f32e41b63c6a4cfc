-- A schedule's run since its last start.
use Prim.Native.Nat.{ℕ, zero, suc, ◌+◌, ◌-◌, ◌≤◌, ◌<◌}
use mathlib.Core.Path.{◌≡◌, refl, sym, ap, subst, ◌∙◌}
use mathlib.Core.Bool.{Bool, true, false}
use mathlib.Core.List.{List, [], ◌∷◌}
use mathlib.Core.Logic.{◌≢◌}
use native.Mathlib.Omega.{arith}
use native.Mathlib.Decide.{ℕ_discrete}
use lib.ListN.{length}
use lib.Dec.{eqb}
use borrow.Author.Tests.{eqb-true}
use Rattle.lists.specs.Find.{pick}
use Rattle.lists.specs.Tab.{tab}
use Rattle.lists.proofs.TabLaws as tabs
use Rattle.answer.specs.Answers.{accepted}
use Rattle.image.specs.Layout.{shape_in, image_in}
use Rattle.image.proofs.ShapeLaws.{threads_range, nodes_range}
use Rattle.machine.specs.Line.{shape_of}
use Rattle.machine.specs.Start.{start_of, start_with}
use Rattle.machine.specs.Event.{Deed, crashes, deed_of, event_at}
use Rattle.machine.specs.declared.Machine.{Machine}
use Rattle.machine.specs.declared.Event.{Event}
use Rattle.machine.specs.declared.Acted.{Acted}
use Rattle.schedule.specs.Layout.{count_in, event_in, events_in, threads_in, nodes_in, schedule_in, schedule_shape, schedule_answer}
use Rattle.schedule.specs.Run.{Bench, Ran, run, ran, opened, begins, turned, bench_at}
use Rattle.schedule.specs.Running.{bench_to}
use Rattle.codec.proofs.Accepted as codec
use Rattle.moments.proofs.Known.{Known, known_start, known_run}
use Rattle.pageproof.proofs.Runs as runs
use Rattle.onward.proofs.Come.{Come, reply_in, come_none, come_next}
use Rattle.plainproof.specs.Plain.{start_at, last_start, start_machine, since_count, event_since}
use Rattle.plainproof.specs.Times.{Recorded}

-- ---- the last start

five : (k : ℕ) → eqb k 5 ≡ true → deed_of k ≡ crashes
five k e = ap deed_of (eqb-true k 5 e)

not_five : (k : ℕ) → eqb k 5 ≡ false → deed_of k ≡ crashes → ⊥
not_five zero e d = let z : ◌≡◌ {A = ℕ} 0 1 = cc in omega arith
not_five (suc zero) e d = let z : ◌≡◌ {A = ℕ} 0 1 = cc in omega arith
not_five (suc (suc zero)) e d = let z : ◌≡◌ {A = ℕ} 0 1 = cc in omega arith
not_five (suc (suc (suc zero))) e d = let z : ◌≡◌ {A = ℕ} 0 1 = cc in omega arith
not_five (suc (suc (suc (suc zero)))) e d = let z : ◌≡◌ {A = ℕ} 0 1 = cc in omega arith
not_five (suc (suc (suc (suc (suc zero))))) e d = let z : ◌≡◌ {A = ℕ} 0 1 = cc in omega arith
not_five (suc (suc (suc (suc (suc (suc k)))))) e d = let z : ◌≡◌ {A = ℕ} 0 1 = cc in omega arith

module _ (f : ℕ → Event) where
  pub start_le : (i : ℕ) → start_at f i ≤ i
  unfolding start_at
  start_le zero = omega arith
  start_le (suc i) = by (eqb (f i).kind 5) (start_le i)
    where
      by : (x : Bool) → start_at f i ≤ i → pick x (suc i) (start_at f i) ≤ suc i
      by true h = omega arith
      by false h = omega arith

  -- behind it there is no crash
  start_free : (i k : ℕ) → start_at f i ≤ k → k < i → deed_of (f k).kind ≢ crashes
  unfolding start_at
  start_free zero k p q = absurd (omega arith)
  start_free (suc i) k p q = by (eqb (f i).kind 5) refl p (λ a b. start_free i k a b) (ℕ_discrete k i)
    where
      by : (x : Bool) → eqb (f i).kind 5 ≡ x → pick x (suc i) (start_at f i) ≤ k → (start_at f i ≤ k → k < i → deed_of (f k).kind ≢ crashes) → Dec (k ≡ i) → deed_of (f k).kind ≢ crashes
      by true e h r d = absurd (omega arith)
      by false e h r (yes d) = not_five (f k).kind (ap (λ (y : ℕ). eqb (f y).kind 5) d ∙ e)
      by false e h r (no d) = r h (omega arith)

  -- there the bench begins
  start_begins : (m : Machine) (i : ℕ) → bench_at (begins m) f (start_at f i) ≡ begins (bench_at (begins m) f (start_at f i)).machine
  unfolding start_at bench_at
  start_begins m zero = refl
  start_begins m (suc i) = by (eqb (f i).kind 5) refl (start_begins m i)
    where
      b : Bench
      b = bench_at (begins m) f i

      crash : (d : Deed) → d ≡ crashes → (o : Acted) → turned (bench_at (begins m) f i) o d ≡ begins (turned (bench_at (begins m) f i) o d).machine
      crash d e o = rw e refl

      by : (x : Bool) → eqb (f i).kind 5 ≡ x → bench_at (begins m) f (start_at f i) ≡ begins (bench_at (begins m) f (start_at f i)).machine
          → bench_at (begins m) f (pick x (suc i) (start_at f i)) ≡ begins (bench_at (begins m) f (pick x (suc i) (start_at f i))).machine
      by true e r = crash (deed_of (f i).kind) (five (f i).kind e) (event_at i (bench_at (begins m) f i).machine (f i))
      by false e r = r

-- ---- events that are all taken

module _ (b₀ : Bench) (f : ℕ → Event) (c : ℕ) (h : runs.Accepts 0 b₀ (tab f c)) where
  taken_front : (n i : ℕ) → i ≤ n → runs.Accepts 0 b₀ (tab f n) → runs.Accepts 0 b₀ (tab f i)
  unfolding tab
  taken_front zero i q a = subst (λ (k : ℕ). runs.Accepts 0 b₀ (tab f k)) (let z : 0 ≡ i = omega arith in z) a
  taken_front (suc n) i q a = by (ℕ_discrete i (suc n)) (λ k. taken_front n i k (runs.run_front (tab f n) (f n ∷ []) 0 b₀ a))
    where
      by : Dec (i ≡ suc n) → (i ≤ n → runs.Accepts 0 b₀ (tab f i)) → runs.Accepts 0 b₀ (tab f i)
      by (yes e) r = subst (λ (k : ℕ). runs.Accepts 0 b₀ (tab f k)) (sym e) a
      by (no e) r = r (omega arith)

  -- the event behind those that were taken
  taken_next : (i : ℕ) → i < c → Come b₀ f i → accepted (reply_in b₀ f i) ≡ true
  unfolding tab
  taken_next i q k =
      let a = taken_front c (suc i) (omega arith) h in
      let x = ap (λ (r : Ran). accepted r.answer) (sym (runs.run_append (tab f i) (f i ∷ []) 0 b₀ k.taken)) ∙ a in
      let y : runs.Accepts i (bench_at b₀ f i) (f i ∷ []) =
      subst (λ (n : ℕ). runs.Accepts n (bench_at b₀ f i) (f i ∷ [])) (let z : 0 + length (tab f i) ≡ i = omega (arith, tabs.length_tab f i) in z)
      (subst (λ (b : Bench). runs.Accepts (0 + length (tab f i)) b (f i ∷ [])) k.come x) in
      runs.run_first i (bench_at b₀ f i) (f i) [] y

  pub come_all : (i : ℕ) → i ≤ c → Come b₀ f i
  come_all zero q = come_none b₀ f
  come_all (suc i) q = let k = come_all i (omega arith) in come_next b₀ f i k (taken_next i (omega arith) k)

  pub reply_taken : (i : ℕ) → i < c → accepted (reply_in b₀ f i) ≡ true
  reply_taken i q = taken_next i q (come_all i (omega arith))

  pub known_all : Known b₀ → (i : ℕ) → i ≤ c → Known (bench_at b₀ f i)
  known_all k i q = subst Known (come_all i q).come (known_run (tab f i) 0 b₀ k)

  pub shape_all : (i : ℕ) → i ≤ c → shape_of (bench_at b₀ f i).machine ≡ shape_of b₀.machine
  shape_all i q = ap (λ (b : Bench). shape_of b.machine) (sym (come_all i q).come) ∙ runs.run_size (tab f i) 0 b₀ (come_all i q).taken

-- ---- a schedule whose events are all taken

-- T and N as acceptance has them
open_known : (s : List ℕ) → accepted (schedule_answer s) ≡ true → Known (opened (schedule_in s))
unfolding schedule_in image_in shape_in
open_known s a =
    let t = codec.schedule_taken s a in
    known_start (schedule_in s).image (schedule_in s).t (threads_range (threads_in s) t.threads).1 (nodes_range (nodes_in s) t.part.nodes).1

module _ (s : List ℕ) (h : accepted (ran s).answer ≡ true) where
  taken_all : runs.Accepts 0 (opened (schedule_in s)) (tab (event_in s) (count_in s))
  unfolding ran events_in
  taken_all = h

  pub come_to : (i : ℕ) → i ≤ count_in s → Come (opened (schedule_in s)) (event_in s) i
  come_to = come_all (opened (schedule_in s)) (event_in s) (count_in s) taken_all

  pub reply_to : (i : ℕ) → i < count_in s → accepted (reply_in (opened (schedule_in s)) (event_in s) i) ≡ true
  reply_to = reply_taken (opened (schedule_in s)) (event_in s) (count_in s) taken_all

  pub start_within : last_start s ≤ count_in s
  unfolding last_start
  start_within = start_le (event_in s) (count_in s)

  -- there the bench begins
  begun : bench_to s (last_start s) ≡ begins (start_machine s)
  unfolding start_machine last_start
  begun = start_begins (event_in s) (start_of (schedule_in s).image (schedule_in s).t) (count_in s)

  pub since_recorded : accepted (schedule_answer s) ≡ true → Recorded (start_machine s) (event_since s) (since_count s) (λ r. bench_to s (r + last_start s))
  unfolding start_machine since_count last_start bench_at
  since_recorded a = record {
    known = subst Known begun (known_all (opened (schedule_in s)) (event_in s) (count_in s) taken_all (open_known s a) (last_start s) start_within);
    first = ap (bench_to s) (let z : 0 + last_start s ≡ last_start s = omega arith in z) ∙ begun;
    free = λ r q. start_free (event_in s) (count_in s) (r + last_start s) (omega arith) (omega arith);
    next = λ r q. (
      r + last_start s,
      reply_taken (opened (schedule_in s)) (event_in s) (count_in s) taken_all (r + last_start s) (omega arith),
      ap (bench_to s) (let z : suc r + last_start s ≡ suc (r + last_start s) = omega arith in z),
    );
  }

  -- at its end stands the schedule's bench
  pub since_end : bench_to s (since_count s + last_start s) ≡ (ran s).bench
  unfolding ran events_in since_count
  since_end = ap (bench_to s) (let z : count_in s - last_start s + last_start s ≡ count_in s = omega (arith, start_within) in z) ∙ sym (come_to (count_in s) (omega arith)).come

  -- the shape stays
  pub start_shape : shape_of (start_machine s) ≡ schedule_shape s
  unfolding start_machine schedule_in image_in shape_in start_with
  start_shape = shape_all (opened (schedule_in s)) (event_in s) (count_in s) taken_all (last_start s) start_within

  pub ran_shape : shape_of (ran s).bench.machine ≡ schedule_shape s
  unfolding ran events_in schedule_in image_in shape_in start_with
  ran_shape =
      ap (λ (b : Bench). shape_of b.machine) (come_to (count_in s) (omega arith)).come
      ∙ shape_all (opened (schedule_in s)) (event_in s) (count_in s) taken_all (count_in s) (omega arith)
