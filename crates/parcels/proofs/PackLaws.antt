-- The loop over a schedule's events, at the code's terms: the machine and the parcels after each of them.
use Prim.Native.Nat.{ℕ, zero, suc, ◌+◌, ◌-◌, ◌<◌, ◌≤◌}
use mathlib.Core.Path.{◌≡◌, refl, sym, ap, ap₂, subst, subst₂, ◌∙◌}
use mathlib.Core.Bool.{true}
use mathlib.Core.List.{List, [], ◌∷◌, ◌++◌, map, map-append}
use native.Mathlib.Omega.{arith}
use native.Mathlib.Numerals.{add-one}
use lib.ListN.{length, get_or, take, drop, set, length-set, length-map, length-append, length-drop, length-replicate}
use lib.Seq.{take-suc-set, take-suc, take_at, take_all, length-take-le, get_or-append-add, get_or-drop}
use borrow.Author.Tests.{lt-ltb, lt-leb}
use Rattle.lists.specs.Tab.{tab, front}
use Rattle.lists.proofs.TabLaws as tabs
use Rattle.std.specs.Prelude.{Result, Ok, Err}
use Rattle.answer.specs.Answers.{told, accepted, given, Answer, Taken}
use Rattle.answer.specs.declared.Refusal.{Refusal}
use Rattle.answer.proofs.Injective.{told_injective}
use Rattle.machine.specs.Start.{start_from}
use Rattle.machine.specs.Event.{deed_of, handed, event_on}
use Rattle.machine.specs.Range.{in_range}
use Rattle.machine.specs.declared.Machine.{Machine}
use Rattle.machine.specs.declared.Event.{Event}
use Rattle.machine.specs.declared.Acted.{Acted}
use Rattle.machine.specs.declared.Out.{Out}
use Rattle.schedule.specs.Layout.{schedule_in, schedule_answer, event_in, events_in, count_in}
use Rattle.schedule.specs.Run.{Bench, Ran, run, ran, opened, bench_at}
use Rattle.schedule.specs.declared.Schedule.{Schedule}
use Rattle.page.specs.Refusals.{page_answer}
use Rattle.lawful.specs.Demand3.{Bytes}
use Rattle.codec.specs.Parts as parts
use Rattle.codec.proofs.Accepted as codec
use Rattle.events.proofs.ByAnswer.{on_in}
use Rattle.tied.proofs.Schedules as schedules
use Rattle.lawproof.proofs.Lawful3.{page_parts}
use Rattle.pageproof.proofs.Events.{Takes, placed}
use Rattle.pageproof.proofs.Runs.{Accepts, run_front, run_append, run_first}
use Rattle.onward.proofs.Come.{Come, come_none, come_next, next_machine}
use Rattle.parcels.specs.Parcel.{no_parcel, news_of, moved, fresh, noted, machine_at, acted_at, parcels_to, parcels_in}
use Rattle.parcels.specs.Started.{no_parcels}
use Rattle.parcels.proofs.Gives.{start_given, ok_is, no_ok}
use Rattle.parcels.specs.declared.News.{News}
use Rattle.parcels.specs.declared.Parcel.{Parcel}

-- ---- the first j of a list moved

unfoldable pub moved_to : News → List Parcel → ℕ → List Parcel
moved_to w l j = front (λ i. moved w (get_or l i no_parcel)) j l

pub moved_none : (w : News) (l : List Parcel) → l ≡ moved_to w l 0
unfolding moved_to
moved_none w l = tabs.front_none (λ i. moved w (get_or l i no_parcel)) l

front_behind : {A : Type 0} (f : ℕ → A) (n : ℕ) (l : List A) (d : A) → n ≤ length l → get_or (front f n l) n d ≡ get_or l n d
unfolding front
front_behind f n l d h = behind (tab f n) (drop n l) n d (tabs.length_tab f n) ∙ there
  where
    behind : {A : Type 0} (p q : List A) (n : ℕ) (d : A) → length p ≡ n → get_or (p ++ q) n d ≡ get_or q 0 d
    behind p q n d e = ap (λ k. get_or (p ++ q) k d) (let z : n ≡ length p + 0 = omega arith in z) ∙ get_or-append-add p q 0 d

    there : get_or (drop n l) 0 d ≡ get_or l n d
    there = get_or-drop n l 0 d ∙ ap (λ k. get_or l k d) (let z : n + 0 ≡ n = omega arith in z)

pub moved_next : (w : News) (l : List Parcel) (j : ℕ) → j < length l → (p : Parcel) → p ≡ moved w (get_or (moved_to w l j) j no_parcel)
    → set (moved_to w l j) j p ≡ moved_to w l (j + 1)
unfolding moved_to
moved_next w l j h p e =
    let f : ℕ → Parcel = λ i. moved w (get_or l i no_parcel) in
    ap (set (front f j l) j) (e ∙ ap (moved w) (front_behind f j l no_parcel (omega arith))) ∙ tabs.front_next f j l h

pub moved_length : (w : News) (l : List Parcel) (j : ℕ) → j ≤ length l → length (moved_to w l j) ≡ length l
unfolding moved_to
moved_length w l j h = tabs.front_size (λ i. moved w (get_or l i no_parcel)) j l h

mapped : (w : News) (l : List Parcel) (k : ℕ) → k ≤ length l → tab (λ i. moved w (get_or l i no_parcel)) k ≡ map (moved w) (take k l)
unfolding tab
mapped w l zero z = refl
mapped w l (suc k) z =
    ap (λ t. t ++ (moved w (get_or l k no_parcel) ∷ [])) (mapped w l k (omega arith)) ∙ sym (map-append (moved w) (take k l) (get_or l k no_parcel ∷ []))
    ∙ ap (map (moved w)) (sym (take-suc l k no_parcel (omega arith)))

take_moved : (w : News) (l : List Parcel) (j : ℕ) → j ≤ length l → take j (moved_to w l j) ≡ map (moved w) (take j l)
unfolding moved_to front
take_moved w l j h =
    let f : ℕ → Parcel = λ i. moved w (get_or l i no_parcel) in
    take_at (tab f j) (drop j l) j (tabs.length_tab f j) ∙ mapped w l j h

-- all of it
pub moved_all : (w : News) (l : List Parcel) (j : ℕ) → j ≡ length l → moved_to w l j ≡ map (moved w) l
moved_all w l j e = sym (take_all j (moved_to w l j) (omega (arith, moved_length w l j (omega arith)))) ∙ take_moved w l j (omega arith) ∙ ap (map (moved w)) (take_all j l (omega arith))

-- ---- kinds that tell the desk nothing

quiet_kind : (i k : ℕ) (e : Event) (m : Machine) (o : Acted) (l : List Parcel) → (k ≡ 1 → ⊥) → (k ≡ 5 → ⊥) → (k ≡ 3 → ⊥) → noted i e m o l (deed_of k) ≡ l
quiet_kind i zero e m o l a b c = refl
quiet_kind i (suc zero) e m o l a b c = absurd (a refl)
quiet_kind i (suc (suc zero)) e m o l a b c = refl
quiet_kind i (suc (suc (suc zero))) e m o l a b c = absurd (c refl)
quiet_kind i (suc (suc (suc (suc zero)))) e m o l a b c = refl
quiet_kind i (suc (suc (suc (suc (suc zero))))) e m o l a b c = absurd (b refl)
quiet_kind i (suc (suc (suc (suc (suc (suc k)))))) e m o l a b c = refl

-- ---- the loop, after the first i events: the machine, and a parcel for each enqueue begun since the last start

pub record Under (s : List ℕ) (i : ℕ) (m : Machine) (l : List Parcel) (count : ℕ) : Type 0 where
  pub within : i ≤ count_in s
  pub machine : m ≡ machine_at s i
  pub few : count ≤ i
  pub long : length l ≡ 4096
  pub are : take count l ≡ parcels_to s i

pub under_is : {s : List ℕ} {i : ℕ} {m : Machine} {l l' : List Parcel} {n n' : ℕ} → l' ≡ l → n' ≡ n → Under s i m l n → Under s i m l' n'
under_is {s} {i} {m} f g u = subst₂ (λ (l : List Parcel) (n : ℕ). Under s i m l n) (sym f) (sym g) u

-- ---- the run of a page that is not refused

module _ (s : List ℕ) (a : accepted (page_answer s) ≡ true) where
  pub taken_schedule : accepted (schedule_answer s) ≡ true
  taken_schedule = (page_parts s a).0

  pub count_small : count_in s ≤ 4096
  count_small = (codec.schedule_taken s taken_schedule).count

module _ (s : List ℕ) (bytes : Bytes s) (a : accepted (page_answer s) ≡ true) where
  abbrev n : ℕ
  n = count_in s

  abbrev f : ℕ → Event
  f = event_in s

  abbrev b₀ : Bench
  b₀ = opened (schedule_in s)

  whole : Accepts 0 b₀ (tab f n)
  unfolding ran events_in
  whole = (page_parts s a).1

  accepts : (d i : ℕ) → d + i ≡ n → Accepts 0 b₀ (tab f i)
  unfolding tab
  accepts zero i e = subst (λ k. Accepts 0 b₀ (tab f k)) (let z : n ≡ i = omega arith in z) whole
  accepts (suc d) i e = run_front (tab f i) (f i ∷ []) 0 b₀ (accepts d (suc i) (omega arith))

  -- each event is taken
  pub takes_at : (i : ℕ) → i < n → Come b₀ f i → Takes i (machine_at s i) (f i)
  unfolding tab
  takes_at i h c =
      let z : (n - suc i) + suc i ≡ n = omega arith in
      let w : Accepts 0 b₀ (tab f i ++ (f i ∷ [])) = accepts (n - suc i) (suc i) z in
      let v = sym (ap (λ (x : Ran). accepted x.answer) (run_append (tab f i) (f i ∷ []) 0 b₀ c.taken)) ∙ w in
      let u = run_first (0 + length (tab f i)) (run 0 b₀ (tab f i)).bench (f i) [] v in
      let q : 0 + length (tab f i) ≡ i = omega (arith, tabs.length_tab f i) in
      subst (λ (x : Bench). Takes i x.machine (f i)) c.come (subst (λ k. Takes k (run 0 b₀ (tab f i)).bench.machine (f i)) q u)

  pub come_at : (i : ℕ) → i ≤ n → Come b₀ f i
  come_at zero h = come_none b₀ f
  come_at (suc i) h = let c = come_at i (omega arith) in come_next b₀ f i c (takes_at i (omega arith) c)

  -- 18 refuses no machine of it
  pub range_at : (i : ℕ) → i ≤ n → in_range (machine_at s i) ≡ true
  range_at i h =
      ap in_range (sym (ap (λ (x : Bench). x.machine) (come_at i h).come))
      ∙ schedules.events_in_range s bytes (taken_schedule s a) 0 (tab f i)

  -- what the call on a single event gives is what the event makes of the run
  pub acted_is : (i : ℕ) → i < n → (m : Machine) → m ≡ machine_at s i → (e : Event) → e ≡ f i → (o : Out) → told o.answer ≡ told (event_on m e).answer → o.machine ≡ (event_on m e).machine
      → (told o.answer ≡ told (acted_at s i).answer) × (o.machine ≡ (acted_at s i).machine)
  acted_is i h m me e ee o p q =
      let c = come_at i (omega arith) in
      let w : event_on m e ≡ handed (acted_at s i) =
      ap₂ event_on me ee ∙ on_in (machine_at s i) (f i) (range_at i (omega arith)) ∙ ap handed (placed i 0 (machine_at s i) (f i) (takes_at i h c)) in
      (p ∙ ap (λ (x : Out). told x.answer) w, q ∙ ap (λ (x : Out). x.machine) w)

  event_there : (i : ℕ) → i < n → parts.event_of s i ≡ f i
  unfolding parts.event_of
  event_there i h = rw (taken_schedule s a, lt-ltb i n h) refl

  event_taken : (i : ℕ) → i < n → parts.event_asked s i ≡ Taken
  unfolding parts.event_asked
  event_taken i h = rw (parts.event_asked, taken_schedule s a, lt-leb n i h) refl

  event_given : (i : ℕ) → i < n → ◌≡◌ {A = Result Event Refusal} (given (parts.event_asked s i) (parts.event_of s i)) (Ok (f i))
  event_given i h = ap (λ (x : Answer). given x (parts.event_of s i)) (event_taken i h) ∙ ap Ok (event_there i h)

  pub event_is : (i : ℕ) → i < n → {e : Event} {r : Result Event Refusal} → r ≡ given (parts.event_asked s i) (parts.event_of s i) → r ≡ Ok e → e ≡ f i
  event_is i h e was = ok_is (sym was ∙ e ∙ event_given i h)

  pub event_never : (i : ℕ) → i < n → {r : Result Event Refusal} {w : Refusal} → r ≡ given (parts.event_asked s i) (parts.event_of s i) → r ≡ Err w → ⊥
  event_never i h e was = no_ok (sym was ∙ e ∙ event_given i h)

  pub next_is : (i : ℕ) → i < n → (acted_at s i).machine ≡ machine_at s (i + 1)
  next_is i h =
      let c = come_at i (omega arith) in
      sym (next_machine b₀ f i c (takes_at i h c)) ∙ ap (machine_at s) (sym (add-one i))

  -- ---- the loop

  starts_with : (d : Schedule) → d ≡ schedule_in s → ◌≡◌ {A = Result Machine Refusal} (given (start_from d.image d.t).answer (start_from d.image d.t).machine) (Ok (machine_at s 0))
  unfolding bench_at
  starts_with d de =
      ap (λ (d : Schedule). given (start_from d.image d.t).answer (start_from d.image d.t).machine) de
      ∙ start_given (schedule_in s).image (schedule_in s).t (schedules.schedule_starts s bytes (taken_schedule s a))

  -- the schedule's own start is taken
  pub start_never : (d : Schedule) → d ≡ schedule_in s → {r : Result Machine Refusal} {w : Refusal} → r ≡ given (start_from d.image d.t).answer (start_from d.image d.t).machine → r ≡ Err w → ⊥
  start_never d de e was =
      let z = sym was ∙ e ∙ starts_with d de in
      no_ok z

  pub under_start : (d : Schedule) → d ≡ schedule_in s → {m : Machine} {r : Result Machine Refusal} → r ≡ given (start_from d.image d.t).answer (start_from d.image d.t).machine → r ≡ Ok m
      → (l : List Parcel) → l ≡ no_parcels → Under s 0 m l 0
  unfolding parcels_to no_parcels
  under_start d de e was l le = record {
    within = omega arith;
    machine = ok_is (sym was ∙ e ∙ starts_with d de);
    few = omega arith;
    long = ap length le ∙ length-replicate 4096 no_parcel;
    are = refl;
  }

  parcels_next : (i : ℕ) → parcels_to s (i + 1) ≡ noted i (f i) (machine_at s i) (acted_at s i) (parcels_to s i) (deed_of (f i).kind)
  unfolding parcels_to
  parcels_next i = ap (parcels_to s) (add-one i)

  module _ (i : ℕ) (m : Machine) (l : List Parcel) (count : ℕ) (u : Under s i m l count) (h : i < n) (e : Event) (ee : e ≡ f i) (m' : Machine) (me : m' ≡ (acted_at s i).machine) where
    next_machine_is : m' ≡ machine_at s (i + 1)
    next_machine_is = me ∙ next_is i h

    by_kind : (k : ℕ) → e.kind ≡ k → parcels_to s (i + 1) ≡ noted i e (machine_at s i) (acted_at s i) (parcels_to s i) (deed_of k)
    by_kind k q = parcels_next i ∙ ap (λ (x : Event). noted i x (machine_at s i) (acted_at s i) (parcels_to s i) (deed_of x.kind)) (sym ee)
        ∙ ap (λ (k : ℕ). noted i e (machine_at s i) (acted_at s i) (parcels_to s i) (deed_of k)) q

    pub room : count < length l
    room = omega (arith, u.few, u.long, count_small s a)

    pub under_begun : e.kind ≡ 1 → (p : Parcel) → p ≡ fresh i e → Under s (i + 1) m' (set l count p) (count + 1)
    under_begun q p pe = record {
      within = omega arith;
      machine = next_machine_is;
      few = omega (arith, u.few);
      long = length-set l count p ∙ u.long;
      are = ap (λ k. take k (set l count p)) (add-one count) ∙ take-suc-set l count p room ∙ ap₂ (λ (t : List Parcel) (x : Parcel). t ++ (x ∷ [])) u.are pe ∙ sym (by_kind 1 q);
    }

    pub under_crash : e.kind ≡ 5 → Under s (i + 1) m' l 0
    under_crash q = record { within = omega arith; machine = next_machine_is; few = omega arith; long = u.long; are = sym (by_kind 5 q) }

    pub under_quiet : (e.kind ≡ 1 → ⊥) → (e.kind ≡ 5 → ⊥) → (e.kind ≡ 3 → ⊥) → Under s (i + 1) m' l count
    under_quiet x y z = record {
      within = omega arith;
      machine = next_machine_is;
      few = omega (arith, u.few);
      long = u.long;
      are = u.are ∙ sym (by_kind e.kind refl ∙ quiet_kind i e.kind e (machine_at s i) (acted_at s i) (parcels_to s i) x y z);
    }

    -- w is what the step told
    module _ (q : e.kind ≡ 3) (o : Out) (oa : told o.answer ≡ told (acted_at s i).answer) (om : o.machine ≡ (acted_at s i).machine)
        (w : News) (we : w ≡ news_of m e.number o.answer o.machine) where
      news_is : w ≡ news_of (machine_at s i) e.number (acted_at s i).answer (acted_at s i).machine
      news_is = we ∙ ap₂ (λ (x : Machine) (a : Answer). news_of x e.number a o.machine) u.machine (told_injective o.answer (acted_at s i).answer oa)
          ∙ ap (news_of (machine_at s i) e.number (acted_at s i).answer) om

      -- those in use moved, the places behind them as they were
      pub under_told : (t : List Parcel) → t ≡ map (moved w) (take count l) → Under s (i + 1) m' (t ++ drop count l) count
      under_told t te =
          let k : length t ≡ count = ap length te ∙ length-map (take count l) (moved w) ∙ length-take-le count l (omega (arith, room)) in
          record {
            within = omega arith;
            machine = next_machine_is;
            few = omega (arith, u.few);
            long = length-append t (drop count l) ∙ (let z : length t + length (drop count l) ≡ 4096 = omega (arith, length-drop count l, u.long, room) in z);
            are = take_at t (drop count l) count k ∙ te ∙ ap₂ (λ (x : News) (t : List Parcel). map (moved x) t) news_is u.are ∙ sym (by_kind 3 q);
          }

  -- ---- the end of it

  module _ (i : ℕ) (m : Machine) (l : List Parcel) (count : ℕ) (u : Under s i m l count) (h : n ≤ i) where
    pub all_are : take count l ≡ parcels_in s
    all_are = u.are ∙ ap (parcels_to s) (let z : i ≡ n = omega (arith, u.within) in z)

    pub count_is : count ≡ length (parcels_in s)
    count_is = sym (length-take-le count l (omega (arith, u.few, u.within, u.long, count_small s a))) ∙ ap length all_are
