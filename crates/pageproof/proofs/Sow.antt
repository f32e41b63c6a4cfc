-- Write-backs sown among the events of a run, each of a changed line: the run takes them, answers the same, and leaves each line the content that was chosen for it.
use Prim.Native.Nat.{ℕ, zero, suc, ◌≤◌, ◌<◌}
use mathlib.Core.Path.{◌≡◌, refl, sym, ap, subst, ◌∙◌}
use mathlib.Core.Bool.{Bool, true, false}
use mathlib.Core.List.{List, [], ◌∷◌}
use mathlib.Core.Logic.{◌≢◌}
use native.Mathlib.Omega.{arith}
use native.Mathlib.Decide.{ℕ_discrete}
use lib.ListN.{length}
use Rattle.lists.specs.Find.{pick}
use Rattle.answer.specs.Answers.{accepted, Answer}
use Rattle.image.specs.declared.Content.{Content}
use Rattle.image.specs.declared.Shape.{Shape}
use Rattle.machine.specs.Line.{shape_of, line_count, line_at, cached_at, persisted_at, put_line}
use Rattle.machine.specs.Event.{Deed, writes_back, deed_of, clean, done, event_at}
use Rattle.machine.specs.declared.Line.{Line}
use Rattle.machine.specs.declared.Event.{Event}
use Rattle.machine.specs.declared.Touch.{Touch}
use Rattle.machine.specs.declared.Touch.TheVariants.{Persist as a_persist}
use Rattle.machine.proofs.LineLaws.{LineIn, line_in, line_one, put_same, put_other}
use Rattle.schedule.specs.Run.{Bench, Ran, run, and_before, from_after}
use Rattle.lawful.specs.Added.{write_back, Adds, ends, keeps, adds, NoCrash}
use Rattle.moments.proofs.Joins.{same_equal}
use Rattle.moments.proofs.Known.{Known}
use Rattle.pageproof.proofs.Alike.{Alike, alike_cached, alike_clean, alike_size}
use Rattle.pageproof.proofs.Events as events
use Rattle.pageproof.proofs.Events.{Takes, touch, Crash, no_crash, onto}
use Rattle.pageproof.proofs.Runs.{Accepts, run_first, run_rest, run_bench, run_cons, run_nothing, run_silent, run_taken}
use Rattle.pageproof.proofs.Before.{Before, before_run}
use Rattle.pageproof.proofs.Lengthened.{Lengthened, left_with, writes, lengthened_keeps, lengthened_back}
use Rattle.pageproof.proofs.Fewer.{lengthened_onto}
use Rattle.pageproof.proofs.Ripe as ripe
use Rattle.pageproof.proofs.Ripe.{Due, Stands, Settled, settle, untouched, ended}

-- ---- line j is to be left with `goal j`, the recorded run ending in bench d

module _ (z : Shape) (d : Bench) (goal : ℕ → Content) where
  -- some list with write-backs added to l is taken from b', its recorded events answer x, and it leaves what is wanted
  pub record Sown (l : List Event) (x : List Answer) (q : ℕ) (b' : Bench) : Type 0 where
    pub events : List Event
    pub taken : Accepts q b' events
    pub added : Adds (line_count z) l x events (run q b' events).replies
    pub left : (j : ℕ) → j < line_count z → persisted_at (run q b' events).bench.machine (line_at z j) ≡ goal j

  abbrev DueAt : Bench → (Line → ℕ) → ℕ → Type 0
  DueAt b r j = Due d (line_at z j) (goal j) b (r (line_at z j))

  abbrev StandsAt : Bench → (Line → ℕ) → ℕ → Type 0
  StandsAt b r j = Stands d (line_at z j) (goal j) b (r (line_at z j))

  -- wherever a lengthened run of b stands, with all done that is due now, the events l can be sown
  abbrev Goes : Bench → List Event → List Answer → Type 0
  Goes b l x = (q : ℕ) (b' : Bench) (r : Line → ℕ) → Lengthened b r b'.machine → ((j : ℕ) → j < line_count z → StandsAt b r j) → Sown l x q b'

  -- a write-back in front
  sown_back : (l : List Event) (x : List Answer) (q : ℕ) (b' : Bench) (i : ℕ) → i < line_count z → Takes q b'.machine (write_back i)
      → Sown l x (suc q) (onto b' (write_back i)) → Sown l x q b'
  sown_back l x q b' i h t s = record {
    events = write_back i ∷ s.events;
    taken = ap (λ (r : Ran). accepted r.answer) is ∙ s.taken;
    added = subst (λ (r : Ran). Adds (line_count z) l x (write_back i ∷ s.events) r.replies) (sym is) (adds i h s.added);
    left = λ j k. ap (λ (r : Ran). persisted_at r.bench.machine (line_at z j)) is ∙ s.left j k;
  }
    where
      is : run q b' (write_back i ∷ s.events) ≡ and_before (event_at q b'.machine (write_back i)).answer (run (suc q) (onto b' (write_back i)) s.events)
      is = run_cons q b' (write_back i) s.events t

  -- a recorded event in front
  sown_event : (p : ℕ) (b : Bench) (e : Event) (l : List Event) → Takes p b.machine e → (Crash e → ⊥) → (q : ℕ) (b' : Bench)
      → Alike b.machine b'.machine → Takes q b'.machine e
      → Sown l (run (suc p) (onto b e) l).replies (suc q) (onto b' e) → Sown (e ∷ l) (run p b (e ∷ l)).replies q b'
  sown_event p b e l t ne q b' a t' s = record {
    events = e ∷ s.events;
    taken = ap (λ (r : Ran). accepted r.answer) is' ∙ s.taken;
    added = rw (ap (λ (r : Ran). r.replies) (run_cons p b e l t), ap (λ (r : Ran). r.replies) is', events.alike_reply p q b.machine b'.machine a e ne t t') (keeps s.added);
    left = λ j k. ap (λ (r : Ran). persisted_at r.bench.machine (line_at z j)) is' ∙ s.left j k;
  }
    where
      is' : run q b' (e ∷ s.events) ≡ and_before (event_at q b'.machine e).answer (run (suc q) (onto b' e) s.events)
      is' = run_cons q b' e s.events t'

  -- no event is left
  sown_none : (p : ℕ) (b : Bench) → b ≡ d → shape_of b.machine ≡ z → Goes b [] (run p b []).replies
  sown_none p b is size q b' r g st = record {
    events = [];
    taken = run_taken q b';
    added = rw (run_silent p b, run_silent q b') ends;
    left = λ j h.
        let l = line_at z j in
        ap (λ (y : Bench). persisted_at y.machine l) (run_nothing q b') ∙ g.kept l (subst (λ s. LineIn s l) (sym size) (line_in z j h))
        ∙ ap (λ (y : Bench). left_with y (r l) l) is ∙ ended d l (goal j) (r l) (subst (λ (y : Bench). Stands d l (goal j) y (r l)) is (st j h));
  }

  -- ---- what is due at one moment: the lines below i are still to be seen to, the others are as they are to be

  module _ (b : Bench) (kn : Known b) (u : Before b d) (size : shape_of b.machine ≡ z) (l : List Event) (x : List Answer) (on : Goes b l x) where
    abbrev Mixed : ℕ → Type 0
    Mixed i = (q : ℕ) (b' : Bench) (r : Line → ℕ) → Lengthened b r b'.machine → ((j : ℕ) → j < i → DueAt b r j)
        → ((j : ℕ) → i ≤ j → j < line_count z → StandsAt b r j) → Sown l x q b'

    -- line i is written back
    module _ (i : ℕ) (h : i < line_count z) (rest : Mixed i) (q : ℕ) (b' : Bench) (r : Line → ℕ) (g : Lengthened b r b'.machine) where
      abbrev r' : Line → ℕ
      r' = writes b r i

      written : r' (line_at z i) ≡ length b.past
      unfolding writes
      written = ap (λ (y : Shape). put_line r (line_at y i) (length b.past) (line_at z i)) size ∙ put_same r (line_at z i) (length b.past)

      others : (j : ℕ) → j ≢ i → r' (line_at z j) ≡ r (line_at z j)
      unfolding writes
      others j ne =
          ap (λ (y : Shape). put_line r (line_at y i) (length b.past) (line_at z j)) size
          ∙ put_other r (line_at z i) (length b.past) (line_at z j) (λ e. ne (line_one z j i e))

      size' : shape_of b'.machine ≡ z
      size' = alike_size b.machine b'.machine g.alike ∙ size

      -- it is a changed line
      is_changed : left_with b (r (line_at z i)) (line_at z i) ≢ cached_at b.machine (line_at z i) → clean b'.machine (line_at (shape_of b'.machine) i) ≡ false
      is_changed ne = by (clean b'.machine (line_at (shape_of b'.machine) i)) refl
        where
          by : (y : Bool) → clean b'.machine (line_at (shape_of b'.machine) i) ≡ y → y ≡ false
          by false e = refl
          by true e =
              let k = line_at z i in
              let same = same_equal (cached_at b'.machine k) (persisted_at b'.machine k) (ap (λ (y : Shape). clean b'.machine (line_at y i)) (sym size') ∙ e) in
              absurd (ne (sym (g.kept k (subst (λ s. LineIn s k) (sym size) (line_in z i h))) ∙ sym same ∙ alike_cached b.machine b'.machine g.alike k))

      taken : left_with b (r (line_at z i)) (line_at z i) ≢ cached_at b.machine (line_at z i) → Takes q b'.machine (write_back i)
      taken ne = events.back_taken q b'.machine i (subst (λ (y : Shape). i < line_count y) (sym size') h) (is_changed ne)

      writing : left_with b (r (line_at z i)) (line_at z i) ≢ cached_at b.machine (line_at z i) → Stands d (line_at z i) (goal i) b (length b.past)
          → ((j : ℕ) → j < i → DueAt b r j) → ((j : ℕ) → suc i ≤ j → j < line_count z → StandsAt b r j) → Sown l x q b'
      writing ne st low high =
          sown_back l x q b' i h (taken ne)
          (rest (suc q) (onto b' (write_back i)) r'
          (lengthened_onto b r' q b' (write_back i) (taken ne) (no_crash i) (lengthened_back b kn r b'.machine g i (subst (λ (y : Shape). i < line_count y) (sym size) h)))
          (λ j k. subst (Due d (line_at z j) (goal j) b) (sym (others j (omega arith))) (low j k))
          (λ j k n. by j k n (ℕ_discrete j i)))
        where
          by : (j : ℕ) → i ≤ j → j < line_count z → Dec (j ≡ i) → StandsAt b r' j
          by j k n (yes e) = subst (λ j. StandsAt b r' j) (sym e) (subst (Stands d (line_at z i) (goal i) b) (sym written) st)
          by j k n (no ne) = subst (Stands d (line_at z j) (goal j) b) (sym (others j ne)) (high j (omega arith) n)

      -- or it is not
      leaving : Stands d (line_at z i) (goal i) b (r (line_at z i)) → ((j : ℕ) → j < i → DueAt b r j) → ((j : ℕ) → suc i ≤ j → j < line_count z → StandsAt b r j)
          → Sown l x q b'
      leaving st low high = rest q b' r g low (λ j k n. by j k n (ℕ_discrete j i))
        where
          by : (j : ℕ) → i ≤ j → j < line_count z → Dec (j ≡ i) → StandsAt b r j
          by j k n (yes e) = subst (λ j. StandsAt b r j) (sym e) st
          by j k n (no ne) = high j (omega arith) n

      one : Settled d (line_at z i) (goal i) b kn u (r (line_at z i)) → ((j : ℕ) → j < i → DueAt b r j)
          → ((j : ℕ) → suc i ≤ j → j < line_count z → StandsAt b r j) → Sown l x q b'
      one s low high = by s.back refl
        where
          by : (y : Bool) → s.back ≡ y → Sown l x q b'
          by true e = writing (s.changed e) (subst (λ (y : Bool). Stands d (line_at z i) (goal i) b (pick y (length b.past) (r (line_at z i)))) e s.stands) low high
          by false e = leaving (subst (λ (y : Bool). Stands d (line_at z i) (goal i) b (pick y (length b.past) (r (line_at z i)))) e s.stands) low high

    many : (i : ℕ) → i ≤ line_count z → Mixed i
    many zero h q b' r g low high = on q b' r g (λ j k. high j (omega arith) k)
    many (suc i) h q b' r g low high =
        one i (omega arith) (many i (omega arith)) q b' r g (settle d (line_at z i) (goal i) b kn u (r (line_at z i)) (low i (omega arith))) (λ j k. low j (omega arith)) high

    -- all lines
    moment : (q : ℕ) (b' : Bench) (r : Line → ℕ) → Lengthened b r b'.machine → ((j : ℕ) → j < line_count z → DueAt b r j) → Sown l x q b'
    moment q b' r g due = many (line_count z) (omega arith) q b' r g due (λ j k n. absurd (omega arith))

  -- ---- a recorded event: of a write-back, the line's copy is the recorded one

  module _ (p : ℕ) (b : Bench) (kn : Known b) (e : Event) (ne : Crash e → ⊥) (t : Takes p b.machine e) (u : Before b d) (u₁ : Before (onto b e) d) (size : shape_of b.machine ≡ z)
      (b' : Bench) (r : Line → ℕ) (g : Lengthened b r b'.machine) (st : (j : ℕ) → j < line_count z → StandsAt b r j) where
    -- behind a write-back its line counts from there
    counts : deed_of e.kind ≡ writes_back → length b.past ≤ d.from (line_at z e.number)
    counts w =
        let k = line_at z e.number in
        let is : touch b.machine e ≡ a_persist k = ap (λ (y : Deed). (done b.machine e y).touch) w ∙ ap (λ (y : Shape). a_persist (line_at y e.number)) size in
        omega (arith, u₁.from k, ap (λ (y : Bench). y.from k) (events.onto_goes p b e t ne) ∙ ap (λ (y : Touch). from_after y (length b.past) b.mark b.from k) is ∙ put_same b.from k (length b.past))

    as_clean : deed_of e.kind ≡ writes_back
        → clean b'.machine (line_at (shape_of b.machine) e.number) ≡ clean b.machine (line_at (shape_of b.machine) e.number)
    as_clean w = subst (λ (y : Shape). clean b'.machine (line_at y e.number) ≡ clean b.machine (line_at y e.number)) (sym size)
        (alike_clean b.machine b'.machine g.alike k
        (g.kept k (subst (λ s. LineIn s k) (sym size) (line_in z e.number there))
        ∙ untouched d k (goal e.number) b (r k) (g.early k) (counts w) (st e.number there)))
      where
        k : Line
        k = line_at z e.number

        there : e.number < line_count z
        there = subst (λ (y : Shape). e.number < line_count y) size (events.back_changed p b.machine e t w).0

    goes_taken : (q : ℕ) → Takes q b'.machine e
    goes_taken q = events.alike_takes p q b.machine b'.machine g.alike e ne t as_clean

  -- ---- all events

  pub sown : (l : List Event) (p : ℕ) (b : Bench) → Known b → NoCrash l → shape_of b.machine ≡ z → Accepts p b l → (run p b l).bench ≡ d
      → (q : ℕ) (b' : Bench) (r : Line → ℕ) → Lengthened b r b'.machine → ((j : ℕ) → j < line_count z → DueAt b r j) → Sown l (run p b l).replies q b'
  sown [] p b kn nc size h is q b' r g due =
      moment b kn (subst (Before b) is (before_run [] p b kn nc h)) size [] (run p b []).replies (sown_none p b (sym (run_nothing p b) ∙ is) size) q b' r g due
  sown (e ∷ l) p b kn nc size h is q b' r g due =
      let t = run_first p b e l h in
      let is₁ = sym (run_bench p b e l t) ∙ is in
      let kn₁ = events.onto_known p b e t kn in
      let u = subst (Before b) is (before_run (e ∷ l) p b kn nc h) in
      let u₁ = subst (Before (onto b e)) is₁ (before_run l (suc p) (onto b e) kn₁ nc.1 (run_rest p b e l h)) in
      moment b kn u size (e ∷ l) (run p b (e ∷ l)).replies
      (λ q b' r g st.
      let t' = goes_taken p b kn e nc.0 t u u₁ size b' r g st q in
      sown_event p b e l t nc.0 q b' g.alike t'
      (sown l (suc p) (onto b e) kn₁ nc.1 (events.onto_size p b e t nc.0 ∙ size) (run_rest p b e l h) is₁ (suc q) (onto b' e) r
      (lengthened_onto (onto b e) r q b' e t' nc.0 (lengthened_keeps p b kn r b'.machine g e nc.0 t))
      (λ j k. ripe.goes d (line_at z j) (goal j) p b kn e nc.0 t u u₁ (r (line_at z j)) (g.early (line_at z j)) (st j k))))
      q b' r g due
