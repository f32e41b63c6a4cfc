-- What a replay says: the event given is the first that differs, with both answers; a file that carries the run's own answers agrees;
-- a refused event refuses the file.
use Prim.Native.Nat.{ℕ, zero, suc, ◌+◌, ◌<◌, ◌≤◌}
use mathlib.Core.Path.{◌≡◌, refl, sym, ap, subst, ◌∙◌}
use mathlib.Core.Bool.{Bool, true, false, not}
use mathlib.Core.List.{List}
use mathlib.Core.Logic.{◌⊎◌, inl, inr}
use native.Mathlib.Nat.{eq-or-lt_of_le}
use native.Mathlib.Omega.{arith}
use borrow.Author.Tests.{eqb-true, eq-eqb, ltb-true, ltb-false, not-false}
use lib.Dec.{eqb, ltb}
use Rattle.lists.specs.Find.{pick, both, least}
use Rattle.lists.specs.Tab.{tab}
use Rattle.lists.proofs.BoolLaws.{no_way, false_true, both_true, both_of}
use Rattle.lists.proofs.FindLaws.{least_none, least_clear, least_found, least_le}
use Rattle.answer.specs.Answers.{told, accepted, Answer, Taken}
use Rattle.schedule.specs.Layout.{schedule_in, count_in}
use Rattle.schedule.specs.Run.{Bench, run, opened}
use Rattle.onward.proofs.Come.{Come, Answers, come_none, come_next, answers_none, answers_next}
use Rattle.replaying.specs.Probe.{probe_answer, probed_in, probed_event, odd}
use Rattle.replaying.specs.Replay.{machine_reply, file_reply, refused_at, odd_at, first_refused, events_answer, replay_answer, first_odd, nothing_odd, odd_by, odd_in, replay_of}
use Rattle.replaying.specs.declared.Probed.{Probed}
use Rattle.replaying.specs.Replay.{Replayed}
use Rattle.replaying.proofs.ReplayLaws as laws

-- ---- a search passes over no number that the test holds of

before_at : (f : ℕ → Bool) (k s i : ℕ) → (i < least f k (suc s) → suc s ≤ i → f i ≡ false) → (b : Bool) → f s ≡ b → i < pick b s (least f k (suc s)) → s ≤ i → (s ≡ i) ⊎ (s < i) → f i ≡ false
before_at f k s i ih true e h p d = absurd (omega arith)
before_at f k s i ih false e h p (inl z) = subst (λ (j : ℕ). f j ≡ false) z e
before_at f k s i ih false e h p (inr l) = ih h l

least_before : (f : ℕ → Bool) (k s i : ℕ) → i < least f k s → s ≤ i → f i ≡ false
unfolding least
least_before f zero s i h p = absurd (omega arith)
least_before f (suc k) s i h p = before_at f k s i (least_before f k (suc s) i) (f s) refl h p (eq-or-lt_of_le p)

-- ---- an event's observed answer is the machine's

abbrev pub Own : Probed → Answer → Type 0
Own x a = ((told a).reply ≡ x.seen) × ((told a).item ≡ x.item)

pub even_own : (x : Probed) (a : Answer) → odd x a ≡ false → Own x a
unfolding odd
even_own x a e = let b = both_true _ _ (not-false _ e) in (eqb-true _ _ b.0, eqb-true _ _ b.1)

pub own_even : (x : Probed) (a : Answer) → Own x a → odd x a ≡ false
unfolding odd
own_even x a p = ap not (both_of _ _ (eq-eqb _ _ p.0) (eq-eqb _ _ p.1))

zero_more : (k : ℕ) → k ≡ 0 + k
zero_more k = omega arith

module _ (s : List ℕ) where
  abbrev n : ℕ
  n = count_in s

  odd_is : (i : ℕ) → odd_at s i ≡ odd (probed_in s i) (machine_reply s i)
  unfolding odd_at
  odd_is i = refl

  -- the observed answer of event i is the machine's
  abbrev pub Agrees : ℕ → Type 0
  Agrees i = Own (probed_in s i) (machine_reply s i)

  -- the searches as the laws of lists have them
  refused_found : first_refused s < n → refused_at s (first_refused s) ≡ true
  unfolding first_refused
  refused_found h = least_found (refused_at s) n 0 (subst (λ (k : ℕ). first_refused s < k) (zero_more n) h)

  refused_clear : n ≤ first_refused s → (i : ℕ) → i < n → refused_at s i ≡ false
  unfolding first_refused
  refused_clear h i l = least_clear (refused_at s) n 0 (subst (λ (k : ℕ). k ≤ first_refused s) (zero_more n) h) i (omega arith) (omega arith)

  odd_found : first_odd s < n → odd_at s (first_odd s) ≡ true
  unfolding first_odd
  odd_found h = least_found (odd_at s) n 0 (subst (λ (k : ℕ). first_odd s < k) (zero_more n) h)

  odd_clear : n ≤ first_odd s → (i : ℕ) → i < n → odd_at s i ≡ false
  unfolding first_odd
  odd_clear h i l = least_clear (odd_at s) n 0 (subst (λ (k : ℕ). k ≤ first_odd s) (zero_more n) h) i (omega arith) (omega arith)

  odd_before : (i : ℕ) → i < first_odd s → odd_at s i ≡ false
  unfolding first_odd
  odd_before i l = least_before (odd_at s) n 0 i l (omega arith)

  odd_end : ((i : ℕ) → i < n → odd_at s i ≡ false) → n ≤ first_odd s
  unfolding first_odd
  odd_end h = omega (arith, least_none (odd_at s) n 0 (λ i p q. h i (omega arith)))

  refused_is : (i : ℕ) → refused_at s i ≡ not (accepted (file_reply s i))
  unfolding refused_at
  refused_is i = refl

  -- ---- refusals

  -- "A refused event refuses the file, even where an earlier answer differed": nothing is said of that answer
  pub refused_event : accepted (probe_answer s) ≡ true → (i : ℕ) → i < n → first_refused s ≡ i → replay_of s ≡ nothing_odd (file_reply s i)
  refused_event a i h e =
      let r : replay_answer s ≡ file_reply s i = laws.answer_then s a ∙ laws.events_stop s i e h in
      let f : not (accepted (file_reply s i)) ≡ true = sym (refused_is i) ∙ subst (λ (k : ℕ). refused_at s k ≡ true) e (refused_found (subst (λ (k : ℕ). k < n) (sym e) h)) in
      laws.replay_else s (ap accepted r ∙ refusal (accepted (file_reply s i)) f) ∙ ap nothing_odd r
    where
      refusal : (b : Bool) → not b ≡ true → b ≡ false
      refusal true h = false_true h
      refusal false h = refl

  -- in a file that is not refused, its bytes are a probe file's and every event is taken
  by_answer : (b : Bool) → accepted (probe_answer s) ≡ b → accepted (replay_answer s) ≡ true → accepted (probe_answer s) ≡ true
  by_answer true e a = e
  by_answer false e a = false_true (sym (ap accepted (laws.answer_else s e) ∙ e) ∙ a)

  all_clear : accepted (replay_answer s) ≡ true → n ≤ first_refused s
  all_clear a = by (ltb (first_refused s) n) refl
    where
      by : (b : Bool) → ltb (first_refused s) n ≡ b → n ≤ first_refused s
      by true e =
          let h = ltb-true (first_refused s) n e in
          let r : replay_answer s ≡ file_reply s (first_refused s) = laws.answer_then s (by_answer (accepted (probe_answer s)) refl a) ∙ laws.events_stop s (first_refused s) refl h in
          false_true (ap not (sym (sym (ap accepted r) ∙ a)) ∙ sym (refused_is (first_refused s)) ∙ refused_found h)
      by false e = ltb-false (first_refused s) n e

  pub all_taken : accepted (replay_answer s) ≡ true → (i : ℕ) → i < n → accepted (file_reply s i) ≡ true
  all_taken a i h = not-false (accepted (file_reply s i)) (sym (refused_is i) ∙ refused_clear (all_clear a) i h)

  odd_taken : (k : ℕ) (b : Bool) → ltb k n ≡ b → (odd_in s k).answer ≡ Taken
  odd_taken k true e = ap (λ (r : Replayed). r.answer) (laws.odd_in_lem s k (ltb-true k n e))
  odd_taken k false e = ap (λ (r : Replayed). r.answer) (laws.odd_none s k (ltb-false k n e))

  -- the answer handed back is the refusal, or Taken
  pub answer_is : (replay_of s).answer ≡ replay_answer s
  answer_is = by (accepted (replay_answer s)) refl
    where
      by : (b : Bool) → accepted (replay_answer s) ≡ b → (replay_of s).answer ≡ replay_answer s
      by false a = ap (λ (r : Replayed). r.answer) (laws.replay_else s a)
      by true a =
          ap (λ (r : Replayed). r.answer) (laws.replay_then s a) ∙ odd_taken (first_odd s) (ltb (first_odd s) n) refl
          ∙ sym (laws.answer_then s (by_answer (accepted (probe_answer s)) refl a) ∙ laws.events_end s (first_refused s) refl (all_clear a))

  -- ---- the machine's answers are those of the run of the file's events, as a schedule's run has them

  come_to : accepted (replay_answer s) ≡ true → (i : ℕ) → i ≤ n → Come (opened (schedule_in s)) (probed_event s) i × Answers (opened (schedule_in s)) (probed_event s) i
  come_to a zero h = (come_none (opened (schedule_in s)) (probed_event s), answers_none (opened (schedule_in s)) (probed_event s))
  come_to a (suc i) h =
      let c = come_to a i (omega arith) in
      let t = laws.asked_taken i (probed_in s i) (machine_reply s i) (all_taken a i (omega arith)) in
      (come_next (opened (schedule_in s)) (probed_event s) i c.0 t, answers_next (opened (schedule_in s)) (probed_event s) i c.0 t c.1)

  pub run_replies : accepted (replay_answer s) ≡ true
      → (accepted (run 0 (opened (schedule_in s)) (tab (probed_event s) n)).answer ≡ true) × ((run 0 (opened (schedule_in s)) (tab (probed_event s) n)).replies ≡ tab (machine_reply s) n)
  run_replies a = let c = come_to a n (omega arith) in (c.0.taken, c.1)

  -- ---- "or say that all agree"

  -- a file that carries the run's own answers agrees
  pub own_agrees : accepted (replay_answer s) ≡ true → ((i : ℕ) → i < n → Agrees i) → replay_of s ≡ nothing_odd Taken
  own_agrees a h =
      laws.replay_then s a
      ∙ laws.odd_none s (first_odd s) (odd_end (λ i l. odd_is i ∙ own_even (probed_in s i) (machine_reply s i) (h i l)))

  -- and one that agrees carries them
  pub agrees_own : accepted (replay_answer s) ≡ true → (replay_of s).differs ≡ false → (i : ℕ) → i < n → Agrees i
  agrees_own a d i h = even_own (probed_in s i) (machine_reply s i) (sym (odd_is i) ∙ odd_clear (by (ltb (first_odd s) n) refl) i h)
    where
      by : (b : Bool) → ltb (first_odd s) n ≡ b → n ≤ first_odd s
      by true e = no_way (sym (ap (λ (r : Replayed). r.differs) (laws.replay_then s a ∙ laws.odd_in_lem s (first_odd s) (ltb-true (first_odd s) n e))) ∙ d)
      by false e = ltb-false (first_odd s) n e

  -- ---- "give the first event whose answer differs from the machine's, with both"

  pub record Told (r : Replayed) : Type 0 where
    pub answer : r.answer ≡ Taken
    pub below : r.event < n
    pub before : (j : ℕ) → j < r.event → Agrees j
    pub differ : odd (probed_in s r.event) (machine_reply s r.event) ≡ true
    pub both : r ≡ odd_by r.event (probed_in s r.event) (machine_reply s r.event)

  told_by : accepted (replay_answer s) ≡ true → first_odd s < n → Told (odd_by (first_odd s) (probed_in s (first_odd s)) (machine_reply s (first_odd s)))
  told_by a h = record {
    answer = refl;
    below = h;
    before = λ j l. even_own (probed_in s j) (machine_reply s j) (sym (odd_is j) ∙ odd_before j l);
    differ = sym (odd_is (first_odd s)) ∙ odd_found h;
    both = refl;
  }

  pub first_told : (replay_of s).differs ≡ true → (accepted (replay_answer s) ≡ true) × Told (replay_of s)
  first_told d = by (accepted (replay_answer s)) refl (ltb (first_odd s) n) refl
    where
      by : (b : Bool) → accepted (replay_answer s) ≡ b → (c : Bool) → ltb (first_odd s) n ≡ c → (accepted (replay_answer s) ≡ true) × Told (replay_of s)
      by false a c e = false_true (sym (ap (λ (r : Replayed). r.differs) (laws.replay_else s a)) ∙ d)
      by true a false e = false_true (sym (ap (λ (r : Replayed). r.differs) (laws.replay_then s a ∙ laws.odd_none s (first_odd s) (ltb-false (first_odd s) n e))) ∙ d)
      by true a true e =
          let h = ltb-true (first_odd s) n e in
          (a, subst Told (sym (laws.replay_then s a ∙ laws.odd_in_lem s (first_odd s) h)) (told_by a h))
