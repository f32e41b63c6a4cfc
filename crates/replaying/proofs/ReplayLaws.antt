-- The replay of a probe file goes on by one event, is refused, or comes to its end.
use Prim.Native.Nat.{ℕ, suc, ◌+◌, ◌-◌, ◌<◌, ◌≤◌}
use mathlib.Core.Path.{◌≡◌, refl, sym, ap, ap₂, subst, ◌∙◌}
use mathlib.Core.Bool.{Bool, true, false, not}
use mathlib.Core.List.{List}
use native.Mathlib.Omega.{arith}
use native.Mathlib.Numerals.{add-one}
use borrow.Author.Tests.{lt-ltb, le-ltb, not-true, not-false}
use Rattle.std.specs.Prelude.{Option, Some, None}
use lib.ListN.{get_or, length}
use lib.Dec.{eqb, ltb}
use Rattle.lists.specs.Find.{pick, least}
use Rattle.lists.specs.Tab.{tab}
use Rattle.lists.proofs.BoolLaws.{no_way, false_true, yes_of, no_of}
use Rattle.lists.proofs.FindLaws.{least_next, least_hit, least_end}
use Rattle.answer.specs.Answers.{told, check, accepted, Answer, Taken, Kind, NotZero}
use Rattle.machine.specs.Event.{event_at}
use Rattle.machine.specs.Range.{in_range}
use Rattle.machine.specs.Start.{start_of}
use Rattle.machine.specs.declared.Machine.{Machine}
use Rattle.machine.specs.declared.Event.{Event}
use Rattle.machine.specs.declared.Acted.{Acted}
use Rattle.image.specs.Form.{known, head_lines}
use Rattle.image.specs.Layout.{image_shape, shape_in, image_in}
use Rattle.image.specs.declared.Shape.{Shape}
use Rattle.image.proofs.ShapeLaws.{shaped_lines}
use Rattle.schedule.specs.Layout.{schedule_in, schedule_shape, count_in, threads_in, image_part, place_in, file_answer, read_by, blank_schedule}
use Rattle.schedule.specs.Run.{Bench, bench_at, opened}
use Rattle.schedule.specs.declared.Schedule.{Schedule}
use Rattle.schedule.specs.Layout.{Opened}
use Rattle.codec.proofs.Accepted as codec
use Rattle.tied.proofs.Schedules as schedules
use Rattle.onward.proofs.Come.{Come, come_none, come_next, next_machine}
use Rattle.replaying.specs.Probe.{probe_answer, probed_from, probed_in, probed_event, wrong_zero, asked, odd}
use Rattle.replaying.specs.Replay.{machine_at, machine_reply, file_reply, refused_at, odd_at, first_refused, events_answer, replay_answer, first_odd, nothing_odd, odd_by, odd_in, replay_of, noted, Replayed, difference_of, difference_in, noted_difference}
use Rattle.replaying.specs.declared.Probed.{Probed}
use Rattle.replaying.specs.declared.Difference.{Difference}

-- ---- what the code knows of differences, as the definitions have it

abbrev pub replayed_by : Option Difference → Replayed
replayed_by None = nothing_odd Taken
replayed_by (Some d) = record { answer = Taken; differs = true; event = d.event; seen = d.seen; seen_item = d.seen_item; given = d.given; given_item = d.given_item }

pub difference_back : (o : Option Difference) → o ≡ difference_in (replayed_by o)
difference_back None = refl
difference_back (Some d) = refl

pub noted_by : (o : Option Difference) (i : ℕ) (x : Probed) (a : Answer) → replayed_by (noted_difference o i x a) ≡ noted (replayed_by o) i x a
unfolding noted noted_difference
noted_by (Some d) i x a = refl
noted_by None i x a = by (odd x a)
  where
    by : (b : Bool) → replayed_by (pick b (Some (difference_of (odd_by i x a))) None) ≡ pick b (odd_by i x a) (nothing_odd Taken)
    by true = refl
    by false = refl

-- an event that is taken as the file has it is taken by the machine
pub asked_taken : (p : ℕ) (x : Probed) (a : Answer) → accepted (asked p x a) ≡ true → accepted a ≡ true
unfolding asked
asked_taken p x a h = by (ltb 5 x.seen) (wrong_zero x) (eqb (told a).number 9) (eqb (told a).number 10) h
  where
    by : (k z u v : Bool) → accepted (check k (Kind p) (pick z (pick u a (pick v a (NotZero p))) a)) ≡ true → accepted a ≡ true
    by true z u v h = false_true h
    by false false u v h = h
    by false true true v h = h
    by false true false true h = h
    by false true false false h = false_true h

module _ (s : List ℕ) where
  abbrev b₀ : Bench
  b₀ = opened (schedule_in s)

  abbrev n : ℕ
  n = count_in s

  -- ---- the definitions, by their tests

  pub answer_then : accepted (probe_answer s) ≡ true → replay_answer s ≡ events_answer s
  unfolding replay_answer
  answer_then a = yes_of _ _ (accepted (probe_answer s)) a

  pub answer_else : accepted (probe_answer s) ≡ false → replay_answer s ≡ probe_answer s
  unfolding replay_answer
  answer_else a = no_of _ _ (accepted (probe_answer s)) a

  pub replay_then : accepted (replay_answer s) ≡ true → replay_of s ≡ odd_in s (first_odd s)
  unfolding replay_of
  replay_then a = yes_of _ _ (accepted (replay_answer s)) a

  pub replay_else : accepted (replay_answer s) ≡ false → replay_of s ≡ nothing_odd (replay_answer s)
  unfolding replay_of
  replay_else a = no_of _ _ (accepted (replay_answer s)) a

  pub events_stop : (i : ℕ) → first_refused s ≡ i → i < n → events_answer s ≡ file_reply s i
  unfolding events_answer
  events_stop i e h = ap (λ (k : ℕ). pick (ltb k n) (file_reply s k) Taken) e ∙ ap (λ (t : Bool). pick t (file_reply s i) Taken) (lt-ltb i n h)

  pub events_end : (i : ℕ) → first_refused s ≡ i → n ≤ i → events_answer s ≡ Taken
  unfolding events_answer
  events_end i e h = ap (λ (k : ℕ). pick (ltb k n) (file_reply s k) Taken) e ∙ ap (λ (t : Bool). pick t (file_reply s i) Taken) (le-ltb i n h)

  pub odd_in_lem : (i : ℕ) → i < n → odd_in s i ≡ odd_by i (probed_in s i) (machine_reply s i)
  unfolding odd_in
  odd_in_lem i h = ap (λ (t : Bool). pick t (odd_by i (probed_in s i) (machine_reply s i)) (nothing_odd Taken)) (lt-ltb i n h)

  pub odd_none : (i : ℕ) → n ≤ i → odd_in s i ≡ nothing_odd Taken
  unfolding odd_in
  odd_none i h = ap (λ (t : Bool). pick t (odd_by i (probed_in s i) (machine_reply s i)) (nothing_odd Taken)) (le-ltb i n h)

  -- ---- what is known of differences before event i

  abbrev pub Found : Replayed → ℕ → Type 0
  Found r i = (odd_in s (first_odd s) ≡ pick r.differs r (odd_in s (least (odd_at s) (n - i) i))) × (r.differs ≡ false → r ≡ nothing_odd Taken)

  noted_is : (r : Replayed) (i : ℕ) (b c : Bool) → r.differs ≡ b → odd (probed_in s i) (machine_reply s i) ≡ c
      → noted r i (probed_in s i) (machine_reply s i) ≡ pick b r (pick c (odd_by i (probed_in s i) (machine_reply s i)) r)
  unfolding noted
  noted_is r i b c e o = ap₂ (λ (u v : Bool). pick u r (pick v (odd_by i (probed_in s i) (machine_reply s i)) r)) e o

  odd_test : (i : ℕ) (c : Bool) → odd (probed_in s i) (machine_reply s i) ≡ c → odd_at s i ≡ c
  unfolding odd_at
  odd_test i c o = o

  found_next : (r : Replayed) (i : ℕ) → i < n → Found r i → Found (noted r i (probed_in s i) (machine_reply s i)) (i + 1)
  found_next r i h k = by r.differs refl (odd (probed_in s i) (machine_reply s i)) refl
    where
      from : ℕ → Replayed
      from j = odd_in s (least (odd_at s) (n - j) j)

      by : (b : Bool) → r.differs ≡ b → (c : Bool) → odd (probed_in s i) (machine_reply s i) ≡ c → Found (noted r i (probed_in s i) (machine_reply s i)) (i + 1)
      by true e c o =
          subst (λ (z : Replayed). Found z (i + 1)) (sym (noted_is r i true c e o))
          (k.0 ∙ ap (λ (t : Bool). pick t r (odd_in s (least (odd_at s) (n - i) i))) e ∙ sym (ap (λ (t : Bool). pick t r (odd_in s (least (odd_at s) (n - (i + 1)) (i + 1)))) e), k.1)
      by false e true o =
          subst (λ (z : Replayed). Found z (i + 1)) (sym (noted_is r i false true e o))
          (k.0 ∙ ap (λ (t : Bool). pick t r (odd_in s (least (odd_at s) (n - i) i))) e ∙ ap (odd_in s) (least_hit (odd_at s) n i h (odd_test i true o)) ∙ odd_in_lem i h, λ z. no_way z)
      by false e false o =
          subst (λ (z : Replayed). Found z (i + 1)) (sym (noted_is r i false false e o)) (
            k.0 ∙ ap (λ (t : Bool). pick t r (odd_in s (least (odd_at s) (n - i) i))) e ∙ ap (odd_in s) (least_next (odd_at s) n i h (odd_test i false o))
                ∙ sym (ap (λ (t : Bool). pick t r (odd_in s (least (odd_at s) (n - (i + 1)) (i + 1)))) e),
            k.1,
          )

  found_end : (r : Replayed) (i : ℕ) → n ≤ i → Found r i → r ≡ odd_in s (first_odd s)
  found_end r i h k = by r.differs refl
    where
      by : (b : Bool) → r.differs ≡ b → r ≡ odd_in s (first_odd s)
      by true e = sym (k.0 ∙ ap (λ (t : Bool). pick t r (odd_in s (least (odd_at s) (n - i) i))) e)
      by false e = k.1 e ∙ sym (k.0 ∙ ap (λ (t : Bool). pick t r (odd_in s (least (odd_at s) (n - i) i))) e ∙ ap (odd_in s) (least_end (odd_at s) n i h) ∙ odd_none i h)

  -- ---- what the bytes of a probe file say

  pub probe_taken : accepted (probe_answer s) ≡ true → codec.FileTaken 82 12 s
  unfolding probe_answer
  probe_taken a = codec.file_taken 82 12 s a

  pub probe_fits : accepted (probe_answer s) ≡ true → (i : ℕ) → i < n → (z : Shape) → z ≡ schedule_shape s → (known z.form ≡ true) × (place_in 12 z i + 12 ≤ length s)
  unfolding probe_answer
  probe_fits a i h z e =
      subst (λ (z : Shape). (known z.form ≡ true) × (place_in 12 z i + 12 ≤ length s)) (sym e) ((codec.file_taken 82 12 s a).part.mark, codec.file_fits 82 12 s i a h)

  pub probed_is : (i : ℕ) (z : Shape) → z ≡ schedule_shape s → (x : Probed) → x ≡ probed_from s (place_in 12 z i) → x ≡ probed_in s i
  probed_is i z e x xe = xe ∙ ap (λ (z : Shape). probed_from s (place_in 12 z i)) e

  pub shape_is : (d : Schedule) → d ≡ schedule_in s → record { form = d.image.form; n = d.image.n; t = d.t } ≡ schedule_shape s
  unfolding schedule_in image_in shape_in
  shape_is d e = ap (λ (x : Schedule). record { form = x.image.form; n = x.image.n; t = x.t }) e

  pub count_is : (d : Schedule) → d ≡ schedule_in s → d.count ≡ n
  unfolding schedule_in
  count_is d e = ap (λ (x : Schedule). x.count) e

  pub nodes_small : (d : Schedule) → d ≡ schedule_in s → accepted (probe_answer s) ≡ true → (d.image.n ≤ 64) × (head_lines (image_shape d.image) ≤ 8)
  unfolding schedule_in image_in
  nodes_small d e a =
      subst (λ (x : Schedule). (x.image.n ≤ 64) × (head_lines (image_shape x.image) ≤ 8)) (sym e)
      (shaped_lines (threads_in s) (shape_in (image_part s)) (probe_taken a).part.shape)

  pub read_taken : accepted (probe_answer s) ≡ true → (read_by (file_answer 82 12 s) s).schedule ≡ schedule_in s
  unfolding probe_answer
  read_taken a = ap (λ (t : Bool). pick t (schedule_in s) blank_schedule) a

  -- ---- the loop

  -- the machine m is that before event i, those before it were taken, and r is known of them
  pub record Under (i : ℕ) (m : Machine) (r : Replayed) : Type 0 where
    pub within : i ≤ n
    pub machine : m ≡ machine_at s i
    pub come : Come b₀ (probed_event s) i
    pub clear : first_refused s ≡ least (refused_at s) (n - i) i
    pub found : Found r i

  all : (k : ℕ) → k ≡ k - 0
  all k = omega arith

  pub under_begun : (d : Schedule) → d ≡ schedule_in s → (m : Machine) → m ≡ start_of d.image d.t → (r : Replayed) → r ≡ nothing_odd Taken → Under 0 m r
  unfolding bench_at first_refused first_odd
  under_begun d is m e r q = record {
    within = omega arith;
    machine = e ∙ ap (λ (d : Schedule). start_of d.image d.t) is;
    come = come_none b₀ (probed_event s);
    clear = ap (λ (k : ℕ). least (refused_at s) k 0) (all n);
    found = subst (λ (z : Replayed). Found z 0) (sym q) (ap (λ (k : ℕ). odd_in s (least (odd_at s) k 0)) (all n), λ z. refl);
  }

  -- 18 does not refuse the record
  pub under_range : accepted (probe_answer s) ≡ true → ((j : ℕ) → get_or s j 0 < 256) → (i : ℕ) (m : Machine) (r : Replayed) → Under i m r → in_range m ≡ true
  unfolding probe_answer
  under_range a bytes i m r u =
      ap in_range (u.machine ∙ sym (ap (λ (x : Bench). x.machine) u.come.come))
      ∙ schedules.file_in_range 82 12 s bytes a 0 (tab (probed_event s) i)

  -- at the code's terms: event i, what the machine answered, what it is answered as the file has it, and whether that is taken
  module _ (i : ℕ) (m : Machine) (r : Replayed) (u : Under i m r) (h : i < n) (x : Probed) (xe : x ≡ probed_in s i) (o : Acted) (oe : o ≡ event_at i m x.event)
      (b : Answer) (be : b ≡ asked i x o.answer) where
    acted : o ≡ event_at i (machine_at s i) (probed_event s i)
    acted = oe ∙ ap₂ (λ (m : Machine) (x : Probed). event_at i m x.event) u.machine xe

    reply : b ≡ file_reply s i
    reply = be ∙ ap₂ (λ (x : Probed) (o : Acted). asked i x o.answer) xe acted

    pub under_next : accepted b ≡ true → (q : Replayed) → q ≡ noted r i x o.answer → Under (i + 1) o.machine q
    unfolding refused_at
    under_next k q qe =
        let a : accepted (file_reply s i) ≡ true = sym (ap accepted reply) ∙ k in
        let c = asked_taken i (probed_in s i) (machine_reply s i) a in
        record {
          within = omega arith;
          machine = ap (λ (o : Acted). o.machine) acted ∙ sym (next_machine b₀ (probed_event s) i u.come c) ∙ ap (machine_at s) (sym (add-one i));
          come = subst (Come b₀ (probed_event s)) (sym (add-one i)) (come_next b₀ (probed_event s) i u.come c);
          clear = u.clear ∙ least_next (refused_at s) n i h (ap not a);
          found = subst (λ (z : Replayed). Found z (i + 1)) (sym (qe ∙ ap₂ (λ (x : Probed) (o : Acted). noted r i x o.answer) xe acted)) (found_next r i h u.found);
        }

    -- a refused event refuses the file
    pub under_stop : accepted (probe_answer s) ≡ true → accepted b ≡ false → b ≡ replay_answer s
    unfolding refused_at
    under_stop p k =
        let a : accepted (file_reply s i) ≡ false = sym (ap accepted reply) ∙ k in
        reply ∙ sym (answer_then p ∙ events_stop i (u.clear ∙ least_hit (refused_at s) n i h (ap not a)) h)

  -- all events are taken
  pub under_end : accepted (probe_answer s) ≡ true → (i : ℕ) (m : Machine) (r : Replayed) → Under i m r → n ≤ i → (replay_answer s ≡ Taken) × (r ≡ replay_of s)
  under_end p i m r u h =
      let e : replay_answer s ≡ Taken = answer_then p ∙ events_end i (u.clear ∙ least_end (refused_at s) n i h) h in
      (e, found_end r i h u.found ∙ sym (replay_then (ap accepted e)))

  pub file_refused : accepted (probe_answer s) ≡ false → (q : Replayed) → q ≡ nothing_odd (probe_answer s) → q ≡ replay_of s
  file_refused a q qe = qe ∙ ap nothing_odd (sym (answer_else a)) ∙ sym (replay_else (ap accepted (answer_else a) ∙ a))
