-- Every run with write-backs added after the last start, of changed lines alone, is accepted, its recorded events answer as they did, and what it leaves stands on the page.
use Prim.Native.Nat.{ℕ, suc, ◌+◌, ◌<◌}
use mathlib.Core.Path.{◌≡◌, refl, sym, ap, subst, ◌∙◌}
use mathlib.Core.Bool.{true}
use mathlib.Core.List.{List, [], ◌∷◌, ◌++◌}
use native.Mathlib.Omega.{arith}
use lib.ListN.{length}
use Rattle.answer.specs.Answers.{accepted, Answer}
use Rattle.image.specs.Layout.{shape_in, image_in}
use Rattle.image.specs.declared.Image.{Image}
use Rattle.image.specs.declared.Shape.{Shape}
use Rattle.machine.specs.Line.{shape_of, line_count, line_at}
use Rattle.machine.specs.Event.{writes_back, deed_of, clean, event_at}
use Rattle.machine.specs.Start.{start_of, start_with}
use Rattle.machine.specs.declared.Machine.{Machine}
use Rattle.machine.specs.declared.Event.{Event}
use Rattle.machine.specs.declared.Acted.{Acted}
use Rattle.schedule.specs.Layout.{schedule_in, events_in, schedule_shape}
use Rattle.schedule.specs.Run.{Bench, Ran, run, ran, opened, begins, and_before, turned, forward}
use Rattle.page.specs.Refusals.{page_answer, ending_count, ending_in}
use Rattle.lawful.specs.Added.{write_back, NoCrash, Adds, ends, keeps, adds, AddsLate}
use Rattle.lawful.specs.Demand3.{Bytes, run_of, image_left, Leaves}
use Rattle.pageproof.specs.Longer as longer
use Rattle.pageproof.specs.Longer.{Longer, LongerLate, Changed}
use Rattle.pageproof.proofs.Alike.{Alike, alike_self, alike_back, alike_size}
use Rattle.pageproof.proofs.Events as events
use Rattle.pageproof.proofs.Events.{Takes, no_crash, onto}
use Rattle.pageproof.proofs.Runs.{Accepts, run_first, run_cons, run_rest, run_bench, run_nothing, run_taken, run_silent, run_front, run_append, run_size, and_after}
use Rattle.pageproof.proofs.Holds.{page_ran, page_holds}

-- what is said of a run with write-backs added
pub record Same (z : Shape) (l : List Event) (x : List Answer) (l' : List Event) (q : ℕ) (b' : Bench) : Type 0 where
  pub taken : Accepts q b' l'
  pub added : Adds (line_count z) l x l' (run q b' l').replies

-- ---- changed lines alone: what an accepted run writes back

onward : (p : ℕ) (b : Bench) (e : Event) → Takes p b.machine e → forward p b e ≡ onto b e
onward p b e t = ap (λ (o : Acted). turned b o (deed_of e.kind)) (events.taken_is p b.machine e t)

pub changed_of : (l : List Event) (p : ℕ) (b : Bench) → Accepts p b l → Changed p b l
changed_of [] p b h = tt
changed_of (e ∷ l) p b h =
    let t = run_first p b e l h in
    (λ w. (events.back_changed p b.machine e t w).1, rw (onward p b e t) (changed_of l (suc p) (onto b e) (run_rest p b e l h)))

changed_rest : (p : ℕ) (b : Bench) (e : Event) (l : List Event) → Takes p b.machine e → Changed p b (e ∷ l) → Changed (suc p) (onto b e) l
changed_rest p b e l t c = subst (λ (x : Bench). Changed (suc p) x l) (onward p b e t) c.1

changed_after : (l r : List Event) (p : ℕ) (b : Bench) → Accepts p b l → Changed p b (l ++ r) → Changed (p + length l) (run p b l).bench r
changed_after [] r p b h c =
    subst (λ (x : Bench). Changed (p + 0) x r) (sym (run_nothing p b)) (subst (λ (x : ℕ). Changed x b r) (let y : p ≡ p + 0 = omega arith in y) c)
changed_after (e ∷ l) r p b h c =
    let t = run_first p b e l h in
    subst (λ (x : Bench). Changed (p + suc (length l)) x r) (sym (run_bench p b e l t))
    (subst (λ (x : ℕ). Changed x (run (suc p) (onto b e) l).bench r) (let y : suc p + length l ≡ p + suc (length l) = omega arith in y)
    (changed_after l r (suc p) (onto b e) (run_rest p b e l h) (changed_rest p b e (l ++ r) t c)))

-- ---- a recorded event in front

module _ (z : Shape) (p q : ℕ) (b b' : Bench) (e : Event) (l l' : List Event) (t : Takes p b.machine e) (ne : events.Crash e → ⊥) (a : Alike b.machine b'.machine) (c : Changed q b' (e ∷ l')) where
  -- a line that it writes back is clean in neither machine
  as_clean : deed_of e.kind ≡ writes_back → clean b'.machine (line_at (shape_of b.machine) e.number) ≡ clean b.machine (line_at (shape_of b.machine) e.number)
  as_clean w =
      ap (λ x. clean b'.machine (line_at x e.number)) (sym (alike_size b.machine b'.machine a)) ∙ c.0 w
      ∙ sym (events.back_changed p b.machine e t w).1

  pub t' : Takes q b'.machine e
  t' = events.alike_takes p q b.machine b'.machine a e ne t as_clean

  is : run p b (e ∷ l) ≡ and_before (event_at p b.machine e).answer (run (suc p) (onto b e) l)
  is = run_cons p b e l t

  is' : run q b' (e ∷ l') ≡ and_before (event_at q b'.machine e).answer (run (suc q) (onto b' e) l')
  is' = run_cons q b' e l' t'

  kept : Same z l (run (suc p) (onto b e) l).replies l' (suc q) (onto b' e) → Same z (e ∷ l) (run p b (e ∷ l)).replies (e ∷ l') q b'
  kept s = record {
    taken = ap (λ (r : Ran). accepted r.answer) is' ∙ s.taken;
    added = rw (ap (λ (r : Ran). r.replies) is, ap (λ (r : Ran). r.replies) is', events.alike_reply p q b.machine b'.machine a e ne t t') (keeps s.added);
  }

-- a write-back in front
module _ (z : Shape) (q : ℕ) (b' : Bench) (i : ℕ) (lt : i < line_count z) (l : List Event) (x : List Answer) (l' : List Event) (t : Takes q b'.machine (write_back i)) where
  back_is : run q b' (write_back i ∷ l') ≡ and_before (event_at q b'.machine (write_back i)).answer (run (suc q) (onto b' (write_back i)) l')
  back_is = run_cons q b' (write_back i) l' t

  back : Same z l x l' (suc q) (onto b' (write_back i)) → Same z l x (write_back i ∷ l') q b'
  back s = record {
    taken = ap (λ (r : Ran). accepted r.answer) back_is ∙ s.taken;
    added = subst (λ (r : Ran). Adds (line_count z) l x (write_back i ∷ l') r.replies) (sym back_is) (adds i lt s.added);
  }

pub same_run : (z : Shape) {l l' : List Event} → Longer (line_count z) l l' → (p q : ℕ) (b b' : Bench) → NoCrash l → shape_of b.machine ≡ z
    → Alike b.machine b'.machine → Accepts p b l → Changed q b' l' → Same z l (run p b l).replies l' q b'
same_run z longer.ends p q b b' nc size a h c = record {
  taken = run_taken q b';
  added = rw (run_silent p b, run_silent q b') ends;
}
same_run z (longer.keeps {e = e} {l = l} {l' = l'} r) p q b b' nc size a h c =
    let t = run_first p b e l h in
    let y = t' z p q b b' e l l' t nc.0 a c in
    kept z p q b b' e l l' t nc.0 a c
    (same_run z r (suc p) (suc q) (onto b e) (onto b' e) nc.1 (events.onto_size p b e t nc.0 ∙ size)
    (rw (events.onto_machine p b e t nc.0, events.onto_machine q b' e y nc.0) (events.alike_next b.machine b'.machine a e nc.0))
    (run_rest p b e l h) (changed_rest q b' e l' y c))
same_run z (longer.adds i lt {l = l} {l' = l'} r) p q b b' nc size a h c =
    let y = events.back_taken q b'.machine i (subst (λ x. i < line_count x) (sym (alike_size b.machine b'.machine a ∙ size)) lt) (c.0 refl) in
    back z q b' i lt l (run p b l).replies l' y
    (same_run z r p (suc q) b (onto b' (write_back i)) nc size
    (rw (events.onto_machine q b' (write_back i) y (no_crash i)) (alike_back b.machine b'.machine a (line_at (shape_of b'.machine) i))) h
    (changed_rest q b' (write_back i) l' y c))

-- ---- a whole run from a start

module _ (z : Shape) (m : Machine) (size : shape_of m ≡ z) (l : List Event) (h : Accepts 0 (begins m) l) (l' : List Event) (o : LongerLate (line_count z) l l') (c : Changed 0 (begins m) l') where
  h₁ : Accepts 0 (begins m) (o.before ++ o.since)
  h₁ = subst (Accepts 0 (begins m)) o.is h

  front_taken : Accepts 0 (begins m) o.before
  front_taken = run_front o.before o.since 0 (begins m) h₁

  abbrev b₁ : Bench
  b₁ = (run 0 (begins m) o.before).bench

  split : (x : List Event) → run 0 (begins m) (o.before ++ x) ≡ and_after (run 0 (begins m) o.before) (run (0 + length o.before) b₁ x)
  split x = run_append o.before x 0 (begins m) front_taken

  s : Same z o.since (run (0 + length o.before) b₁ o.since).replies o.since' (0 + length o.before) b₁
  s = same_run z o.adds (0 + length o.before) (0 + length o.before) b₁ b₁ o.free
      (run_size o.before 0 (begins m) front_taken ∙ size) (alike_self b₁.machine)
      (ap (λ (r : Ran). accepted r.answer) (sym (split o.since)) ∙ h₁)
      (changed_after o.before o.since' 0 (begins m) front_taken (subst (Changed 0 (begins m)) o.is' c))

  pub longer_taken : Accepts 0 (begins m) l'
  longer_taken = subst (Accepts 0 (begins m)) (sym o.is') (ap (λ (r : Ran). accepted r.answer) (split o.since') ∙ s.taken)

  pub longer_answers : AddsLate (line_count z) l (run 0 (begins m) l).replies l' (run 0 (begins m) l').replies
  longer_answers = record {
    before = o.before;
    told = (run 0 (begins m) o.before).replies;
    since = o.since;
    since' = o.since';
    heard = (run (0 + length o.before) b₁ o.since).replies;
    heard' = (run (0 + length o.before) b₁ o.since').replies;
    start = o.start;
    free = o.free;
    adds = s.added;
    is = o.is;
    is' = o.is';
    answers = ap (λ (x : List Event). (run 0 (begins m) x).replies) o.is ∙ ap (λ (r : Ran). r.replies) (split o.since);
    answers' = ap (λ (x : List Event). (run 0 (begins m) x).replies) o.is' ∙ ap (λ (r : Ran). r.replies) (split o.since');
  }

-- ---- the theorem

abbrev first : List ℕ → Machine
first s = start_of (schedule_in s).image (schedule_in s).t

first_size : (s : List ℕ) → shape_of (first s) ≡ schedule_shape s
unfolding schedule_in image_in shape_in start_with
first_size s = refl

module _ (s : List ℕ) (bytes : Bytes s) (a : accepted (page_answer s) ≡ true) (l' : List Event) (o : LongerLate (line_count (schedule_shape s)) (events_in s) l')
    (c : Changed 0 (opened (schedule_in s)) l') where
  pub late_taken : accepted (run_of s l').answer ≡ true
  unfolding ran
  late_taken = longer_taken (schedule_shape s) (first s) (first_size s) (events_in s) (page_ran s a) l' o c

  pub late_answers : AddsLate (line_count (schedule_shape s)) (events_in s) (ran s).replies l' (run_of s l').replies
  unfolding ran
  late_answers = longer_answers (schedule_shape s) (first s) (first_size s) (events_in s) (page_ran s a) l' o c

  -- what it leaves is on the page
  pub late_on_page : (k : ℕ) × (k < ending_count s) × (ending_in s k ≡ image_left (run_of s l').bench.machine)
  late_on_page = ((page_holds s bytes a).0 (image_left (run_of s l').bench.machine)).1 (record { events = l'; taken = late_taken; added = late_answers; left = refl })
