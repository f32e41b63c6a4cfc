-- A schedule taken apart, event by event.
use Prim.Native.Nat.{ℕ, suc, ◌+◌, ◌-◌, ◌≤◌, ◌<◌}
use mathlib.Core.Path.{◌≡◌, refl, sym, ap, ap₂, subst, ◌∙◌}
use mathlib.Core.Bool.{Bool, true, false}
use mathlib.Core.List.{List}
use native.Mathlib.Omega.{arith}
use native.Mathlib.Numerals.{add-one}
use lib.Dec.{eqb}
use Rattle.lists.specs.Find.{pick}
use Rattle.answer.specs.Answers.{accepted}
use Rattle.image.specs.Layout.{image_in, shape_in}
use Rattle.image.specs.declared.Shape.{Shape}
use Rattle.machine.specs.Start.{start_of}
use Rattle.machine.specs.Event.{event_at}
use Rattle.machine.specs.Range.{in_range}
use Rattle.machine.specs.declared.Machine.{Machine}
use Rattle.machine.specs.declared.Event.{Event}
use Rattle.machine.specs.declared.Acted.{Acted}
use Rattle.schedule.specs.Layout.{event_from, event_place, event_in, count_in, schedule_in, schedule_shape}
use Rattle.schedule.specs.Run.{opened, bench_at}
use Rattle.schedule.specs.Running.{bench_to}
use Rattle.schedule.specs.declared.Schedule.{Schedule}
use Rattle.page.specs.Refusals.{page_answer}
use Rattle.lawful.specs.Demand3.{Bytes}
use Rattle.onward.proofs.Come.{next_machine}
use Rattle.pageproof.proofs.Holds.{page_ran}
use Rattle.plainproof.specs.Plain.{start_at, last_start, start_machine, since_count}
use Rattle.plainproof.proofs.Since as since
use Rattle.plainruns.specs.Playable.{Planned}
use Rattle.plainruns.specs.declared.Plan.{Plan}
use Rattle.plainruns.proofs.PlayLaws.{bench_range}

pub shape_of_lem : (s : List ℕ) (d : Schedule) → d ≡ schedule_in s → record { form = d.image.form; n = d.image.n; t = d.t } ≡ schedule_shape s
unfolding schedule_in image_in shape_in
shape_of_lem s d e = ap (λ (x : Schedule). record { form = x.image.form; n = x.image.n; t = x.t }) e

pub count_of_lem : (s : List ℕ) (d : Schedule) → d ≡ schedule_in s → d.count ≡ count_in s
unfolding schedule_in
count_of_lem s d e = ap (λ (x : Schedule). x.count) e

-- the first i events have left the machine m; up to the last start among them stand `at` of them, and `machine` is the machine there
pub record Coming (s : List ℕ) (i : ℕ) (m machine : Machine) (at : ℕ) : Type 0 where
  pub within : i ≤ count_in s
  pub now : m ≡ (bench_to s i).machine
  pub start : machine ≡ (bench_to s (start_at (event_in s) i)).machine
  pub place : at ≡ start_at (event_in s) i

pub coming_none : (s : List ℕ) (d : Schedule) (m : Machine) → d ≡ schedule_in s → m ≡ start_of d.image d.t → Coming s 0 m m 0
unfolding bench_at start_at
coming_none s d m e q =
    let z = q ∙ ap (λ (x : Schedule). start_of x.image x.t) e in
    record { within = omega arith; now = z; start = z; place = refl }

module _ (s : List ℕ) (h : accepted (page_answer s) ≡ true) (i : ℕ) (m machine : Machine) (at : ℕ) (c : Coming s i m machine at) (lt : i < count_in s)
    (z : Shape) (ze : z ≡ schedule_shape s) (e : Event) (ee : e ≡ event_from s (event_place z i)) (o : Acted) (oe : o ≡ event_at i m e) where
  event : e ≡ event_in s i
  event = ee ∙ ap (λ (x : Shape). event_from s (event_place x i)) ze

  next : o.machine ≡ (bench_to s (suc i)).machine
  next =
      let r = page_ran s h in
      ap (λ (x : Acted). x.machine) (oe ∙ ap₂ (event_at i) c.now event)
      ∙ sym (next_machine (opened (schedule_in s)) (event_in s) i (since.come_to s r i c.within) (since.reply_to s r i lt))

  start_is : (b : Bool) → eqb e.kind 5 ≡ b → start_at (event_in s) (suc i) ≡ pick b (suc i) (start_at (event_in s) i)
  unfolding start_at
  start_is b k = ap (λ (x : Bool). pick x (suc i) (start_at (event_in s) i)) (ap (λ (x : Event). eqb x.kind 5) (sym event) ∙ k)

  coming_suc : (b : Bool) → eqb e.kind 5 ≡ b → Coming s (suc i) o.machine (pick b o.machine machine) (pick b (suc i) at)
  coming_suc true k = record { within = omega arith; now = next; start = next ∙ ap (λ (x : ℕ). (bench_to s x).machine) (sym (start_is true k)); place = sym (start_is true k) }
  coming_suc false k = record { within = omega arith; now = next; start = c.start ∙ ap (λ (x : ℕ). (bench_to s x).machine) (sym (start_is false k)); place = c.place ∙ sym (start_is false k) }

  -- a crash
  pub coming_start : eqb e.kind 5 ≡ true → Coming s (i + 1) o.machine o.machine (i + 1)
  coming_start k = subst (λ (x : ℕ). Coming s x o.machine o.machine x) (sym (add-one i)) (coming_suc true k)

  -- any other event
  pub coming_next : eqb e.kind 5 ≡ false → Coming s (i + 1) o.machine machine at
  coming_next k = subst (λ (x : ℕ). Coming s x o.machine machine at) (sym (add-one i)) (coming_suc false k)

  -- either, where the two ways join
  pub coming_after : (b : Bool) → eqb e.kind 5 ≡ b → (x : Machine) (y : ℕ) → x ≡ pick b o.machine machine → y ≡ pick b (i + 1) at → Coming s (i + 1) o.machine x y
  coming_after true k x y p q =
      subst (λ (z : Machine). Coming s (i + 1) o.machine z y) (sym p) (subst (λ (n : ℕ). Coming s (i + 1) o.machine o.machine n) (sym q) (coming_start k))
  coming_after false k x y p q =
      subst (λ (z : Machine). Coming s (i + 1) o.machine z y) (sym p) (subst (λ (n : ℕ). Coming s (i + 1) o.machine machine n) (sym q) (coming_next k))

pub coming_range : (s : List ℕ) → Bytes s → accepted (page_answer s) ≡ true → (i : ℕ) (m machine : Machine) (at : ℕ) → Coming s i m machine at → in_range m ≡ true
coming_range s y h i m machine at c = ap in_range c.now ∙ bench_range s y h i c.within

pub coming_at : (s : List ℕ) (i : ℕ) (m machine : Machine) (at : ℕ) → Coming s i m machine at → at ≤ i
coming_at s i m machine at c = omega (arith, c.place, since.start_le (event_in s) i)

pub coming_end : (s : List ℕ) → accepted (page_answer s) ≡ true → (i : ℕ) (m machine : Machine) (at count : ℕ) → Coming s i m machine at → count_in s ≤ i → count ≡ count_in s
    → Planned s (record { machine = machine; at = at; since = count - at })
unfolding start_machine last_start since_count
coming_end s h i m machine at count c q e =
    let k : i ≡ count_in s = omega (arith, c.within) in
    let p : at ≡ start_at (event_in s) (count_in s) = c.place ∙ ap (start_at (event_in s)) k in
    record {
      taken = h;
      machine = c.start ∙ ap (λ (x : ℕ). (bench_to s (start_at (event_in s) x)).machine) k;
      at = p;
      since = ap₂ (λ (x y : ℕ). x - y) e p;
    }
