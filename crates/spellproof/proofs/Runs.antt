-- Runs of equal steps: where they end, and that the events in them are equal.
use Prim.Native.Nat.{ℕ, zero, suc, ◌+◌, ◌-◌, ◌≤◌, ◌<◌}
use mathlib.Core.Path.{◌≡◌, refl, sym, ap, ◌∙◌}
use mathlib.Core.Bool.{Bool, true, false, not}
use mathlib.Core.List.{List}
use native.Mathlib.Omega.{arith}
use native.Mathlib.Decide.{dec_lt}
use borrow.Author.Tests.{eqb-true, lt-ltb, le-ltb, not-false}
use lib.Dec.{eqb, ltb}
use Rattle.lists.specs.Find.{pick, both}
use Rattle.lists.proofs.FindLaws.{least_next, least_hit, least_le, least_ge, least_before}
use Rattle.lists.proofs.BoolLaws.{both_true, false_true}
use Rattle.schedule.specs.Layout.{count_in, event_in}
use Rattle.spelling.specs.Writing.{is_step, follows, run_end}

-- ---- runs

module _ (s : List ℕ) where
  -- how many events are written down by the entries of the first j
  abbrev pub upto : ℕ → ℕ
  upto j = pick (both (ltb j (count_in s)) (follows s j)) (run_end s j) j

  pub run_ge : (j : ℕ) → j + 1 ≤ run_end s j
  unfolding run_end
  run_ge j = least_ge (λ i. not (follows s i)) (count_in s - (j + 1)) (j + 1)

  pub run_le : (j : ℕ) → j < count_in s → run_end s j ≤ count_in s
  unfolding run_end
  run_le j h = omega (arith, least_le (λ i. not (follows s i)) (count_in s - (j + 1)) (j + 1))

  run_on : (j : ℕ) → j + 1 < count_in s → (b : Bool) → follows s (j + 1) ≡ b → pick (both true b) (run_end s (j + 1)) (j + 1) ≡ run_end s j
  unfolding run_end
  run_on j h true e = sym (least_next (λ i. not (follows s i)) (count_in s) (j + 1) h (ap not e))
  run_on j h false e = sym (least_hit (λ i. not (follows s i)) (count_in s) (j + 1) h (ap not e))

  -- behind event j they reach up to its run's end
  pub upto_next : (j : ℕ) → j < count_in s → upto (j + 1) ≡ run_end s j
  upto_next j h = by (dec_lt (j + 1) (count_in s))
    where
      by : Dec (j + 1 < count_in s) → upto (j + 1) ≡ run_end s j
      by (yes l) = rw (lt-ltb (j + 1) (count_in s) l) (run_on j l (follows s (j + 1)) refl)
      by (no l) = rw (le-ltb (j + 1) (count_in s) (omega arith)) (omega (arith, run_ge j, run_le j h))

  pub upto_follows : (j : ℕ) → j < count_in s → follows s j ≡ true → upto j ≡ run_end s j
  upto_follows j h e = rw (lt-ltb j (count_in s) h, e)

  pub upto_leads : (j : ℕ) → j < count_in s → follows s j ≡ false → upto j ≡ j
  upto_leads j h e = rw (lt-ltb j (count_in s) h, e)

  pub upto_all : upto (count_in s) ≡ count_in s
  upto_all = rw (le-ltb (count_in s) (count_in s) (omega arith))

  pub upto_zero : upto 0 ≡ 0
  unfolding follows
  upto_zero = by (ltb 0 (count_in s))
    where
      by : (b : Bool) → pick (both b false) (run_end s 0) 0 ≡ 0
      by true = refl
      by false = refl

  -- an event that follows is the one before it
  pub follows_same : (i : ℕ) → follows s i ≡ true → event_in s i ≡ event_in s (i - 1)
  unfolding follows
  follows_same i h =
      let a = both_true (ltb 0 i) _ h in
      let b = both_true (is_step (event_in s i)) _ a.1 in
      let c = both_true (is_step (event_in s (i - 1))) _ b.1 in
      let p = both_true (eqb (event_in s i).kind 3) (eqb (event_in s i).item 0) b.0 in
      let q = both_true (eqb (event_in s (i - 1)).kind 3) (eqb (event_in s (i - 1)).item 0) c.0 in
      let k = eqb-true (event_in s i).kind 3 p.0 ∙ sym (eqb-true (event_in s (i - 1)).kind 3 q.0) in
      let v = eqb-true (event_in s i).item 0 p.1 ∙ sym (eqb-true (event_in s (i - 1)).item 0 q.1) in
      let n = eqb-true (event_in s i).number (event_in s (i - 1)).number c.1 in
      λ z. record { kind = k z; number = n z; item = v z }

  pub follows_step : (i : ℕ) → follows s i ≡ true → is_step (event_in s (i - 1)) ≡ true
  unfolding follows
  follows_step i h =
      let a = both_true (ltb 0 i) _ h in
      let b = both_true (is_step (event_in s i)) _ a.1 in
      (both_true (is_step (event_in s (i - 1))) _ b.1).0

  -- all events of a run are its first
  pub run_same : (j d : ℕ) → j + d < run_end s j → event_in s (j + d) ≡ event_in s j
  unfolding run_end
  run_same j zero h = ap (event_in s) (omega arith)
  run_same j (suc d) h =
      let f = not-false (follows s (j + suc d)) (least_before (λ i. not (follows s i)) (count_in s - (j + 1)) (j + 1) (j + suc d) (omega arith) h) in
      let e : j + suc d - 1 ≡ j + d = omega arith in
      follows_same (j + suc d) f ∙ ap (event_in s) e ∙ run_same j d (omega arith)

  -- what is no step stands alone
  pub run_one : (j : ℕ) → j < count_in s → is_step (event_in s j) ≡ false → run_end s j ≡ j + 1
  run_one j h e = sym (upto_next j h) ∙ by (follows s (j + 1)) refl
    where
      by : (b : Bool) → follows s (j + 1) ≡ b → upto (j + 1) ≡ j + 1
      by true f =
          let g : j + 1 - 1 ≡ j = omega arith in
          false_true (sym e ∙ ap (λ k. is_step (event_in s k)) (sym g) ∙ follows_step (j + 1) f)
      by false f = rw f (alone (ltb (j + 1) (count_in s)))
        where
          alone : (c : Bool) → pick (both c false) (run_end s (j + 1)) (j + 1) ≡ j + 1
          alone true = refl
          alone false = refl
