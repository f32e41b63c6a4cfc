-- Counting, with no machine: some number passes a test; different numbers below N are at most N; where each number below N passes exactly one of
-- six tests, the six counts add up to N.
use mathlib.Core.Path.{◌≡◌, refl, sym, ap, ◌∙◌}
use mathlib.Core.Bool.{Bool, true, false}
use mathlib.Core.Logic.{◌≢◌}
use mathlib.Core.Option.{Option, none, some}
use Prim.Native.Nat.{ℕ, zero, suc, ◌+◌, ◌≤◌, ◌<◌}
use native.Mathlib.Omega.{arith}
use native.Mathlib.Decide.{ℕ_discrete}
use lib.Dec.{eqb, eqb_refl}
use Rattle.model.specs.Basics.{sel}
use Rattle.model.specs.Places.{PlaceKind, in_queue, is_waiting, in_deq, is_held, in_enq, is_free}
use Rattle.model.specs.Always.{count_below, some_below, is_it, six_total}
use Rattle.model.proofs.Basics.{yes_of, true→eq}

-- ---- some number below k

pub some_yes : (f : ℕ → Bool) (k i : ℕ) → i < k → f i ≡ true → some_below f k ≡ true
unfolding some_below
some_yes f zero i h e = absurd (omega arith)
some_yes f (suc k) i h e = by (f k) refl (some_yes f k i)
  where
    by : (c : Bool) → f k ≡ c → (i < k → f i ≡ true → some_below f k ≡ true) → sel c true (some_below f k) ≡ true
    by true w r = refl
    by false w r = at (ℕ_discrete i k)
      where
        at : Dec (i ≡ k) → some_below f k ≡ true
        at (yes z) = let y : f k ≡ true = rw (← z) e in let x : ◌≡◌ {A = ℕ} 0 1 = cc in absurd (omega arith)
        at (no z) = r (omega arith) e

pub some_is : (f : ℕ → Bool) (k : ℕ) → some_below f k ≡ true → (i : ℕ) × (i < k) × (f i ≡ true)
unfolding some_below
some_is f zero e = let x : ◌≡◌ {A = ℕ} 0 1 = cc in absurd (omega arith)
some_is f (suc k) e = by (f k) refl (some_is f k) e
  where
    by : (c : Bool) → f k ≡ c → (some_below f k ≡ true → (i : ℕ) × (i < k) × (f i ≡ true)) → sel c true (some_below f k) ≡ true
        → (i : ℕ) × (i < suc k) × (f i ≡ true)
    by true w r z = (k, omega arith, w)
    by false w r z = let y = r z in (y.0, omega (arith, y.1), y.2)

pub it_is : (n : ℕ) (o : Option ℕ) → is_it n o ≡ true → o ≡ some n
it_is n none e = let x : ◌≡◌ {A = ℕ} 0 1 = cc in absurd (omega arith)
it_is n (some k) e = ap some (true→eq k n e)

pub it_yes : (n : ℕ) (o : Option ℕ) → o ≡ some n → is_it n o ≡ true
it_yes n o e = rw e (yes_of (eqb n n) (eqb_refl n))

-- ---- n different numbers below N: n is at most N

-- x, unless it is N: then the other number
abbrev not_n : (N last x : ℕ) → Dec (x ≡ N) → ℕ
not_n N last x (yes e) = last
not_n N last x (no ne) = x

pub pigeon : (N n : ℕ) (f : ℕ → ℕ) → ((i : ℕ) → i < n → f i < N) → ((i j : ℕ) → i < n → j < n → f i ≡ f j → i ≡ j) → n ≤ N
pigeon N zero f b u = omega arith
pigeon zero (suc n) f b u = absurd (omega (arith, b 0 (omega arith)))
pigeon (suc N) (suc n) f b u = omega (
  arith,
  pigeon N n (λ i. not_n N (f n) (f i) (ℕ_discrete (f i) N)) (λ i h. low i h (ℕ_discrete (f i) N))
      (λ i j h k. one i j h k (ℕ_discrete (f i) N) (ℕ_discrete (f j) N)),
)
  where
    low : (i : ℕ) → i < n → (d : Dec (f i ≡ N)) → not_n N (f n) (f i) d < N
    low i h (yes e) = at (ℕ_discrete (f n) N)
      where
        at : Dec (f n ≡ N) → f n < N
        at (yes z) = absurd (omega (arith, u i n (omega arith) (omega arith) (e ∙ sym z)))
        at (no z) = omega (arith, b n (omega arith))
    low i h (no ne) = omega (arith, b i (omega arith))

    one : (i j : ℕ) → i < n → j < n → (d : Dec (f i ≡ N)) (d' : Dec (f j ≡ N)) → not_n N (f n) (f i) d ≡ not_n N (f n) (f j) d' → i ≡ j
    one i j h k (yes e) (yes e') z = u i j (omega arith) (omega arith) (e ∙ sym e')
    one i j h k (yes e) (no e') z = absurd (omega (arith, u n j (omega arith) (omega arith) z))
    one i j h k (no e) (yes e') z = absurd (omega (arith, u i n (omega arith) (omega arith) z))
    one i j h k (no e) (no e') z = u i j (omega arith) (omega arith) z

-- ---- six tests

abbrev number : PlaceKind → ℕ
number in_queue = 0
number is_free = 1
number is_waiting = 2
number is_held = 3
number in_enq = 4
number in_deq = 5

module _ (p : PlaceKind → ℕ → Bool) (n : ℕ) where
  -- what n adds to the six counts
  abbrev adds : ℕ
  adds = sel (p in_queue n) 1 0 + sel (p is_free n) 1 0 + sel (p is_waiting n) 1 0 + sel (p is_held n) 1 0 + sel (p in_enq n) 1 0 + sel (p in_deq n) 1 0

  module _ (k : PlaceKind) (u : (k' : PlaceKind) → p k' n ≡ true → k ≡ k') where
    off : (k' : PlaceKind) → number k ≢ number k' → p k' n ≡ false
    off k' ne = by (p k' n) refl
      where
        by : (c : Bool) → p k' n ≡ c → p k' n ≡ false
        by true e = absurd (ne (ap number (u k' e)))
        by false e = e

  one_of : (k : PlaceKind) → p k n ≡ true → ((k' : PlaceKind) → p k' n ≡ true → k ≡ k') → adds ≡ 1
  one_of in_queue e u = rw (
    e,
    o is_free (λ z. omega arith),
    o is_waiting (λ z. omega arith),
    o is_held (λ z. omega arith),
    o in_enq
        (λ z. omega arith),
    o in_deq (λ z. omega arith),
  ) refl
    where
      o : (k' : PlaceKind) → 0 ≢ number k' → p k' n ≡ false
      o = off in_queue u
  one_of is_free e u = rw (
    e,
    o in_queue (λ z. omega arith),
    o is_waiting (λ z. omega arith),
    o is_held (λ z. omega arith),
    o in_enq
        (λ z. omega arith),
    o in_deq (λ z. omega arith),
  ) refl
    where
      o : (k' : PlaceKind) → 1 ≢ number k' → p k' n ≡ false
      o = off is_free u
  one_of is_waiting e u = rw (
    e,
    o in_queue (λ z. omega arith),
    o is_free (λ z. omega arith),
    o is_held (λ z. omega arith),
    o in_enq
        (λ z. omega arith),
    o in_deq (λ z. omega arith),
  ) refl
    where
      o : (k' : PlaceKind) → 2 ≢ number k' → p k' n ≡ false
      o = off is_waiting u
  one_of is_held e u = rw (
    e,
    o in_queue (λ z. omega arith),
    o is_free (λ z. omega arith),
    o is_waiting (λ z. omega arith),
    o in_enq
        (λ z. omega arith),
    o in_deq (λ z. omega arith),
  ) refl
    where
      o : (k' : PlaceKind) → 3 ≢ number k' → p k' n ≡ false
      o = off is_held u
  one_of in_enq e u = rw (
    e,
    o in_queue (λ z. omega arith),
    o is_free (λ z. omega arith),
    o is_waiting (λ z. omega arith),
    o is_held
        (λ z. omega arith),
    o in_deq (λ z. omega arith),
  ) refl
    where
      o : (k' : PlaceKind) → 4 ≢ number k' → p k' n ≡ false
      o = off in_enq u
  one_of in_deq e u = rw (
    e,
    o in_queue (λ z. omega arith),
    o is_free (λ z. omega arith),
    o is_waiting (λ z. omega arith),
    o is_held
        (λ z. omega arith),
    o in_enq (λ z. omega arith),
  ) refl
    where
      o : (k' : PlaceKind) → 5 ≢ number k' → p k' n ≡ false
      o = off in_deq u

-- where each number below N passes exactly one of six tests, the six counts add up to N
pub six_sum : (p : PlaceKind → ℕ → Bool) (N : ℕ)
    → ((n : ℕ) → n < N → (k : PlaceKind) × (p k n ≡ true) × ((k' : PlaceKind) → p k' n ≡ true → k ≡ k'))
    → six_total p N ≡ N
unfolding count_below
six_sum p zero h = refl
six_sum p (suc N) h =
    let r = six_sum p N (λ n l. h n (omega arith)) in
    let w = h N (omega arith) in
    let o = one_of p N w.0 w.1 w.2 in
    omega (arith, r, o)
