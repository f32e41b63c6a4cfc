-- A number's digits are those of its tenth and the last one.
use Prim.Native.Nat.{ℕ, zero, suc, ◌+◌, ◌/◌, ◌%◌, ◌≤◌, ◌<◌}
use mathlib.Core.Path.{◌≡◌, refl, sym, ap, ◌∙◌}
use mathlib.Core.Bool.{Bool, true, false}
use mathlib.Core.List.{List, [], ◌∷◌, ◌++◌, append_assoc}
use native.Mathlib.Numerals.{add-one, add-two}
use native.Mathlib.Omega.{arith}
use lib.ListN.{length, set, length-append}
use lib.Dec.{ltb, nltb→le}
use borrow.Author.Tests.{lt-ltb, le-ltb}
use Rattle.lists.specs.Tab.{over}
use Rattle.lists.specs.Text.{digits_of, decimal}
use Rattle.lists.proofs.TabLaws as tabs
use Rattle.printing.specs.Digits.{four_digits, eight_digits}

-- where the bound suffices, it does not matter
fuel : (k j n : ℕ) → n ≤ k → n ≤ j → digits_of k n ≡ digits_of j n
unfolding digits_of
fuel zero zero n p q = refl
fuel zero (suc j) n p q = let z : n ≡ 0 = omega arith in rw z refl
fuel (suc k) zero n p q = let z : n ≡ 0 = omega arith in rw z refl
fuel (suc k) (suc j) n p q = by (ltb n 10) refl (λ h. fuel k j (n / 10) (omega arith) (omega arith))
  where
    by : (b : Bool) → ltb n 10 ≡ b → (10 ≤ n → digits_of k (n / 10) ≡ digits_of j (n / 10))
        → ◌≡◌ {A = List ℕ} (elim b [ true ↦ (48 + n) ∷ [] | false ↦ digits_of k (n / 10) ++ ((48 + n % 10) ∷ []) ])
        (elim b [ true ↦ (48 + n) ∷ [] | false ↦ digits_of j (n / 10) ++ ((48 + n % 10) ∷ []) ])
    by true e h = refl
    by false e h = ap (λ l. l ++ ((48 + n % 10) ∷ [])) (h (nltb→le n 10 (rw e tt)))

pub decimal_one : (n : ℕ) → n < 10 → decimal n ≡ (48 + n) ∷ []
unfolding decimal digits_of
decimal_one zero h = refl
decimal_one (suc n) h = rw (lt-ltb (suc n) 10 h, digits_of)

pub decimal_more : (n : ℕ) → 10 ≤ n → decimal n ≡ decimal (n / 10) ++ ((48 + n % 10) ∷ [])
unfolding decimal digits_of
decimal_more zero h = absurd (omega arith)
decimal_more (suc n) h = rw (le-ltb (suc n) 10 h, digits_of) (ap (λ l. l ++ ((48 + suc n % 10) ∷ [])) (fuel n (suc n / 10) (suc n / 10) (omega arith) (omega arith)))

pub length_one : (n : ℕ) → n < 10 → length (decimal n) ≡ 1
length_one n h = ap length (decimal_one n h)

pub length_more : (n : ℕ) → 10 ≤ n → length (decimal n) ≡ length (decimal (n / 10)) + 1
length_more n h = ap length (decimal_more n h) ∙ length-append (decimal (n / 10)) ((48 + n % 10) ∷ [])

-- the digits are written one by one
pub write_one : (l : List ℕ) (at n : ℕ) → n < 10 → set l at (48 + n) ≡ over l at (decimal n)
unfolding over
write_one l at n h = rw (decimal_one n h)

-- ---- digits in groups

decimal_two : (n : ℕ) → 100 ≤ n → decimal n ≡ decimal (n / 100) ++ ((48 + n / 10 % 10) ∷ (48 + n % 10) ∷ [])
decimal_two n h =
    let e : n / 10 / 10 ≡ n / 100 = omega arith in
    decimal_more n (omega arith)
    ∙ ap (λ (l : List ℕ). l ++ ((48 + n % 10) ∷ [])) (decimal_more (n / 10) (omega arith))
    ∙ append_assoc (decimal (n / 10 / 10)) ((48 + n / 10 % 10) ∷ []) ((48 + n % 10) ∷ [])
    ∙ ap (λ (k : ℕ). decimal k ++ ((48 + n / 10 % 10) ∷ (48 + n % 10) ∷ [])) e

pub short_two : (n : ℕ) → 10 ≤ n → n < 100 → decimal n ≡ (48 + n / 10) ∷ (48 + n % 10) ∷ []
short_two n h f = decimal_more n h ∙ ap (λ (l : List ℕ). l ++ ((48 + n % 10) ∷ [])) (decimal_one (n / 10) (omega arith))

pub short_three : (n : ℕ) → 100 ≤ n → n < 1000 → decimal n ≡ (48 + n / 100) ∷ (48 + n / 10 % 10) ∷ (48 + n % 10) ∷ []
short_three n h f = decimal_two n h ∙ ap (λ (l : List ℕ). l ++ ((48 + n / 10 % 10) ∷ (48 + n % 10) ∷ [])) (decimal_one (n / 100) (omega arith))

pub short_four : (n : ℕ) → 1000 ≤ n → n < 10000 → decimal n ≡ four_digits n
unfolding four_digits
short_four n h f =
    let d : n / 10 % 10 ≡ n % 100 / 10 = omega arith in
    let z : n % 10 ≡ n % 100 % 10 = omega arith in
    decimal_two n (omega arith)
    ∙ ap (λ (l : List ℕ). l ++ ((48 + n / 10 % 10) ∷ (48 + n % 10) ∷ [])) (short_two (n / 100) (omega arith) (omega arith))
    ∙ rw (d, z) refl

-- the last four digits are those of the rest by 10,000
pub decimal_four : (n : ℕ) → 10000 ≤ n → decimal n ≡ decimal (n / 10000) ++ four_digits (n % 10000)
unfolding four_digits
decimal_four n h =
    let e : n / 100 / 100 ≡ n / 10000 = omega arith in
    let a : n / 100 / 10 % 10 ≡ n % 10000 / 100 / 10 = omega arith in
    let b : n / 100 % 10 ≡ n % 10000 / 100 % 10 = omega arith in
    let d : n / 10 % 10 ≡ n % 10000 % 100 / 10 = omega arith in
    let z : n % 10 ≡ n % 10000 % 100 % 10 = omega arith in
    decimal_two n (omega arith)
    ∙ ap (λ (l : List ℕ). l ++ ((48 + n / 10 % 10) ∷ (48 + n % 10) ∷ [])) (decimal_two (n / 100) (omega arith))
    ∙ append_assoc (decimal (n / 100 / 100)) ((48 + n / 100 / 10 % 10) ∷ (48 + n / 100 % 10) ∷ []) ((48 + n / 10 % 10) ∷ (48 + n % 10) ∷ [])
    ∙ rw (e, a, b, d, z) refl

pub decimal_eight : (n : ℕ) → 100000000 ≤ n → decimal n ≡ decimal (n / 100000000) ++ eight_digits (n % 100000000)
unfolding eight_digits
decimal_eight n h =
    let e : n / 10000 / 10000 ≡ n / 100000000 = omega arith in
    let a : n / 10000 % 10000 ≡ n % 100000000 / 10000 = omega arith in
    let b : n % 10000 ≡ n % 100000000 % 10000 = omega arith in
    decimal_four n (omega arith)
    ∙ ap (λ (l : List ℕ). l ++ four_digits (n % 10000)) (decimal_four (n / 10000) (omega arith))
    ∙ append_assoc (decimal (n / 10000 / 10000)) (four_digits (n / 10000 % 10000)) (four_digits (n % 10000))
    ∙ rw (e, a, b) refl

pub length_four : (n : ℕ) → length (four_digits n) ≡ 4
unfolding four_digits
length_four n = refl

pub write_two : (l : List ℕ) (at n : ℕ) → 10 ≤ n → n < 100 → set (set l at (48 + n / 10)) (at + 1) (48 + n % 10) ≡ over l at (decimal n)
unfolding over
write_two l at n h f = rw (short_two n h f, add-one)

pub write_three : (l : List ℕ) (at n : ℕ) → 100 ≤ n → n < 1000
    → set (set (set l at (48 + n / 100)) (at + 1) (48 + n / 10 % 10)) (at + 2) (48 + n % 10) ≡ over l at (decimal n)
unfolding over
write_three l at n h f = rw (short_three n h f, add-one, add-two)

-- four digits behind a number
pub write_four : (l : List ℕ) (at n : ℕ) → 10000 ≤ n
    → over (over l at (decimal (n / 10000))) (at + length (decimal (n / 10000))) (four_digits (n % 10000)) ≡ over l at (decimal n)
write_four l at n h = tabs.over_append l at (decimal (n / 10000)) (four_digits (n % 10000)) ∙ ap (over l at) (sym (decimal_four n h))

pub length_four_more : (n : ℕ) → 10000 ≤ n → length (decimal n) ≡ length (decimal (n / 10000)) + 4
length_four_more n h =
    ap length (decimal_four n h) ∙ length-append (decimal (n / 10000)) (four_digits (n % 10000))
    ∙ ap (λ (k : ℕ). length (decimal (n / 10000)) + k) (length_four (n % 10000))

-- eight digits behind a number
pub write_eight : (l : List ℕ) (at n : ℕ) → 100000000 ≤ n
    → over (over l at (decimal (n / 100000000))) (at + length (decimal (n / 100000000))) (eight_digits (n % 100000000)) ≡ over l at (decimal n)
write_eight l at n h = tabs.over_append l at (decimal (n / 100000000)) (eight_digits (n % 100000000)) ∙ ap (over l at) (sym (decimal_eight n h))

pub length_eight_more : (n : ℕ) → 100000000 ≤ n → length (decimal n) ≡ length (decimal (n / 100000000)) + 8
length_eight_more n h =
    let e : n / 10000 / 10000 ≡ n / 100000000 = omega arith in
    omega (arith, length_four_more n (omega arith), length_four_more (n / 10000) (omega arith), ap (λ (k : ℕ). length (decimal k)) e)

pub length_short_four : (n : ℕ) → 1000 ≤ n → n < 10000 → length (decimal n) ≡ 4
length_short_four n h f = ap length (short_four n h f) ∙ length_four n

-- eight digits in two groups
pub write_fours : (l : List ℕ) (at n : ℕ) → over (over l at (four_digits (n / 10000))) (at + 4) (four_digits (n % 10000)) ≡ over l at (eight_digits n)
unfolding eight_digits
write_fours l at n =
    ap (λ (k : ℕ). over (over l at (four_digits (n / 10000))) (at + k) (four_digits (n % 10000))) (sym (length_four (n / 10000)))
    ∙ tabs.over_append l at (four_digits (n / 10000)) (four_digits (n % 10000))
