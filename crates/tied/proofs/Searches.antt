-- The lowest number of a set: the record's search gives it, or the size where there is none.
use mathlib.Core.Path.{◌≡◌, refl, sym, ap, ◌∙◌}
use mathlib.Core.Bool.{Bool, true, false}
use mathlib.Core.Option.{Option, none, some}
use Prim.Native.Nat.{ℕ, zero, suc, ◌+◌, ◌-◌, ◌^◌, ◌≤◌, ◌<◌}
use native.Mathlib.Omega.{arith}
use native.Mathlib.Nat.{add-suc}
use native.Mathlib.Decide.{ℕ_discrete, dec_lt}
use lib.Dec.{eqb, ltb}
use borrow.Author.Tests.{ltb-true}
use Rattle.lists.specs.Find.{pick, least, around}
use Rattle.lists.specs.Word.{has}
use Rattle.lists.proofs.BoolLaws.{no_way}
use Rattle.lists.proofs.FindLaws.{least_none, least_clear, least_found}
use Rattle.model.specs.Basics.{sel}
use Rattle.model.specs.Choice.{lowest, else_try, round_table}
use Rattle.model.proofs.Basics.{lt_true, lt_no, true→eq}
use Rattle.tied.specs.Shown.{link_if}
use Rattle.tied.proofs.Words.{has_zero, word_zero}

pub lowest_least : (f : ℕ → Bool) (k s : ℕ) → lowest k s f ≡ sel (ltb (least f k s) (s + k)) (some (least f k s)) none
unfolding lowest least
lowest_least f zero s = rw (lt_no s (s + 0) (omega arith)) refl
lowest_least f (suc k) s = by (f s) (lowest_least f k (suc s))
  where
    by : (b : Bool) → lowest k (suc s) f ≡ sel (ltb (least f k (suc s)) (suc s + k)) (some (least f k (suc s))) none
        → ◌≡◌ {A = Option ℕ} (elim b as (λ _. Option ℕ) [ true ↦ some s | false ↦ lowest k (suc s) f ]) (sel (ltb (pick b s (least f k (suc s))) (s + suc k)) (some (pick b s (least f k (suc s)))) none)
    by true r = rw (lt_true s (s + suc k) (omega arith)) refl
    by false r = let e : s + suc k ≡ suc s + k = omega arith in rw (e) r

pub lowest_same : (f g : ℕ → Bool) (k s : ℕ) → ((j : ℕ) → j < s + k → f j ≡ g j) → lowest k s f ≡ lowest k s g
unfolding lowest
lowest_same f g zero s h = refl
lowest_same f g (suc k) s h = by (f s) (g s) (h s (omega arith)) (lowest_same f g k (suc s) (λ j l. h j (omega arith)))
  where
    by : (a b : Bool) → a ≡ b → lowest k (suc s) f ≡ lowest k (suc s) g
        → ◌≡◌ {A = Option ℕ} (elim a as (λ _. Option ℕ) [ true ↦ some s | false ↦ lowest k (suc s) f ]) (elim b as (λ _. Option ℕ) [ true ↦ some s | false ↦ lowest k (suc s) g ])
    by true true e r = refl
    by true false e r = no_way e
    by false true e r = no_way (sym e)
    by false false e r = r

-- a set that is not empty has a lowest number below its size
pub low_in : (n w : ℕ) → w < 2 ^ n → eqb w 0 ≡ false → least (has w) n 0 < n
low_in n w l e = by (dec_lt (least (has w) n 0) n)
  where
    by : Dec (least (has w) n 0 < n) → least (has w) n 0 < n
    by (yes h) = h
    by (no h) = let z = word_zero n w l (λ j k. least_clear (has w) n 0 (omega arith) j (omega arith) (omega arith)) in no_way (sym (ap (λ y. eqb y 0) z) ∙ e)

pub low_link : (n w : ℕ) → w < 2 ^ n → (b : Bool) → eqb w 0 ≡ b → lowest n 0 (has w) ≡ link_if b (least (has w) n 0)
low_link n w l true e =
    let z : least (has w) n 0 ≡ 0 + n = least_none (has w) n 0 (λ i a c. ap (λ y. has y i) (true→eq w 0 e) ∙ has_zero i) in
    lowest_least (has w) n 0 ∙ rw (lt_no (least (has w) n 0) (0 + n) (omega arith)) refl
low_link n w l false e = lowest_least (has w) n 0 ∙ rw (lt_true (least (has w) n 0) (0 + n) (omega (arith, low_in n w l e))) refl

-- ---- going round

pub round_same : (f g : ℕ → Bool) (n i : ℕ) → i < n → ((j : ℕ) → j < n → f j ≡ g j) → round_table n i f ≡ round_table n i g
unfolding round_table
round_same f g n i l h =
    ap (λ o. else_try o (lowest n 0 f)) (lowest_same f g (n - suc i) (suc i) (λ j a. h j (omega arith)))
    ∙ ap (else_try (lowest (n - suc i) (suc i) g)) (lowest_same f g n 0 (λ j a. h j (omega arith)))

-- the record's search finds what the round finds
pub round_link : (n w i : ℕ) → i < n → w < 2 ^ n → (b : Bool) → eqb w 0 ≡ b → round_table n i (has w) ≡ link_if b (around (has w) n i)
unfolding round_table around
round_link n w i h l b e = by (ltb q n) refl b e
  where
    q : ℕ
    q = least (has w) (n - suc i) (suc i)

    k : suc i + (n - suc i) ≡ n
    k = omega arith

    first : lowest (n - suc i) (suc i) (has w) ≡ sel (ltb q n) (some q) none
    first = rw (k) at (lowest_least (has w) (n - suc i) (suc i))

    by : (t : Bool) → ltb q n ≡ t → (b : Bool) → eqb w 0 ≡ b
        → else_try (lowest (n - suc i) (suc i) (has w)) (lowest n 0 (has w)) ≡ link_if b (pick t q (least (has w) n 0))
    by false f b e = rw (first, f) (low_link n w l b e)
    by true f false e = rw (first, f) refl
    by true f true e =
        let a : has w q ≡ true = least_found (has w) (n - suc i) (suc i) (omega (arith, ltb-true q n f)) in
        no_way (sym a ∙ ap (λ y. has y q) (true→eq w 0 e) ∙ has_zero q)
