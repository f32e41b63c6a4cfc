-- A set as a word: its bits, the lowest of them, one set, one cleared.
use mathlib.Core.Path.{◌≡◌, refl, sym, ap, ◌∙◌, fun_ext}
use mathlib.Core.Bool.{Bool, true, false}
use mathlib.Core.Option.{Option, none, some}
use Prim.Native.Nat.{ℕ, zero, suc, ◌+◌, ◌-◌, ◌/◌, ◌%◌, ◌^◌, ◌≤◌, ◌<◌}
use native.Mathlib.Omega.{arith}
use native.Mathlib.Nat.{pow-suc}
use native.Mathlib.Decide.{dec_lt, ℕ_discrete}
use lib.Dec.{eqb, eqb→eq, ltb, lt→ltb, ltb→lt}
use lib.Count.{count_trailing_zeros, under}
use Rattle.model.specs.Basics.{sel, upd}
use Rattle.model.specs.Choice.{lowest}
use Rattle.model.proofs.Basics.{upd_at, upd_other, upd_same, yes_of, T_of}

unfoldable pub bit : ℕ → ℕ → Bool
bit w zero = eqb (w % 2) 1
bit w (suc n) = bit (w / 2) n

odd : (w : ℕ) → eqb (w % 2) 1 ≡ true → w % 2 ≡ 1
odd w e = eqb→eq (w % 2) 1 (T_of _ e)

even : (w : ℕ) → eqb (w % 2) 1 ≡ false → w % 2 ≡ 0
even w e = by (ℕ_discrete (w % 2) 1)
  where
    by : Dec (w % 2 ≡ 1) → w % 2 ≡ 0
    by (yes h) = let z : eqb (w % 2) 1 ≡ true = rw h refl in let y : ◌≡◌ {A = ℕ} 0 1 = cc in absurd (omega arith)
    by (no h) = omega arith

upd_shift : (f : ℕ → Bool) (n : ℕ) (a : Bool) (j : ℕ) → upd f (suc n) a (suc j) ≡ upd (λ k. f (suc k)) n a j
upd_shift f n a j = by (ℕ_discrete j n)
  where
    by : Dec (j ≡ n) → upd f (suc n) a (suc j) ≡ upd (λ k. f (suc k)) n a j
    by (yes e) = upd_at f (suc n) a (ap suc e) ∙ sym (upd_at (λ k. f (suc k)) n a e)
    by (no ne) = upd_other f (suc n) a (λ z. ne (omega arith)) ∙ sym (upd_other (λ k. f (suc k)) n a ne)

-- a bit that is not set is set
set_at : (n w : ℕ) → bit w n ≡ false → (j : ℕ) → bit (w + 2 ^ n) j ≡ upd (bit w) n true j
unfolding bit
set_at zero w e zero = let h = even w e in let s : (w + 2 ^ 0) % 2 ≡ 1 = omega arith in rw s (sym (upd_same (bit w) 0 true))
set_at zero w e (suc j) = let h = even w e in let s : (w + 2 ^ 0) / 2 ≡ w / 2 = omega arith in rw s (sym (upd_other (bit w) 0 true (λ z. omega arith)))
set_at (suc n) w e zero = let s : (w + 2 ^ suc n) % 2 ≡ w % 2 = omega (arith, pow-suc 2 n) in rw s (sym (upd_other (bit w) (suc n) true (λ z. omega arith)))
set_at (suc n) w e (suc j) = let s : (w + 2 ^ suc n) / 2 ≡ w / 2 + 2 ^ n = omega (arith, pow-suc 2 n) in
    rw s (set_at n (w / 2) e j ∙ sym (upd_shift (bit w) n true j))

pub set_bit : (n w : ℕ) → bit w n ≡ false → bit (w + 2 ^ n) ≡ upd (bit w) n true
set_bit n w e = fun_ext (set_at n w e)

-- a bit that is set is worth its power
bit_le : (n w : ℕ) → bit w n ≡ true → 2 ^ n ≤ w
unfolding bit
bit_le zero w e = let h = odd w e in omega arith
bit_le (suc n) w e = omega (arith, bit_le n (w / 2) e, pow-suc 2 n)

-- and is cleared
clear_at : (n w : ℕ) → bit w n ≡ true → (j : ℕ) → bit (w - 2 ^ n) j ≡ upd (bit w) n false j
unfolding bit
clear_at zero w e zero = let h = odd w e in let s : (w - 2 ^ 0) % 2 ≡ 0 = omega arith in rw s (sym (upd_same (bit w) 0 false))
clear_at zero w e (suc j) = let h = odd w e in let s : (w - 2 ^ 0) / 2 ≡ w / 2 = omega arith in rw s (sym (upd_other (bit w) 0 false (λ z. omega arith)))
clear_at (suc n) w e zero = let s : (w - 2 ^ suc n) % 2 ≡ w % 2 = omega (arith, pow-suc 2 n, bit_le n (w / 2) e) in
    rw s (sym (upd_other (bit w) (suc n) false (λ z. omega arith)))
clear_at (suc n) w e (suc j) = let s : (w - 2 ^ suc n) / 2 ≡ w / 2 - 2 ^ n = omega (arith, pow-suc 2 n, bit_le n (w / 2) e) in
    rw s (clear_at n (w / 2) e j ∙ sym (upd_shift (bit w) n false j))

pub clear_bit : (n w : ℕ) → bit w n ≡ true → bit (w - 2 ^ n) ≡ upd (bit w) n false
clear_bit n w e = fun_ext (clear_at n w e)

-- ---- the lowest

abbrev suc_o : Option ℕ → Option ℕ
suc_o none = none
suc_o (some n) = some (suc n)

low_shift : (k i : ℕ) (f : ℕ → Bool) → lowest k (suc i) f ≡ suc_o (lowest k i (λ n. f (suc n)))
unfolding lowest
low_shift zero i f = refl
low_shift (suc k) i f = by (f (suc i)) (low_shift k (suc i) f)
  where
    by : (b : Bool) → lowest k (suc (suc i)) f ≡ suc_o (lowest k (suc i) (λ n. f (suc n)))
        → elim b as (λ _. Option ℕ) [ true ↦ some (suc i) | false ↦ lowest k (suc (suc i)) f ] ≡ suc_o
        (elim b as (λ _. Option ℕ) [ true ↦ some i | false ↦ lowest k (suc i) (λ n. f (suc n)) ])
    by true r = refl
    by false r = r

-- the number of zeros below the lowest bit, if there is one below k
unfoldable pub below : ℕ → ℕ → Option ℕ
below k t = sel (ltb t k) (some t) none

below_suc : (k t : ℕ) → suc_o (below k t) ≡ below (suc k) (suc t)
unfolding below
below_suc k t = by (dec_lt t k)
  where
    no_lt : (a b : ℕ) → b ≤ a → ltb a b ≡ false
    no_lt a b h = go (ltb a b) refl
      where
        go : (x : Bool) → ltb a b ≡ x → ltb a b ≡ false
        go true e = let z : a < b = ltb→lt a b (T_of _ e) in absurd (omega arith)
        go false e = e

    by : Dec (t < k) → suc_o (sel (ltb t k) (some t) none) ≡ sel (ltb (suc t) (suc k)) (some (suc t)) none
    by (yes h) = rw (yes_of (ltb t k) (lt→ltb t k h), yes_of (ltb (suc t) (suc k)) (lt→ltb (suc t) (suc k) (omega arith))) refl
    by (no h) = rw (no_lt t k (omega arith), no_lt (suc t) (suc k) (omega arith)) refl

pub word_low : (k w : ℕ) → lowest k 0 (bit w) ≡ below k (count_trailing_zeros k w)
unfolding lowest count_trailing_zeros bit below
word_low zero w = refl
word_low (suc k) w = by (eqb (w % 2) 1) refl (low_shift k 0 (bit w) ∙ ap suc_o (word_low k (w / 2)) ∙ below_suc k (count_trailing_zeros k (w / 2)))
  where
    by : (b : Bool) → eqb (w % 2) 1 ≡ b → lowest k 1 (bit w) ≡ below (suc k) (suc (count_trailing_zeros k (w / 2)))
        → elim b as (λ _. Option ℕ) [ true ↦ some 0 | false ↦ lowest k 1 (bit w) ] ≡ below (suc k) (under (w % 2) (count_trailing_zeros k (w / 2)))
    by true e r = rw (odd w e) (rw (yes_of (ltb 0 (suc k)) (lt→ltb 0 (suc k) (omega arith))) refl)
    by false e r = rw (even w e) r
