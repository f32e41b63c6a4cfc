-- Sets as words: which numbers are in a set that gains one, loses one, or is made from a test; how large it is; its members as a list.
use mathlib.Core.Path.{◌≡◌, refl, sym, ap, ◌∙◌}
use mathlib.Core.Bool.{Bool, true, false, not}
use mathlib.Core.List.{List, [], ◌∷◌}
use mathlib.Core.Logic.{◌≢◌}
use Prim.Native.Nat.{ℕ, zero, suc, ◌+◌, ◌-◌, ◌/◌, ◌%◌, ◌^◌, ◌≤◌, ◌<◌}
use native.Mathlib.Omega.{arith}
use native.Mathlib.Nat.{pow-suc}
use native.Mathlib.Decide.{dec_lt, ℕ_discrete}
use lib.Dec.{eqb, eqb_refl, ltb}
use Rattle.lists.specs.Find.{pick}
use Rattle.lists.specs.Word.{has, with, without, word_of}
use Rattle.lists.proofs.BoolLaws.{no_way}
use Rattle.model.specs.Basics.{bothb, upd}
use Rattle.model.specs.Core.{Th, busy}
use Rattle.model.specs.Steps.{remove, others}
use Rattle.model.proofs.Basics.{yes_of, upd_at, upd_other, eq_no, lt_true, lt_no}
use Rattle.model.proofs.Words.{bit, set_bit, clear_bit}
use Rattle.tied.specs.Shown.{also, listed, members}

has_bit : (i w : ℕ) → has w i ≡ bit w i
unfolding has bit
has_bit zero w = refl
has_bit (suc i) w = has_bit i (w / 2)

-- ---- one more, one less

pub has_with : (w i j : ℕ) → has (with w i) j ≡ upd (has w) i true j
unfolding with
has_with w i j = by (has w i) refl (ℕ_discrete j i)
  where
    by : (b : Bool) → has w i ≡ b → Dec (j ≡ i) → has (pick b w (w + 2 ^ i)) j ≡ upd (has w) i true j
    by true e (yes z) = ap (has w) z ∙ e ∙ sym (upd_at (has w) i true z)
    by true e (no z) = sym (upd_other (has w) i true z)
    by false e (yes z) = has_bit j (w + 2 ^ i) ∙ ap (λ f. f j) (set_bit i w (sym (has_bit i w) ∙ e)) ∙ upd_at (bit w) i true z ∙ sym (upd_at (has w) i true z)
    by false e (no z) = has_bit j (w + 2 ^ i) ∙ ap (λ f. f j) (set_bit i w (sym (has_bit i w) ∙ e)) ∙ upd_other (bit w) i true z ∙ sym (has_bit j w) ∙ sym (upd_other (has w) i true z)

pub has_without : (w i j : ℕ) → has (without w i) j ≡ upd (has w) i false j
unfolding without
has_without w i j = by (has w i) refl (ℕ_discrete j i)
  where
    by : (b : Bool) → has w i ≡ b → Dec (j ≡ i) → has (pick b (w - 2 ^ i) w) j ≡ upd (has w) i false j
    by false e (yes z) = ap (has w) z ∙ e ∙ sym (upd_at (has w) i false z)
    by false e (no z) = sym (upd_other (has w) i false z)
    by true e (yes z) = has_bit j (w - 2 ^ i) ∙ ap (λ f. f j) (clear_bit i w (sym (has_bit i w) ∙ e)) ∙ upd_at (bit w) i false z ∙ sym (upd_at (has w) i false z)
    by true e (no z) = has_bit j (w - 2 ^ i) ∙ ap (λ f. f j) (clear_bit i w (sym (has_bit i w) ∙ e)) ∙ upd_other (bit w) i false z ∙ sym (has_bit j w) ∙ sym (upd_other (has w) i false z)

even_of : (w : ℕ) → eqb (w % 2) 1 ≡ false → w % 2 ≡ 0
even_of w e = by (ℕ_discrete (w % 2) 1)
  where
    by : Dec (w % 2 ≡ 1) → w % 2 ≡ 0
    by (yes h) = let z : eqb (w % 2) 1 ≡ true = rw h refl in no_way (sym z ∙ e)
    by (no h) = omega arith

add_fits : (i n w : ℕ) → i < n → w < 2 ^ n → has w i ≡ false → w + 2 ^ i < 2 ^ n
unfolding has
add_fits i zero w h l e = absurd (omega arith)
add_fits zero (suc n) w h l e = let z = even_of w e in omega (arith, pow-suc 2 n)
add_fits (suc i) (suc n) w h l e =
    let r = add_fits i n (w / 2) (omega arith) (omega (arith, pow-suc 2 n)) e in
    omega (arith, pow-suc 2 n, pow-suc 2 i)

pub with_fits : (n w i : ℕ) → i < n → w < 2 ^ n → with w i < 2 ^ n
unfolding with
with_fits n w i h l = by (has w i) refl
  where
    by : (b : Bool) → has w i ≡ b → pick b w (w + 2 ^ i) < 2 ^ n
    by true e = l
    by false e = add_fits i n w h l e

pub without_fits : (n w i : ℕ) → w < 2 ^ n → without w i < 2 ^ n
unfolding without
without_fits n w i l = by (has w i)
  where
    by : (b : Bool) → pick b (w - 2 ^ i) w < 2 ^ n
    by true = omega arith
    by false = l

-- ---- beyond its size, and nothing at all

pub has_high : (n w j : ℕ) → w < 2 ^ n → n ≤ j → has w j ≡ false
unfolding has
has_high zero w zero l h = let z : w ≡ 0 = omega arith in rw z refl
has_high zero w (suc j) l h = has_high zero (w / 2) j (omega arith) (omega arith)
has_high (suc n) w zero l h = absurd (omega arith)
has_high (suc n) w (suc j) l h = has_high n (w / 2) j (omega (arith, pow-suc 2 n)) (omega arith)

pub has_zero : (j : ℕ) → has 0 j ≡ false
has_zero j = has_high 0 0 j (omega arith) (omega arith)

pub word_zero : (n w : ℕ) → w < 2 ^ n → ((j : ℕ) → j < n → has w j ≡ false) → w ≡ 0
unfolding has
word_zero zero w l h = omega arith
word_zero (suc n) w l h =
    let z = even_of w (h 0 (omega arith)) in
    let r = word_zero n (w / 2) (omega (arith, pow-suc 2 n)) (λ j k. h (suc j) (omega arith)) in
    omega arith

-- ---- a set from a test

pub word_fits : (f : ℕ → Bool) (n : ℕ) → word_of f n < 2 ^ n
unfolding word_of
word_fits f zero = omega arith
word_fits f (suc n) = by (f n) (word_fits f n)
  where
    by : (b : Bool) → word_of f n < 2 ^ n → pick b (word_of f n + 2 ^ n) (word_of f n) < 2 ^ suc n
    by true l = omega (arith, pow-suc 2 n)
    by false l = omega (arith, pow-suc 2 n)

pub has_word : (f : ℕ → Bool) (n j : ℕ) → has (word_of f n) j ≡ bothb (ltb j n) (f j)
unfolding word_of
has_word f zero j = has_zero j ∙ sym (ap (λ b. bothb b (f j)) (lt_no j 0 (omega arith)))
has_word f (suc n) j = by (f n) refl (ℕ_discrete j n) (has_word f n j)
  where
    high : has (word_of f n) n ≡ false
    high = has_high n (word_of f n) n (word_fits f n) (omega arith)

    same : j ≢ n → ltb j n ≡ ltb j (suc n)
    same ne = at (dec_lt j n)
      where
        at : Dec (j < n) → ltb j n ≡ ltb j (suc n)
        at (yes h) = lt_true j n h ∙ sym (lt_true j (suc n) (omega arith))
        at (no h) = lt_no j n (omega arith) ∙ sym (lt_no j (suc n) (omega arith))

    added : (k : ℕ) → has (word_of f n + 2 ^ n) k ≡ upd (has (word_of f n)) n true k
    added k = has_bit k (word_of f n + 2 ^ n) ∙ ap (λ g. g k) (set_bit n (word_of f n) (sym (has_bit n (word_of f n)) ∙ high)) ∙ at (ℕ_discrete k n)
      where
        at : Dec (k ≡ n) → upd (bit (word_of f n)) n true k ≡ upd (has (word_of f n)) n true k
        at (yes z) = upd_at (bit (word_of f n)) n true z ∙ sym (upd_at (has (word_of f n)) n true z)
        at (no z) = upd_other (bit (word_of f n)) n true z ∙ sym (has_bit k (word_of f n)) ∙ sym (upd_other (has (word_of f n)) n true z)

    by : (b : Bool) → f n ≡ b → Dec (j ≡ n) → has (word_of f n) j ≡ bothb (ltb j n) (f j) → has (pick b (word_of f n + 2 ^ n) (word_of f n)) j ≡ bothb (ltb j (suc n)) (f j)
    by true e (yes z) r = added j ∙ upd_at (has (word_of f n)) n true z ∙ rw (lt_true j (suc n) (omega arith), z, e) refl
    by true e (no z) r = added j ∙ upd_other (has (word_of f n)) n true z ∙ r ∙ ap (λ b. bothb b (f j)) (same z)
    by false e (yes z) r = ap (has (word_of f n)) z ∙ high ∙ rw (lt_true j (suc n) (omega arith), z, e) refl
    by false e (no z) r = r ∙ ap (λ b. bothb b (f j)) (same z)

-- ---- members as a list

pub listed_same : (f g : ℕ → Bool) (t : ℕ) → ((j : ℕ) → j < t → f j ≡ g j) → listed f t ≡ listed g t
unfolding listed
listed_same f g zero h = refl
listed_same f g (suc t) h = rw (h t (omega arith), listed_same f g t (λ j l. h j (omega arith))) refl

pub listed_none : (f : ℕ → Bool) (t : ℕ) → listed f t ≡ [] → (j : ℕ) → j < t → f j ≡ false
unfolding listed
listed_none f zero e j h = absurd (omega arith)
listed_none f (suc t) e j h = by (f t) refl e (listed_none f t)
  where
    by : (b : Bool) → f t ≡ b → also b t (listed f t) ≡ [] → (listed f t ≡ [] → (j : ℕ) → j < t → f j ≡ false) → f j ≡ false
    by true w z r = let y : ◌≡◌ {A = ℕ} 0 1 = cc in absurd (omega arith)
    by false w z r = at (ℕ_discrete j t)
      where
        at : Dec (j ≡ t) → f j ≡ false
        at (yes q) = ap f q ∙ w
        at (no q) = r z j (omega arith)

pub listed_nil : (t : ℕ) → listed (λ u. false) t ≡ []
unfolding listed
listed_nil zero = refl
listed_nil (suc t) = listed_nil t

pub members_zero : (t : ℕ) → members t 0 ≡ []
members_zero t = listed_same (has 0) (λ u. false) t (λ j h. has_zero j) ∙ listed_nil t

pub members_none : (t w : ℕ) → w < 2 ^ t → members t w ≡ [] → w ≡ 0
members_none t w l e = word_zero t w l (listed_none (has w) t e)

remove_also : (k t : ℕ) (l : List ℕ) (a : Bool) → remove k (also a t l) ≡ also (bothb a (not (eqb t k))) t (remove k l)
unfolding remove
remove_also k t l true = by (eqb t k)
  where
    by : (b : Bool) → ◌≡◌ {A = List ℕ} (elim b as (λ _. List ℕ) [ true ↦ remove k l | false ↦ t ∷ remove k l ]) (also (not b) t (remove k l))
    by true = refl
    by false = refl
remove_also k t l false = refl

pub remove_listed : (k : ℕ) (f : ℕ → Bool) (t : ℕ) → remove k (listed f t) ≡ listed (upd f k false) t
unfolding listed remove
remove_listed k f zero = refl
remove_listed k f (suc t) = remove_also k t (listed f t) (f t) ∙ ap (λ b. also b t (remove k (listed f t))) (sym (by (ℕ_discrete t k))) ∙ ap (also (upd f k false t) t) (remove_listed k f t)
  where
    and_no : (a : Bool) → bothb a false ≡ false
    and_no true = refl
    and_no false = refl

    and_yes : (a : Bool) → bothb a true ≡ a
    and_yes true = refl
    and_yes false = refl

    by : Dec (t ≡ k) → upd f k false t ≡ bothb (f t) (not (eqb t k))
    by (yes z) = upd_at f k false z ∙ sym (ap (λ b. bothb (f t) (not b)) (ap (λ y. eqb y k) z ∙ yes_of (eqb k k) (eqb_refl k)) ∙ and_no (f t))
    by (no z) = upd_other f k false z ∙ sym (ap (λ b. bothb (f t) (not b)) (eq_no t k z) ∙ and_yes (f t))

pub remove_members : (k t w : ℕ) → remove k (members t w) ≡ members t (without w k)
remove_members k t w = remove_listed k (has w) t ∙ listed_same _ _ t (λ j h. sym (has_without w k j))

pub others_listed : (k : ℕ) (thr : ℕ → Th) (t : ℕ) → others t k thr ≡ listed (λ u. bothb (busy (thr u)) (not (eqb u k))) t
unfolding others listed
others_listed k thr zero = refl
others_listed k thr (suc t) = by (bothb (busy (thr t)) (not (eqb t k))) (others_listed k thr t)
  where
    by : (b : Bool) → others t k thr ≡ listed (λ u. bothb (busy (thr u)) (not (eqb u k))) t
        → ◌≡◌ {A = List ℕ} (elim b as (λ _. List ℕ) [ true ↦ t ∷ others t k thr | false ↦ others t k thr ]) (also b t (listed (λ u. bothb (busy (thr u)) (not (eqb u k))) t))
    by true r = ap (λ l. t ∷ l) r
    by false r = r
