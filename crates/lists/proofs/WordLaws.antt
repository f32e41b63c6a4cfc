-- Laws of sets as words, over the width n. Assumes nothing.
use Prim.Native.Nat.{ℕ, zero, suc, ◌+◌, ◌-◌, ◌*◌, ◌/◌, ◌%◌, ◌^◌, ◌≤◌, ◌<◌}
use mathlib.Core.Path.{◌≡◌, refl, sym, ap, ap₂, ◌∙◌}
use mathlib.Core.Bool.{Bool, true, false}
use mathlib.Core.Logic.{◌≢◌, ◌⊎◌, inl, inr}
use native.Mathlib.Nat.{pow-suc, pow-succ', div-one, div-div-eq-div-mul, one-mul, mod-eq_of_lt, eq-or-lt_of_le, le_of_suc-le-suc}
use native.Mathlib.Omega.{arith}
use lib.Dec.{eqb}
use lib.Pow.{pow-lt, pow_mono}
use lib.Count.{ones, ones_step, count_trailing_zeros, under}
use borrow.Author.Tests.{eqb-true, eqb-false, lt-ltb, le-ltb}
use native.Mathlib.Decide.{ℕ_discrete}
use Rattle.lists.specs.Find.{pick, least, around, count}
use Rattle.lists.specs.Word.{has, with, without, word_of}
use Rattle.lists.proofs.FindLaws.{least_shift, least_none}

odd : (w : ℕ) → eqb (w % 2) 1 ≡ true → w % 2 ≡ 1
odd w e = eqb-true (w % 2) 1 e

even : (w : ℕ) → eqb (w % 2) 1 ≡ false → w % 2 ≡ 0
even w e = let f = eqb-false (w % 2) 1 e in omega arith

-- ---- a shift and a remainder read a bit

pub has_at : (w i : ℕ) → has w i ≡ eqb (w / 2 ^ i % 2) 1
unfolding has
has_at w zero = ap (λ (x : ℕ). eqb (x % 2) 1) (sym (div-one w))
has_at w (suc i) = has_at (w / 2) i ∙ ap (λ (x : ℕ). eqb (x % 2) 1) (div-div-eq-div-mul w 2 (2 ^ i) ∙ ap (λ (x : ℕ). w / x) (sym (pow-succ' 2 i)))

-- a shift of 1 within the width does not lose its bit
pub one_shifted : (n i : ℕ) → i < n → 1 * 2 ^ i % 2 ^ n ≡ 2 ^ i
one_shifted n i h = ap (λ (x : ℕ). x % 2 ^ n) (one-mul (2 ^ i)) ∙ mod-eq_of_lt (pow-lt h)

-- ---- one power added where its bit is clear, or taken away where it is set

pub add_same : (w i : ℕ) → has w i ≡ false → has (w + 2 ^ i) i ≡ true
unfolding has
add_same w zero e = let h = even w e in let s : (w + 2 ^ 0) % 2 ≡ 1 = omega arith in rw s
add_same w (suc i) e = let s : (w + 2 ^ suc i) / 2 ≡ w / 2 + 2 ^ i = omega (arith, pow-suc 2 i) in rw s (add_same (w / 2) i e)

pub add_other : (w i j : ℕ) → has w i ≡ false → j ≢ i → has (w + 2 ^ i) j ≡ has w j
unfolding has
add_other w zero zero e d = absurd (d refl)
add_other w zero (suc j) e d = let h = even w e in let s : (w + 2 ^ 0) / 2 ≡ w / 2 = omega arith in rw s
add_other w (suc i) zero e d = let s : (w + 2 ^ suc i) % 2 ≡ w % 2 = omega (arith, pow-suc 2 i) in rw s
add_other w (suc i) (suc j) e d =
    let s : (w + 2 ^ suc i) / 2 ≡ w / 2 + 2 ^ i = omega (arith, pow-suc 2 i) in rw s (add_other (w / 2) i j e (λ z. d (ap suc z)))

-- the sum stays within the width
pub add_lt : (n w i : ℕ) → i < n → w < 2 ^ n → has w i ≡ false → w + 2 ^ i < 2 ^ n
unfolding has
add_lt zero w i h f e = omega arith
add_lt (suc n) w zero h f e = let z = even w e in omega (arith, pow-suc 2 n)
add_lt (suc n) w (suc i) h f e = omega (arith, pow-suc 2 n, pow-suc 2 i, add_lt n (w / 2) i (omega arith) (omega (arith, pow-suc 2 n)) e)

-- a bit that is set is worth its power
pub has_le : (w i : ℕ) → has w i ≡ true → 2 ^ i ≤ w
unfolding has
has_le w zero e = let h = odd w e in omega arith
has_le w (suc i) e = omega (arith, has_le (w / 2) i e, pow-suc 2 i)

pub sub_same : (w i : ℕ) → has w i ≡ true → has (w - 2 ^ i) i ≡ false
unfolding has
sub_same w zero e = let h = odd w e in let s : (w - 2 ^ 0) % 2 ≡ 0 = omega arith in rw s
sub_same w (suc i) e =
    let s : (w - 2 ^ suc i) / 2 ≡ w / 2 - 2 ^ i = omega (arith, pow-suc 2 i, has_le (w / 2) i e) in rw s (sub_same (w / 2) i e)

pub sub_other : (w i j : ℕ) → has w i ≡ true → j ≢ i → has (w - 2 ^ i) j ≡ has w j
unfolding has
sub_other w zero zero e d = absurd (d refl)
sub_other w zero (suc j) e d = let h = odd w e in let s : (w - 2 ^ 0) / 2 ≡ w / 2 = omega arith in rw s
sub_other w (suc i) zero e d = let s : (w - 2 ^ suc i) % 2 ≡ w % 2 = omega (arith, pow-suc 2 i, has_le (w / 2) i e) in rw s
sub_other w (suc i) (suc j) e d =
    let s : (w - 2 ^ suc i) / 2 ≡ w / 2 - 2 ^ i = omega (arith, pow-suc 2 i, has_le (w / 2) i e) in
    rw s (sub_other (w / 2) i j e (λ z. d (ap suc z)))

-- ---- with, without

with_same_by : (w i : ℕ) (b : Bool) → has w i ≡ b → has (pick b w (w + 2 ^ i)) i ≡ true
with_same_by w i true e = e
with_same_by w i false e = add_same w i e

pub has_with_same : (w i : ℕ) → has (with w i) i ≡ true
unfolding with
has_with_same w i = with_same_by w i (has w i) refl

with_other_by : (w i j : ℕ) → j ≢ i → (b : Bool) → has w i ≡ b → has (pick b w (w + 2 ^ i)) j ≡ has w j
with_other_by w i j d true e = refl
with_other_by w i j d false e = add_other w i j e d

pub has_with_other : (w i j : ℕ) → j ≢ i → has (with w i) j ≡ has w j
unfolding with
has_with_other w i j d = with_other_by w i j d (has w i) refl

with_lt_by : (n w i : ℕ) → i < n → w < 2 ^ n → (b : Bool) → has w i ≡ b → pick b w (w + 2 ^ i) < 2 ^ n
with_lt_by n w i h f true e = f
with_lt_by n w i h f false e = add_lt n w i h f e

pub with_lt : (n w i : ℕ) → i < n → w < 2 ^ n → with w i < 2 ^ n
unfolding with
with_lt n w i h f = with_lt_by n w i h f (has w i) refl

without_same_by : (w i : ℕ) (b : Bool) → has w i ≡ b → has (pick b (w - 2 ^ i) w) i ≡ false
without_same_by w i true e = sub_same w i e
without_same_by w i false e = e

pub has_without_same : (w i : ℕ) → has (without w i) i ≡ false
unfolding without
has_without_same w i = without_same_by w i (has w i) refl

without_other_by : (w i j : ℕ) → j ≢ i → (b : Bool) → has w i ≡ b → has (pick b (w - 2 ^ i) w) j ≡ has w j
without_other_by w i j d true e = sub_other w i j e d
without_other_by w i j d false e = refl

pub has_without_other : (w i j : ℕ) → j ≢ i → has (without w i) j ≡ has w j
unfolding without
has_without_other w i j d = without_other_by w i j d (has w i) refl

without_le_by : (w i : ℕ) (b : Bool) → pick b (w - 2 ^ i) w ≤ w
without_le_by w i true = omega arith
without_le_by w i false = omega arith

pub without_le : (w i : ℕ) → without w i ≤ w
unfolding without
without_le w i = without_le_by w i (has w i)

pub without_lt : (n w i : ℕ) → w < 2 ^ n → without w i < 2 ^ n
without_lt n w i f = omega (arith, without_le w i)

-- ---- the empty set, and equal sets

pub has_zero : (i : ℕ) → has 0 i ≡ false
unfolding has
has_zero zero = refl
has_zero (suc i) = has_zero i

-- a word below 2 ^ n has no number from n on
pub has_beyond : (n w i : ℕ) → w < 2 ^ n → n ≤ i → has w i ≡ false
unfolding has
has_beyond zero w i f h = let z : w ≡ 0 = omega arith in rw z (has_zero i)
has_beyond (suc n) w zero f h = absurd (omega arith)
has_beyond (suc n) w (suc i) f h = has_beyond n (w / 2) i (omega (arith, pow-suc 2 n)) (omega arith)

-- the same numbers: the same word
same_low : (w v : ℕ) → eqb (w % 2) 1 ≡ eqb (v % 2) 1 → (b : Bool) → eqb (w % 2) 1 ≡ b → w % 2 ≡ v % 2
same_low w v e true a = odd w a ∙ sym (odd v (sym e ∙ a))
same_low w v e false a = even w a ∙ sym (even v (sym e ∙ a))

pub has_ext : (n w v : ℕ) → w < 2 ^ n → v < 2 ^ n → ((i : ℕ) → i < n → has w i ≡ has v i) → w ≡ v
unfolding has
has_ext zero w v f g h = omega arith
has_ext (suc n) w v f g h =
    let a : w % 2 ≡ v % 2 = same_low w v (h 0 (omega arith)) (eqb (w % 2) 1) refl in
    let b : w / 2 ≡ v / 2 = has_ext n (w / 2) (v / 2) (omega (arith, pow-suc 2 n)) (omega (arith, pow-suc 2 n)) (λ i l. h (suc i) (omega arith)) in
    omega arith

-- a word is 0 exactly where it has no number: the other way is has-zero
pub zero_of_none : (n w : ℕ) → w < 2 ^ n → ((i : ℕ) → i < n → has w i ≡ false) → w ≡ 0
zero_of_none n w f h = has_ext n w 0 f (omega arith) (λ i l. h i l ∙ sym (has_zero i))

-- ---- a set by a test

pub word_of_lt : (f : ℕ → Bool) (n : ℕ) → word_of f n < 2 ^ n
unfolding word_of
word_of_lt f zero = omega arith
word_of_lt f (suc n) = by (f n) (word_of_lt f n)
  where
    by : (b : Bool) → word_of f n < 2 ^ n → pick b (word_of f n + 2 ^ n) (word_of f n) < 2 ^ suc n
    by true h = omega (arith, pow-suc 2 n)
    by false h = omega (arith, pow-suc 2 n)

last_by : (w n : ℕ) → w < 2 ^ n → (b : Bool) → has (pick b (w + 2 ^ n) w) n ≡ b
last_by w n h true = add_same w n (has_beyond n w n h (omega arith))
last_by w n h false = has_beyond n w n h (omega arith)

earlier_by : (w n i : ℕ) → w < 2 ^ n → i < n → (b : Bool) → has (pick b (w + 2 ^ n) w) i ≡ has w i
earlier_by w n i h l true = add_other w n i (has_beyond n w n h (omega arith)) (λ z. omega arith)
earlier_by w n i h l false = refl

at_by : (f : ℕ → Bool) (n i : ℕ) → (i < n → has (word_of f n) i ≡ f i) → (i ≡ n) ⊎ (i < n) → has (pick (f n) (word_of f n + 2 ^ n) (word_of f n)) i ≡ f i
at_by f n i ih (inl e) = rw e (last_by (word_of f n) n (word_of_lt f n) (f n))
at_by f n i ih (inr l) = earlier_by (word_of f n) n i (word_of_lt f n) l (f n) ∙ ih l

pub has_word_of : (f : ℕ → Bool) (n i : ℕ) → i < n → has (word_of f n) i ≡ f i
unfolding word_of
has_word_of f zero i h = absurd (omega arith)
has_word_of f (suc n) i h = at_by f n i (has_word_of f n i) (eq-or-lt_of_le (le_of_suc-le-suc h))

-- ---- trailing zeros name the lowest

under_by : (w r : ℕ) (b : Bool) → eqb (w % 2) 1 ≡ b → under (w % 2) r ≡ pick b 0 (suc r)
under_by w r true e = rw (odd w e)
under_by w r false e = rw (even w e)

-- n where w has no number below n
pub trailing_least : (n w : ℕ) → count_trailing_zeros n w ≡ least (has w) n 0
unfolding count_trailing_zeros least has
trailing_least zero w = refl
trailing_least (suc n) w =
    under_by w (count_trailing_zeros n (w / 2)) (eqb (w % 2) 1) refl
    ∙ ap (λ (r : ℕ). pick (eqb (w % 2) 1) 0 r) (ap suc (trailing_least n (w / 2)) ∙ sym (least_shift (has w) n 0))

under_same : (d r s : ℕ) → (d ≡ 0 → r ≡ s) → under d r ≡ under d s
under_same zero r s h = ap suc (h refl)
under_same (suc d) r s h = refl

trailing_narrow : (n k w : ℕ) → 0 < w → w < 2 ^ n → n ≤ k → count_trailing_zeros k w ≡ count_trailing_zeros n w
unfolding count_trailing_zeros
trailing_narrow zero k w p f h = absurd (omega arith)
trailing_narrow (suc n) zero w p f h = absurd (omega arith)
trailing_narrow (suc n) (suc k) w p f h =
    under_same (w % 2) (count_trailing_zeros k (w / 2)) (count_trailing_zeros n (w / 2))
    (λ z. trailing_narrow n k (w / 2) (omega arith) (omega (arith, pow-suc 2 n)) (omega arith))

-- a word that is not 0 has its lowest number within its own width: more numbers looked at change nothing
pub least_narrow : (n k w : ℕ) → 0 < w → w < 2 ^ n → n ≤ k → least (has w) k 0 ≡ least (has w) n 0
least_narrow n k w p f h = sym (trailing_least k w) ∙ trailing_narrow n k w p f h ∙ trailing_least n w

pub trailing_lowest : (n w : ℕ) → 0 < w → w < 2 ^ n → n ≤ 64 → count_trailing_zeros 64 w ≡ least (has w) n 0
trailing_lowest n w p f h = trailing_narrow n 64 w p f h ∙ trailing_least n w

under_lt : (d r n : ℕ) → (d ≡ 0 → r < n) → under d r < suc n
under_lt zero r n h = omega (arith, h refl)
under_lt (suc d) r n h = omega arith

trailing_lt : (n w : ℕ) → 0 < w → w < 2 ^ n → count_trailing_zeros n w < n
unfolding count_trailing_zeros
trailing_lt zero w p f = omega arith
trailing_lt (suc n) w p f = under_lt (w % 2) (count_trailing_zeros n (w / 2)) n (λ z. trailing_lt n (w / 2) (omega arith) (omega (arith, pow-suc 2 n)))

-- the lowest number is below n, and is in the set
pub least_lt : (n w : ℕ) → 0 < w → w < 2 ^ n → least (has w) n 0 < n
least_lt n w p f = omega (arith, trailing_lt n w p f, trailing_least n w)

trailing_has_by : (w r : ℕ) (b : Bool) → eqb (w % 2) 1 ≡ b → (w % 2 ≡ 0 → has (w / 2) r ≡ true) → has w (pick b 0 (suc r)) ≡ true
unfolding has
trailing_has_by w r true e h = e
trailing_has_by w r false e h = h (even w e)

trailing_has : (n w : ℕ) → 0 < w → w < 2 ^ n → has w (count_trailing_zeros n w) ≡ true
unfolding count_trailing_zeros
trailing_has zero w p f = absurd (omega arith)
trailing_has (suc n) w p f =
    rw (under_by w (count_trailing_zeros n (w / 2)) (eqb (w % 2) 1) refl)
    (trailing_has_by w (count_trailing_zeros n (w / 2)) (eqb (w % 2) 1) refl (λ z. trailing_has n (w / 2) (omega arith) (omega (arith, pow-suc 2 n))))

pub least_has : (n w : ℕ) → 0 < w → w < 2 ^ n → has w (least (has w) n 0) ≡ true
least_has n w p f = rw (← trailing_least n w) (trailing_has n w p f)

-- ---- the numbers behind one, going round

-- a search from s on, in the word moved down by s
least_behind : (s k w : ℕ) → least (has w) k s ≡ least (has (w / 2 ^ s)) k 0 + s
unfolding has
least_behind zero k w = rw (div-one w) (omega arith)
least_behind (suc s) k w =
    least_shift (has w) k s
    ∙ ap suc (least_behind s k (w / 2))
    ∙ rw (div-div-eq-div-mul w 2 (2 ^ s), ← pow-succ' 2 s) (omega arith)

-- what is left of a word of n numbers
behind_lt : (n s w : ℕ) → s ≤ n → w < 2 ^ n → w / 2 ^ s < 2 ^ (n - s)
behind_lt n zero w h f = let z : n - 0 ≡ n = omega arith in rw (div-one w, z) f
behind_lt zero (suc s) w h f = absurd (omega arith)
behind_lt (suc n) (suc s) w h f =
    let z : suc n - suc s ≡ n - s = omega arith in
    rw (z, pow-succ' 2 s, ← div-div-eq-div-mul w 2 (2 ^ s)) (behind_lt n s (w / 2) (omega arith) (omega (arith, pow-suc 2 n)))

-- what is behind i, as a shift by i and a half
pub behind_half : (w i : ℕ) → w / 2 ^ i / 2 ≡ w / 2 ^ suc i
behind_half w i = div-div-eq-div-mul w (2 ^ i) 2 ∙ ap (λ (x : ℕ). w / x) (sym (pow-suc 2 i))

-- the next number after i: the lowest of those behind it, and where none is left the lowest of all
pub around_left : (n w i : ℕ) → i < n → w < 2 ^ n → n ≤ 64 → 0 < w / 2 ^ suc i → around (has w) n i ≡ count_trailing_zeros 64 (w / 2 ^ suc i) + suc i
unfolding around
around_left n w i h f k p =
    let g = behind_lt n (suc i) w h f in
    let e : least (has w) (n - suc i) (suc i) ≡ count_trailing_zeros 64 (w / 2 ^ suc i) + suc i =
    least_behind (suc i) (n - suc i) w ∙ ap (λ (x : ℕ). x + suc i) (sym (trailing_lowest (n - suc i) (w / 2 ^ suc i) p g (omega arith))) in
    let l = least_lt (n - suc i) (w / 2 ^ suc i) p g in
    rw (lt-ltb (least (has w) (n - suc i) (suc i)) n (omega (arith, least_behind (suc i) (n - suc i) w, l))) e

pub around_over : (n w i : ℕ) → i < n → w / 2 ^ suc i ≡ 0 → around (has w) n i ≡ least (has w) n 0
unfolding around
around_over n w i h p =
    let e : least (has w) (n - suc i) (suc i) ≡ least (has 0) (n - suc i) 0 + suc i = rw p at (least_behind (suc i) (n - suc i) w) in
    let z = least_none (has 0) (n - suc i) 0 (λ j a b. has_zero j) in
    rw (le-ltb (least (has w) (n - suc i) (suc i)) n (omega arith))

-- a word that is not 0 has its next number within its own width: more numbers looked at change nothing
pub around_narrow : (n k w i : ℕ) → i < n → 0 < w → w < 2 ^ n → n ≤ k → k ≤ 64 → around (has w) k i ≡ around (has w) n i
around_narrow n k w i h p f a b = by (ℕ_discrete (w / 2 ^ suc i) 0)
  where
    by : Dec (w / 2 ^ suc i ≡ 0) → around (has w) k i ≡ around (has w) n i
    by (yes e) = around_over k w i (omega arith) e ∙ least_narrow n k w p f a ∙ sym (around_over n w i h e)
    by (no e) =
        around_left k w i (omega arith) (omega (arith, pow_mono a)) b (omega arith)
        ∙ sym (around_left n w i h f (omega arith) (omega arith))

-- ---- the count of ones

count_shift : (f : ℕ → Bool) (n : ℕ) → count f (suc n) ≡ pick (f 0) 1 0 + count (λ i. f (suc i)) n
unfolding count
count_shift f zero = refl
count_shift f (suc n) = omega (arith, count_shift f n)

low_digit : (w : ℕ) (b : Bool) → eqb (w % 2) 1 ≡ b → w % 2 ≡ pick b 1 0
low_digit w true e = odd w e
low_digit w false e = even w e

pub ones_count : (n w : ℕ) → w < 2 ^ n → ones w ≡ count (has w) n
unfolding ones has count
ones_count zero w f = let z : w ≡ 0 = omega arith in ap ones z
ones_count (suc n) w f =
    ones_step w
    ∙ ap₂ ◌+◌ (low_digit w (eqb (w % 2) 1) refl) (ones_count n (w / 2) (omega (arith, pow-suc 2 n)))
    ∙ sym (count_shift (has w) n)

-- more numbers looked at change nothing
pub count_narrow : (n k w : ℕ) → w < 2 ^ n → n ≤ k → count (has w) k ≡ count (has w) n
count_narrow n k w f h = sym (ones_count k w (omega (arith, pow_mono h))) ∙ ones_count n w f
