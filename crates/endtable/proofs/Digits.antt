-- Laws of an ending's choices: the digits of its number in the counts.
use Prim.Native.Nat.{ℕ, zero, suc, ◌-◌, ◌*◌, ◌/◌, ◌%◌, ◌≤◌, ◌<◌}
use mathlib.Core.Path.{◌≡◌, refl, sym, ap₂, ◌∙◌}
use mathlib.Core.Bool.{Bool, true, false}
use lib.Dec.{ltb}
use Rattle.lists.specs.Find.{pick}
use mathlib.Core.List.{List, [], ◌∷◌, ◌++◌, append_assoc}
use mathlib.Core.Logic.{◌⊎◌, inl, inr}
use native.Mathlib.Omega.{arith}
use native.Mathlib.Nat.{mod-lt, le-mul_of_pos_right, eq-or-lt_of_le, le_of_suc-le-suc}
use borrow.Author.Tests.{lt-ltb, le-ltb}
use lib.ListN.{length, get_or, set, drop, length-append, get_or-append}
use lib.Seq.{get_or_at, drop-cons, drop-set-lt, get_or-set_same, lt-length-set}
use Rattle.endtable.specs.Picks.{prod, digits, capped, Counted, Ready}

pub length_digits : (cs : List ℕ) (n k : ℕ) → length (digits cs n k) ≡ n
unfolding digits
length_digits cs zero k = refl
length_digits cs (suc n) k = length-append (digits cs n (k / get_or cs n 0)) (k % get_or cs n 0 ∷ []) ∙ omega (arith, length_digits cs n (k / get_or cs n 0))

-- one turn of the recursion, at the code's numbers
pub split_step : (cs ps : List ℕ) (n k : ℕ) → 0 < n → n ≤ length ps
    → digits cs (n - 1) (k / get_or cs (n - 1) 0) ++ drop (n - 1) (set ps (n - 1) (k % get_or cs (n - 1) 0)) ≡ digits cs n k ++ drop n ps
unfolding digits
split_step cs ps zero k h l = absurd (omega arith)
split_step cs ps (suc n) k h l =
    let e : suc n - 1 ≡ n = omega arith in
    let d = k % get_or cs n 0 in
    let a : drop n (set ps n d) ≡ d ∷ drop (suc n) ps =
    drop-cons (set ps n d) n 0 (lt-length-set ps n d l)
    ∙ ap₂ (λ (x : ℕ) (y : List ℕ). x ∷ y) (get_or-set_same ps n d 0 l) (drop-set-lt (suc n) ps n d (omega arith)) in
    rw (e, a) (sym (append_assoc (digits cs n (k / get_or cs n 0)) (d ∷ []) (drop (suc n) ps)))

-- a line more does not lower the number of endings
grows : (cs : List ℕ) (n m : ℕ) → (n ≤ m → prod cs n ≤ prod cs m) → 0 < get_or cs m 0 → (n ≡ suc m) ⊎ (n < suc m) → prod cs n ≤ prod cs (suc m)
unfolding prod
grows cs n m ih p (inl e) = rw e (omega arith)
grows cs n m ih p (inr l) = omega (arith, ih (omega arith), le-mul_of_pos_right (prod cs m) p)

pub prod_grows : (cs : List ℕ) (n m : ℕ) → n ≤ m → Counted cs m → prod cs n ≤ prod cs m
prod_grows cs n zero h p = let e : n ≡ 0 = omega arith in rw e (omega arith)
prod_grows cs n (suc m) h p = grows cs n m (λ q. prod_grows cs n m q (λ l r. p l (omega arith))) (p m (omega arith)) (eq-or-lt_of_le h)

pub capped_same : (x : ℕ) → x ≤ 65536 → x ≡ capped x
unfolding capped
capped_same x h = rw (le-ltb 65536 x h)

-- the number that stands for all above the limit is above it; every other is itself
pub capped_limit : (x : ℕ) → ltb 65536 (capped x) ≡ ltb 65536 x
unfolding capped
capped_limit x = by (ltb 65536 x) refl
  where
    by : (b : Bool) → ltb 65536 x ≡ b → ltb 65536 (pick b 65537 x) ≡ b
    by true e = refl
    by false e = e

pub capped_below : (x : ℕ) → ltb 65536 x ≡ false → capped x ≡ x
unfolding capped
capped_below x e = rw e

-- a product that is above the limit after line i is above it in the end
pub capped_above : (cs : List ℕ) (n i : ℕ) → i < n → Counted cs n → 65536 < prod cs i * get_or cs i 0 → 65537 ≡ capped (prod cs n)
unfolding capped prod
capped_above cs n i h p q = rw (lt-ltb 65536 (prod cs n) (omega (arith, prod_grows cs (suc i) n h p)))

digit_at : (cs : List ℕ) (n k l : ℕ) → Counted cs (suc n) → (l < n → get_or (digits cs n (k / get_or cs n 0)) l 0 < get_or cs l 0)
    → (l ≡ n) ⊎ (l < n) → get_or (digits cs n (k / get_or cs n 0) ++ (k % get_or cs n 0 ∷ [])) l 0 < get_or cs l 0
digit_at cs n k l p ih (inl e) =
    rw (e, get_or_at (digits cs n (k / get_or cs n 0)) (k % get_or cs n 0) [] 0 n (length_digits cs n (k / get_or cs n 0)))
    (mod-lt k (p n (omega arith)))
digit_at cs n k l p ih (inr q) =
    rw (get_or-append (digits cs n (k / get_or cs n 0)) (k % get_or cs n 0 ∷ []) 0 l (omega (arith, length_digits cs n (k / get_or cs n 0)))) (ih q)

-- each choice is one of its line's contents
pub digit_below : (cs : List ℕ) (n k : ℕ) → Counted cs n → (l : ℕ) → l < n → get_or (digits cs n k) l 0 < get_or cs l 0
unfolding digits
digit_below cs zero k p l h = absurd (omega arith)
digit_below cs (suc n) k p l h =
    digit_at cs n k l p (digit_below cs n (k / get_or cs n 0) (λ j q. p j (omega arith)) l) (eq-or-lt_of_le (le_of_suc-le-suc h))

pub digits_front : (cs : List ℕ) (n k : ℕ) (rest : List ℕ) → Ready cs n → (l : ℕ) → l < n → get_or (digits cs n k ++ rest) l 0 < 16
digits_front cs n k rest p l h =
    rw (get_or-append (digits cs n k) rest 0 l (omega (arith, length_digits cs n k))) (omega (arith, digit_below cs n k p.0 l h, p.1 l h))
