-- Distinct names have distinct keys: a name of at most ten letters can be told from its key.
use Prim.Native.Nat.{ℕ, zero, suc, ◌+◌, ◌-◌, ◌*◌, ◌/◌, ◌%◌, ◌^◌, ◌≤◌, ◌<◌}
use mathlib.Core.Path.{◌≡◌, refl, sym, ap, ◌∙◌}
use mathlib.Core.List.{List, [], ◌∷◌, ◌++◌, append-nil}
use mathlib.Core.Logic.{◌⊎◌, inl, inr}
use native.Mathlib.Omega.{arith}
use native.Mathlib.Nat.{pow-suc, pow-le-pow_right}
use borrow.Author.Tests.{ne_eqb, lt-ltb, le-leb, lt-leb}
use lib.ListN.{length}
use lib.Dec.{eqb}
use Rattle.lists.specs.Find.{pick}
use Rattle.spelling.specs.declared.Word.{Word}
use Rattle.spelling.specs.Words.{no_word, value_of, letters, letter_more, grown, word_on}

-- `-`, or a small letter
abbrev pub Letter : ℕ → Type 0
Letter x = (x ≡ 45) ⊎ ((97 ≤ x) × (x ≤ 122))

abbrev pub Letters : List ℕ → Type 0
Letters [] = Unit {0}
Letters (x ∷ l) = Letter x × Letters l

-- ---- a letter's number, and back

unfoldable pub code_of : ℕ → ℕ
code_of x = pick (eqb x 45) 27 (x - 96)

unfoldable pub letter_of : ℕ → ℕ
letter_of c = pick (eqb c 27) 45 (c + 96)

code_small : (x : ℕ) → 97 ≤ x → code_of x ≡ x - 96
unfolding code_of
code_small x h = rw (ne_eqb x 45 (λ e. omega arith))

code_dash : (x : ℕ) → x ≡ 45 → code_of x ≡ 27
unfolding code_of
code_dash x e = rw e

code_in : (x : ℕ) → Letter x → (1 ≤ code_of x) × (code_of x < 32)
code_in x (inl e) = (omega (arith, code_dash x e), omega (arith, code_dash x e))
code_in x (inr p) = (omega (arith, code_small x p.0, p.0), omega (arith, code_small x p.0, p.1))

letter_back : (x : ℕ) → Letter x → letter_of (code_of x) ≡ x
unfolding letter_of
letter_back x (inl e) = rw (code_dash x e) (sym e)
letter_back x (inr p) = rw (code_small x p.0, ne_eqb (x - 96) 27 (λ e. omega (arith, p.1))) (omega (arith, p.0))

grown_letter : (w : Word) (x : ℕ) → Letter x → grown w x ≡ letter_more w (code_of x)
unfolding grown
grown_letter w x (inl e) = rw (code_dash x e, e)
grown_letter w x (inr p) =
    rw (code_small x p.0, le-leb 48 x (omega (arith, p.0)), lt-leb x 57 (omega (arith, p.0)), le-leb 97 x p.0, le-leb x 122 p.1)

-- ---- the key of letters behind the key k

unfoldable pub pushed : ℕ → List ℕ → ℕ
pushed k [] = k
pushed k (x ∷ l) = pushed (k * 32 + code_of x) l

more : (k d : ℕ) → k < 35184372088832 → letter_more (letters k) d ≡ letters (k * 32 + d)
unfolding letter_more
more k d h = rw (lt-ltb k 35184372088832 h)

-- m letters stand before them
key_on : (l : List ℕ) (k m : ℕ) → Letters l → m + length l ≤ 10 → k < 32 ^ m → word_on (letters k) l ≡ letters (pushed k l)
unfolding word_on pushed
key_on [] k m p h b = refl
key_on (x ∷ l) k m p h b =
    let nine : m ≤ 9 = omega arith in
    let low : 32 ^ m ≤ 32 ^ 9 = pow-le-pow_right (omega arith) nine in
    let few : k < 35184372088832 = omega (arith, low) in
    let c = code_in x p.0 in
    ap (λ (w : Word). word_on w l) (grown_letter (letters k) x p.0 ∙ more k (code_of x) few)
    ∙ key_on l (k * 32 + code_of x) (suc m) p.1 (omega arith) (omega (arith, pow-suc 32 m, c.1))

first : (d : ℕ) → letter_more no_word d ≡ letters d
unfolding letter_more
first d = refl

pub key_is : (l : List ℕ) → Letters l → length l ≤ 10 → value_of (word_on no_word l) ≡ pushed 0 l
unfolding word_on pushed
key_is [] p h = refl
key_is (x ∷ l) p h =
    let z : code_of x ≡ 0 * 32 + code_of x = omega arith in
    ap (λ (w : Word). value_of (word_on w l)) (grown_letter no_word x p.0 ∙ first (code_of x))
    ∙ ap (λ (w : Word). value_of w) (key_on l (code_of x) 1 p.1 (omega arith) (omega (arith, (code_in x p.0).1)))
    ∙ ap (λ k. pushed k l) z

-- ---- the name that a key is of

unfoldable pub name_of : ℕ → ℕ → List ℕ → List ℕ
name_of zero k l = l
name_of (suc f) k l = pick (eqb k 0) l (name_of f (k / 32) (letter_of (k % 32) ∷ l))

name_step : (f k x : ℕ) (l : List ℕ) → Letter x → name_of (suc f) (k * 32 + code_of x) l ≡ name_of f k (x ∷ l)
unfolding name_of
name_step f k x l p =
    let c = code_in x p in
    let d : (k * 32 + code_of x) / 32 ≡ k = omega (arith, c.1) in
    let r : (k * 32 + code_of x) % 32 ≡ code_of x = omega (arith, c.1) in
    rw (ne_eqb (k * 32 + code_of x) 0 (λ e. omega (arith, c.0)), d, r) (ap (λ y. name_of f k (y ∷ l)) (letter_back x p))

name_back : (l : List ℕ) (f k : ℕ) (r : List ℕ) → Letters l → name_of (f + length l) (pushed k l) r ≡ name_of f k (l ++ r)
unfolding pushed
name_back [] f k r p = ap (λ g. name_of g k r) (omega arith)
name_back (x ∷ l) f k r p =
    ap (λ g. name_of g (pushed (k * 32 + code_of x) l) r) (omega arith)
    ∙ name_back l (suc f) (k * 32 + code_of x) r p.1
    ∙ name_step f k x (l ++ r) p.0

name_done : (f : ℕ) (l : List ℕ) → name_of f 0 l ≡ l
unfolding name_of
name_done zero l = refl
name_done (suc f) l = refl

name_of_lem : (l : List ℕ) → Letters l → length l ≤ 10 → name_of 10 (value_of (word_on no_word l)) [] ≡ l
name_of_lem l p h =
    let e : 10 ≡ (10 - length l) + length l = omega arith in
    ap (λ k. name_of 10 k []) (key_is l p h)
    ∙ ap (λ g. name_of g (pushed 0 l) []) e
    ∙ name_back l (10 - length l) 0 [] p
    ∙ name_done (10 - length l) (l ++ [])
    ∙ append-nil l

-- names of at most ten letters with one key are one name
pub keys_tell : (a b : List ℕ) → Letters a → Letters b → length a ≤ 10 → length b ≤ 10 → value_of (word_on no_word a) ≡ value_of (word_on no_word b) → a ≡ b
keys_tell a b p q m n e = sym (name_of_lem a p m) ∙ ap (λ k. name_of 10 k []) e ∙ name_of_lem b q n
