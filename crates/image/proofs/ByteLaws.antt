-- Laws of numbers as bytes, once for every width: written and read they come back, read and written too.
use Prim.Native.Nat.{ℕ, zero, suc, ◌+◌, ◌*◌, ◌/◌, ◌%◌, ◌^◌, ◌≤◌, ◌<◌}
use mathlib.Core.Path.{◌≡◌, refl, sym, ap, ap₂, subst, ◌∙◌}
use mathlib.Core.List.{List, [], ◌∷◌, ◌++◌}
use native.Mathlib.Omega.{arith}
use native.Mathlib.Nat.{div-add-mod', add_assoc, add-zero, mul_assoc, mul-one, pow-suc, pow-le-pow_right}
use lib.ListN.{length, get_or, take, drop, length-take, length-drop}
use lib.Seq.{length-take-le, take-add, drop-drop, get_or-drop}
use Rattle.lists.specs.Tab.{tab}
use Rattle.lists.proofs.TabLaws as tabs
use Rattle.image.specs.Bytes.{le, num_of, at_w}

-- every element is a byte
abbrev pub Bytes : List ℕ → Type 0
Bytes s = (i : ℕ) → get_or s i 0 < 256

-- ---- a number, and the bytes that it is

pub length_le : (w x : ℕ) → length (le w x) ≡ w
length_le zero x = refl
length_le (suc w) x = ap suc (length_le w (x / 256))

pub num_le : (w x : ℕ) → x < 256 ^ w → num_of (le w x) ≡ x
num_le zero x h = omega arith
num_le (suc w) x h = ap (λ y. x % 256 + y * 256) (num_le w (x / 256) (omega (arith, pow-suc 256 w))) ∙ omega (arith, div-add-mod' x 256)

rest : (b : ℕ) (s : List ℕ) → Bytes (b ∷ s) → Bytes s
rest b s h i = h (suc i)

pub le_num : (s : List ℕ) → Bytes s → le (length s) (num_of s) ≡ s
le_num [] h = refl
le_num (b ∷ s) h =
    let p : (b + num_of s * 256) % 256 ≡ b = omega (arith, h 0) in
    let q : (b + num_of s * 256) / 256 ≡ num_of s = omega (arith, h 0) in
    ap₂ (λ (x : ℕ) (y : List ℕ). x ∷ y) p (ap (le (length s)) q ∙ le_num s (rest b s h))

num_small : (s : List ℕ) → Bytes s → num_of s < 256 ^ length s
num_small [] h = omega arith
num_small (b ∷ s) h = omega (arith, h 0, num_small s (rest b s h), pow-suc 256 (length s))

num_append : (a b : List ℕ) → num_of (a ++ b) ≡ num_of a + num_of b * 256 ^ length a
num_append [] b = omega (arith, mul-one (num_of b))
num_append (x ∷ a) b =
    ap (λ y. x + y * 256) (num_append a b)
    ∙ omega (arith, mul_assoc (num_of b) (256 ^ length a) 256, ap (λ y. num_of b * y) (pow-suc 256 (length a)))

-- ---- at a place

bytes_take : (w : ℕ) (s : List ℕ) → Bytes s → Bytes (take w s)
bytes_take zero s h i = omega arith
bytes_take (suc w) [] h i = omega arith
bytes_take (suc w) (b ∷ s) h zero = h 0
bytes_take (suc w) (b ∷ s) h (suc i) = bytes_take w s (rest b s h) i

bytes_drop : (n : ℕ) (s : List ℕ) → Bytes s → Bytes (drop n s)
bytes_drop n s h i = subst (λ x. x < 256) (sym (get_or-drop n s i 0)) (h (n + i))

pub at_small : (w : ℕ) (s : List ℕ) (i : ℕ) → Bytes s → at_w w s i < 256 ^ w
unfolding at_w
at_small w s i h =
    let l = take w (drop i s) in
    let few : length l ≤ w = omega (arith, length-take w (drop i s)) in
    let low : 256 ^ length l ≤ 256 ^ w = pow-le-pow_right (omega arith) few in
    omega (arith, num_small l (bytes_take w (drop i s) (bytes_drop i s h)))

-- read and written
pub le_at : (w : ℕ) (s : List ℕ) (i : ℕ) → Bytes s → i + w ≤ length s → le w (at_w w s i) ≡ take w (drop i s)
unfolding at_w
le_at w s i h l =
    let t = take w (drop i s) in
    let e : length t ≡ w = length-take-le w (drop i s) (omega (arith, length-drop i s)) in
    ap (λ k. le k (num_of t)) (sym e) ∙ le_num t (bytes_take w (drop i s) (bytes_drop i s h))

-- bytes that are the same are the same number
pub at_same : (w : ℕ) (s q : List ℕ) (p j c : ℕ) → ((k : ℕ) → k < c → get_or s (p + k) 0 ≡ get_or q k 0) → j + w ≤ c → p + j + w ≤ length s → j + w ≤ length q
    → at_w w s (p + j) ≡ at_w w q j
unfolding at_w
at_same w s q p j c same h l m =
    ap num_of
    (tabs.take_drop_tab s 0 (p + j) w l
    ∙ tabs.tab_same (λ k. get_or s (p + j + k) 0) (λ k. get_or q (j + k) 0) w (λ k r. ap (λ i. get_or s i 0) (add_assoc p j k) ∙ same (j + k) (omega arith))
    ∙ sym (tabs.take_drop_tab q 0 j w m))

-- a number in two parts
pub at_split : (v w : ℕ) (s : List ℕ) (i : ℕ) → i + v ≤ length s → at_w (v + w) s i ≡ at_w v s i + at_w w s (i + v) * 256 ^ v
unfolding at_w
at_split v w s i h =
    let l = take v (drop i s) in
    let e : length l ≡ v = length-take-le v (drop i s) (omega (arith, length-drop i s)) in
    ap num_of (take-add v w (drop i s) ∙ ap (λ r. l ++ take w r) (drop-drop v i s))
    ∙ num_append l (take w (drop (i + v) s))
    ∙ ap (λ k. num_of l + num_of (take w (drop (i + v) s)) * 256 ^ k) e

-- the bytes themselves, at the code's numbers
pub one_at : (s : List ℕ) (i : ℕ) → i + 1 ≤ length s → take 1 (drop i s) ≡ get_or s i 0 ∷ []
unfolding tab
one_at s i h = tabs.take_drop_tab s 0 i 1 h ∙ simp add-zero

pub two_at : (s : List ℕ) (i : ℕ) → i + 2 ≤ length s → take 2 (drop i s) ≡ get_or s i 0 ∷ get_or s (i + 1) 0 ∷ []
unfolding tab
two_at s i h = tabs.take_drop_tab s 0 i 2 h ∙ simp add-zero

pub four_at : (s : List ℕ) (i : ℕ) → i + 4 ≤ length s → take 4 (drop i s) ≡ get_or s i 0 ∷ get_or s (i + 1) 0 ∷ get_or s (i + 2) 0 ∷ get_or s (i + 3) 0 ∷ []
unfolding tab
four_at s i h = tabs.take_drop_tab s 0 i 4 h ∙ simp add-zero

pub pow_positive : (w : ℕ) → 0 < 256 ^ w
pow_positive zero = omega arith
pow_positive (suc w) = omega (arith, pow_positive w, pow-suc 256 w)
