-- Images one after the other in a buffer.
use Prim.Native.Nat.{ℕ, zero, suc, ◌+◌, ◌*◌, ◌≤◌, ◌<◌}
use mathlib.Core.Path.{◌≡◌, refl, sym, ap, ap₂, subst, ◌∙◌}
use mathlib.Core.Bool.{Bool, true, false}
use mathlib.Core.List.{List, [], ◌∷◌, ◌++◌, append_assoc, append-nil}
use mathlib.Core.Logic.{◌⊎◌, inl, inr}
use native.Mathlib.Omega.{arith}
use native.Mathlib.Nat.{zero-mul, suc-mul, mul-le-mul_right}
use lib.ListN.{length, get_or, take, drop, length-append, take-append-drop, get_or-append}
use lib.Seq.{get_or-append-add, get_or-take, ext_get_or, take-append_seam}
use lib.Dec.{eqb}
use borrow.Author.Tests.{eqb-true, eq-eqb}
use Rattle.lists.specs.Tab.{over}
use Rattle.lists.proofs.FindLaws as find
use Rattle.lists.proofs.TabLaws as tabs
use Rattle.image.specs.Layout.{image_bytes}
use Rattle.image.specs.declared.Image.{Image}
use Rattle.steps.proofs.Fit.{all_of, of_all}
use Rattle.plainproof.specs.Once.{joins_by, gathered_by, once}
use Rattle.plainproof.proofs.OnceLaws as laws
use Rattle.plainproof.proofs.OnceLaws.{In, Tells}
use Rattle.plainway.specs.Plainly.{all_bytes}
use Rattle.plainway.specs.Noting.{differs, same_at, is_noted}

-- ---- bytes written over those that stand there

module _ (b x : List ℕ) (fits : length x ≤ length b) where
  over_first : over b 0 x ≡ x ++ drop (length x) b
  over_first = tabs.over_is b 0 x (omega arith) ∙ ap (λ (i : ℕ). x ++ drop i b) (let z : 0 + length x ≡ length x = omega arith in z)

  -- what stands there already
  pub over_same : take (length x) b ≡ x → over b 0 x ≡ b
  over_same e = over_first ∙ ap (λ (l : List ℕ). l ++ drop (length x) b) (sym e) ∙ take-append-drop (length x) b

  pub front_over : take (length x) (over b 0 x) ≡ x
  front_over = ap (take (length x)) over_first ∙ take-append_seam x (drop (length x) b)

  -- and more behind it
  pub over_more : (y : List ℕ) → take (length x) b ≡ x → over b (length x) y ≡ over b 0 (x ++ y)
  over_more y e =
      ap (λ (l : List ℕ). over l (length x) y) (sym (over_same e)) ∙ ap (λ (i : ℕ). over (over b 0 x) i y) (let z : length x ≡ 0 + length x = omega arith in z) ∙ tabs.over_append b 0 x y

pub over_longer : (b x y : List ℕ) → length x ≤ length b → over (over b 0 x) 0 (x ++ y) ≡ over b 0 (x ++ y)
over_longer b x y h =
    let l : length x ≤ length (over b 0 x) = omega (arith, tabs.length_over b 0 x) in
    sym (over_more (over b 0 x) x l y (front_over b x h)) ∙ ap (λ (i : ℕ). over (over b 0 x) i y) (let z : length x ≡ 0 + length x = omega arith in z) ∙ tabs.over_append b 0 x y

-- ---- all bytes

pub all_more : (l : List Image) (g : Image) → all_bytes (l ++ (g ∷ [])) ≡ all_bytes l ++ image_bytes g
unfolding all_bytes
all_more [] g = append-nil (image_bytes g)
all_more (a ∷ l) g = ap (λ (x : List ℕ). image_bytes a ++ x) (all_more l g) ∙ sym (append_assoc (image_bytes a) (all_bytes l) (image_bytes g))

-- each image has n bytes
abbrev pub Sized : ℕ → List Image → Type 0
Sized n l = (g : Image) → In g l → length (image_bytes g) ≡ n

pub all_length : (n : ℕ) (l : List Image) → Sized n l → length (all_bytes l) ≡ length l * n
unfolding all_bytes
all_length n [] h = sym (zero-mul n)
all_length n (g ∷ l) h =
    length-append (image_bytes g) (all_bytes l) ∙ ap₂ ◌+◌ (h g (inl refl)) (all_length n l (λ x k. h x (inr k)))
    ∙ (let z : n + length l * n ≡ suc (length l) * n = omega (arith, suc-mul (length l) n) in z)

-- byte t of image i
piece : (n : ℕ) (l : List Image) → Sized n l → (d : Image) (i t : ℕ) → i < length l → t < n → get_or (all_bytes l) (i * n + t) 0 ≡ get_or (image_bytes (get_or l i d)) t 0
unfolding all_bytes
piece n [] h d i t p q = absurd (omega arith)
piece n (g ∷ l) h d zero t p q =
    ap (λ (k : ℕ). get_or (image_bytes g ++ all_bytes l) k 0) (let z : 0 * n + t ≡ t = omega (arith, zero-mul n) in z)
    ∙ get_or-append (image_bytes g) (all_bytes l) 0 t (omega (arith, h g (inl refl)))
piece n (g ∷ l) h d (suc i) t p q =
    ap (λ (k : ℕ). get_or (image_bytes g ++ all_bytes l) k 0) (let z : suc i * n + t ≡ length (image_bytes g) + (i * n + t) = omega (arith, suc-mul i n, h g (inl refl)) in z)
    ∙ get_or-append-add (image_bytes g) (all_bytes l) (i * n + t) 0 ∙ piece n l (λ x k. h x (inr k)) d i t (omega arith) q

-- ---- where something stands

pub in_at : {A : Type 0} (d x : A) (l : List A) → In x l → (i : ℕ) × (i < length l) × (get_or l i d ≡ x)
in_at d x [] k = absurd k
in_at d x (a ∷ l) (inl e) = (0, omega arith, sym e)
in_at d x (a ∷ l) (inr k) = let r = in_at d x l k in (suc r.0, omega (arith, r.1), r.2)

pub at_in : {A : Type 0} (d : A) (l : List A) (i : ℕ) → i < length l → In (get_or l i d) l
at_in d [] i h = absurd (omega arith)
at_in d (a ∷ l) zero h = inl refl
at_in d (a ∷ l) (suc i) h = inr (at_in d l i (omega arith))

-- what has been gathered was there
module _ {A : Type 0} (same : A → A → Bool) (tells : Tells same) where
  join_of : (c x : A) (l : List A) → In c (joins_by same l x) → In c l ⊎ (c ≡ x)
  join_of c x l k = by (laws.there same tells x l)
    where
      by : In x l ⊎ (In x l → ⊥) → In c l ⊎ (c ≡ x)
      by (inl y) = inl (subst (λ (m : List A). In c m) (laws.join_in same tells x l y) k)
      by (inr n) = on (laws.in_either c l (x ∷ []) (subst (λ (m : List A). In c m) (laws.join_out same tells x l n) k))
        where
          on : In c l ⊎ In c (x ∷ []) → In c l ⊎ (c ≡ x)
          on (inl z) = inl z
          on (inr (inl z)) = inr z
          on (inr (inr z)) = absurd z

  gathered_of : (c : A) (s l : List A) → In c (gathered_by same s l) → In c s ⊎ In c l
  unfolding gathered_by
  gathered_of c s [] k = inl k
  gathered_of c s (x ∷ l) k = by (gathered_of c (joins_by same s x) l k)
    where
      on : In c s ⊎ (c ≡ x) → In c s ⊎ In c (x ∷ l)
      on (inl z) = inl z
      on (inr z) = inr (inl z)

      by : In c (joins_by same s x) ⊎ In c l → In c s ⊎ In c (x ∷ l)
      by (inl z) = on (join_of c x s z)
      by (inr z) = inr (inr z)

  pub once_of : (c : A) (l : List A) → In c (once same l) → In c l
  once_of c l k = by (gathered_of c [] l k)
    where
      by : In c [] ⊎ In c l → In c l
      by (inl z) = absurd z
      by (inr z) = z

  -- one more
  pub once_more : (l : List A) (c : A) → once same (l ++ (c ∷ [])) ≡ joins_by same (once same l) c
  unfolding gathered_by
  once_more l c = laws.gather_append same tells [] l (c ∷ [])

  -- none is lost
  join_longer : (l : List A) (c : A) → length l ≤ length (joins_by same l c)
  join_longer l c = by (laws.there same tells c l)
    where
      by : In c l ⊎ (In c l → ⊥) → length l ≤ length (joins_by same l c)
      by (inl k) = rw (laws.join_in same tells c l k) (omega arith)
      by (inr n) = rw (laws.join_out same tells c l n) (omega (arith, length-append l (c ∷ [])))

  pub gathered_longer : (s l : List A) → length s ≤ length (gathered_by same s l)
  unfolding gathered_by
  gathered_longer s [] = omega arith
  gathered_longer s (x ∷ l) = omega (arith, join_longer s x, gathered_longer (joins_by same s x) l)

-- ---- noted or not

same_all : (b : List ℕ) (at : ℕ) (x : List ℕ) (n : ℕ) → same_at b at x n ≡ true → (i : ℕ) → i < n → get_or b (at + i) 0 ≡ get_or x i 0
unfolding same_at differs
same_all b at x n h i q = eqb-true (get_or b (at + i) 0) (get_or x i 0) (all_of (λ i. eqb (get_or b (at + i) 0) (get_or x i 0)) n h i q)

all_same : (b : List ℕ) (at : ℕ) (x : List ℕ) (n : ℕ) → ((i : ℕ) → i < n → get_or b (at + i) 0 ≡ get_or x i 0) → same_at b at x n ≡ true
unfolding same_at differs
all_same b at x n h = of_all (λ i. eqb (get_or b (at + i) 0) (get_or x i 0)) n (λ i q. eq-eqb (get_or b (at + i) 0) (get_or x i 0) (h i q))

-- b has the bytes of the images l in front; x has those of g; two of the images with the same bytes are one
module _ (n : ℕ) (l : List Image) (g : Image) (b x : List ℕ) (h : Sized n l) (size : length (image_bytes g) ≡ n) (front : take (length (all_bytes l)) b ≡ all_bytes l)
    (held : (t : ℕ) → t < n → get_or x t 0 ≡ get_or (image_bytes g) t 0) (one : (a : Image) → In a l → image_bytes a ≡ image_bytes g → a ≡ g) where
  byte : (i t : ℕ) → i < length l → t < n → get_or b (i * n + t) 0 ≡ get_or (image_bytes (get_or l i g)) t 0
  byte i t p q =
      let r : i * n + t < length (all_bytes l) = omega (arith, all_length n l h, suc-mul i n, mul-le-mul_right n p) in
      sym (get_or-take (length (all_bytes l)) b (i * n + t) 0 r) ∙ ap (λ (y : List ℕ). get_or y (i * n + t) 0) front ∙ piece n l h g i t p q

  pub noted_in : In g l → is_noted b (length l) x n ≡ true
  unfolding is_noted
  noted_in k =
      let r = in_at g g l k in
      find.any_hit (λ i. same_at b (i * n) x n) (length l) r.0 r.1
      (all_same b (r.0 * n) x n (λ t q. byte r.0 t r.1 q ∙ ap (λ (a : Image). get_or (image_bytes a) t 0) r.2 ∙ sym (held t q)))

  pub noted_out : (In g l → ⊥) → is_noted b (length l) x n ≡ false
  unfolding is_noted
  noted_out ne = find.any_none (λ i. same_at b (i * n) x n) (length l) (λ i p. no i p (same_at b (i * n) x n) refl)
    where
      no : (i : ℕ) → i < length l → (y : Bool) → same_at b (i * n) x n ≡ y → y ≡ false
      no i p true e = absurd (ne (subst (λ (a : Image). In a l) (one (get_or l i g) (at_in g l i p)
          (ext_get_or 0 (image_bytes (get_or l i g)) (image_bytes g) (h (get_or l i g) (at_in g l i p) ∙ sym size)
          (λ t q. let q' : t < n = omega (arith, h (get_or l i g) (at_in g l i p)) in
          sym (byte i t p q') ∙ same_all b (i * n) x n e t q' ∙ held t q'))) (at_in g l i p)))
      no i p false e = refl
