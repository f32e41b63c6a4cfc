-- A content is among a line's contents: those that join, and the choices of one content a line.
use Prim.Native.Nat.{ℕ, zero, suc, ◌+◌, ◌*◌, ◌/◌, ◌%◌, ◌<◌}
use mathlib.Core.Path.{◌≡◌, refl, sym, ap, subst, ◌∙◌}
use mathlib.Core.Bool.{Bool, true, false}
use mathlib.Core.List.{List, [], ◌∷◌}
use mathlib.Core.Logic.{◌⊎◌, inl, inr}
use native.Mathlib.Omega.{arith}
use native.Mathlib.Nat.{mod-lt, div-lt_iff_lt-mul, add-mul-div_right, mul-add-mod_self_right, div-eq_of_lt, mod-eq_of_lt, add_comm, suc-mul, mul-le-mul_right}
use lib.ListN.{length, get_or}
use Rattle.image.specs.Layout.{content_at, same_content}
use Rattle.image.specs.declared.Content.{Content}
use Rattle.page.specs.Contents.{joins}
use Rattle.page.specs.Endings.{choices, product}
use Rattle.moments.proofs.Joins as joined
use Rattle.moments.proofs.Choices as laws

abbrev pub Among : Content → List Content → Type 0
Among c [] = ⊥
Among c (d ∷ l) = (c ≡ d) ⊎ Among c l

-- ---- joining

pub among_old : (c : Content) (l : List Content) (x : Content) → Among c l → Among c (joins l x)
among_old c [] x k = absurd k
among_old c (a ∷ l) x k = by (same_content a x) refl k (among_old c l x)
  where
    by : (b : Bool) → same_content a x ≡ b → (c ≡ a) ⊎ Among c l → (Among c l → Among c (joins l x)) → Among c (joins (a ∷ l) x)
    by true e k r = rw (joined.joins_first a l x e) k
    by false e (inl k) r = rw (joined.joins_later a l x e) (inl k)
    by false e (inr k) r = rw (joined.joins_later a l x e) (inr (r k))

pub among_new : (l : List Content) (x : Content) → Among x (joins l x)
among_new [] x = rw (joined.joins_none x) (inl refl)
among_new (a ∷ l) x = by (same_content a x) refl (among_new l x)
  where
    by : (b : Bool) → same_content a x ≡ b → Among x (joins l x) → Among x (joins (a ∷ l) x)
    by true e r = rw (joined.joins_first a l x e) (inl (sym (joined.same_equal a x e)))
    by false e r = rw (joined.joins_later a l x e) (inr r)

pub among_joins : (c : Content) (l : List Content) (x : Content) → Among c (joins l x) → Among c l ⊎ (c ≡ x)
among_joins c [] x k = only (rw (joined.joins_none x) at k)
  where
    only : (c ≡ x) ⊎ ⊥ → Among c [] ⊎ (c ≡ x)
    only (inl e) = inr e
    only (inr z) = absurd z
among_joins c (a ∷ l) x k = by (same_content a x) refl (among_joins c l x)
  where
    later : (Among c (joins l x) → Among c l ⊎ (c ≡ x)) → (c ≡ a) ⊎ Among c (joins l x) → Among c (a ∷ l) ⊎ (c ≡ x)
    later r (inl e) = inl (inl e)
    later r (inr w) = on (r w)
      where
        on : Among c l ⊎ (c ≡ x) → Among c (a ∷ l) ⊎ (c ≡ x)
        on (inl v) = inl (inr v)
        on (inr v) = inr v

    by : (b : Bool) → same_content a x ≡ b → (Among c (joins l x) → Among c l ⊎ (c ≡ x)) → Among c (a ∷ l) ⊎ (c ≡ x)
    by true e r = inl (rw (joined.joins_first a l x e) at k)
    by false e r = later r (rw (joined.joins_later a l x e) at k)

-- ---- places

pub at_among : (l : List Content) (i : ℕ) → i < length l → Among (content_at l i) l
at_among [] i h = absurd (omega arith)
at_among (a ∷ l) zero h = inl refl
at_among (a ∷ l) (suc i) h = inr (at_among l i (omega arith))

pub among_at : (c : Content) (l : List Content) → Among c l → (i : ℕ) × (i < length l) × (content_at l i ≡ c)
among_at c [] h = absurd h
among_at c (a ∷ l) (inl e) = (0, omega arith, sym e)
among_at c (a ∷ l) (inr h) = let r = among_at c l h in (suc r.0, omega (arith, r.1), r.2)

-- ---- choices

product_cons : (line : List Content) (rest : List (List Content)) → product (line ∷ rest) ≡ length line * product rest
unfolding product
product_cons line rest = refl

product_nil : product [] ≡ 1
unfolding product
product_nil = refl

-- a choice picks from each line
pub choice_in : (lists : List (List Content)) (k : ℕ) → k < product lists → (j : ℕ) → j < length lists → Among (content_at (get_or (choices lists) k []) j) (get_or lists j [])
choice_in [] k h j l = absurd (omega arith)
choice_in (line ∷ rest) k h j l = by j l (choice_in rest)
  where
    h' : k < length line * product rest
    h' = subst (λ x. k < x) (product_cons line rest) h

    pos : 0 < product rest
    pos = laws.factor_pos k (length line) (product rest) h'

    by : (j : ℕ) → j < suc (length rest) → ((k : ℕ) → k < product rest → (j : ℕ) → j < length rest → Among (content_at (get_or (choices rest) k []) j) (get_or rest j []))
        → Among (content_at (get_or (choices (line ∷ rest)) k []) j) (get_or (line ∷ rest) j [])
    by zero l r = subst (λ z. Among (content_at z 0) line) (sym (laws.choices_at line rest k h')) (at_among line (k / product rest) ((div-lt_iff_lt-mul pos).1 h'))
    by (suc j) l r = subst (λ z. Among (content_at z (suc j)) (get_or rest j [])) (sym (laws.choices_at line rest k h')) (r (k % product rest) (mod-lt k pos) j (omega arith))

-- every choice has a number
pub choice_of : (lists : List (List Content)) (f : ℕ → Content) → ((j : ℕ) → j < length lists → Among (f j) (get_or lists j []))
    → (k : ℕ) × (k < product lists) × ((j : ℕ) → j < length lists → content_at (get_or (choices lists) k []) j ≡ f j)
choice_of [] f h = (0, omega (arith, product_nil), λ j l. absurd (omega arith))
choice_of (line ∷ rest) f h =
    let a = among_at (f 0) line (h 0 (omega arith)) in
    let r = choice_of rest (λ j. f (suc j)) (λ j l. h (suc j) (omega arith)) in
    number a.0 a.1 a.2 r.0 r.1 r.2
  where
    number : (i : ℕ) → i < length line → content_at line i ≡ f 0 → (k : ℕ) → k < product rest → ((j : ℕ) → j < length rest → content_at (get_or (choices rest) k []) j ≡ f (suc j))
        → (k : ℕ) × (k < product (line ∷ rest)) × ((j : ℕ) → j < suc (length rest) → content_at (get_or (choices (line ∷ rest)) k []) j ≡ f j)
    number i hi ei k hk ek = (k + i * product rest, subst (λ x. k + i * product rest < x) (sym (product_cons line rest)) low, at)
      where
        pos : 0 < product rest
        pos = omega arith

        low : k + i * product rest < length line * product rest
        low = omega (arith, suc-mul i (product rest), mul-le-mul_right (product rest) hi)

        div_is : (k + i * product rest) / product rest ≡ i
        div_is = add-mul-div_right k i pos ∙ ap (λ x. x + i) (div-eq_of_lt hk) ∙ omega arith

        mod_is : (k + i * product rest) % product rest ≡ k
        mod_is = ap (λ x. x % product rest) (add_comm k (i * product rest)) ∙ mul-add-mod_self_right i (product rest) k ∙ mod-eq_of_lt hk

        at : (j : ℕ) → j < suc (length rest) → content_at (get_or (choices (line ∷ rest)) (k + i * product rest) []) j ≡ f j
        at zero l = ap (λ z. content_at z 0) (laws.choices_at line rest (k + i * product rest) low) ∙ ap (content_at line) div_is ∙ ei
        at (suc j) l = ap (λ z. content_at z (suc j)) (laws.choices_at line rest (k + i * product rest) low)
            ∙ ap (λ x. content_at (get_or (choices rest) x []) j) mod_is ∙ ek j (omega arith)
