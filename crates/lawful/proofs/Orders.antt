-- The orders of one operation, and of two, that must all be there.
use Prim.Native.Nat.{ℕ, zero, suc, ◌<◌}
use mathlib.Core.Path.{◌≡◌, refl, sym, ap, ap₂, subst, ◌∙◌}
use mathlib.Core.List.{List, [], ◌∷◌}
use mathlib.Core.Logic.{◌⊎◌, inl, inr}
use native.Mathlib.Omega.{arith}
use Rattle.lawful.specs.Lawful.{Has, Once}

abbrev Below : ℕ → List ℕ → Type 0
Below n l = (k : ℕ) → Has k l → k < n

-- nothing is left to stand in an order
pub none_left : (l : List ℕ) → ((k : ℕ) → ¬ Has k l) → l ≡ []
none_left [] f = refl
none_left (k ∷ l) f = absurd (f k (inl refl))

pub one : (l : List ℕ) → Below 1 l → Once l → Has 0 l → l ≡ 0 ∷ []
one [] b o h = absurd h
one (zero ∷ l) b o h = ap (λ r. 0 ∷ r) (none_left l (λ k p. o.0 (at k (b k (inr p)) p)))
  where
    at : (k : ℕ) → k < 1 → Has k l → Has 0 l
    at zero lt p = p
    at (suc k) lt p = absurd (omega arith)
one (suc j ∷ l) b o h = let z = b (suc j) (inl refl) in absurd (omega arith)

-- what is left beside the number j of two
rest : (j : ℕ) (i : ℕ) (l : List ℕ) → ((k : ℕ) → Has k l → (k ≡ i) ⊎ (k ≡ j)) → Once l → ¬ Has j l → Has i l → l ≡ i ∷ []
rest j i [] f o n h = absurd h
rest j i (k ∷ l) f o n h = by (f k (inl refl))
  where
    off : (p : ℕ) → k ≡ i → Has p l → ⊥
    off p e h = go (f p (inr h))
      where
        go : (p ≡ i) ⊎ (p ≡ j) → ⊥
        go (inl a) = o.0 (moved (a ∙ sym e) h)
          where
            moved : p ≡ k → Has p l → Has k l
            moved q h = rw (sym q) h
        go (inr a) = n (inr (subst (λ z. Has z l) a h))

    by : (k ≡ i) ⊎ (k ≡ j) → k ∷ l ≡ i ∷ []
    by (inl e) = ap₂ (λ (a : ℕ) (r : List ℕ). a ∷ r) e (none_left l (λ p h. off p e h))
    by (inr e) = absurd (n (inl (sym e)))

two_of : (k : ℕ) → k < 2 → (k ≡ 0) ⊎ (k ≡ 1)
two_of zero h = inl refl
two_of (suc zero) h = inr refl
two_of (suc (suc k)) h = absurd (omega arith)

turn : {A B : Type 0} → A ⊎ B → B ⊎ A
turn (inl a) = inr a
turn (inr b) = inl b

pub two : (l : List ℕ) → Below 2 l → Once l → Has 0 l → Has 1 l → (l ≡ 0 ∷ 1 ∷ []) ⊎ (l ≡ 1 ∷ 0 ∷ [])
two [] b o h g = absurd h
two (zero ∷ l) b o h g = inl (ap (λ r. 0 ∷ r) (rest 0 1 l (λ k p. turn (two_of k (b k (inr p)))) o.1 o.0 (there g)))
  where
    there : Has 1 (0 ∷ l) → Has 1 l
    there (inl e) = absurd (omega arith)
    there (inr p) = p
two (suc zero ∷ l) b o h g = inr (ap (λ r. 1 ∷ r) (rest 1 0 l (λ k p. two_of k (b k (inr p))) o.1 o.0 (there h)))
  where
    there : Has 0 (1 ∷ l) → Has 0 l
    there (inl e) = absurd (omega arith)
    there (inr p) = p
two (suc (suc j) ∷ l) b o h g = let z = b (suc (suc j)) (inl refl) in absurd (omega arith)
