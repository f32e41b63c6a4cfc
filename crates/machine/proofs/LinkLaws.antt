-- Links along a list of nodes, and its last one. Assumes nothing.
use Prim.Native.Nat.{ℕ, zero, suc, ◌<◌}
use mathlib.Core.Path.{◌≡◌, refl, sym, ap, subst, ◌∙◌}
use mathlib.Core.Bool.{Bool, true, false}
use mathlib.Core.List.{List, [], ◌∷◌}
use mathlib.Core.Logic.{◌⊎◌, inl, inr}
use native.Mathlib.Omega.{arith}
use native.Mathlib.Decide.{dec_lt}
use borrow.Author.Tests.{eq-eqb, ne_eqb}
use lib.Dec.{eqb}
use lib.ListN.{length, get_or}
use Rattle.machine.specs.Record.{none}
use Rattle.machine.specs.Start.{behind, last_of}
use Rattle.machine.specs.Rising.{among, Rising}
use Rattle.machine.proofs.RisenLaws.{among_get_or}
use Rattle.machine.proofs.TableLaws.{behind_by}

-- ---- the last node

pub last_at : (d : ℕ) (l : List ℕ) → last_of d l ≡ get_or (d ∷ l) (length l) 0
unfolding last_of
last_at d [] = refl
last_at d (x ∷ l) = last_at x l

pub last_among : (d : ℕ) (l : List ℕ) → among (last_of d l) (d ∷ l)
unfolding last_of
last_among d [] = inl refl
last_among d (x ∷ l) = inr (last_among x l)

-- ---- rising lists hold nothing twice

pub rising_at : (f : ℕ → ℕ) (l : List ℕ) → Rising f l → (p q : ℕ) → p < q → q < length l → f (get_or l p 0) < f (get_or l q 0)
rising_at f [] u p q h k = absurd (omega arith)
rising_at f (x ∷ l) u p zero h k = absurd (omega arith)
rising_at f (x ∷ l) u zero (suc q) h k = u.0 (get_or l q 0) (among_get_or l q (omega arith))
rising_at f (x ∷ l) u (suc p) (suc q) h k = rising_at f l u.1 p q (omega arith) (omega arith)

pub rising_once : (f : ℕ → ℕ) (l : List ℕ) → Rising f l → (p q : ℕ) → p < length l → q < length l → get_or l p 0 ≡ get_or l q 0 → p ≡ q
rising_once f l u p q x y e = by (dec_lt p q) (dec_lt q p)
  where
    s : f (get_or l p 0) ≡ f (get_or l q 0)
    s = ap f e

    by : Dec (p < q) → Dec (q < p) → p ≡ q
    by (yes w) v = absurd (omega (arith, rising_at f l u p q w y, s))
    by (no w) (yes v) = absurd (omega (arith, rising_at f l u q p v x, s))
    by (no w) (no v) = omega arith

-- ---- what follows a node

step : (b : Bool) (a x i : ℕ) (l : List ℕ) → eqb a i ≡ b → (behind (x ∷ l) i ≡ none) ⊎ among (behind (x ∷ l) i) (x ∷ l) → (behind (a ∷ x ∷ l) i ≡ none) ⊎ among (behind (a ∷ x ∷ l) i) (a ∷ x ∷ l)
step true a x i l e r = inr (inr (inl (behind_by true a x i l e)))
step false a x i l e (inl r) = inl (behind_by false a x i l e ∙ r)
step false a x i l e (inr r) = inr (inr (subst (λ z. among z (x ∷ l)) (sym (behind_by false a x i l e)) r))

none_first : (i : ℕ) → behind [] i ≡ none
unfolding behind
none_first i = refl

none_alone : (a i : ℕ) → behind (a ∷ []) i ≡ none
unfolding behind
none_alone a i = refl

-- none, or a node of the list
pub behind_among : (l : List ℕ) (i : ℕ) → (behind l i ≡ none) ⊎ among (behind l i) l
behind_among [] i = inl (none_first i)
behind_among (a ∷ []) i = inl (none_alone a i)
behind_among (a ∷ x ∷ l) i = step (eqb a i) a x i l refl (behind_among (x ∷ l) i)

-- a node that is not in the list has none
pub behind_outside : (l : List ℕ) (i : ℕ) → (among i l → ⊥) → behind l i ≡ none
behind_outside [] i h = none_first i
behind_outside (a ∷ []) i h = none_alone a i
behind_outside (a ∷ x ∷ l) i h = behind_by false a x i l (ne_eqb a i (λ e. h (inl (sym e)))) ∙ behind_outside (x ∷ l) i (λ k. h (inr k))

module _ (f : ℕ → ℕ) where
  apart : (a : ℕ) (l : List ℕ) → Rising f (a ∷ l) → (p : ℕ) → p < length l → a ≡ get_or l p 0 → ⊥
  apart a l u p h e = let s : f a ≡ f (get_or l p 0) = ap f e in omega (arith, u.0 (get_or l p 0) (among_get_or l p h), s)

  -- each node of the list but the last is followed by the next one
  pub behind_at : (l : List ℕ) → Rising f l → (p : ℕ) → suc p < length l → behind l (get_or l p 0) ≡ get_or l (suc p) 0
  behind_at [] u p h = absurd (omega arith)
  behind_at (a ∷ []) u p h = absurd (omega arith)
  behind_at (a ∷ x ∷ l) u zero h = behind_by true a x a l (eq-eqb a a refl)
  behind_at (a ∷ x ∷ l) u (suc p) h =
      behind_by false a x (get_or (x ∷ l) p 0) l (ne_eqb a (get_or (x ∷ l) p 0) (apart a (x ∷ l) u p (omega arith))) ∙ behind_at (x ∷ l) u.1 p (omega arith)

  -- the last by none
  pub behind_last : (l : List ℕ) → Rising f l → (p : ℕ) → suc p ≡ length l → behind l (get_or l p 0) ≡ none
  behind_last [] u p h = absurd (omega arith)
  behind_last (a ∷ []) u p h = none_alone a (get_or (a ∷ []) p 0)
  behind_last (a ∷ x ∷ l) u zero h = absurd (omega arith)
  behind_last (a ∷ x ∷ l) u (suc p) h =
      behind_by false a x (get_or (x ∷ l) p 0) l (ne_eqb a (get_or (x ∷ l) p 0) (apart a (x ∷ l) u p (omega arith))) ∙ behind_last (x ∷ l) u.1 p (omega arith)
