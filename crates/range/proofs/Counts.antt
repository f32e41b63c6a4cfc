-- Laws of the counts and of the walk along the links. Assumes nothing.
use Prim.Native.Nat.{ℕ, zero, suc, ◌-◌, ◌≤◌, ◌<◌}
use mathlib.Core.Path.{◌≡◌, refl, ap, ◌∙◌}
use mathlib.Core.Bool.{Bool, true, false}
use mathlib.Core.Logic.{inl, inr}
use native.Mathlib.Omega.{arith}
use borrow.Author.Tests.{eq-eqb, ne_eqb}
use lib.Dec.{eqb}
use Rattle.lists.specs.Find.{pick, count}
use Rattle.machine.specs.Record.{none, node}
use Rattle.machine.specs.Place.{reached}
use Rattle.machine.specs.declared.Machine.{Machine}
use Rattle.range.specs.Facts.{Link}

one_or_none : (b : Bool) → pick b 1 0 ≤ 1
one_or_none true = omega arith
one_or_none false = omega arith

-- no more than there are numbers
pub count_le : (f : ℕ → Bool) (n : ℕ) → count f n ≤ n
unfolding count
count_le f zero = omega arith
count_le f (suc n) = omega (arith, one_or_none (f n), count_le f n)

module _ (m : Machine) (i : ℕ) where
  -- ---- the walk

  abbrev goes : ℕ → ℕ → Bool → Bool → Bool
  goes c x a b = elim a [ true ↦ true | false ↦ elim b [ true ↦ false | false ↦ reached m c (node m x).next i ] ]

  pub reached_here : (c x : ℕ) → 0 < c → x ≡ i → reached m c x i ≡ true
  unfolding reached
  reached_here zero x p e = absurd (omega arith)
  reached_here (suc c) x p e = ap (λ (a : Bool). goes c x a (eqb (node m x).next none)) (eq-eqb x i e)

  pub reached_end : (c x : ℕ) → 0 < c → (x ≡ i → ⊥) → (node m x).next ≡ none → reached m c x i ≡ false
  unfolding reached
  reached_end zero x p e f = absurd (omega arith)
  reached_end (suc c) x p e f =
      ap (λ (a : Bool). goes c x a (eqb (node m x).next none)) (ne_eqb x i e) ∙ ap (goes c x false) (eq-eqb (node m x).next none f)

  pub reached_next : (c x : ℕ) → 0 < c → (x ≡ i → ⊥) → ((node m x).next ≡ none → ⊥) → reached m c x i ≡ reached m (c - 1) (node m x).next i
  unfolding reached
  reached_next zero x p e f = absurd (omega arith)
  reached_next (suc c) x p e f =
      ap (λ (a : Bool). goes c x a (eqb (node m x).next none)) (ne_eqb x i e) ∙ ap (goes c x false) (ne_eqb (node m x).next none f)
      ∙ ap (λ (d : ℕ). reached m d (node m x).next i) back
    where
      back : c ≡ suc c - 1
      back = omega arith

  pub reached_last : (x : ℕ) → reached m 0 x i ≡ eqb x i
  unfolding reached
  reached_last x = refl

-- ---- nodes

-- a link that is not none is a node
pub link_node : (m : Machine) (x : ℕ) → Link m x → (x ≡ none → ⊥) → x < m.n
link_node m x (inl e) f = absurd (f e)
link_node m x (inr l) f = l
