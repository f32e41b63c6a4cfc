-- Laws of tests. Assumes nothing.
use Prim.Native.Nat.{ℕ}
use mathlib.Core.Path.{◌≡◌, refl, sym}
use mathlib.Core.Bool.{Bool, true, false}
use native.Mathlib.Omega.{arith}
use Rattle.lists.specs.Find.{both}

-- no test both holds and fails
pub no_way : {A : Type 0} → true ≡ false → A
no_way e = let z : ◌≡◌ {A = ℕ} 0 1 = cc in absurd (omega arith)

pub false_true : {A : Type 0} → false ≡ true → A
false_true e = no_way (sym e)

-- two tests taken apart, and put together
pub both_true : (a b : Bool) → both a b ≡ true → (a ≡ true) × (b ≡ true)
both_true true b h = (refl, h)
both_true false b h = false_true h

pub both_of : (a b : Bool) → a ≡ true → b ≡ true → both a b ≡ true
both_of true b h k = k
both_of false b h k = h

-- one of two, by a test that is known
module _ {A : Type 0} (a b : A) where
  pub yes_of : (x : Bool) → x ≡ true → elim x as (λ _. A) [ true ↦ a | false ↦ b ] ≡ a
  yes_of true e = refl
  yes_of false e = false_true e

  pub no_of : (x : Bool) → x ≡ false → elim x as (λ _. A) [ true ↦ a | false ↦ b ] ≡ b
  no_of false e = refl
  no_of true e = no_way e
