-- A reason's number is not 0: whether there is one is what the numbers say. Assumes nothing.
use Prim.Native.Nat.{ℕ}
use mathlib.Core.Path.{◌≡◌, refl, sym, ap, ◌∙◌}
use mathlib.Core.Bool.{Bool, false, not}
use lib.Dec.{eqb}
use Rattle.std.specs.Prelude.{Option, Some, None}
use Rattle.std.specs.Option.{is_some}
use Rattle.lists.specs.Find.{pick}
use Rattle.mending.specs.Reasons.{number_of, why_number}
use Rattle.mending.specs.declared.reasons.Reason.{Reason}
use Rattle.mending.specs.declared.reasons.Reason.TheVariants as reason

pub not_zero : (r : Reason) → eqb (number_of r) 0 ≡ false
not_zero reason.Unclear = refl
not_zero reason.Twin = refl
not_zero reason.Spare = refl

why_zero : (o : Option Reason) → not (eqb (why_number o) 0) ≡ is_some o
why_zero (Some r) = ap not (not_zero r)
why_zero None = refl

-- one more node is changed where there is a reason
pub one_more : (o : Option Reason) (why : ℕ) (b : Bool) → why_number o ≡ why → is_some o ≡ b → pick {A = ℕ} (not (eqb why 0)) 1 0 ≡ pick b 1 0
one_more o why b e h = ap (λ (w : ℕ). pick {A = ℕ} (not (eqb w 0)) 1 0) (sym e) ∙ ap (λ (d : Bool). pick {A = ℕ} d 1 0) (why_zero o ∙ h)
