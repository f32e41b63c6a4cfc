-- Laws of step numbers, by one test computed over their table: a new step changes no proof here.
use Prim.Native.Nat.{ℕ, ◌≤◌, ◌<◌}
use mathlib.Core.Path.{◌≡◌, refl, sym, ap, ◌∙◌}
use mathlib.Core.Bool.{Bool, false, not}
use native.Mathlib.Omega.{arith}
use native.Mathlib.Decide.{dec_lt}
use lib.ListN.{length, get_or-eq_default}
use lib.Dec.{eqb}
use borrow.Author.Tests.{not-false, eqb-true}
use Rattle.lists.specs.Find.{any}
use Rattle.lists.proofs.FindLaws.{any_clear}
use Rattle.machine.specs.Stage.{Stage, no_step, stages, stage_of, number}

-- the number of the step that a number names is that number
abbrev astray : ℕ → Bool
astray s = not (eqb (number (stage_of s)) s)

table : any astray (length stages) ≡ false
unfolding any
table = refl

pub number_stage : (s : ℕ) → s < length stages → number (stage_of s) ≡ s
number_stage s h = eqb-true (number (stage_of s)) s (not-false (eqb (number (stage_of s)) s) (any_clear astray (length stages) s table h))

-- a number beyond the table names no step
pub no_step_lem : (s : ℕ) → length stages ≤ s → stage_of s ≡ no_step
no_step_lem s h = get_or-eq_default stages no_step h

-- so the step has that number
pub step_number : (s : ℕ) (x : Stage) → stage_of s ≡ x → 0 < number x → s ≡ number x
step_number s x e p = by (dec_lt s (length stages))
  where
    by : Dec (s < length stages) → s ≡ number x
    by (yes h) = sym (number_stage s h) ∙ ap number e
    by (no h) = absurd (omega (arith, ap number (sym e ∙ no_step_lem s (omega arith))))
