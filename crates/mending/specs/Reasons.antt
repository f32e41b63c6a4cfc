-- The numbers of the reasons, as an entry of the list has them.
use Rattle.std.specs.Prelude.{ℕ, Option, Some, None}
use Rattle.mending.specs.declared.reasons.Reason.{Reason}
use Rattle.mending.specs.declared.reasons.Reason.TheVariants as reason

-- the refusal that the node would have met
abbrev pub number_of : Reason → ℕ
number_of reason.Unclear = 6
number_of reason.Twin = 7
number_of reason.Spare = 8

-- 0 of a node that is not changed
abbrev pub why_number : Option Reason → ℕ
why_number (Some r) = number_of r
why_number None = 0
