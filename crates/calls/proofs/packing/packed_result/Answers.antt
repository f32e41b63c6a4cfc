use mathlib.Core.Path.{sym, ap, ◌∙◌}
use Rattle.calls.specs.Packed.{packed, packed_result}
use Rattle.calls.proofs.Gives as gives
use Rattle.calls.proofs.packing.packed_result.Goals as goal

pub returns-in-Ok : goal.returns-in-Ok
unfolding packed
returns-in-Ok c = sym (ap packed_result c.in-Ok.is)

pub returns-in-Err : goal.returns-in-Err
returns-in-Err c = gives.refusal_packs c.in-Err.e c.from-t.result c.from-t.ensures ∙ sym (ap packed_result c.in-Err.is)
