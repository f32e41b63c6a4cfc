use Rattle.calls.proofs.Gives as gives
use Rattle.textcalls.proofs.refusal_line.Goals as goal

pub returns : goal.returns
returns c = record { answers = gives.packs _ _ c.packed_result.ensures c.put_refusal.ensures.gives; bytes = c.put_refusal.ensures.bytes }
