use Rattle.calls.proofs.Gives as gives
use Rattle.parcelcalls.proofs.despatch.Goals as goal

pub returns : goal.returns
returns c = record { answers = gives.packs _ _ c.packed_result.ensures c.counted.ensures.gives; bytes = c.counted.ensures.bytes }
