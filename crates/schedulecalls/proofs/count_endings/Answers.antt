use Rattle.calls.proofs.Gives as gives
use Rattle.schedulecalls.proofs.count_endings.Goals as goal

pub returns : goal.returns
returns c = gives.packs _ _ c.packed_result.ensures c.counted.ensures.gives
