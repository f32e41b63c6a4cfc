use Rattle.calls.proofs.Gives as gives
use Rattle.linecalls.proofs.line.Goals as goal

pub returns : goal.returns
returns c = record { answers = gives.packs _ _ c.packed_result.ensures c.put_line.ensures.gives; written = c.put_line.ensures.written }
