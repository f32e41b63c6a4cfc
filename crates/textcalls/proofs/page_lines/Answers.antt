use Rattle.calls.proofs.Gives as gives
use Rattle.textcalls.proofs.page_lines.Goals as goal

pub returns : goal.returns
returns c = record { answers = gives.packs _ _ c.packed_result.ensures c.put_lines.ensures.gives; bytes = c.put_lines.ensures.bytes }
