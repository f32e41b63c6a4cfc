use Rattle.lists.specs.Text.{text}
use Rattle.wordwriter.proofs.texts.put_nodes.Goals as goal

pub returns : goal.returns
unfolding text
returns c = record { put = c.put_one.ensures.put; room = c.put_one.ensures.room }
