use Rattle.machine.proofs.LineLaws.{number_node}
use Rattle.machine.proofs.lines.number_of.Goals as goal

pub returns-in-OfNode : goal.returns-in-OfNode
returns-in-OfNode c = number_node _ _ _ _ c.head_lines.ensures c.in-OfNode.is
