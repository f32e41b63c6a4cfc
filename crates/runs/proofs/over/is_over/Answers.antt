use native.Mathlib.Omega.{arith}
use Rattle.runs.proofs.OverLaws as laws
use Rattle.runs.proofs.over.is_over.Goals as goal

pub returns-then-l-lines : goal.returns-then-l-lines
returns-then-l-lines c = laws.over_head_lem c.args.heads c.args.nodes c.args.z c.args.l c.args.k _ c.head_lines-lines.ensures _ c.if-l-lines.true c.is_in8.ensures

pub returns-then-i-ge-NODES : goal.returns-then-i-ge-NODES
returns-then-i-ge-NODES c = laws.over_none c.args.heads c.args.nodes c.args.z c.args.l c.args.k _ c.head_lines-lines.ensures c.if-l-lines.false (omega (arith, c.if-i-ge-NODES.true))

pub returns : goal.returns
returns c = laws.over_node_lem c.args.heads c.args.nodes c.args.z c.args.l c.args.k _ c.head_lines-lines.ensures _ c.if-l-lines.false c.is_in8-2.ensures
