use Rattle.endtable.proofs.SinceRows as laws
use Rattle.endtable.proofs.since.fence_row.Goals as goal

pub returns-then-v-lt22 : goal.returns-then-v-lt22
returns-then-v-lt22 c = laws.fence_none _ _ _ c.if-v-lt22.true

pub returns-then-v-eq22 : goal.returns-then-v-eq22
returns-then-v-eq22 c = laws.fence_node _ _ _ _ c.head_lines.ensures c.if-v-eq22.true

pub returns-then-z-eq4 : goal.returns-then-z-eq4
returns-then-z-eq4 c = laws.fence_desk _ _ _ c.if-v-lt22.false c.if-v-eq22.false c.if-z-eq4.true

pub returns : goal.returns
returns c = laws.fence_head _ _ _ c.if-v-lt22.false c.if-v-eq22.false c.if-z-eq4.false
