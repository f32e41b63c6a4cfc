use mathlib.Core.Path.{sym, ◌∙◌}
use Rattle.hands.proofs.FlushLaws as laws
use Rattle.hands.proofs.HandLaws as places
use Rattle.hands.proofs.flushing.fence_line.Goals as goal

pub bounds-m-h : goal.bounds-m-h
bounds-m-h c = places.place_head _ _ c.in-OfHead.is c.requires.2

pub returns-then-is_in8 : goal.returns-then-is_in8
returns-then-is_in8 c = laws.fence_over_head _ _ _ _ c.in-OfHead.is (sym c.is_in8.ensures ∙ c.if-is_in8.true)

pub bounds-m-h-in-OfHead : goal.bounds-m-h-in-OfHead
bounds-m-h-in-OfHead c = places.place_head _ _ c.in-OfHead.is c.requires.2

pub bounds-r-h : goal.bounds-r-h
bounds-r-h c = places.place_head _ _ c.in-OfHead.is c.requires.2

pub bounds-r-h-in-OfHead : goal.bounds-r-h-in-OfHead
bounds-r-h-in-OfHead c = places.place_head _ _ c.in-OfHead.is c.requires.2

pub bounds-m-i : goal.bounds-m-i
bounds-m-i c = places.place_node _ _ c.in-OfNode.is c.requires.2

pub returns-then-is_in8-2 : goal.returns-then-is_in8-2
returns-then-is_in8-2 c = laws.fence_over_node _ _ _ _ c.in-OfNode.is (sym c.is_in8-in-OfNode.ensures ∙ c.if-is_in8-2.true)

pub bounds-m-i-in-OfNode : goal.bounds-m-i-in-OfNode
bounds-m-i-in-OfNode c = places.place_node _ _ c.in-OfNode.is c.requires.2

pub bounds-r-i : goal.bounds-r-i
bounds-r-i c = places.place_node _ _ c.in-OfNode.is c.requires.2

pub bounds-r-i-in-OfNode : goal.bounds-r-i-in-OfNode
bounds-r-i-in-OfNode c = places.place_node _ _ c.in-OfNode.is c.requires.2

pub returns-else-is_in8 : goal.returns-else-is_in8
returns-else-is_in8 c = laws.fence_head c.args.m c.args.k _ _ _ c.in-OfHead.is (sym c.is_in8.ensures ∙ c.if-is_in8.false) c.over_below-w.ensures

pub returns-else-is_in8-2 : goal.returns-else-is_in8-2
returns-else-is_in8-2 c = laws.fence_node c.args.m c.args.k _ _ _ c.in-OfNode.is (sym c.is_in8-in-OfNode.ensures ∙ c.if-is_in8-2.false) c.over_below-w-in-OfNode.ensures
