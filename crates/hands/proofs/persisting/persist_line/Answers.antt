use Rattle.hands.proofs.HandLaws as laws
use Rattle.hands.proofs.persisting.persist_line.Goals as goal

pub bounds-r-h : goal.bounds-r-h
bounds-r-h c = laws.place_head _ _ c.in-OfHead.is c.requires.1

pub bounds-r-h-in-OfHead : goal.bounds-r-h-in-OfHead
bounds-r-h-in-OfHead c = laws.place_head _ _ c.in-OfHead.is c.requires.1

pub bounds-r-h-in-OfHead-2 : goal.bounds-r-h-in-OfHead-2
bounds-r-h-in-OfHead-2 c = laws.place_head _ _ c.in-OfHead.is c.requires.1

pub bounds-r-i : goal.bounds-r-i
bounds-r-i c = laws.place_node _ _ c.in-OfNode.is c.requires.1

pub bounds-r-i-in-OfNode : goal.bounds-r-i-in-OfNode
bounds-r-i-in-OfNode c = laws.place_node _ _ c.in-OfNode.is c.requires.1

pub bounds-r-i-in-OfNode-2 : goal.bounds-r-i-in-OfNode-2
bounds-r-i-in-OfNode-2 c = laws.place_node _ _ c.in-OfNode.is c.requires.1

pub returns-in-OfHead : goal.returns-in-OfHead
returns-in-OfHead c = laws.persist_head _ _ _ _ c.in-OfHead.is c.all_below-all.ensures

pub returns-in-OfNode : goal.returns-in-OfNode
returns-in-OfNode c = rw c.from.ensures (laws.persist_node _ _ _ _ c.in-OfNode.is c.all_below-all.ensures)
