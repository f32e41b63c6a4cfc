use Rattle.hands.proofs.FlushLaws as laws
use Rattle.hands.proofs.HandLaws as places
use Rattle.hands.proofs.flushing.flush_line.Goals as goal

pub bounds-r-h : goal.bounds-r-h
bounds-r-h c = places.place_head _ _ c.in-OfHead.is c.requires.2

pub bounds-r-h-in-OfHead : goal.bounds-r-h-in-OfHead
bounds-r-h-in-OfHead c = places.place_head _ _ c.in-OfHead.is c.requires.2

pub bounds-r-h-in-OfHead-2 : goal.bounds-r-h-in-OfHead-2
bounds-r-h-in-OfHead-2 c = places.place_head _ _ c.in-OfHead.is c.requires.2

pub bounds-r-i : goal.bounds-r-i
bounds-r-i c = places.place_node _ _ c.in-OfNode.is c.requires.2

pub bounds-r-i-in-OfNode : goal.bounds-r-i-in-OfNode
bounds-r-i-in-OfNode c = places.place_node _ _ c.in-OfNode.is c.requires.2

pub bounds-r-i-in-OfNode-2 : goal.bounds-r-i-in-OfNode-2
bounds-r-i-in-OfNode-2 c = places.place_node _ _ c.in-OfNode.is c.requires.2

pub returns-in-OfHead : goal.returns-in-OfHead
returns-in-OfHead c = rw c.of_head.ensures (laws.flush_head c.args.m c.args.k _ _ _ _ c.in-OfHead.is c.late_from-late.ensures c.without_bit8-w.ensures)

pub returns-in-OfNode : goal.returns-in-OfNode
returns-in-OfNode c = rw c.from.ensures (laws.flush_node c.args.m c.args.k _ _ _ _ c.in-OfNode.is c.late_from-late.ensures c.without_bit8-w-in-OfNode.ensures)
