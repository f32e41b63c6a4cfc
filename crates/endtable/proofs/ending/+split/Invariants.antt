use Rattle.endtable.proofs.ending.+split.Given as goal

abbrev pub decreases-split : goal.decreases-split
decreases-split l = l.left
