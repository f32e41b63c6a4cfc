use native.Mathlib.Omega.{arith}
use Rattle.endtable.specs.Opened.{blank_counts}
use Rattle.endtable.specs.Picks.{picks_of}
use Rattle.endtable.proofs.ending.ending_picks.Goals as goal

pub head_lines-requires : goal.head_lines-requires
head_lines-requires c = tt

pub overflow_add-head_lines : goal.overflow_add-head_lines
overflow_add-head_lines c = omega (arith, c.head_lines.ensures)

pub split-requires : goal.split-requires
split-requires c = (omega (arith, c.head_lines.ensures), λ l h. c.requires.2 l (omega (arith, c.head_lines.ensures)))

pub returns : goal.returns
unfolding picks_of blank_counts
returns c = rw (c.split.ensures, c.head_lines.ensures)
