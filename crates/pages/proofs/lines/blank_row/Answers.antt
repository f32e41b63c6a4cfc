use Rattle.pages.specs.Lines.{blank_row}
use Rattle.pages.proofs.lines.blank_row.Goals as goal

pub returns : goal.returns
unfolding blank_row
returns c = rw c.of_head.ensures
