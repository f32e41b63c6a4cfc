use Rattle.endtable.specs.Rows.{blank_row}
use Rattle.endtable.proofs.row.Row.blank.Goals as goal

pub returns : goal.returns
unfolding blank_row
returns c = rw c.of_head.ensures
