use Rattle.endtable.specs.Rows.{blank_row}
use Rattle.runs.specs.Rows.{no_rows}
use Rattle.runs.proofs.rows.no_rows.Goals as goal

pub returns : goal.returns
unfolding no_rows blank_row
returns c = rw c.blank.ensures
