use Rattle.endtable.specs.Rows.{blank_row}
use Rattle.endtable.specs.Since.{no_since}
use Rattle.endtable.proofs.since.no_since.Goals as goal

pub returns : goal.returns
unfolding no_since blank_row
returns c = rw c.blank.ensures
