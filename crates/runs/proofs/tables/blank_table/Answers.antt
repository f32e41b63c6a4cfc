use Rattle.endtable.specs.Opened.{blank_table}
use Rattle.runs.proofs.tables.blank_table.Goals as goal

pub returns : goal.returns
unfolding blank_table
returns c = rw c.of_head.ensures
