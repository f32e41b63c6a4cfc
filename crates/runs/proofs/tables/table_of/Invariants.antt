use mathlib.Core.Path.{◌≡◌}
use Rattle.lists.specs.Tab.{front}
use Rattle.endtable.specs.Opened.{blank_table}
use Rattle.runs.proofs.RowLaws.{ats_at}
use Rattle.runs.proofs.tables.table_of.Given as goal

abbrev pub invariant-loop-l : goal.invariant-loop-l
invariant-loop-l l = l.t ≡ front (ats_at l.rows) l.l blank_table
