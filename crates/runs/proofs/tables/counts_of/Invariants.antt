use mathlib.Core.Path.{◌≡◌}
use Rattle.lists.specs.Tab.{front}
use Rattle.endtable.specs.Opened.{blank_counts}
use Rattle.runs.proofs.RowLaws.{count_at}
use Rattle.runs.proofs.tables.counts_of.Given as goal

abbrev pub invariant-loop-l : goal.invariant-loop-l
invariant-loop-l l = l.counts ≡ front (count_at l.rows) l.l blank_counts
