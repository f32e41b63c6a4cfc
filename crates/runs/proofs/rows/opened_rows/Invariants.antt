use mathlib.Core.Path.{◌≡◌}
use Rattle.lists.specs.Tab.{front}
use Rattle.runs.specs.Rows.{no_rows, line_row}
use Rattle.runs.proofs.rows.opened_rows.Given as goal

abbrev pub invariant-loop-l : goal.invariant-loop-l
invariant-loop-l l = l.rows ≡ front (line_row l.m) l.l no_rows
