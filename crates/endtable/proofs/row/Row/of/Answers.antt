use mathlib.Core.Path.{refl}
use Rattle.endtable.specs.Rows.{row_of}
use Rattle.endtable.proofs.row.Row.of.Goals as goal

pub returns : goal.returns
unfolding row_of
returns c = refl
