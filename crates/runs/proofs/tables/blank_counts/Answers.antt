use mathlib.Core.Path.{refl}
use Rattle.endtable.specs.Opened.{blank_counts}
use Rattle.runs.proofs.tables.blank_counts.Goals as goal

pub returns : goal.returns
unfolding blank_counts
returns c = refl
