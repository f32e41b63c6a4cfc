use mathlib.Core.Path.{refl}
use Rattle.sheet.specs.Marks.{blank_slots}
use Rattle.sheet.proofs.marks.no_items.Goals as goal

pub returns : goal.returns
unfolding blank_slots
returns c = refl
