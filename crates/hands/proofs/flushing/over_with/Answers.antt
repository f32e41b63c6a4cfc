use mathlib.Core.Path.{◌∙◌}
use Rattle.hands.proofs.HandLaws as laws
use Rattle.hands.proofs.flushing.over_with.Goals as goal

pub returns-then-is_in8 : goal.returns-then-is_in8
returns-then-is_in8 c = rw (← c.is_in8.ensures, c.if-is_in8.true) (c.with_bit8.ensures ∙ laws.with_new _ _ c.requires.1)

pub returns-then-is_in8-2 : goal.returns-then-is_in8-2
returns-then-is_in8-2 c = rw (← c.is_in8.ensures, c.if-is_in8.false, ← c.is_in8-2.ensures, c.if-is_in8-2.true)

pub returns : goal.returns
returns c =
    rw (← c.is_in8.ensures, c.if-is_in8.false, ← c.is_in8-2.ensures, c.if-is_in8-2.false)
    (c.with_bit8-2.ensures ∙ laws.with_new _ _ c.requires.1)
