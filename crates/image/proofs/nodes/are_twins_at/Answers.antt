use mathlib.Core.Path.{sym, ◌∙◌}
use Rattle.lists.proofs.BoolLaws.{false_true}
use Rattle.image.specs.Recovered.{twins}
use Rattle.image.proofs.nodes.are_twins_at.Goals as goal
use Rattle.image.proofs.nodes.are_twins_at.Goals.{then-is_recovered_at, else-is_recovered_at}

pub returns-then-is_recovered_at-2 : goal.returns-then-is_recovered_at-2
unfolding twins
returns-then-is_recovered_at-2 g c =
    elim c.if-is_recovered_at.branch [
      | then-is_recovered_at w ↦ rw (← c.is_recovered_at.ensures, w.if-is_recovered_at.true, ← w.is_recovered_at-then-is_recovered_at.ensures, ← w.value-is, c.if-is_recovered_at-2.true, ← c.index.ensures, ← c.index-then-is_recovered_at-2.ensures)
      | else-is_recovered_at w ↦ false_true (sym w.if-is_recovered_at.false ∙ sym w.value-is ∙ c.if-is_recovered_at-2.true)
    ]

pub returns-else-is_recovered_at-2 : goal.returns-else-is_recovered_at-2
unfolding twins
returns-else-is_recovered_at-2 g c =
    elim c.if-is_recovered_at.branch [
      | then-is_recovered_at w ↦ rw (← c.is_recovered_at.ensures, w.if-is_recovered_at.true, ← w.is_recovered_at-then-is_recovered_at.ensures, ← w.value-is, c.if-is_recovered_at-2.false)
      | else-is_recovered_at w ↦ rw (← c.is_recovered_at.ensures, w.if-is_recovered_at.false) c.if-is_recovered_at-2.false
    ]
