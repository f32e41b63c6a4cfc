use mathlib.Core.Path.{sym, ◌∙◌}
use native.Mathlib.Omega.{arith}
use Rattle.lists.proofs.FindLaws.{any_hit}
use Rattle.judging.specs.Place.{due, any_due}
use Rattle.judging.proofs.reading.History.any_due.Goals as goal

pub returns-then-is_due : goal.returns-then-is_due
unfolding any_due
returns-then-is_due c = sym (any_hit (due c.args.self.bytes.now c.args.taken) _ c.loop-j.j (omega arith) (sym c.is_due.ensures ∙ c.if-is_due.true))
