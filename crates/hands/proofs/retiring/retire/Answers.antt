use borrow.Author.Tests.{eq-eqb, ne_eqb}
use mathlib.Core.Path.{sym, ◌∙◌}
use Rattle.machine.specs.Retire.{retired}
use Rattle.hands.proofs.retiring.retire.Goals as goal

pub returns-then-w-eq0 : goal.returns-then-w-eq0
unfolding retired
returns-then-w-eq0 c = rw (c.with_bit-f.ensures, c.all_others-w.ensures, eq-eqb _ _ (sym c.all_others-w.ensures ∙ c.if-w-eq0.true))

pub returns : goal.returns
unfolding retired
returns c = rw (c.all_others-w.ensures, ne_eqb _ _ (λ z. c.if-w-eq0.false (c.all_others-w.ensures ∙ z)))
