use native.Mathlib.Omega.{arith}
use Rattle.lists.specs.Text.{text}
use Rattle.sheet.proofs.tell.close.Goals as goal

pub returns-then-p-begin : goal.returns-then-p-begin
unfolding text
returns-then-p-begin c = (λ e. (omega (arith, c.put.ensures.0), c.put.ensures.1), λ n. absurd (n (omega arith)))

pub returns : goal.returns
unfolding text
returns c = (λ e. absurd (omega arith), λ n. (omega (arith, c.put-2.ensures.0), c.put-2.ensures.1))
