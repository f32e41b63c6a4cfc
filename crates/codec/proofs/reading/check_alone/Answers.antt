use mathlib.Core.Path.{ap, ◌∙◌}
use Prim.Native.Nat.{ℕ}
use Rattle.image.specs.Refusals.{image_answer, alone_answer}
use Rattle.codec.proofs.reading.check_alone.Goals as goal

pub returns : goal.returns
unfolding alone_answer
returns c = c.check_part.ensures ∙ ap (λ (t : ℕ). image_answer t 0 c.args.s.now) c.own_threads-t.ensures
