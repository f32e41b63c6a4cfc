use Prim.Native.Nat.{ℕ}
use mathlib.Core.Path.{ap, sym, ◌∙◌}
use Rattle.answer.specs.Answers.{given}
use Rattle.image.specs.Layout.{image_in}
use Rattle.image.specs.Refusals.{image_answer, alone_answer}
use Rattle.codec.proofs.Accepted.{read_given}
use Rattle.codec.proofs.read_image.Goals as goal

pub returns : goal.returns
unfolding alone_answer
returns c =
    let s = c.args.s.now in
    c.read_part.ensures ∙ ap (λ (t : ℕ). given (image_answer t 0 s) (image_in s)) c.own_threads.ensures ∙ sym (read_given s)
