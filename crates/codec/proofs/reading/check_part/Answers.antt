use mathlib.Core.Path.{sym, ◌∙◌}
use Rattle.answer.proofs.Results.{went_on, came_back, returned}
use Rattle.codec.proofs.Accepted as acc
use native.Mathlib.Omega.{arith}
use Rattle.codec.proofs.reading.check_part.Goals as goal

pub returns-in_err-shape_part : goal.returns-in_err-shape_part
returns-in_err-shape_part c =
    returned c.shape_part.ensures c.in_err-shape_part.was c.from_residual.ensures.1 ∙ sym (acc.answer_shape c.args.t c.args.more c.args.s.now ∙ acc.shape_else c.args.t c.args.more c.args.s.now _ (came_back c.shape_part.ensures c.in_err-shape_part.was))

pub shape_in-z-requires : goal.shape_in-z-requires
shape_in-z-requires c = omega (arith, (acc.shape_taken c.args.t c.args.more c.args.s.now (went_on c.shape_part.ensures c.in_ok-shape_part.was)).long)

pub sound_at-requires : goal.sound_at-requires
sound_at-requires c = rw c.shape_in-z.ensures (acc.shape_lies c.args.t c.args.more c.args.s.now (went_on c.shape_part.ensures c.in_ok-shape_part.was))

pub returns : goal.returns
returns c =
    c.sound_at.ensures ∙ sym (acc.answer_shape c.args.t c.args.more c.args.s.now ∙ acc.shape_then c.args.t c.args.more c.args.s.now _ (went_on c.shape_part.ensures c.in_ok-shape_part.was))
