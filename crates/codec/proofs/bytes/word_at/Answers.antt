use mathlib.Core.Path.{sym, ap, ◌∙◌}
use Rattle.image.specs.Bytes.{num_of, at_w}
use Rattle.image.proofs.ByteLaws.{four_at}
use Rattle.codec.proofs.bytes.word_at.Goals as goal

pub returns : goal.returns
unfolding at_w
returns c = c.num.ensures ∙ ap num_of (sym (four_at c.args.s.now c.args.at c.requires))
