use mathlib.Core.Path.{sym}
use native.Mathlib.Omega.{arith}
use Rattle.image.proofs.ByteLaws.{at_split}
use Rattle.codec.proofs.bytes.long_at.Goals as goal

pub returns : goal.returns
returns c = rw (c.joined_words.ensures, c.word_at-high.ensures, c.word_at-low.ensures) (sym (at_split 4 4 c.args.s.now c.args.at (omega (arith, c.requires))))
