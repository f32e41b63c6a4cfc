use native.Mathlib.Omega.{arith}
use Rattle.image.proofs.FormLaws as forms
use Rattle.codec.proofs.bytes.index_in.Goals as goal

pub long_at-requires : goal.long_at-requires
long_at-requires c = omega (arith, c.requires.1, forms.width_wide _ c.if-form-eq2.true)

pub returns-then-form-eq2 : goal.returns-then-form-eq2
returns-then-form-eq2 c = rw (forms.width_wide _ c.if-form-eq2.true) c.long_at.ensures

pub word_at-requires : goal.word_at-requires
word_at-requires c = omega (arith, c.requires.1, forms.width_plain _ c.requires.0 c.if-form-eq2.false)

pub returns : goal.returns
returns c = rw (forms.width_plain _ c.requires.0 c.if-form-eq2.false) c.word_at.ensures
