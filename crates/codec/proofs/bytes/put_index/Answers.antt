use native.Mathlib.Omega.{arith}
use Rattle.image.proofs.FormLaws as forms
use Rattle.codec.proofs.bytes.put_index.Goals as goal

pub put_long-requires : goal.put_long-requires
put_long-requires c = omega (arith, c.requires.1, forms.width_wide _ c.if-form-eq2.true)

pub returns-then-form-eq2 : goal.returns-then-form-eq2
returns-then-form-eq2 c = rw (forms.width_wide _ c.if-form-eq2.true) c.put_long.ensures

pub put_word-requires : goal.put_word-requires
put_word-requires c = omega (arith, c.requires.1, forms.width_plain _ c.requires.0 c.if-form-eq2.false)

pub returns : goal.returns
returns c = rw (forms.width_plain _ c.requires.0 c.if-form-eq2.false) c.put_word.ensures
