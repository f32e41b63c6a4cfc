use native.Mathlib.Omega.{arith}
use lib.ListN.{length-set}
use Rattle.image.specs.Form.{width_of}
use Rattle.image.proofs.FormLaws as forms
use Rattle.codec.proofs.Laws as laws
use Rattle.codec.proofs.nodes.put_content.Goals as goal

pub bounds-b-at : goal.bounds-b-at
bounds-b-at c = omega (arith, forms.size_is _ c.requires.0, c.requires.1)

pub put_index-requires : goal.put_index-requires
put_index-requires c = (c.requires.0, simp length-set (omega (arith, forms.size_is _ c.requires.0, c.requires.1)))

pub overflow_add-at-3 : goal.overflow_add-at-3
overflow_add-at-3 c = omega (arith, c.width_of-w.ensures, forms.size_is _ c.requires.0, c.requires.1)

pub put_word-requires : goal.put_word-requires
put_word-requires c = omega (arith, c.width_of-w.ensures, forms.size_is _ c.requires.0, c.requires.1, simp length-set at c.put_index.auto.b)

pub returns : goal.returns
returns c = rw (c.put_word.ensures, c.put_index.ensures, c.width_of-w.ensures) (laws.line_over c.args.b.now c.args.at c.args.v.linked (width_of c.args.form) c.args.v.index c.args.v.item)
