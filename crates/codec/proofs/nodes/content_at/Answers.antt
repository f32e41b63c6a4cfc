use native.Mathlib.Omega.{arith}
use Rattle.image.proofs.FormLaws as forms
use Rattle.codec.proofs.nodes.content_at.Goals as goal

pub index_in-index-requires : goal.index_in-index-requires
index_in-index-requires c = (c.requires.0, omega (arith, forms.size_is _ c.requires.0, c.requires.1))

pub overflow_add-at-3 : goal.overflow_add-at-3
overflow_add-at-3 c = omega (arith, c.width_of-w.ensures, forms.size_is _ c.requires.0, c.requires.1)

pub word_at-item-requires : goal.word_at-item-requires
word_at-item-requires c = omega (arith, c.width_of-w.ensures, forms.size_is _ c.requires.0, c.requires.1)

pub bounds-s-at : goal.bounds-s-at
bounds-s-at c = omega (arith, forms.size_is _ c.requires.0, c.requires.1)

pub returns : goal.returns
returns c = rw (c.word_at-item.ensures, c.index_in-index.ensures, c.width_of-w.ensures)
