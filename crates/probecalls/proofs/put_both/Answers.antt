use native.Mathlib.Omega.{arith}
use lib.ListN.{length-set}
use Rattle.lists.specs.Tab.{over}
use Rattle.probecalls.proofs.put_both.Goals as goal

pub put_word-requires : goal.put_word-requires
put_word-requires c = simp length-set (omega (arith, c.requires))

pub bounds-b-5 : goal.bounds-b-5
bounds-b-5 c = omega (arith, simp length-set at c.put_word.auto.b, c.requires)

pub put_word-requires-2 : goal.put_word-requires-2
put_word-requires-2 c = simp length-set (omega (arith, simp length-set at c.put_word.auto.b, c.requires))

pub returns : goal.returns
unfolding over
returns c = rw (c.put_word-2.ensures, c.put_word.ensures)
