use native.Mathlib.Numerals.{add-one}
use Rattle.lists.specs.Tab.{over}
use Rattle.mending.proofs.ReasonLaws.{not_zero}
use Rattle.mending.proofs.writing.put_entry.Goals as goal

pub returns-in-None-clause-bytes : goal.returns-in-None-clause-bytes
unfolding over
returns-in-None-clause-bytes c = rw c.in-None.is

pub returns-in-Some-clause-bytes : goal.returns-in-Some-clause-bytes
unfolding over
returns-in-Some-clause-bytes c = rw (c.in-Some.is, c.from.ensures, not_zero c.in-Some.reason) (simp add-one)
