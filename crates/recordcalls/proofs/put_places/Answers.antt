use mathlib.Core.Path.{refl}
use Rattle.lists.specs.Tab.{over}
use lib.ListN.{length-set}
use native.Mathlib.Omega.{arith}
use Rattle.recordcalls.proofs.put_places.Goals as goal

pub bounds-b-1 : goal.bounds-b-1
bounds-b-1 c = simp length-set (omega arith)

pub bounds-b-2 : goal.bounds-b-2
bounds-b-2 c = simp length-set (omega arith)

pub bounds-b-3 : goal.bounds-b-3
bounds-b-3 c = simp length-set (omega arith)

pub bounds-b-4 : goal.bounds-b-4
bounds-b-4 c = simp length-set (omega arith)

pub returns : goal.returns
unfolding over
returns c = refl
