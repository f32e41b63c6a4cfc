use mathlib.Core.Path.{refl}
use lib.ListN.{length-set}
use Rattle.lists.specs.Tab.{over}
use native.Mathlib.Omega.{arith}
use Rattle.codec.proofs.lines.put_six.Goals as goal

pub bounds-b-0 : goal.bounds-b-0
bounds-b-0 c = omega (arith, c.requires)

pub bounds-b-1 : goal.bounds-b-1
bounds-b-1 c = simp length-set (omega (arith, c.requires))

pub bounds-b-2 : goal.bounds-b-2
bounds-b-2 c = simp length-set (omega (arith, c.requires))

pub bounds-b-3 : goal.bounds-b-3
bounds-b-3 c = simp length-set (omega (arith, c.requires))

pub bounds-b-4 : goal.bounds-b-4
bounds-b-4 c = simp length-set (omega (arith, c.requires))

pub bounds-b-5 : goal.bounds-b-5
bounds-b-5 c = simp length-set (omega (arith, c.requires))

pub returns : goal.returns
unfolding over
returns c = refl
