use native.Mathlib.Numerals.{add-one, add-two, add-three, add-four, add_five, add_six, add_seven}
use native.Mathlib.Omega.{arith}
use Rattle.lists.specs.Tab.{over}
use lib.ListN.{length-set}
use Rattle.parcels.proofs.entries.put_entry.Goals as goal

pub bounds-b-at-2 : goal.bounds-b-at-2
bounds-b-at-2 c = simp length-set (omega arith)

pub bounds-b-at-3 : goal.bounds-b-at-3
bounds-b-at-3 c = simp length-set (omega arith)

pub bounds-b-at-4 : goal.bounds-b-at-4
bounds-b-at-4 c = simp length-set (omega arith)

pub bounds-b-at-5 : goal.bounds-b-at-5
bounds-b-at-5 c = simp length-set (omega arith)

pub bounds-b-at-6 : goal.bounds-b-at-6
bounds-b-at-6 c = simp length-set (omega arith)

pub bounds-b-at-7 : goal.bounds-b-at-7
bounds-b-at-7 c = simp length-set (omega arith)

pub bounds-b-at-8 : goal.bounds-b-at-8
bounds-b-at-8 c = simp length-set (omega arith)

pub returns : goal.returns
unfolding over
returns c = rw c.from.ensures (simp (add-one, add-two, add-three, add-four, add_five, add_six, add_seven))
