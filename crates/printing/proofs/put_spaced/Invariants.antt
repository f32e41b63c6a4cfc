use mathlib.Core.Path.{◌≡◌}
use Prim.Native.Nat.{◌+◌, ◌≤◌}
use lib.ListN.{length, take}
use Rattle.lists.specs.Tab.{over}
use Rattle.page.specs.Printed.{spaced}
use Rattle.printing.proofs.put_spaced.Given as goal

abbrev pub invariant-loop-i : goal.invariant-loop-i
invariant-loop-i l = (l.i ≤ l.c) × (l.p ≡ l.at + length (spaced (take l.i l.items))) × (l.b ≡ over l.initial.b l.at (spaced (take l.i l.items)))
