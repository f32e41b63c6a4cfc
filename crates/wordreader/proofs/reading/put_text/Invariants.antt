use Prim.Native.Nat.{◌≤◌}
use mathlib.Core.Path.{◌≡◌}
use lib.ListN.{length, drop}
use Rattle.spelling.specs.Lines.{acts_from, acts_of}
use Rattle.spelling.specs.Reading.{put_all}
use Rattle.wordreader.proofs.reading.put_text.Given as goal

abbrev pub invariant-loop-x : goal.invariant-loop-x
invariant-loop-x l = (l.p ≤ l.z) × (length l.b ≡ length l.initial.b) × (put_all l.g l.z l.initial.b l.from (acts_of l.t) ≡ put_all l.g l.z l.b l.p (acts_from l.l (drop l.x-index l.t)))
