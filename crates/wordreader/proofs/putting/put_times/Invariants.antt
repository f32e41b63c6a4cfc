use mathlib.Core.Path.{◌≡◌}
use Rattle.lists.specs.Tab.{over}
use Rattle.spelling.specs.Layout.{event_said}
use Rattle.spelling.specs.Reading.{times}
use Rattle.wordreader.proofs.putting.put_times.Given as goal

abbrev pub invariant-loop-i : goal.invariant-loop-i
invariant-loop-i l = l.b ≡ over l.initial.b l.at (times l.i (event_said l.kind l.number l.item))
