use mathlib.Core.Path.{◌≡◌}
use Rattle.lists.specs.Tab.{over}
use Rattle.plainway.specs.Plainly.{all_bytes}
use Rattle.plainway.specs.Noting.{images_to, NotedTo}
use Rattle.plainway.proofs.noting.note_some.Given as goal

abbrev pub invariant-loop-k : goal.invariant-loop-k
invariant-loop-k l = NotedTo l.s l.k l.b l.n × (l.b ≡ over l.initial.b 0 (all_bytes (images_to l.s l.k)))
