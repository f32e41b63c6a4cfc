use mathlib.Core.Path.{◌≡◌}
use Rattle.lists.specs.Tab.{over}
use Rattle.image.specs.Layout.{body_bytes}
use Rattle.linecalls.proofs.put_contents.Given as goal

abbrev pub invariant-loop-i : goal.invariant-loop-i
invariant-loop-i l = l.b ≡ over l.initial.b 0 (body_bytes 2 l.contents l.i)
