use mathlib.Core.Path.{◌≡◌}
use Rattle.lists.specs.Tab.{over}
use Rattle.image.specs.Form.{header_size}
use Rattle.image.specs.Layout.{body_bytes}
use Rattle.codec.proofs.nodes.put_nodes.Given as goal

abbrev pub invariant-loop-i : goal.invariant-loop-i
invariant-loop-i l = l.b ≡ over l.initial.b (header_size l.z) (body_bytes l.form l.nodes l.i)
