use mathlib.Core.Path.{refl, sym, ◌∙◌}
use native.Mathlib.Omega.{arith}
use Rattle.lists.specs.Tab.{over}
use Rattle.wordwriter.proofs.entries.put_node_entry.Goals as goal

pub returns-then-is_blank : goal.returns-then-is_blank
unfolding over
returns-then-is_blank c = record { put = rw (sym c.is_blank.ensures ∙ c.if-is_blank.true) ((refl, refl)); room = (omega arith) }

pub returns : goal.returns
returns c = record { put = rw (sym c.is_blank.ensures ∙ c.if-is_blank.false) (c.put_node.ensures.put); room = (c.put_node.ensures.room) }
