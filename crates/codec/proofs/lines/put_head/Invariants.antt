use mathlib.Core.Path.{◌≡◌}
use lib.ListN.{get_or}
use Rattle.lists.specs.Tab.{over}
use Rattle.image.specs.Form.{heads_at}
use Rattle.codec.proofs.Laws as laws
use Rattle.codec.proofs.lines.put_head.Given as goal

abbrev pub invariant-loop-k : goal.invariant-loop-k
invariant-loop-k l = l.b ≡ over l.initial.b (heads_at l.form) (laws.lines_to l.form (λ j. get_or l.heads j 0) l.k)
