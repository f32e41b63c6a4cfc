use Rattle.image.specs.Layout.{no_contents}
use Rattle.lists.proofs.TabLaws as tabs
use Rattle.endtable.specs.Picks.{picked_image, picked_node}
use Rattle.endtable.proofs.Openings as laws
use Prim.Native.Nat.{◌+◌}
use mathlib.Core.Path.{◌≡◌, ◌∙◌}
use native.Mathlib.Omega.{arith}
use Rattle.endtable.proofs.ending.ending_image.Goals as goal

pub loop-i-init : goal.loop-i-init
loop-i-init c = c.no_contents-nodes.ensures ∙ tabs.front_none (picked_node c.args.t c.args.picks c.args.z) no_contents

pub offset_bounds-t-j : goal.offset_bounds-t-j
offset_bounds-t-j c = omega (arith, c.requires.2 (c.head_lines-lines.result + c.loop-i.i) (omega (arith, c.head_lines-lines.ensures)))

pub loop-i-preserved : goal.loop-i-preserved
loop-i-preserved c = rw c.loop-i.invariant (laws.picked_next c.args.t c.args.picks c.args.z c.head_lines-lines.result c.loop-i.i c.head_lines-lines.ensures (omega arith))

pub returns : goal.returns
unfolding picked_image
returns c =
    let e : c.loop-i.i ≡ c.args.z.n = omega arith in
    rw (c.loop-i.invariant, e, c.picked_heads-heads.ensures, c.own_threads-held.ensures)
