use mathlib.Core.Path.{ap, ◌∙◌}
use native.Mathlib.Omega.{arith}
use Rattle.lists.specs.Tab.{front}
use Rattle.lists.proofs.TabLaws as tabs
use Rattle.image.specs.Layout.{no_heads, heads_of}
use Rattle.endtable.specs.Picks.{picked_head}
use Rattle.endtable.proofs.Openings as laws
use Rattle.endtable.proofs.ending.picked_heads.Goals as goal

pub loop-k-init : goal.loop-k-init
loop-k-init c = c.no_heads-heads.ensures ∙ tabs.front_none (picked_head c.args.t c.args.picks) no_heads

pub offset_bounds-t-j : goal.offset_bounds-t-j
offset_bounds-t-j c = omega (arith, c.requires.2 c.loop-k.k (omega (arith, c.head_lines-lines.ensures)))

pub loop-k-preserved : goal.loop-k-preserved
loop-k-preserved c = rw c.loop-k.invariant (laws.picked_head_lem c.args.t c.args.picks c.loop-k.k (omega (arith, c.head_lines-lines.ensures)))

pub returns : goal.returns
unfolding heads_of
returns c = c.loop-k.invariant ∙ ap (λ k. front (picked_head c.args.t c.args.picks) k no_heads) (omega (arith, c.head_lines-lines.ensures))
