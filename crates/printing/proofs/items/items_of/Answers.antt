use native.Mathlib.Omega.{arith}
use mathlib.Core.Path.{◌∙◌}
use Rattle.printing.proofs.ItemLaws as laws
use Rattle.printing.proofs.items.items_of.Goals as goal

pub queue_of-q-requires : goal.queue_of-q-requires
queue_of-q-requires c = c.requires

pub no_items-items-requires : goal.no_items-items-requires
no_items-items-requires c = tt

pub loop-p-init : goal.loop-p-init
loop-p-init c = (omega arith, c.no_items-items.ensures ∙ laws.filled_none c.args.g c.queue_of-q.result.at)

pub bounds-q-p : goal.bounds-q-p
bounds-q-p c = omega (arith, laws.few c.args.g c.queue_of-q.result c.requires.0 c.queue_of-q.ensures)

pub offset_bounds-g-k : goal.offset_bounds-g-k
offset_bounds-g-k c = omega (arith, laws.within c.args.g c.queue_of-q.result c.requires.0 c.queue_of-q.ensures c.loop-p.p (omega arith))

pub bounds-g-k : goal.bounds-g-k
bounds-g-k c = laws.within c.args.g c.queue_of-q.result c.requires.0 c.queue_of-q.ensures c.loop-p.p (omega arith)

pub offset_bounds-items-p : goal.offset_bounds-items-p
offset_bounds-items-p c = omega (arith, laws.few c.args.g c.queue_of-q.result c.requires.0 c.queue_of-q.ensures)

pub bounds-items-p : goal.bounds-items-p
bounds-items-p c = omega (arith, laws.few c.args.g c.queue_of-q.result c.requires.0 c.queue_of-q.ensures)

pub loop-p-preserved : goal.loop-p-preserved
loop-p-preserved c = (omega arith, rw c.loop-p.invariant.1 (laws.filled_next c.args.g c.queue_of-q.result.at c.loop-p.p (omega (arith, laws.few c.args.g c.queue_of-q.result c.requires.0 c.queue_of-q.ensures))))

pub returns : goal.returns
returns c = laws.filled_end c.args.g c.queue_of-q.result c.loop-p.items c.loop-p.p c.queue_of-q.ensures c.loop-p.invariant.1 (omega arith)
