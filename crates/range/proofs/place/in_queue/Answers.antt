use mathlib.Core.Path.{◌≡◌, refl, sym, ◌∙◌}
use native.Mathlib.Omega.{arith}
use Rattle.range.proofs.InRange as range
use Rattle.range.proofs.Counts as laws
use Rattle.range.proofs.place.in_queue.Goals as goal

pub loop-c-init : goal.loop-c-init
loop-c-init c = (omega arith, ((range.in_range_lem _ c.requires).head, refl))

pub returns-then-x-i : goal.returns-then-x-i
returns-then-x-i c = sym (c.loop-c.invariant.1.1 ∙ laws.reached_here c.args.m.now c.args.i c.loop-c.c c.loop-c.x c.loop-c-test.true c.if-x-i.true)

pub offset_bounds-m-x : goal.offset_bounds-m-x
offset_bounds-m-x c = omega (arith, (range.in_range_lem _ c.requires).sizes.nodes_high)

pub bounds-m-x : goal.bounds-m-x
bounds-m-x c = omega (arith, (range.in_range_lem _ c.requires).sizes.nodes_high)

pub returns-then-v : goal.returns-then-v
returns-then-v c = sym (c.loop-c.invariant.1.1 ∙ laws.reached_end c.args.m.now c.args.i c.loop-c.c c.loop-c.x c.loop-c-test.true c.if-x-i.false c.if-v.true)

pub loop-c-preserved : goal.loop-c-preserved
loop-c-preserved c =
    let m = c.args.m.now in
    let f = (range.in_range_lem m c.requires).node c.loop-c.x c.loop-c.invariant.1.0 in
    (omega arith, (laws.link_node m _ f.next c.if-v.false, c.loop-c.invariant.1.1 ∙ laws.reached_next m c.args.i c.loop-c.c c.loop-c.x c.loop-c-test.true c.if-x-i.false c.if-v.false))

pub returns : goal.returns
returns c =
    let z : c.loop-c.c ≡ 0 = omega arith in
    sym (c.loop-c.invariant.1.1 ∙ rw z (laws.reached_last c.args.m.now c.args.i c.loop-c.x))
