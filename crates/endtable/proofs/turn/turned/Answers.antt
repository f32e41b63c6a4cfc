use native.Mathlib.Omega.{arith}
use Prim.Native.Nat.{◌+◌, ◌-◌}
use mathlib.Core.Path.{refl, sym, ap, ◌∙◌}
use lib.ListN.{get_or}
use mir.Val.{Fits}
use mir.Syntax.{w8}
use Rattle.endtable.specs.Picks.{turned_of}
use Rattle.endtable.proofs.Turns as laws
use borrow.Author.Rules.{rules}
use Rattle.endtable.proofs.turn.turned.Goals as goal

pub head_lines-requires : goal.head_lines-requires
head_lines-requires c = tt

pub loop-i-init : goal.loop-i-init
loop-i-init c = (omega arith, refl)

pub bounds-p-i : goal.bounds-p-i
bounds-p-i c = omega (arith, c.head_lines.ensures)

pub bounds-counts-i : goal.bounds-counts-i
bounds-counts-i c = omega (arith, c.head_lines.ensures)

pub overflow_sub-counts : goal.overflow_sub-counts
overflow_sub-counts c = c.requires.2 (c.loop-i.i - 1) (omega (arith, c.head_lines.ensures))

pub overflow_add-p : goal.overflow_add-p
overflow_add-p c =
    let b : Fits w8 (get_or c.args.counts (c.loop-i.i - 1) 0) = search rules in
    omega (arith, b)

pub bounds-p-i-then-d-counts : goal.bounds-p-i-then-d-counts
bounds-p-i-then-d-counts c = omega (arith, c.head_lines.ensures)

pub returns-then-d-counts : goal.returns-then-d-counts
returns-then-d-counts c = sym (laws.turn_here c.args.counts c.loop-i.p c.loop-i.i (omega arith) (omega arith)) ∙ c.loop-i.invariant.1 ∙ ap (λ x. turned_of c.args.counts (x + c.args.z.n) c.args.picks) c.head_lines.ensures

pub bounds-p-i-in-loop-i : goal.bounds-p-i-in-loop-i
bounds-p-i-in-loop-i c = omega (arith, c.head_lines.ensures)

pub loop-i-preserved : goal.loop-i-preserved
loop-i-preserved c = (omega arith, sym (laws.turn_on c.args.counts c.loop-i.p c.loop-i.i (omega arith) (omega arith)) ∙ c.loop-i.invariant.1)

pub returns : goal.returns
returns c = sym (laws.turn_none c.args.counts c.loop-i.p c.loop-i.i (omega arith)) ∙ c.loop-i.invariant.1 ∙ ap (λ x. turned_of c.args.counts (x + c.args.z.n) c.args.picks) c.head_lines.ensures
