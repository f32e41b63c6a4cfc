use native.Mathlib.Omega.{arith}
use Prim.Native.Nat.{◌-◌}
use mathlib.Core.Path.{refl, sym, ap, ◌∙◌}
use lib.ListN.{set}
use Rattle.endtable.proofs.Turns as turns
use Rattle.sheet.proofs.TurnLaws as laws
use Rattle.sheet.proofs.turn.turn.Goals as goal

pub loop-i-init : goal.loop-i-init
loop-i-init c = (omega arith, refl, refl)

pub overflow_sub-counts : goal.overflow_sub-counts
overflow_sub-counts c = c.requires.1 (c.loop-i.i - 1) (omega arith)

pub returns-then-d-counts : goal.returns-then-d-counts
returns-then-d-counts c = record { line = sym (laws.at_here c.args.counts.now c.loop-i.picks c.loop-i.i (omega arith) (omega arith)) ∙ c.loop-i.invariant.2; picks = ap (set c.loop-i.picks (c.loop-i.i - 1)) c.next.ensures ∙ sym (turns.turn_here c.args.counts.now c.loop-i.picks c.loop-i.i (omega arith) (omega arith)) ∙ c.loop-i.invariant.1 }

pub loop-i-preserved : goal.loop-i-preserved
loop-i-preserved c = (
  omega arith,
  sym (turns.turn_on c.args.counts.now c.loop-i.picks c.loop-i.i (omega arith) (omega arith)) ∙ c.loop-i.invariant.1,
  sym (laws.at_on c.args.counts.now c.loop-i.picks c.loop-i.i (omega arith) (omega arith)) ∙ c.loop-i.invariant.2,
)

pub returns : goal.returns
returns c = record { line = sym (laws.at_none c.args.counts.now c.loop-i.picks c.loop-i.i (omega arith)) ∙ c.loop-i.invariant.2; picks = sym (turns.turn_none c.args.counts.now c.loop-i.picks c.loop-i.i (omega arith)) ∙ c.loop-i.invariant.1 }
