use Rattle.endtable.specs.Picks.{crowded_at, is_crowded}
use borrow.Author.Tests.{lt-ltb, le-ltb}
use native.Mathlib.Nat.{sub-zero}
use mathlib.Core.Path.{◌≡◌, sym, ◌∙◌}
use Rattle.lists.proofs.FindLaws as find
use native.Mathlib.Omega.{arith}
use Rattle.endtable.proofs.ending.first_crowded.Goals as goal

pub loop-i-init : goal.loop-i-init
unfolding crowded_at
loop-i-init c = rw sub-zero

pub returns-then-counts-i-gt16 : goal.returns-then-counts-i-gt16
returns-then-counts-i-gt16 c = sym (c.loop-i.invariant ∙ find.least_hit (is_crowded c.args.counts) c.args.lines c.loop-i.i (omega arith) (lt-ltb _ _ c.if-counts-i-gt16.true))

pub loop-i-preserved : goal.loop-i-preserved
loop-i-preserved c = c.loop-i.invariant ∙ find.least_next (is_crowded c.args.counts) c.args.lines c.loop-i.i (omega arith) (le-ltb _ _ c.if-counts-i-gt16.false)

pub returns : goal.returns
returns c =
    let e : c.loop-i.i ≡ c.args.lines = omega arith in
    sym (c.loop-i.invariant ∙ find.least_end (is_crowded c.args.counts) c.args.lines c.loop-i.i (omega arith) ∙ e)
