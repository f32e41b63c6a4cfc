use mir.Val.{Fits}
use mir.Syntax.{w8}
use lib.ListN.{get_or}
use borrow.Author.Rules.{rules}
use native.Mathlib.Nat.{mul-le-mul}
use native.Mathlib.Numerals.{add-one}
use Rattle.endtable.specs.Picks.{prod}
use Rattle.endtable.proofs.Digits as laws
use Prim.Native.Nat.{◌≤◌}
use mathlib.Core.Path.{◌≡◌, refl}
use native.Mathlib.Omega.{arith}
use Rattle.endtable.proofs.ending.ending_count.Goals as goal

pub loop-i-init : goal.loop-i-init
unfolding prod
loop-i-init c = (refl, omega arith)

pub overflow_mul-p : goal.overflow_mul-p
overflow_mul-p c =
    let b : Fits w8 (get_or c.args.counts c.loop-i.i 0) = search rules in
    let d : get_or c.args.counts c.loop-i.i 0 ≤ 255 = omega arith in
    let e : c.loop-i.p ≤ 65536 = c.loop-i.invariant.1 in
    omega (arith, mul-le-mul e d)

pub returns-then-p-gt-ENDINGS : goal.returns-then-p-gt-ENDINGS
returns-then-p-gt-ENDINGS c = laws.capped_above c.args.counts c.args.lines c.loop-i.i (omega arith) c.requires.1 (rw (← c.loop-i.invariant.0) c.if-p-gt-ENDINGS.true)

pub loop-i-preserved : goal.loop-i-preserved
unfolding prod
loop-i-preserved c = (rw (add-one, ← c.loop-i.invariant.0), omega arith)

pub returns : goal.returns
returns c =
    let e : c.loop-i.i ≡ c.args.lines = omega arith in
    rw (← e, ← c.loop-i.invariant.0) (laws.capped_same c.loop-i.p c.loop-i.invariant.1)
