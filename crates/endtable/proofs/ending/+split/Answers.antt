use mathlib.Core.Path.{◌≡◌, ◌∙◌}
use Prim.Native.Nat.{◌-◌}
use lib.ListN.{get_or, length}
use native.Mathlib.Nat.{pos_of_ne-zero, mod-lt}
use mir.Val.{Fits}
use mir.Syntax.{w8}
use Rattle.endtable.specs.Picks.{digits}
use borrow.Author.Rules.{rules}
use native.Mathlib.Omega.{arith}
use Rattle.endtable.proofs.Digits as laws
use Rattle.endtable.proofs.ending.+split.Goals as goal

pub returns-then-left-eq0 : goal.returns-then-left-eq0
unfolding digits
returns-then-left-eq0 t c = rw c.if-left-eq0.true

pub nonzero_rem-p : goal.nonzero_rem-p
nonzero_rem-p t c = c.requires.1 (c.args.left - 1) (omega (arith, pos_of_ne-zero c.if-left-eq0.false))

pub overflow_cast-p : goal.overflow_cast-p
overflow_cast-p t c =
    let b : Fits w8 (get_or c.args.counts (c.args.left - 1) 0) = search rules in
    omega (arith, b, mod-lt c.args.k (nonzero_rem-p t c))

pub nonzero_div-k : goal.nonzero_div-k
nonzero_div-k t c = c.requires.1 (c.args.left - 1) (omega (arith, pos_of_ne-zero c.if-left-eq0.false))

pub split-requires : goal.split-requires
split-requires t c =
    let p = pos_of_ne-zero c.if-left-eq0.false in
    (omega (arith, p, c.decreases), (omega (arith, p), λ i h. c.requires.1 i (omega arith)))

pub returns : goal.returns
returns t c =
    let n : length c.args.picks ≡ 72 = search rules in
    c.split.ensures ∙ laws.split_step c.args.counts c.args.picks c.args.left c.args.k (pos_of_ne-zero c.if-left-eq0.false) (omega arith)
