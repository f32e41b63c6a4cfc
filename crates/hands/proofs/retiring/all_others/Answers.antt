use Rattle.hands.proofs.HandLaws as laws
use Rattle.hands.specs.Others.{others_below}
use native.Mathlib.Numerals.{add-one}
use mathlib.Core.Path.{◌≡◌, refl, sym, ap, ◌∙◌}
use native.Mathlib.Omega.{arith}
use Rattle.hands.proofs.retiring.all_others.Goals as goal

pub loop-u-init : goal.loop-u-init
unfolding others_below
loop-u-init c = refl

pub join-w-requires : goal.join-w-requires
join-w-requires c = (omega arith, rw c.loop-u.invariant (laws.below_lt c.args.m c.args.k c.loop-u.u))

pub loop-u-preserved : goal.loop-u-preserved
unfolding others_below
loop-u-preserved c = c.join-w.ensures ∙ rw (c.loop-u.invariant, add-one)

pub returns : goal.returns
returns c =
    let e : c.loop-u.u ≡ c.args.m.t = omega arith in
    c.loop-u.invariant ∙ ap (others_below c.args.m c.args.k) e ∙ sym (laws.others_is c.args.m c.args.k)
