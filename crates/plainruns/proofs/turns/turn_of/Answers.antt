use Prim.Native.Nat.{◌+◌, ◌-◌, ◌/◌, ◌%◌, ◌^◌, ◌<◌}
use mathlib.Core.Path.{◌≡◌, sym, ap, subst, ◌∙◌}
use native.Mathlib.Omega.{arith}
use lib.ListN.{length, set, length-set}
use Rattle.lists.specs.Tab.{over}
use Rattle.plainruns.specs.Turns.{turn_of, no_picks}
use Rattle.plainruns.proofs.TurnLaws as laws
use Rattle.plainruns.proofs.turns.turn_of.Goals as goal

pub loop-j-init : goal.loop-j-init
unfolding no_picks
loop-j-init c =
    let p = c.requires in
    let e : c.args.runs ≡ c.args.base ^ (c.args.n - 0) = p.3 ∙ ap (λ i. c.args.base ^ i) (omega arith) in
    (ap length c.no_picks-picks.ensures, e, subst (λ y. c.args.k < y) e p.4, laws.turn_begin c.args.base c.args.n c.args.k ∙ ap (λ l. over l 0 (turn_of c.args.base (c.args.n - 0) c.args.k)) (sym c.no_picks-picks.ensures))

pub nonzero_div-w : goal.nonzero_div-w
nonzero_div-w c = omega (arith, c.requires.0)

pub nonzero_div-picks : goal.nonzero_div-picks
nonzero_div-picks c = subst (λ y. 0 < y) (sym (laws.width_next c.args.base c.args.n c.loop-j.j c.loop-j-test.true c.requires.0 c.loop-j.w c.loop-j.invariant.1)) (laws.pow_pos c.args.base _ c.requires.0)

pub overflow_cast-picks : goal.overflow_cast-picks
overflow_cast-picks c =
    let e = laws.width_next c.args.base c.args.n c.loop-j.j c.loop-j-test.true c.requires.0 c.loop-j.w c.loop-j.invariant.1 in
    omega (arith, ap (λ y. c.loop-j.x / y) e, laws.pick_less c.args.base c.args.n c.loop-j.j c.loop-j-test.true c.requires.0 c.loop-j.x c.loop-j.invariant.2, c.requires.1)

pub bounds-picks-j : goal.bounds-picks-j
bounds-picks-j c = omega (arith, c.loop-j-test.true, c.requires.2)

pub nonzero_rem-x : goal.nonzero_rem-x
nonzero_rem-x c = subst (λ y. 0 < y) (sym (laws.width_next c.args.base c.args.n c.loop-j.j c.loop-j-test.true c.requires.0 c.loop-j.w c.loop-j.invariant.1)) (laws.pow_pos c.args.base _ c.requires.0)

pub loop-j-preserved : goal.loop-j-preserved
loop-j-preserved c =
    let b = c.args.base in
    let n = c.args.n in
    let j = c.loop-j.j in
    let h = c.loop-j-test.true in
    let e = laws.width_next b n j h c.requires.0 c.loop-j.w c.loop-j.invariant.1 in (
      length-set c.loop-j.picks j _ ∙ c.loop-j.invariant.0,
      e,
      subst (λ y. c.loop-j.x % y < b ^ (n - (j + 1))) (sym e) (laws.rest_less b n j h c.requires.0 c.loop-j.x),
      c.loop-j.invariant.3 ∙ laws.turn_next b n j h c.requires.0 c.loop-j.picks c.loop-j.x ∙ ap (λ y. over (set c.loop-j.picks j (c.loop-j.x / y)) (j + 1) (turn_of b (n - (j + 1)) (c.loop-j.x % y))) (sym e),
    )

pub returns : goal.returns
returns c = sym (c.loop-j.invariant.3 ∙ laws.turn_end c.args.base c.args.n c.loop-j.j c.loop-j.x c.loop-j.picks (omega arith))
