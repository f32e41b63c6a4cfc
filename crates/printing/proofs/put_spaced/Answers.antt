use borrow.Author.Rules.{rules}
use native.Mathlib.Omega.{arith}
use mathlib.Core.Path.{◌≡◌, refl, ap, ◌∙◌}
use lib.ListN.{length, take, length-set}
use Rattle.lists.specs.Tab.{over}
use Rattle.lists.proofs.TabLaws as tabs
use Rattle.printing.proofs.Written as laws
use Rattle.page.specs.Printed.{spaced}
use Rattle.printing.proofs.put_spaced.Goals as goal

pub loop-i-init : goal.loop-i-init
unfolding over spaced
loop-i-init c = (omega arith, omega arith, refl)

pub bounds-b-p : goal.bounds-b-p
bounds-b-p c =
    let n : length c.args.items ≡ 64 = search rules in
    omega (arith, ap length c.loop-i.invariant.2, tabs.length_over c.args.b.now c.args.at (spaced (take c.loop-i.i c.args.items)), laws.spaced_within c.args.items c.loop-i.i c.args.c (omega arith) (omega arith))

pub overflow_add-p : goal.overflow_add-p
overflow_add-p c =
    let n : length c.args.items ≡ 64 = search rules in
    omega (arith, laws.spaced_within c.args.items c.loop-i.i c.args.c (omega arith) (omega arith))

pub put_item-q-requires : goal.put_item-q-requires
put_item-q-requires c =
    let n : length c.args.items ≡ 64 = search rules in
    rw (length-set, ap length c.loop-i.invariant.2, tabs.length_over) (omega (arith, laws.spaced_within c.args.items c.loop-i.i c.args.c (omega arith) (omega arith)))

pub loop-i-preserved : goal.loop-i-preserved
loop-i-preserved c =
    let e = c.put_item-q.ensures in
    let n : length c.args.items ≡ 64 = search rules in (
      omega arith,
      omega (arith, e.0, laws.length_next c.args.items c.loop-i.i (omega arith)),
      e.1 ∙ laws.spaced_more c.args.b.now c.loop-i.b c.args.at c.loop-i.p c.args.items c.loop-i.i (omega arith) c.loop-i.invariant.1 c.loop-i.invariant.2,
    )

pub returns : goal.returns
returns c =
    let e : c.loop-i.i ≡ c.args.c = omega arith in
    rw (← e) (c.loop-i.invariant.1, c.loop-i.invariant.2)
