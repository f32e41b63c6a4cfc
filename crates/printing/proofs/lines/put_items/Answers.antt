use borrow.Author.Rules.{rules}
use native.Mathlib.Omega.{arith}
use native.Mathlib.Nat.{pos_of_ne-zero}
use mathlib.Core.Path.{◌≡◌, ap}
use lib.ListN.{length}
use Rattle.printing.proofs.Written as laws
use Rattle.printing.proofs.lines.put_items.Goals as goal

pub put-requires : goal.put-requires
put-requires c = omega (arith, c.requires.1, ap length (laws.items_none c.args.items c.args.c c.if-c-eq0.true))

pub returns-then-c-eq0 : goal.returns-then-c-eq0
returns-then-c-eq0 c = rw (laws.items_none c.args.items c.args.c c.if-c-eq0.true) c.put.ensures

pub put_spaced-requires : goal.put_spaced-requires
put_spaced-requires c =
    let n : length c.args.items ≡ 64 = search rules in
    (omega arith, rw (← laws.items_some c.args.items c.args.c (pos_of_ne-zero c.if-c-eq0.false) (omega arith)) c.requires.1)

pub returns : goal.returns
returns c =
    let n : length c.args.items ≡ 64 = search rules in
    rw (laws.items_some c.args.items c.args.c (pos_of_ne-zero c.if-c-eq0.false) (omega arith)) c.put_spaced.ensures
