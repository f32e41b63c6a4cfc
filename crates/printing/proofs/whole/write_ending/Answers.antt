use native.Mathlib.Omega.{arith}
use Prim.Native.Nat.{ℕ, ◌+◌, ◌≤◌}
use mathlib.Core.Path.{sym, subst}
use lib.ListN.{length, get_or}
use mir.Syntax.{w32, w64}
use mir.Val.{Fits}
use Rattle.image.proofs.HeadLaws.{head_is}
use Rattle.printing.proofs.Short as short
use Rattle.printing.proofs.ItemLaws as laws
use Rattle.printing.proofs.Written as written
use borrow.Author.Rules.{rules}
use Rattle.printing.proofs.whole.write_ending.Goals as goal

pub head_of-h-requires : goal.head_of-h-requires
head_of-h-requires c = rw c.shape.ensures c.requires.1

pub items_of-i-requires : goal.items_of-i-requires
items_of-i-requires c = (c.requires.0, c.requires.1)

pub put_line-requires : goal.put_line-requires
put_line-requires c =
    let h : Fits w64 c.head_of-h.result = search rules in
    let v : (j : ℕ) → Fits w32 (get_or c.items_of-i.result.items j 0) = λ j. search rules in
    let m = short.image_short 64 c.args.k c.args.g (omega arith) (omega arith) (omega (arith, h, (rw c.shape.ensures at c.head_of-h.ensures), head_is c.args.g)) (short.listed_small _ c.items_of-i.result c.items_of-i.ensures (λ j. omega (arith, v j))) (omega arith) in (
      laws.few_items c.args.g c.items_of-i.result c.requires.0 c.items_of-i.ensures,
      subst (λ t. c.args.at + length t ≤ length c.args.b.now) (sym (laws.ending_line_lem c.args.k c.args.g c.head_of-h.result c.items_of-i.result (rw c.shape.ensures at c.head_of-h.ensures) c.items_of-i.ensures)) (omega (arith, m)),
    )

pub returns : goal.returns
returns c =
    let h : Fits w64 c.head_of-h.result = search rules in
    let v : (j : ℕ) → Fits w32 (get_or c.items_of-i.result.items j 0) = λ j. search rules in
    let m = short.image_short 64 c.args.k c.args.g (omega arith) (omega arith) (omega (arith, h, (rw c.shape.ensures at c.head_of-h.ensures), head_is c.args.g)) (short.listed_small _ c.items_of-i.result c.items_of-i.ensures (λ j. omega (arith, v j))) (omega arith) in
    let w = subst (λ t. written.Put c.args.b.now c.args.at t c.put_line.new.b c.put_line.result) (laws.ending_line_lem c.args.k c.args.g c.head_of-h.result c.items_of-i.result (rw c.shape.ensures at c.head_of-h.ensures) c.items_of-i.ensures) c.put_line.ensures in record { place = (w.0, omega (arith, w.0, m)); bytes = w.1 }
