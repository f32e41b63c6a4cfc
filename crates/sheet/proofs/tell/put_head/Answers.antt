use native.Mathlib.Omega.{arith}
use borrow.Author.Rules.{rules}
use lib.ListN.{length-set}
use mir.Val.{Fits}
use mir.Syntax.{w64}
use Rattle.lists.specs.Text.{text}
use Rattle.printing.proofs.Short as short
use Rattle.sheet.proofs.TellLaws as laws
use Rattle.sheet.proofs.tell.put_head.Goals as goal

pub put_decimal-requires : goal.put_decimal-requires
put_decimal-requires c =
    let f : Fits w64 c.args.head = search rules in
    omega (arith, length-set c.args.end.now 0 32, short.decimal_short 20 c.args.head (omega (arith, f)) (omega arith))

pub returns : goal.returns
unfolding text
returns c =
    let f : Fits w64 c.args.head = search rules in
    let w = laws.put_spaced c.args.end.now 0 c.args.head c.put_decimal.result c.put_decimal.new.b (omega (arith, c.put_decimal.ensures.0), c.put_decimal.ensures.1) in record { place = (omega (arith, w.0), omega (arith, w.0, short.decimal_short 20 c.args.head (omega (arith, f)) (omega arith))); bytes = w.1 }
