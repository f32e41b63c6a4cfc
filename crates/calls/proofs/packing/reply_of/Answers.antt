use mir.Syntax.{w8, w32}
use mir.Val.{Fits}
use native.Mathlib.Omega.{arith}
use mathlib.Core.Path.{ap}
use Rattle.calls.specs.Packed.{reply_of}
use borrow.Author.Rules.{rules}
use Rattle.calls.proofs.packing.reply_of.Goals as goal

pub returns : goal.returns
returns c =
    let i : Fits w32 c.told_of-t.result.item = search rules in
    let p : Fits w8 c.told_of-t.result.reply = search rules in
    (ap reply_of c.told_of-t.ensures, omega (arith, i, p))
