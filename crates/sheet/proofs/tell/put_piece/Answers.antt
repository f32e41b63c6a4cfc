use native.Mathlib.Omega.{arith}
use Prim.Native.Nat.{ℕ, ◌+◌}
use mathlib.Core.Path.{ap, ◌∙◌}
use lib.ListN.{length}
use borrow.Author.Rules.{rules}
use mathlib.Core.List.{List}
use Rattle.lists.specs.Tab.{over}
use Rattle.printing.proofs.Short as short
use Rattle.sheet.specs.Told.{piece_of}
use mir.Val.{Fits}
use mir.Syntax.{w32}
use lib.ListN.{length-set}
use Rattle.sheet.proofs.TellLaws as laws
use Rattle.sheet.proofs.tell.put_piece.Goals as goal

pub returns-then-d-j : goal.returns-then-d-j
returns-then-d-j c = record { place = (laws.put_nothing c.args.end.now c.args.p (piece_of c.args.d c.args.j c.args.head c.args.rank c.args.item) (laws.piece_other c.args.d c.args.j c.args.head c.args.rank c.args.item (omega arith))).0; bytes = (laws.put_nothing c.args.end.now c.args.p (piece_of c.args.d c.args.j c.args.head c.args.rank c.args.item) (laws.piece_other c.args.d c.args.j c.args.head c.args.rank c.args.item (omega arith))).1 }

pub returns-then-rank-head : goal.returns-then-rank-head
returns-then-rank-head c = record { place = (laws.put_nothing c.args.end.now c.args.p (piece_of c.args.d c.args.j c.args.head c.args.rank c.args.item) (laws.piece_low c.args.d c.args.j c.args.head c.args.rank c.args.item (omega arith) (omega arith))).0; bytes = (laws.put_nothing c.args.end.now c.args.p (piece_of c.args.d c.args.j c.args.head c.args.rank c.args.item) (laws.piece_low c.args.d c.args.j c.args.head c.args.rank c.args.item (omega arith) (omega arith))).1 }

pub put_decimal-requires : goal.put_decimal-requires
put_decimal-requires c =
    let f : Fits w32 c.args.item = search rules in
    omega (arith, length-set c.args.end.now c.args.p 32, short.decimal_short 10 c.args.item (omega (arith, f)) (omega arith))

pub returns : goal.returns
returns c =
    let f : Fits w32 c.args.item = search rules in
    let w = laws.put_spaced c.args.end.now c.args.p c.args.item c.put_decimal.result c.put_decimal.new.b c.put_decimal.ensures in
    let e = laws.piece_some c.args.d c.args.j c.args.head c.args.rank c.args.item (omega arith) (omega arith) in record { place = (w.0 ∙ ap (λ (s : List ℕ). c.args.p + length s) e, omega (arith, w.0, short.decimal_short 10 c.args.item (omega (arith, f)) (omega arith))); bytes = w.1 ∙ ap (over c.args.end.now c.args.p) e }
