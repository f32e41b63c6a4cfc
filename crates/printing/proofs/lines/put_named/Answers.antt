use lib.ListN.{length}
use Rattle.lists.specs.Text.{decimal}
use Rattle.printing.proofs.Written as laws
use Rattle.printing.proofs.lines.put_named.Goals as goal

pub put-p-requires : goal.put-p-requires
put-p-requires c =
    let x1 = c.args.word.now in
    let h2 = c.requires in
    let h1 = laws.room_first (length c.args.b.now) c.args.at x1 (decimal c.args.x) h2 in
    h1

pub put_decimal-requires : goal.put_decimal-requires
put_decimal-requires c =
    let x1 = c.args.word.now in
    let h2 = c.requires in
    let e1 = c.put-p.ensures in
    laws.room_then c.args.b.now c.args.at x1 (decimal c.args.x) h2 e1

pub returns : goal.returns
returns c =
    let x1 = c.args.word.now in
    let e1 = c.put-p.ensures in
    let e2 = c.put_decimal.ensures in
    laws.then c.args.b.now c.args.at x1 (decimal c.args.x) e1 e2
