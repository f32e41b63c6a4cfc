use mathlib.Core.List.{◌++◌}
use lib.ListN.{length}
use Rattle.lists.specs.Text.{text, decimal}
use Rattle.page.specs.Printed.{newline}
use Rattle.printing.specs.Lines.{refused_text}
use Rattle.printing.proofs.Written as laws
use Rattle.printing.proofs.lines.put_number_place.Goals as goal

pub put_named-p-requires : goal.put_named-p-requires
unfolding refused_text text
put_named-p-requires c =
    let x1 = (text "refused ") ++ (decimal c.args.number) in
    let x2 = x1 ++ (text " at ") ++ (decimal c.args.place) in
    let h3 = c.requires in
    let h2 = laws.room_first (length c.args.b.now) c.args.at x2 newline h3 in
    let h1 = laws.room_first (length c.args.b.now) c.args.at x1 (text " at ") (laws.room_first (length c.args.b.now) c.args.at (x1 ++ (text " at ")) (decimal c.args.place) h2) in
    h1

pub put_named-q-requires : goal.put_named-q-requires
unfolding refused_text text
put_named-q-requires c =
    let x1 = (text "refused ") ++ (decimal c.args.number) in
    let x2 = x1 ++ (text " at ") ++ (decimal c.args.place) in
    let h3 = c.requires in
    let h2 = laws.room_first (length c.args.b.now) c.args.at x2 newline h3 in
    let e1 = c.put_named-p.ensures in
    laws.room_two c.args.b.now c.args.at x1 (text " at ") (decimal c.args.place) h2 e1

pub put-requires : goal.put-requires
unfolding refused_text text
put-requires c =
    let x1 = (text "refused ") ++ (decimal c.args.number) in
    let x2 = x1 ++ (text " at ") ++ (decimal c.args.place) in
    let h3 = c.requires in
    let e1 = c.put_named-p.ensures in
    let e2 = c.put_named-q.ensures in
    laws.room_then c.args.b.now c.args.at x2 newline h3 (laws.then_two c.args.b.now c.args.at x1 (text " at ") (decimal c.args.place) e1 e2)

pub returns : goal.returns
unfolding refused_text text
returns c =
    let x1 = (text "refused ") ++ (decimal c.args.number) in
    let x2 = x1 ++ (text " at ") ++ (decimal c.args.place) in
    let e1 = c.put_named-p.ensures in
    let e2 = c.put_named-q.ensures in
    let e3 = c.put.ensures in
    laws.then c.args.b.now c.args.at x2 newline (laws.then_two c.args.b.now c.args.at x1 (text " at ") (decimal c.args.place) e1 e2) e3
