use native.Mathlib.Omega.{arith}
use mathlib.Core.List.{◌++◌}
use lib.ListN.{length, take}
use Rattle.lists.specs.Text.{text, decimal}
use Rattle.page.specs.Printed.{newline, items_text}
use Rattle.printing.specs.Lines.{line_text}
use Rattle.printing.proofs.Written as laws
use Rattle.printing.proofs.lines.put_line.Goals as goal

pub put_decimal-p-requires : goal.put_decimal-p-requires
unfolding line_text text
put_decimal-p-requires c =
    let x1 = (decimal c.args.k) in
    let x2 = x1 ++ (text " ") ++ (decimal c.args.head) in
    let x3 = x2 ++ (items_text (take c.args.c c.args.items)) in
    let h4 = c.requires.1 in
    let h3 = laws.room_first (length c.args.b.now) c.args.at x3 newline h4 in
    let h2 = laws.room_first (length c.args.b.now) c.args.at x2 (items_text (take c.args.c c.args.items)) h3 in
    let h1 = laws.room_first (length c.args.b.now) c.args.at x1 (text " ") (laws.room_first (length c.args.b.now) c.args.at (x1 ++ (text " ")) (decimal c.args.head) h2) in
    h1

pub put_named-q-requires : goal.put_named-q-requires
unfolding line_text text
put_named-q-requires c =
    let x1 = (decimal c.args.k) in
    let x2 = x1 ++ (text " ") ++ (decimal c.args.head) in
    let x3 = x2 ++ (items_text (take c.args.c c.args.items)) in
    let h4 = c.requires.1 in
    let h3 = laws.room_first (length c.args.b.now) c.args.at x3 newline h4 in
    let h2 = laws.room_first (length c.args.b.now) c.args.at x2 (items_text (take c.args.c c.args.items)) h3 in
    let e1 = c.put_decimal-p.ensures in
    laws.room_two c.args.b.now c.args.at x1 (text " ") (decimal c.args.head) h2 e1

pub put_items-s-requires : goal.put_items-s-requires
unfolding line_text text
put_items-s-requires c =
    let x1 = (decimal c.args.k) in
    let x2 = x1 ++ (text " ") ++ (decimal c.args.head) in
    let x3 = x2 ++ (items_text (take c.args.c c.args.items)) in
    let h4 = c.requires.1 in
    let h3 = laws.room_first (length c.args.b.now) c.args.at x3 newline h4 in
    let e1 = c.put_decimal-p.ensures in
    let e2 = c.put_named-q.ensures in
    (omega arith, laws.room_then c.args.b.now c.args.at x2 (items_text (take c.args.c c.args.items)) h3 (laws.then_two c.args.b.now c.args.at x1 (text " ") (decimal c.args.head) e1 e2))

pub put-requires : goal.put-requires
unfolding line_text text
put-requires c =
    let x1 = (decimal c.args.k) in
    let x2 = x1 ++ (text " ") ++ (decimal c.args.head) in
    let x3 = x2 ++ (items_text (take c.args.c c.args.items)) in
    let h4 = c.requires.1 in
    let e1 = c.put_decimal-p.ensures in
    let e2 = c.put_named-q.ensures in
    let e3 = c.put_items-s.ensures in
    laws.room_then c.args.b.now c.args.at x3 newline h4 (laws.then c.args.b.now c.args.at x2 (items_text (take c.args.c c.args.items)) (laws.then_two c.args.b.now c.args.at x1 (text " ") (decimal c.args.head) e1 e2) e3)

pub returns : goal.returns
unfolding line_text text
returns c =
    let x1 = (decimal c.args.k) in
    let x2 = x1 ++ (text " ") ++ (decimal c.args.head) in
    let x3 = x2 ++ (items_text (take c.args.c c.args.items)) in
    let e1 = c.put_decimal-p.ensures in
    let e2 = c.put_named-q.ensures in
    let e3 = c.put_items-s.ensures in
    let e4 = c.put.ensures in
    laws.then c.args.b.now c.args.at x3 newline (laws.then c.args.b.now c.args.at x2 (items_text (take c.args.c c.args.items)) (laws.then_two c.args.b.now c.args.at x1 (text " ") (decimal c.args.head) e1 e2) e3) e4
