use mathlib.Core.List.{◌++◌}
use lib.ListN.{length}
use Rattle.lists.specs.Text.{text, decimal}
use Rattle.page.specs.Printed.{newline, first_line}
use Rattle.printing.proofs.Written as laws
use Rattle.printing.proofs.lines.put_first_line.Goals as goal

pub put_named-p-requires : goal.put_named-p-requires
unfolding first_line text
put_named-p-requires c =
    let x1 = (text "UQS 1 threads ") ++ (decimal c.args.t) in
    let x2 = x1 ++ (text " nodes ") ++ (decimal c.args.n) in
    let x3 = x2 ++ (text " events ") ++ (decimal c.args.events) in
    let x4 = x3 ++ (text " endings ") ++ (decimal c.args.endings) in
    let h5 = c.requires in
    let h4 = laws.room_first (length c.args.b.now) c.args.at x4 newline h5 in
    let h3 = laws.room_first (length c.args.b.now) c.args.at x3 (text " endings ") (laws.room_first (length c.args.b.now) c.args.at (x3 ++ (text " endings ")) (decimal c.args.endings) h4) in
    let h2 = laws.room_first (length c.args.b.now) c.args.at x2 (text " events ") (laws.room_first (length c.args.b.now) c.args.at (x2 ++ (text " events ")) (decimal c.args.events) h3) in
    let h1 = laws.room_first (length c.args.b.now) c.args.at x1 (text " nodes ") (laws.room_first (length c.args.b.now) c.args.at (x1 ++ (text " nodes ")) (decimal c.args.n) h2) in
    h1

pub put_named-q-requires : goal.put_named-q-requires
unfolding first_line text
put_named-q-requires c =
    let x1 = (text "UQS 1 threads ") ++ (decimal c.args.t) in
    let x2 = x1 ++ (text " nodes ") ++ (decimal c.args.n) in
    let x3 = x2 ++ (text " events ") ++ (decimal c.args.events) in
    let x4 = x3 ++ (text " endings ") ++ (decimal c.args.endings) in
    let h5 = c.requires in
    let h4 = laws.room_first (length c.args.b.now) c.args.at x4 newline h5 in
    let h3 = laws.room_first (length c.args.b.now) c.args.at x3 (text " endings ") (laws.room_first (length c.args.b.now) c.args.at (x3 ++ (text " endings ")) (decimal c.args.endings) h4) in
    let h2 = laws.room_first (length c.args.b.now) c.args.at x2 (text " events ") (laws.room_first (length c.args.b.now) c.args.at (x2 ++ (text " events ")) (decimal c.args.events) h3) in
    let e1 = c.put_named-p.ensures in
    laws.room_two c.args.b.now c.args.at x1 (text " nodes ") (decimal c.args.n) h2 e1

pub put_named-s-requires : goal.put_named-s-requires
unfolding first_line text
put_named-s-requires c =
    let x1 = (text "UQS 1 threads ") ++ (decimal c.args.t) in
    let x2 = x1 ++ (text " nodes ") ++ (decimal c.args.n) in
    let x3 = x2 ++ (text " events ") ++ (decimal c.args.events) in
    let x4 = x3 ++ (text " endings ") ++ (decimal c.args.endings) in
    let h5 = c.requires in
    let h4 = laws.room_first (length c.args.b.now) c.args.at x4 newline h5 in
    let h3 = laws.room_first (length c.args.b.now) c.args.at x3 (text " endings ") (laws.room_first (length c.args.b.now) c.args.at (x3 ++ (text " endings ")) (decimal c.args.endings) h4) in
    let e1 = c.put_named-p.ensures in
    let e2 = c.put_named-q.ensures in
    laws.room_two c.args.b.now c.args.at x2 (text " events ") (decimal c.args.events) h3 (laws.then_two c.args.b.now c.args.at x1 (text " nodes ") (decimal c.args.n) e1 e2)

pub put_named-u-requires : goal.put_named-u-requires
unfolding first_line text
put_named-u-requires c =
    let x1 = (text "UQS 1 threads ") ++ (decimal c.args.t) in
    let x2 = x1 ++ (text " nodes ") ++ (decimal c.args.n) in
    let x3 = x2 ++ (text " events ") ++ (decimal c.args.events) in
    let x4 = x3 ++ (text " endings ") ++ (decimal c.args.endings) in
    let h5 = c.requires in
    let h4 = laws.room_first (length c.args.b.now) c.args.at x4 newline h5 in
    let e1 = c.put_named-p.ensures in
    let e2 = c.put_named-q.ensures in
    let e3 = c.put_named-s.ensures in
    laws.room_two c.args.b.now c.args.at x3 (text " endings ") (decimal c.args.endings) h4 (laws.then_two c.args.b.now c.args.at x2 (text " events ") (decimal c.args.events) (laws.then_two c.args.b.now c.args.at x1 (text " nodes ") (decimal c.args.n) e1 e2) e3)

pub put-requires : goal.put-requires
unfolding first_line text
put-requires c =
    let x1 = (text "UQS 1 threads ") ++ (decimal c.args.t) in
    let x2 = x1 ++ (text " nodes ") ++ (decimal c.args.n) in
    let x3 = x2 ++ (text " events ") ++ (decimal c.args.events) in
    let x4 = x3 ++ (text " endings ") ++ (decimal c.args.endings) in
    let h5 = c.requires in
    let e1 = c.put_named-p.ensures in
    let e2 = c.put_named-q.ensures in
    let e3 = c.put_named-s.ensures in
    let e4 = c.put_named-u.ensures in
    laws.room_then c.args.b.now c.args.at x4 newline h5 (laws.then_two c.args.b.now c.args.at x3 (text " endings ") (decimal c.args.endings) (laws.then_two c.args.b.now c.args.at x2 (text " events ") (decimal c.args.events) (laws.then_two c.args.b.now c.args.at x1 (text " nodes ") (decimal c.args.n) e1 e2) e3) e4)

pub returns : goal.returns
unfolding first_line text
returns c =
    let x1 = (text "UQS 1 threads ") ++ (decimal c.args.t) in
    let x2 = x1 ++ (text " nodes ") ++ (decimal c.args.n) in
    let x3 = x2 ++ (text " events ") ++ (decimal c.args.events) in
    let x4 = x3 ++ (text " endings ") ++ (decimal c.args.endings) in
    let e1 = c.put_named-p.ensures in
    let e2 = c.put_named-q.ensures in
    let e3 = c.put_named-s.ensures in
    let e4 = c.put_named-u.ensures in
    let e5 = c.put.ensures in
    laws.then c.args.b.now c.args.at x4 newline (laws.then_two c.args.b.now c.args.at x3 (text " endings ") (decimal c.args.endings) (laws.then_two c.args.b.now c.args.at x2 (text " events ") (decimal c.args.events) (laws.then_two c.args.b.now c.args.at x1 (text " nodes ") (decimal c.args.n) e1 e2) e3) e4) e5
