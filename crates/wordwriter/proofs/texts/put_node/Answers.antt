use Rattle.printing.proofs.Written as laws
use native.Mathlib.Omega.{arith}
use Rattle.lists.specs.Text.{text, decimal}
use mathlib.Core.List.{◌++◌}
use mathlib.Core.Path.{◌∙◌}
use Rattle.page.specs.Printed.{newline}
use Rattle.spelling.specs.Writing.{node_line}
use Rattle.wordwriter.proofs.texts.put_node.Goals as goal

pub returns : goal.returns
unfolding node_line text
returns c =
    let v = c.args.v in
    let l = c.args.b.now in
    let s1 = text "node " ++ decimal c.args.i in
    let s2 = s1 ++ text " " ++ decimal v.linked in
    let s3 = s2 ++ text " " ++ decimal v.index in
    let s4 = s3 ++ text " " ++ decimal v.item in
    let t2 = laws.then_two l 0 s1 (text " ") (decimal v.linked) c.put_named-p.ensures.put c.put_named-q.ensures.put in
    let t3 = laws.then_two l 0 s2 (text " ") (decimal v.index) t2 c.put_far-s.ensures.put in
    let t4 = laws.then_two l 0 s3 (text " ") (decimal v.item) t3 c.put_named-u.ensures.put in
    let t5 = laws.then l 0 s4 newline t4 c.put.ensures in record { put = (t5.0 ∙ omega arith, t5.1); room = omega (arith, c.put_named-p.ensures.room, c.put_named-q.ensures.room, c.put_far-s.ensures.room, c.put_named-u.ensures.room, c.put.ensures.0) }
