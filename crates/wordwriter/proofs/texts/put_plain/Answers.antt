use Rattle.printing.proofs.Written as laws
use native.Mathlib.Omega.{arith}
use Rattle.lists.specs.Text.{text, decimal}
use mathlib.Core.List.{◌++◌}
use mathlib.Core.Path.{◌∙◌}
use Rattle.page.specs.Printed.{newline}
use Rattle.wordwriter.proofs.texts.put_plain.Goals as goal

pub returns : goal.returns
unfolding text
returns c =
    let v = c.args.e in
    let l = c.args.b.now in
    let s1 = text "event " ++ decimal v.kind in
    let s2 = s1 ++ text " " ++ decimal v.number in
    let s3 = s2 ++ text " " ++ decimal v.item in
    let t2 = laws.then_two l 0 s1 (text " ") (decimal v.number) c.put_named-p.ensures.put c.put_named-q.ensures.put in
    let t3 = laws.then_two l 0 s2 (text " ") (decimal v.item) t2 c.put_named-s.ensures.put in
    let t4 = laws.then l 0 s3 newline t3 c.put.ensures in record { put = (t4.0 ∙ omega arith, t4.1); room = omega (arith, c.put_named-p.ensures.room, c.put_named-q.ensures.room, c.put_named-s.ensures.room, c.put.ensures.0) }
