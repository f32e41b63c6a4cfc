use Rattle.printing.proofs.Written as laws
use native.Mathlib.Omega.{arith}
use Rattle.lists.specs.Text.{text, decimal}
use mathlib.Core.List.{◌++◌}
use mathlib.Core.Path.{◌∙◌}
use Rattle.page.specs.Printed.{newline}
use Rattle.wordwriter.proofs.texts.put_named_head.Goals as goal

pub returns : goal.returns
unfolding text
returns c =
    let l = c.args.b.now in
    let s = text "head " ++ decimal c.args.k in
    let t = laws.then_two l 0 s (text " ") (decimal c.args.h) c.put_named-p.ensures.put c.put_far-q.ensures.put in
    let u = laws.then l 0 (s ++ text " " ++ decimal c.args.h) newline t c.put.ensures in record { put = (u.0 ∙ omega arith, u.1); room = omega (arith, c.put_named-p.ensures.room, c.put_far-q.ensures.room, c.put.ensures.0) }
