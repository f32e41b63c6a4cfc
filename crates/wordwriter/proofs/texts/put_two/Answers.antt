use Rattle.printing.proofs.Written as laws
use native.Mathlib.Omega.{arith}
use Rattle.lists.specs.Text.{text, decimal}
use mathlib.Core.List.{◌++◌}
use mathlib.Core.Path.{◌∙◌}
use Rattle.page.specs.Printed.{newline}
use Rattle.wordwriter.proofs.texts.put_two.Goals as goal

pub returns : goal.returns
unfolding text
returns c =
    let e = c.put.ensures in
    let t = laws.then_two c.args.b.now 0 (decimal c.args.x) c.args.word.now (decimal c.args.y) c.put_named-p.ensures.put c.put_named-q.ensures.put in
    let u = laws.then c.args.b.now 0 (decimal c.args.x ++ c.args.word.now ++ decimal c.args.y) newline t e in record { put = (u.0 ∙ omega arith, u.1); room = omega (arith, c.put_named-p.ensures.room, c.put_named-q.ensures.room, e.0) }
