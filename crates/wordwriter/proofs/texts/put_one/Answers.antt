use Rattle.printing.proofs.Written as laws
use native.Mathlib.Omega.{arith}
use Rattle.lists.specs.Text.{decimal}
use mathlib.Core.List.{◌++◌}
use mathlib.Core.Path.{◌∙◌}
use Rattle.wordwriter.proofs.texts.put_one.Goals as goal

pub returns : goal.returns
returns c =
    let d = c.put.ensures in
    let t = laws.then c.args.b.now 0 (c.args.word.now ++ decimal c.args.x) c.args.last.now c.put_named-p.ensures.put d in record { put = (t.0 ∙ omega arith, t.1); room = omega (arith, c.put_named-p.ensures.room, d.0) }
