use Rattle.printing.proofs.Written as laws
use Rattle.wordwriter.proofs.EntryLaws as entries
use native.Mathlib.Omega.{arith}
use mathlib.Core.Path.{◌≡◌, ◌∙◌}
use Rattle.lists.specs.Text.{text, decimal}
use mathlib.Core.List.{◌++◌}
use Rattle.page.specs.Printed.{newline}
use lib.ListN.{length}
use Prim.Native.Nat.{◌+◌}
use Rattle.spelling.specs.Writing.{version_line}
use Rattle.wordwriter.proofs.texts.put_sole.Goals as goal

pub put_far-q-requires : goal.put_far-q-requires
put_far-q-requires c = (omega (arith, c.put_version-p.ensures.room), omega arith, omega (arith, c.put_version-p.ensures.room, c.put_version-p.auto.b))

pub put-requires : goal.put-requires
put-requires c = omega (arith, c.put_version-p.ensures.room, c.put_far-q.ensures.room, c.put_far-q.auto.b, c.put_version-p.auto.b)

pub returns : goal.returns
unfolding text
returns c = let d = c.put.ensures in let x : c.put_version-p.result ≡ 0 + length (version_line c.args.form) = omega (arith, c.put_version-p.ensures.put.0) in let t = laws.then c.args.b.now 0 (version_line c.args.form) (text "head " ++ decimal c.args.h) (x, c.put_version-p.ensures.put.1) c.put_far-q.ensures.put in let v = laws.then c.args.b.now 0 (version_line c.args.form ++ (text "head " ++ decimal c.args.h)) newline t d in record { put = rw (entries.sole_line c.args.form c.args.h) ((v.0 ∙ omega arith, v.1)); room = (omega (arith, c.put_version-p.ensures.room, c.put_far-q.ensures.room, d.0)) }
