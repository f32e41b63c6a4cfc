use Rattle.printing.proofs.Written as laws
use Rattle.wordwriter.proofs.EntryLaws as entries
use native.Mathlib.Omega.{arith}
use mathlib.Core.Path.{refl, ◌∙◌}
use Rattle.lists.specs.Text.{text, decimal}
use mathlib.Core.List.{◌++◌}
use Rattle.page.specs.Printed.{newline}
use Rattle.lists.specs.Tab.{over}
use Rattle.wordwriter.proofs.texts.put_version.Goals as goal

pub returns-then-form-eq1 : goal.returns-then-form-eq1
unfolding over
returns-then-form-eq1 c = record { put = rw (entries.version_none c.args.form c.if-form-eq1.true) ((refl, refl)); room = (omega arith) }

pub returns : goal.returns
unfolding text
returns c = let d = c.put.ensures in let t = laws.then c.args.b.now 0 (text "version " ++ decimal c.args.form) newline c.put_named-p.ensures.put d in record { put = rw (entries.version_some c.args.form c.if-form-eq1.false) ((t.0 ∙ omega arith, t.1)); room = (omega (arith, c.put_named-p.ensures.room, d.0)) }
