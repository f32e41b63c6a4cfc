use mathlib.Core.Path.{sym, ◌∙◌}
use Rattle.image.proofs.EqualLaws.{equal_is}
use Rattle.endtable.specs.Opened.{opened_row, opened_count}
use Rattle.endtable.specs.Rows.{blank_row}
use Rattle.endtable.proofs.row.Row.opened.Goals as goal

pub returns-then-eq : goal.returns-then-eq
unfolding opened_row opened_count blank_row
returns-then-eq c = rw (c.blank-row.ensures, sym (c.eq.ensures ∙ equal_is c.args.p c.args.c) ∙ c.if-eq.true)

pub returns-else-eq : goal.returns-else-eq
unfolding opened_row opened_count blank_row
returns-else-eq c = rw (c.blank-row.ensures, sym (c.eq.ensures ∙ equal_is c.args.p c.args.c) ∙ c.if-eq.false)
