use mathlib.Core.Path.{sym, ◌∙◌}
use Rattle.endtable.specs.Rows.{joined_row}
use Rattle.endtable.proofs.RowLaws as laws
use borrow.Author.Tests.{ltb-true, ltb-false}
use native.Mathlib.Omega.{arith}
use Rattle.endtable.proofs.row.Row.joined.Goals.{then-self-lt16, else-self-lt16}
use Rattle.endtable.proofs.row.Row.joined.Goals as goal

pub returns-then-persisted : goal.returns-then-persisted
unfolding joined_row
returns-then-persisted c = rw c.if-persisted.true

pub returns-then-self-gt16 : goal.returns-then-self-gt16
returns-then-self-gt16 c = rw c.if-persisted.false (laws.joined_over c.args.self c.args.c c.if-self-gt16.true)

pub returns-then-holds : goal.returns-then-holds
returns-then-holds c = rw c.if-persisted.false (laws.joined_again c.args.self c.args.c (omega arith) (ltb-true _ _ (sym c.holds.ensures ∙ c.if-holds.true)))

pub returns : goal.returns
returns c =
    let r = c.args.self in
    let p = ltb-false _ _ (sym c.holds.ensures ∙ c.if-holds.false) in
    rw c.if-persisted.false
    (elim c.if-self-lt16.branch [
      | then-self-lt16 w ↦ rw w.row-is (laws.joined_new r c.args.c w.if-self-lt16.true p)
      | else-self-lt16 w ↦ rw w.row-is (laws.joined_more r c.args.c (omega arith) p)
    ])
