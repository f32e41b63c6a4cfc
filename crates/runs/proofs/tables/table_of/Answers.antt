use mathlib.Core.Path.{◌≡◌, ap, ◌∙◌}
use native.Mathlib.Omega.{arith}
use borrow.Author.Rules.{rules}
use lib.ListN.{length}
use Rattle.lists.specs.Tab.{front}
use Rattle.lists.proofs.TabLaws as tabs
use Rattle.endtable.specs.Opened.{blank_table}
use Rattle.endtable.proofs.Openings as openings
use Rattle.runs.proofs.RowLaws as laws
use Rattle.runs.proofs.tables.table_of.Goals as goal

pub loop-l-init : goal.loop-l-init
loop-l-init c = c.blank_table-t.ensures ∙ tabs.front_none (laws.ats_at c.args.rows.now) blank_table

pub loop-l-preserved : goal.loop-l-preserved
loop-l-preserved c = rw c.loop-l.invariant (tabs.front_next (laws.ats_at c.args.rows.now) c.loop-l.l blank_table (omega (arith, openings.length_blank_table)))

pub returns : goal.returns
returns c =
    let n : length c.args.rows.now ≡ 72 = search rules in
    c.loop-l.invariant ∙ ap (λ k. front (laws.ats_at c.args.rows.now) k blank_table) (omega arith) ∙ laws.ats_all c.args.rows.now n
