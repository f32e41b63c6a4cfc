use mathlib.Core.Path.{◌≡◌, sym, ◌∙◌}
use native.Mathlib.Omega.{arith}
use lib.Dec.{ltb}
use lib.ListN.{length}
use borrow.Author.Rules.{rules}
use borrow.Author.Tests.{tests}
use Rattle.std.specs.Prelude.{cond, Some, None}
use Rattle.lists.specs.Find.{least}
use Rattle.lists.proofs.IterLaws.{position_sliced, found_some, found_none}
use Rattle.image.specs.declared.Content.{Content}
use Rattle.image.specs.Layout.{no_content}
use Rattle.image.specs.Recovered.{head_too_wide}
use Rattle.image.proofs.FormLaws as laws
use Rattle.image.proofs.form.fitting_of.Goals as goal
use Rattle.image.proofs.form.fitting_of.Goals.{After-any_above, After-position}

-- what the head lines say
headed : (c : After-any_above) → c.any_above.result ≡ head_too_wide c.args.g
headed c =
    laws.head_wide_by c.args.g c.top_of-top.result c.head_lines-lines.result c.any_above.result c.top_of-top.ensures (rw c.shape.ensures at c.head_lines-lines.ensures) c.any_above.ensures

-- and the nodes
searched : (c : After-position) → c.position.result ≡ cond (ltb (least (laws.above c.top_of-top.result c.args.g) c.args.g.n 0) c.args.g.n) (Some (least (laws.above c.top_of-top.result c.args.g) c.args.g.n 0)) None
searched c =
    let g = c.args.g in
    let all : length g.nodes ≡ 64 = search rules in
    position_sliced (λ (v : Content). ltb c.top_of-top.result v.index) g.nodes no_content g.n _ _ _ c.position.result c.position.ensures.ran c.iter.ensures.rest (omega arith) (λ x b q k. search (rules, tests))

pub any_above-requires : goal.any_above-requires
any_above-requires c = omega (arith, rw c.shape.ensures at c.head_lines-lines.ensures, c.requires.1)

pub returns-then-any_above : goal.returns-then-any_above
returns-then-any_above c = laws.fitting_head c.args.g (sym (headed (goal.at.returns-then-any_above c).After-any_above) ∙ c.if-any_above.true)

pub returns-in-Some : goal.returns-in-Some
returns-in-Some c =
    let g = c.args.g in
    let f = found_some (laws.above c.top_of-top.result g) g.n c.in-Some.i (sym (searched (goal.at.returns-in-Some c).After-position) ∙ c.in-Some.is) in
    laws.fitting_node g c.in-Some.i (sym (headed (goal.at.returns-in-Some c).After-any_above) ∙ c.if-any_above.false) (sym (laws.too_wide_by g c.top_of-top.result c.top_of-top.ensures) ∙ f.0) f.1

pub returns : goal.returns
returns c =
    let g = c.args.g in
    let f = found_none (laws.above c.top_of-top.result g) g.n (sym (searched (goal.at.returns c).After-position) ∙ c.in_default.is) in
    laws.fitting_all g (sym (headed (goal.at.returns c).After-any_above) ∙ c.if-any_above.false) (omega (arith, laws.too_wide_by g c.top_of-top.result c.top_of-top.ensures, f))
