use Rattle.image.specs.Layout.{no_content}
use Prim.Native.Nat.{◌-◌}
use mathlib.Core.Path.{refl, sym, ap, ◌∙◌}
use native.Mathlib.Omega.{arith}
use borrow.Author.Tests.{ltb-true, ltb-false}
use Rattle.std.proofs.lemmas.List.{get_or_read_under}
use Rattle.machine.specs.Record.{kept}
use Rattle.image.specs.Form.{head_lines}
use Rattle.endtable.proofs.Openings as laws
use Rattle.endtable.proofs.opened.persisted_at.Goals as goal

pub returns-then-l-lines : goal.returns-then-l-lines
returns-then-l-lines c = c.of_head.ensures ∙ laws.persisted_head c.args.m.now c.args.l (omega (arith, c.head_lines-lines.ensures, ap head_lines c.shape.ensures))

pub returns-in-Some : goal.returns-in-Some
returns-in-Some c =
    (get_or_read_under c.args.m.now.kept (c.args.l - c.head_lines-lines.result) _ _ no_content c.in-Some.ensures.lookup.1 (ltb-true _ _ (sym c.in-Some.ensures.lookup.0)) refl)
    ∙ ap (λ x. kept c.args.m.now (c.args.l - x)) (c.head_lines-lines.ensures ∙ ap head_lines c.shape.ensures) ∙ laws.persisted_node c.args.m.now c.args.l (omega (arith, c.head_lines-lines.ensures, ap head_lines c.shape.ensures))

pub returns-in-None : goal.returns-in-None
returns-in-None c =
    c.of_head-in-None.ensures ∙ laws.kept_none c.args.m.now.kept (c.args.l - c.head_lines-lines.result) (ltb-false _ _ (sym c.in-None.ensures.lookup.0))
    ∙ ap (λ x. kept c.args.m.now (c.args.l - x)) (c.head_lines-lines.ensures ∙ ap head_lines c.shape.ensures) ∙ laws.persisted_node c.args.m.now c.args.l (omega (arith, c.head_lines-lines.ensures, ap head_lines c.shape.ensures))
