use Prim.Native.Nat.{◌<◌}
use mathlib.Core.Path.{refl, sym, ap, ◌∙◌}
use native.Mathlib.Omega.{arith}
use Rattle.std.specs.Prelude.{Ok}
use Rattle.answer.specs.Answers.{given}
use Rattle.answer.proofs.Results.{came_back, passed_on}
use Rattle.machine.specs.Line.{shape_of, line_count}
use Rattle.pages.specs.Lines.{line_shown}
use Rattle.runs.proofs.PageLaws as pages
use Rattle.pages.proofs.LineLaws as laws
use Rattle.pages.proofs.lines.line_contents.Goals as goal

pub returns-in_err-r : goal.returns-in_err-r
returns-in_err-r c =
    let s = c.args.s.now in
    let l = c.args.l in
    passed_on _ _ c.from_residual.ensures.1 ∙ ap (λ a. given a (line_shown s l)) (c.in_err-r.ensures ∙ laws.line_refused s l (came_back refl (sym c.in_err-r.ensures)))

pub lines_of-requires : goal.lines_of-requires
lines_of-requires c = rw c.shape.ensures (pages.page_small c.args.s.now c.in_ok-r.r c.in_ok-r.ensures).1

pub returns-then-lines_of-i : goal.returns-then-lines_of-i
returns-then-lines_of-i c =
    let s = c.args.s.now in
    let l = c.args.l in
    let e = rw c.shape.ensures at c.lines_of.ensures in
    rw (← laws.line_none s c.in_ok-r.r c.in_ok-r.ensures l (omega (arith, c.if-lines_of-i.true, e)))

pub bounds-r-i : goal.bounds-r-i
bounds-r-i c =
    let w = pages.page_small c.args.s.now c.in_ok-r.r c.in_ok-r.ensures in
    let e = rw c.shape.ensures at c.lines_of.ensures in
    omega (arith, c.if-lines_of-i.false, e, w.0, w.1)

pub shown-requires : goal.shown-requires
shown-requires c =
    let e = rw c.shape.ensures at c.lines_of.ensures in
    laws.line_few c.args.s.now c.in_ok-r.r c.in_ok-r.ensures c.args.l (omega (arith, c.if-lines_of-i.false, e))

pub returns : goal.returns
returns c =
    let s = c.args.s.now in
    let l = c.args.l in
    let e = rw c.shape.ensures at c.lines_of.ensures in
    let h : l < line_count (shape_of c.in_ok-r.r.machine) = omega (arith, c.if-lines_of-i.false, e) in
    rw (← laws.line_taken s c.in_ok-r.r c.in_ok-r.ensures l h, c.shown.ensures) (ap Ok (laws.line_shows s c.in_ok-r.r c.in_ok-r.ensures l h))
