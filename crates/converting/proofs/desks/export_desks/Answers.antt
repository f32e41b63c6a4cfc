use mathlib.Core.Bool.{true, false}
use mathlib.Core.Path.{◌≡◌, refl, sym, ap, ◌∙◌}
use lib.ListN.{length}
use borrow.Author.Tests.{not-true, not-false}
use Rattle.answer.proofs.Results.{went_on, came_back, returned}
use Rattle.answer.specs.Answers.{told, accepted, Length, Mark, Threads}
use Rattle.image.specs.Form.{known}
use Rattle.image.specs.Refusals.{alone_answer}
use Rattle.image.proofs.ShapeLaws.{threads_range}
use Rattle.codec.proofs.Accepted as acc
use Rattle.converting.specs.Desks.{plain_answer}
use Rattle.converting.proofs.DeskLaws as laws
use Rattle.converting.proofs.desks.export_desks.Goals as goal
use Rattle.converting.proofs.desks.export_desks.Goals.{In_ok-check_alone}

-- the image is taken, and is of "UQI" version 1
taken : (c : In_ok-check_alone) → accepted (alone_answer c.args.s.now) ≡ true
taken c =
    went_on c.check_alone.ensures c.in_ok-check_alone.was

plain : (c : In_ok-check_alone) → accepted (plain_answer c.args.s.now) ≡ true
plain c =
    ap accepted (laws.plain_alone _ c.if-s-lt10.false (sym c.form_in.ensures ∙ c.if-form_in-ne1.false))
    ∙ taken c

pub returns-then-s-lt10 : goal.returns-then-s-lt10
returns-then-s-lt10 c = let e = laws.threads_stop c.args.s.now c.args.t Length (laws.plain_short c.args.s.now c.if-s-lt10.true) refl in record { answers = ap told (sym (laws.export_stop c.args.s.now c.args.t (length c.args.b.now) Length e refl)); bytes = sym (laws.exported_stop c.args.s.now c.args.t c.args.b.now Length e refl) }

pub returns-then-form_in-ne1 : goal.returns-then-form_in-ne1
returns-then-form_in-ne1 c = let e = laws.threads_stop c.args.s.now c.args.t Mark (laws.plain_mark c.args.s.now c.if-s-lt10.false (λ q. c.if-form_in-ne1.true (c.form_in.ensures ∙ q))) refl in record { answers = ap told (sym (laws.export_stop c.args.s.now c.args.t (length c.args.b.now) Mark e refl)); bytes = sym (laws.exported_stop c.args.s.now c.args.t c.args.b.now Mark e refl) }

pub returns-in_err-check_alone : goal.returns-in_err-check_alone
returns-in_err-check_alone c =
    let x = alone_answer c.args.s.now in
    let h : accepted x ≡ false = came_back c.check_alone.ensures c.in_err-check_alone.was in
    let e = laws.threads_stop c.args.s.now c.args.t x (laws.plain_alone c.args.s.now c.if-s-lt10.false (sym c.form_in.ensures ∙ c.if-form_in-ne1.false)) h in record { answers = ap told (returned c.check_alone.ensures c.in_err-check_alone.was c.from_residual.ensures.1 ∙ sym (laws.export_stop c.args.s.now c.args.t (length c.args.b.now) x e h)); bytes = sym (laws.exported_stop c.args.s.now c.args.t c.args.b.now x e h) }

pub returns-then-not-threads_fit : goal.returns-then-not-threads_fit
returns-then-not-threads_fit c = let e = laws.threads_no c.args.s.now c.args.t (plain (goal.at.returns-then-not-threads_fit c).In_ok-check_alone) (sym c.threads_fit.ensures ∙ not-true c.threads_fit.result c.if-not-threads_fit.true-raw) in record { answers = ap told (sym (laws.export_stop c.args.s.now c.args.t (length c.args.b.now) Threads e refl)); bytes = sym (laws.exported_stop c.args.s.now c.args.t c.args.b.now Threads e refl) }

pub put_as-requires : goal.put_as-requires
unfolding known
put_as-requires c =
    let f = sym c.threads_fit.ensures ∙ not-false c.threads_fit.result c.if-not-threads_fit.false-raw in
    record { lies = (acc.alone_taken _ (taken (goal.at.put_as-requires c).In_ok-check_alone)).lies; form = refl; threads = (threads_range _ f).1 }

pub returns : goal.returns
returns c = let e = laws.threads_yes c.args.s.now c.args.t (plain (goal.at.returns c).In_ok-check_alone) (sym c.threads_fit.ensures ∙ not-false c.threads_fit.result c.if-not-threads_fit.false-raw) in record { answers = ap told (c.put_as.ensures.answers ∙ sym (laws.export_then c.args.s.now c.args.t (length c.args.b.now) e)); bytes = c.put_as.ensures.bytes ∙ sym (laws.exported_then c.args.s.now c.args.t c.args.b.now e) }
