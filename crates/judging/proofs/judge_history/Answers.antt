use mathlib.Core.Path.{sym, ap, ◌∙◌}
use native.Mathlib.Omega.{arith}
use Rattle.answer.proofs.Results.{went_on, gave_none, gave}
use Rattle.std.specs.Prelude.{Ok}
use Rattle.judging.specs.History.{history_answer}
use Rattle.judging.specs.Judged.{said_of, judged_in}
use Rattle.judging.proofs.Taken.{whole_of, taken_of, sized_answer}
use Rattle.judging.proofs.Turns.{judged_taken}
use Rattle.judging.proofs.judge_history.Goals as goal

pub returns-then-not-is_sized : goal.returns-then-not-is_sized
unfolding history_answer
returns-then-not-is_sized c = rw (← c.is_sized.ensures, c.if-not-is_sized.true)

pub invariant_of-history : goal.invariant_of-history
invariant_of-history c = record {
  whole = whole_of c.args.h.now (sym c.is_sized.ensures ∙ c.if-not-is_sized.false);
  in_range = λ i. omega (arith, c.type_inv.h i);
}

pub returns-in_err-check : goal.returns-in_err-check
returns-in_err-check c =
    let s = c.args.h.now in
    let a = c.check.ensures ∙ sym (sized_answer s (sym c.is_sized.ensures ∙ c.if-not-is_sized.false)) in
    gave_none (said_of (judged_in s)) a c.in_err-check.was c.from_residual.ensures.1

pub judged-requires : goal.judged-requires
judged-requires c =
    let s = c.args.h.now in
    let a = c.check.ensures ∙ sym (sized_answer s (sym c.is_sized.ensures ∙ c.if-not-is_sized.false)) in
    (taken_of s (went_on a c.in_ok-check.was)).1

pub returns : goal.returns
returns c =
    let s = c.args.h.now in
    let a = c.check.ensures ∙ sym (sized_answer s (sym c.is_sized.ensures ∙ c.if-not-is_sized.false)) in
    ap Ok (c.judged.ensures ∙ sym (ap said_of (judged_taken s (went_on a c.in_ok-check.was)))) ∙ gave (said_of (judged_in s)) a c.in_ok-check.was
