use Prim.Native.Nat.{ℕ, ◌≤◌}
use mathlib.Core.Path.{◌≡◌, refl, sym, ap, ◌∙◌}
use native.Mathlib.Omega.{arith}
use lib.ListN.{length, take}
use borrow.Author.Tests.{lt-ltb, le-ltb}
use Rattle.std.specs.Prelude.{Ok, Err}
use Rattle.lists.specs.Tab.{over}
use Rattle.answer.specs.Answers.{Answer, accepted, given, Taken}
use Rattle.answer.proofs.Results.{came_back, given_taken, given_refused, handed_none}
use Rattle.judging.specs.History.{count_in, history_answer}
use Rattle.judging.specs.Judged.{verdict_number, number_of, said_of, judged_in}
use Rattle.judging.specs.Search as S
use Rattle.judging.specs.declared.Judgement.{Judgement}
use Rattle.judging.proofs.Taken.{taken_of}
use Rattle.judging.proofs.Small.{judged_small}
use Rattle.judging.specs.Judged.{verdict_in}
use Rattle.calls.specs.Judging.{verdict_of, judge_value}
use Rattle.calls.proofs.Laws as laws
use Rattle.historycalls.proofs.judged.Goals as goal

-- the code's verdict has the number of the definition's
same_number : (v : S.Verdict) → verdict_number (verdict_in v) ≡ number_of v
same_number S.unlawful = refl
same_number S.lawful = refl
same_number S.undecided = refl

pub returns-in_err-r-clause-answers : goal.returns-in_err-r-clause-answers
returns-in_err-r-clause-answers c =
    let s = c.args.history.now in
    let v = judge_value (judged_in s) in
    let a = laws.judge_refused s (length c.args.order.now) (came_back refl (given_refused (history_answer s) (said_of (judged_in s)) c.judge_history.ensures c.in_err-r.was)) in
    handed_none (history_answer s) (said_of (judged_in s)) v c.judge_history.ensures c.in_err-r.was c.from_residual.ensures.1 ∙ ap (λ (x : Answer). given x v) (sym a)

pub returns-in_err-r-clause-written : goal.returns-in_err-r-clause-written
returns-in_err-r-clause-written c =
    let s = c.args.history.now in
    let b = c.args.order.now in
    let n = came_back refl (given_refused (history_answer s) (said_of (judged_in s)) c.judge_history.ensures c.in_err-r.was) in
    sym (laws.judge_stays s b (ap accepted (laws.judge_refused s (length b) n) ∙ n))

pub bounds-history-0 : goal.bounds-history-0
bounds-history-0 c =
    let s = c.args.history.now in
    let g = given_taken (history_answer s) (said_of (judged_in s)) c.judge_history.ensures c.in_ok-r.was in
    omega (arith, (taken_of s g.0).0.size)

pub returns-then-order-history-clause-answers : goal.returns-then-order-history-clause-answers
returns-then-order-history-clause-answers c =
    let s = c.args.history.now in
    let b = c.args.order.now in
    let g = given_taken (history_answer s) (said_of (judged_in s)) c.judge_history.ensures c.in_ok-r.was in
    ap (λ (x : Answer). given x (judge_value (judged_in s))) (sym (laws.judge_short s (length b) g.0 (lt-ltb (length b) (count_in s) c.if-order-history.true)))

pub returns-then-order-history-clause-written : goal.returns-then-order-history-clause-written
returns-then-order-history-clause-written c =
    let s = c.args.history.now in
    let b = c.args.order.now in
    let g = given_taken (history_answer s) (said_of (judged_in s)) c.judge_history.ensures c.in_ok-r.was in
    sym (laws.judge_stays s b (ap accepted (laws.judge_short s (length b) g.0 (lt-ltb (length b) (count_in s) c.if-order-history.true))))

pub put_order-requires : goal.put_order-requires
put_order-requires c =
    let s = c.args.history.now in
    let g = given_taken (history_answer s) (said_of (judged_in s)) c.judge_history.ensures c.in_ok-r.was in
    let n = ap (λ (r : Judgement). r.count) g.1 in
    (omega (arith, n, (judged_small s).order, (taken_of s g.0).0.count), omega (arith, n, (judged_small s).order, c.if-order-history.false))

pub returns-clause-answers : goal.returns-clause-answers
returns-clause-answers c =
    let s = c.args.history.now in
    let b = c.args.order.now in
    let j = judged_in s in
    let g = given_taken (history_answer s) (said_of j) c.judge_history.ensures c.in_ok-r.was in
    let w = laws.judge_taken s (length b) g.0 (le-ltb (length b) (count_in s) c.if-order-history.false) in
    let e = ap (λ (r : Judgement). verdict_of r.tries (verdict_number r.verdict) r.count) g.1 ∙ ap (λ (k : ℕ). verdict_of j.tries k (length j.order)) (same_number j.verdict) in
    ap Ok (c.verdict_of.ensures.0 ∙ ap (λ (k : ℕ). verdict_of c.in_ok-r.r.tries k c.in_ok-r.r.count) c.from.ensures ∙ e) ∙ ap (λ (x : Answer). given x (judge_value j)) (sym w)

pub returns-clause-written : goal.returns-clause-written
returns-clause-written c =
    let s = c.args.history.now in
    let b = c.args.order.now in
    let j = judged_in s in
    let g = given_taken (history_answer s) (said_of j) c.judge_history.ensures c.in_ok-r.was in
    let w = laws.judge_taken s (length b) g.0 (le-ltb (length b) (count_in s) c.if-order-history.false) in
    c.put_order.ensures
    ∙ ap (over b 0) (laws.order_front j.order c.in_ok-r.r.order c.in_ok-r.r.count (ap (λ (r : Judgement). r.count) g.1) (ap (λ (r : Judgement). r.order) g.1))
    ∙ sym (laws.judge_goes s b (ap accepted w))
