use native.Mathlib.Omega.{arith}
use lib.ListN.{length}
use Rattle.judging.specs.Judged.{judged_in}
use Rattle.judging.proofs.Small.{judged_small}
use Rattle.judging.proofs.Turns.{number_le}
use Rattle.calls.specs.Judging.{judge_value, judge_answered}
use Rattle.calls.proofs.Gives as gives
use Rattle.historycalls.proofs.judge.Goals as goal

pub packed_result-requires : goal.packed_result-requires
packed_result-requires c =
    let s = c.args.history.now in
    gives.small (judge_answered s (length c.args.order.now)) (judge_value (judged_in s)) c.judged.ensures.answers
    (omega (arith, (judged_small s).tries, (judged_small s).order, number_le (judged_in s).verdict, c.type_inv.history 0))

pub returns-clause-answers : goal.returns-clause-answers
returns-clause-answers c =
    let s = c.args.history.now in
    gives.packs (judge_answered s (length c.args.order.now)) (judge_value (judged_in s)) c.packed_result.ensures c.judged.ensures.answers
