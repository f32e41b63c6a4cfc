-- Every verdict on a history that is taken, as specs/Verdicts states it.
use Prim.Native.Nat.{ℕ, ◌≤◌, ◌<◌}
use mathlib.Core.Path.{◌≡◌, refl, sym, ap, subst, ◌∙◌}
use mathlib.Core.Bool.{Bool, true, false, not}
use mathlib.Core.List.{List, []}
use mathlib.Core.Logic.{◌↔◌}
use native.Mathlib.Omega.{arith}
use native.Mathlib.Decide.{dec_le}
use lib.ListN.{length}
use lib.Dec.{eqb, leb}
use borrow.Author.Tests.{leb-true, not-true}
use Rattle.lists.specs.Find.{pick, both}
use Rattle.lists.proofs.BoolLaws.{both_true, no_way}
use Rattle.answer.specs.Answers.{accepted}
use Rattle.lawful.specs.Operation.{Operation, says}
use Rattle.lawful.specs.Lawful.{at, Earlier}
use Rattle.judging.specs.History.{count_in, kind_at, began_at, ended_at, answer_at, item_at, first_in, last_in, operation_at, operations_in, kind_fits, time_fits, fits, history_answer}
use Rattle.judging.specs.Search.{Verdict, lawful, unlawful, undecided, Judged, judged, enough, judged_of, whole_search}
use Rattle.judging.specs.Judged.{judged_in}
use Rattle.judging.specs.Place.{Clear}
use Rattle.judging.proofs.Taken.{taken_of, operation_count, operation_is, answer_le, says_reply}
use Rattle.judging.proofs.Turns.{judged_taken}
use Rattle.judgeproof.specs.Verdicts.{IsLawful, whole_in, Verdicts, EveryVerdict}
use Rattle.judgeproof.proofs.Orders as orders
use Rattle.judgeproof.proofs.Exactly as exactly

-- rule 13: an answer is not before its own begin
in_time : (s : List ℕ) (k : ℕ) → fits s k ≡ true → answer_at s k ≤ 5 → says (operation_at s k).reply ≡ true → ended_at s k < began_at s k → ⊥
unfolding fits time_fits
in_time s k e n y l = by (eqb (answer_at s k) 0) refl (both_true (kind_fits (kind_at s k) (answer_at s k)) (pick (eqb (answer_at s k) 0) (eqb (ended_at s k) 0) (leb (began_at s k) (ended_at s k))) e).1
  where
    by : (b : Bool) → eqb (answer_at s k) 0 ≡ b → pick b (eqb (ended_at s k) 0) (leb (began_at s k) (ended_at s k)) ≡ true → ⊥
    by true a t = let z = sym y ∙ says_reply (answer_at s k) (item_at s k) n ∙ ap not a in no_way z
    by false a t = omega (arith, leb-true (began_at s k) (ended_at s k) t)

kind_fits_lem : (s : List ℕ) (k : ℕ) → fits s k ≡ true → kind_fits (kind_at s k) (answer_at s k) ≡ true
unfolding fits
kind_fits_lem s k e = (both_true (kind_fits (kind_at s k) (answer_at s k)) (time_fits (answer_at s k) (began_at s k) (ended_at s k)) e).0

sane : (s : List ℕ) → Clear s → orders.Sane (operations_in s) (first_in s) (last_in s)
sane s c k h w =
    let l : k < count_in s = omega (arith, operation_count s) in
    let v : Earlier (operation_at s k) (operation_at s k) = subst (λ (o : Operation). Earlier o o) (operation_is s k l) w in
    in_time s k (c k l) (answer_le (kind_at s k) (answer_at s k) (kind_fits_lem s k (c k l))) v.0 v.1

pub every_verdict : EveryVerdict
every_verdict s t = record {
  shown = λ e. (orders.sound (operations_in s) (first_in s) (last_in s) enough (back e), orders.sound_order (operations_in s) (first_in s) (last_in s) enough (back e) ∙ ap (λ (r : Judged). r.order) (sym j));
  unlawful_exactly = (λ e. (exactly.unlawful_exactly (operations_in s) (last_in s) (first_in s) z).0 (back e), λ p. there ((exactly.unlawful_exactly (operations_in s) (last_in s) (first_in s) z).1 p));
  undecided_exactly = (
    λ e. (exactly.undecided_only (operations_in s) (last_in s) (first_in s) z (back e)).0,
    λ h. there (ap (λ (r : Judged). r.verdict) (exactly.many (operations_in s) (last_in s) (first_in s) z h)),
  );
  undecided_tries = λ e. ap (λ (r : Judged). r.tries) j ∙ (exactly.undecided_only (operations_in s) (last_in s) (first_in s) z (back e)).1;
  decided = λ h. j ∙ exactly.few (operations_in s) (last_in s) (first_in s) z h;
}
  where
    j : judged_in s ≡ judged_of (operations_in s) (first_in s) (last_in s)
    j = judged_taken s t

    z : orders.Sane (operations_in s) (first_in s) (last_in s)
    z = sane s (taken_of s t).1

    back : {v : Verdict} → (judged_in s).verdict ≡ v → (judged_of (operations_in s) (first_in s) (last_in s)).verdict ≡ v
    back e = ap (λ (r : Judged). r.verdict) (sym j) ∙ e

    there : {v : Verdict} → (judged_of (operations_in s) (first_in s) (last_in s)).verdict ≡ v → (judged_in s).verdict ≡ v
    there e = ap (λ (r : Judged). r.verdict) j ∙ e
