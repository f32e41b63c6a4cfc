-- No ending of an accepted schedule is ever judged unlawful: by demand 3 it is lawful, and a lawful history is never judged so.
use Prim.Native.Nat.{ℕ, ◌+◌, ◌^◌, ◌<◌, ◌≤◌, ◌/◌, ◌%◌}
use mathlib.Core.Path.{◌≡◌, refl, sym, ap, subst, ◌∙◌}
use mathlib.Core.Bool.{Bool, true, false}
use mathlib.Core.List.{List, []}
use mathlib.Core.Logic.{◌≢◌}
use native.Mathlib.Omega.{arith}
use lib.ListN.{length}
use borrow.Author.Tests.{le-ltb}
use Rattle.lists.proofs.TabLaws.{length_tab}
use Rattle.std.specs.Prelude.{Result, Ok}
use Rattle.answer.specs.Answers.{told, accepted, given, Answer, Taken}
use Rattle.answer.specs.declared.Refusal.{Refusal}
use Rattle.answer.specs.declared.Told.{Told}
use Rattle.image.proofs.ByteLaws.{at_small}
use Rattle.schedule.specs.Layout.{count_in, event_in, events_in, threads_in, schedule_in}
use Rattle.schedule.specs.Run.{Bench, Ran, ran}
use Rattle.page.specs.Refusals.{page_answer, ending_count, ending_in}
use Rattle.lawful.specs.Operation.{Operation}
use Rattle.lawful.specs.Lawful as L
use Rattle.lawful.specs.Demand3.{Bytes, first_queue}
use Rattle.judging.specs.History as history
use Rattle.judging.specs.History.{history_answer}
use Rattle.judging.specs.Search as S
use Rattle.judging.specs.Judged.{verdict_number, verdict_in, number_of, said_of, judged_in}
use Rattle.judging.specs.declared.Judgement.{Judgement}
use Rattle.judging.specs.declared.Verdict.{Verdict}
use Rattle.judging.specs.declared.Verdict.TheVariants.{Unlawful}
use Rattle.judgeproof.specs.Written.{history_bytes}
use Rattle.judgeproof.proofs.InTime.{InTime, AllInTime, run_in_time, in_time_at, lawful_fits}
use Rattle.judgeproof.proofs.Written.{Ordinary}
use Rattle.judgeproof.proofs.Never.{written_taken, never_unlawful}
use Rattle.calls.specs.Packed.{packed}
use Rattle.calls.specs.Judging.{judge_value, judge_answered, judge_given}
use Rattle.calls.proofs.Apart.{number_back}
use Rattle.calls.proofs.Laws.{judge_taken}
use Rattle.library.proofs.Whole.{given_verdict}
use Rattle.tied.proofs.Schedules.{schedule_starts, schedule_narrow}
use Rattle.lawproof.proofs.Short.{start_short, first_short}
use Rattle.lawproof.proofs.Lawful3.{page_parts, page_lawful}
use Rattle.signed.specs.Judged.{operations_of, last_queue, history_of, Judges, JudgesC, NeverUnlawful, AllNeverUnlawful}

not_unlawful : (v : S.Verdict) → (v ≡ S.unlawful → ⊥) → verdict_in v ≢ Unlawful
not_unlawful S.unlawful f z = f refl
not_unlawful S.lawful f z = let n = ap verdict_number z in omega arith
not_unlawful S.undecided f z = let n = ap verdict_number z in omega arith

module _ (s : List ℕ) (bytes : Bytes s) (a : accepted (page_answer s) ≡ true) (k : ℕ) (lt : k < ending_count s) where
  lawful : L.Lawful (operations_of s) (first_queue s) (last_queue s k)
  lawful = (page_lawful s bytes a k lt).lawful

  -- an event's number has at most 16 bits
  few : length (events_in s) < 65536
  unfolding events_in
  few = omega (arith, length_tab (event_in s) (count_in s), at_small 2 s 6 bytes)

  in_time : (i : ℕ) → i < length (operations_of s) → InTime (0 + length (events_in s)) (L.at (operations_of s) i)
  in_time = in_time_at (0 + length (events_in s)) (operations_of s) (run_in_time 0 (events_in s) (ran s).replies [] tt)

  ordinary : Ordinary (operations_of s) (first_queue s) (last_queue s k)
  ordinary = record {
    began = λ i h. omega (arith, (in_time i h).began, few);
    ended = λ i h. omega (arith, (in_time i h).ended, few);
    kinds = lawful_fits (operations_of s) (first_queue s) (last_queue s k) lawful;
    times = λ i h. (in_time i h).fits;
  }

  first_few : length (first_queue s) ≤ 63
  unfolding ran schedule_in
  first_few =
      let p = page_parts s a in
      first_short (schedule_in s).image (schedule_in s).t (schedule_starts s bytes p.0) (schedule_narrow s bytes) (events_in s) p.1

  last_few : length (last_queue s k) ≤ 63
  last_few = start_short (ending_in s k) (threads_in s) (page_lawful s bytes a k lt).starts

  module _ (n : length (operations_of s) ≤ 16) where
    abbrev h : List ℕ
    h = history_of s k

    taken : history_answer h ≡ Taken
    taken = written_taken (operations_of s) (first_queue s) (last_queue s k) lawful ordinary n first_few last_few

    never : (judged_in h).verdict ≡ S.unlawful → ⊥
    never = never_unlawful (operations_of s) (first_queue s) (last_queue s k) lawful ordinary (ap accepted taken)

    not_zero : number_of (judged_in h).verdict ≢ 0
    not_zero e = by (judged_in h).verdict refl e
      where
        by : (v : S.Verdict) → (judged_in h).verdict ≡ v → number_of v ≡ 0 → ⊥
        by S.unlawful f z = never f
        by S.lawful f z = omega arith
        by S.undecided f z = omega arith

    -- with room for every number of the order
    taken_c : (room : ℕ) → 16 ≤ room → judge_answered h room ≡ Taken
    unfolding history_bytes
    taken_c room l = judge_taken h room (ap accepted taken) (le-ltb room (length (operations_of s)) (omega arith))

    pub never_judged : NeverUnlawful s k
    never_judged = record { judged = here; judged_c = there }
      where
        here : (r : Result Judgement Refusal) → Judges h r → (j : Judgement) × (r ≡ Ok j) × (j.verdict ≢ Unlawful)
        here r (κs, x, e, c) = (
          said_of (judged_in h),
          c ∙ ap (λ (y : List ℕ). given (history_answer y) (said_of (judged_in y))) e ∙ ap (λ (t : Answer). given t (said_of (judged_in h))) taken,
          not_unlawful (judged_in h).verdict never,
        )

        there : (b z : List ℕ) (q : ℕ) → 16 ≤ length b → JudgesC h b q z → (q % 256 ≡ 0) × (q / 256 / 16777216 % 256 ≢ 0)
        there b z q l (κs, x, y, y', e, f, g, c) = (
          ap (λ (v : ℕ). v % 256) is ∙ ap (λ (t : Answer). packed (told t) (judge_value (judged_in h)) % 256) ok
              ∙ number_back (told Taken) (judge_value (judged_in h)) (omega arith),
          λ u. not_zero (sym (given_verdict h (length b) (ap accepted ok)) ∙ ap (λ (v : ℕ). v / 256 / 16777216 % 256) (sym is) ∙ u),
        )
          where
            ok : judge_answered h (length b) ≡ Taken
            ok = taken_c (length b) l

            is : q ≡ judge_given h (length b)
            is = c.0 ∙ ap (λ (t : List ℕ). judge_given t (length y.now)) e ∙ ap (λ (t : List ℕ). judge_given h (length t)) f

pub never_unlawful_page : AllNeverUnlawful
never_unlawful_page s bytes a k lt n = never_judged s bytes a k lt n
