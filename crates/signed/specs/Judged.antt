-- What the judge says of the page's own endings: the operations of a schedule since its last start, with the queue there and the queue that an
-- ending recovers to, are a history, and no ending of an accepted schedule is ever judged unlawful.
use Rattle.std.specs.Prelude.{ℕ, ◌<◌, ◌≤◌, ◌/◌, ◌%◌, ◌≡◌, true, List, [], ◌≢◌, length, Result, Ok}
use contract.Lifetimes.{Lfts}
use Rattle.std.specs.Borrow.{Bor, MutBor}
use Rattle.answer.specs.Answers.{accepted}
use Rattle.answer.specs.declared.Refusal.{Refusal}
use Rattle.machine.specs.Start.{start_of}
use Rattle.schedule.specs.Layout.{events_in, threads_in}
use Rattle.schedule.specs.Run.{Bench, Ran, ran}
use Rattle.page.specs.Refusals.{page_answer, ending_count, ending_in}
use Rattle.lawful.specs.Operation.{Operation, operations}
use Rattle.lawful.specs.Plain.{queue_in}
use Rattle.lawful.specs.Demand3.{Bytes, first_queue}
use Rattle.judging.specs.declared.Judgement.{Judgement}
use Rattle.judging.specs.declared.Verdict.TheVariants.{Unlawful}
use Rattle.judging.proofs.judge_history.Reads as judging
use Rattle.library.proofs.histories.uq_judge.Reads as judging_c
use Rattle.judgeproof.specs.Written.{history_bytes}

-- ---- the history that a schedule and an ending of it are

-- the operations begun after the last start, their begin and answer times the numbers of the events
abbrev pub operations_of : List ℕ → List Operation
operations_of s = operations 0 (events_in s) (ran s).replies []

-- the queue that ending k recovers to
abbrev pub last_queue : List ℕ → ℕ → List ℕ
last_queue s k = queue_in (start_of (ending_in s k) (threads_in s))

-- as bytes: the form that the judge reads
abbrev pub history_of : List ℕ → ℕ → List ℕ
history_of s k = history_bytes (operations_of s) (first_queue s) (last_queue s k)

-- ---- what the judge may say of it; nothing is asked of the calls but their contracts, as the source has them

-- judge_history's contract allows the result r for the bytes h
abbrev pub Judges : List ℕ → Result Judgement Refusal → Type 0
Judges h r = (κs : Lfts 1) × (x : Bor (List ℕ)) × (x.now ≡ h) × judging.Post κs (x, tt) r (x, tt)

-- uq_judge's contract allows the number q for the bytes h and a lent buffer that holds b before and z after it
abbrev pub JudgesC : List ℕ → List ℕ → ℕ → List ℕ → Type 0
JudgesC h b q z =
    (κs : Lfts 2) × (x : Bor (List ℕ)) × (y : MutBor (List ℕ)) × (y' : MutBor (List ℕ))
    × (x.now ≡ h) × (y.now ≡ b) × (y'.now ≡ z) × judging_c.Post κs (x, (y, tt)) q (x, (y', tt))

-- the history is taken, and neither call says unlawful (0, in the byte where include/uq.h finds a verdict)
pub record NeverUnlawful (s : List ℕ) (k : ℕ) : Type 0 where
  pub judged : (r : Result Judgement Refusal) → Judges (history_of s k) r → (j : Judgement) × (r ≡ Ok j) × (j.verdict ≢ Unlawful)
  pub judged_c : (b z : List ℕ) (q : ℕ) → 16 ≤ length b → JudgesC (history_of s k) b q z → (q % 256 ≡ 0) × (q / 256 / 16777216 % 256 ≢ 0)

-- for every byte string whose page is not refused and each of its endings, where there are no more operations than a history may have; the
-- queues are never longer than one may have
abbrev pub AllNeverUnlawful : Type 0
AllNeverUnlawful =
    (s : List ℕ) → Bytes s → accepted (page_answer s) ≡ true → (k : ℕ) → k < ending_count s
    → length (operations_of s) ≤ 16 → NeverUnlawful s k
