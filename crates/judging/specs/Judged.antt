-- What the judge gives back for the bytes of a history.
use Rattle.std.specs.Prelude.{ℕ, List, [], length}
use Rattle.lists.specs.Find.{pick}
use Rattle.answer.specs.Answers.{accepted}
use Rattle.judging.specs.History.{first_in, last_in, operations_in, history_answer}
use Rattle.judging.specs.Search as S
use Rattle.judging.specs.Search.{Judged, judged, enough, searched, asked, judged_of}
use Rattle.judging.specs.Place.{no_bytes, padded, order_in, queue_in}
use Rattle.judging.specs.declared.Place.{Place}
use Rattle.judging.specs.declared.Judgement.{Judgement}
use Rattle.judging.specs.declared.Verdict.{Verdict}
use Rattle.judging.specs.declared.Verdict.TheVariants.{Lawful, Unlawful, Undecided}

-- 0 unlawful, 1 lawful, 2 undecided
abbrev pub verdict_number : Verdict → ℕ
verdict_number Unlawful = 0
verdict_number Lawful = 1
verdict_number Undecided = 2

abbrev pub number_of : S.Verdict → ℕ
number_of S.unlawful = 0
number_of S.lawful = 1
number_of S.undecided = 2

-- the judge's verdict as the code has it
abbrev pub verdict_in : S.Verdict → Verdict
verdict_in S.unlawful = Unlawful
verdict_in S.lawful = Lawful
verdict_in S.undecided = Undecided

-- a verdict with its order in sixteen places
abbrev pub said_of : Judged → Judgement
said_of r = record { verdict = verdict_in r.verdict; tries = r.tries; count = length r.order; order = padded r.order }

-- a verdict with no order, and one with the order of a place
abbrev pub said_none : Verdict → ℕ → Judgement
said_none v t = record { verdict = v; tries = t; count = 0; order = no_bytes }

abbrev pub said_at : Place → ℕ → Judgement
said_at x t = record { verdict = Lawful; tries = t; count = x.count; order = x.order }

-- the search from a place on, m operations not yet taken; and where it is not finished there, k candidates from i on
unfoldable pub searched_at : List ℕ → ℕ → Place → ℕ → Judged
searched_at s m x t = searched enough (operations_in s) (last_in s) m (order_in x) (queue_in s x) t

unfoldable pub asked_at : List ℕ → ℕ → ℕ → Place → ℕ → ℕ → Judged
asked_at s m k x i t = asked enough (operations_in s) (last_in s) m k (order_in x) (queue_in s x) i t

-- the verdict on the history that the bytes are; beside a refusal unlawful, with no tries and no order
unfoldable pub judged_in : List ℕ → Judged
judged_in s = pick (accepted (history_answer s)) (judged_of (operations_in s) (first_in s) (last_in s)) (judged S.unlawful 0 [])
