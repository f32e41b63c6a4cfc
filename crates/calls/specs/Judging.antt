-- What the call of the judge returns, and what it leaves in the lent bytes.
use Rattle.std.specs.Prelude.{ℕ, ◌+◌, ◌*◌, List, length, ltb}
use Rattle.lists.specs.Find.{pick}
use Rattle.lists.specs.Tab.{over}
use Rattle.answer.specs.Answers.{told, check, accepted, Answer, Taken, Room}
use Rattle.page.specs.Refusals.{and_then}
use Rattle.judging.specs.History.{count_in, history_answer}
use Rattle.judging.specs.Search.{Judged}
use Rattle.judging.specs.Judged.{number_of, judged_in}
use Rattle.calls.specs.Packed.{packed}

-- how many operations were tried; behind their 24 bits the verdict's number, and behind its eight how many numbers the order has
abbrev pub verdict_of : ℕ → ℕ → ℕ → ℕ
verdict_of tries verdict count = tries + verdict * 16777216 + count * 4294967296

abbrev pub judge_value : Judged → ℕ
judge_value r = verdict_of r.tries (number_of r.verdict) (length r.order)

-- the history's own refusals; then 17, where the buffer has fewer bytes than there are operations
unfoldable pub judge_answered : List ℕ → ℕ → Answer
judge_answered s room = and_then (history_answer s) (check (ltb room (count_in s)) Room Taken)

abbrev pub judge_given : List ℕ → ℕ → ℕ
judge_given s room = packed (told (judge_answered s room)) (judge_value (judged_in s))

-- the order in the first bytes
unfoldable pub judge_written : List ℕ → List ℕ → List ℕ
judge_written s b = pick (accepted (judge_answered s (length b))) (over b 0 (judged_in s).order) b
