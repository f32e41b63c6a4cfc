-- When each verdict on a history is said, for every byte string that is one.
use Rattle.std.specs.Prelude.{ℕ, ◌<◌, ◌≤◌, ◌≡◌, true, List, ◌↔◌}
use Rattle.answer.specs.Answers.{accepted}
use Rattle.lawful.specs.Lawful as L
use Rattle.judging.specs.History.{first_in, last_in, operations_in, history_answer}
use Rattle.judging.specs.Search.{Verdict, lawful, unlawful, undecided, Judged, whole_search}
use Rattle.judging.specs.Judged.{judged_in}

-- 01's meaning of lawful, of the history that the bytes are
abbrev pub IsLawful : List ℕ → Type 0
IsLawful s = L.Lawful (operations_in s) (first_in s) (last_in s)

-- the search carried to its end
abbrev pub whole_in : List ℕ → Judged
whole_in s = whole_search (operations_in s) (first_in s) (last_in s)

pub record Verdicts (s : List ℕ) : Type 0 where
  -- "Lawful comes with an order that shows it."
  pub shown : (judged_in s).verdict ≡ lawful → (w : IsLawful s) × (w.order ≡ (judged_in s).order)
  -- "Unlawful is said exactly when no order exists and the search, carried to its end, tries fewer than 1,000,001 operations."
  pub unlawful_exactly : ((judged_in s).verdict ≡ unlawful) ↔ ((¬ IsLawful s) × ((whole_in s).tries < 1000001))
  -- "Undecided is said only when a further one would be needed": then, and after a million tries
  pub undecided_exactly : ((judged_in s).verdict ≡ undecided) ↔ (1000000 < (whole_in s).tries)
  pub undecided_tries : (judged_in s).verdict ≡ undecided → (judged_in s).tries ≡ 1000000
  -- otherwise verdict, tries and order are those of the search carried to its end
  pub decided : (whole_in s).tries ≤ 1000000 → judged_in s ≡ whole_in s

abbrev pub EveryVerdict : Type 0
EveryVerdict = (s : List ℕ) → accepted (history_answer s) ≡ true → Verdicts s
