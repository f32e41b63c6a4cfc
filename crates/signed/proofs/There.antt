-- The hypotheses of the theorems at the top are met: for every list there are results that the contracts allow.
use Prim.Native.Nat.{ℕ}
use mathlib.Core.Path.{refl}
use mathlib.Core.List.{List}
use contract.Lifetimes.{Lfts}
use denote.MutBor.{MutBor}
use denote.Ref.{Bor}
use lib.ListN.{length}
use Rattle.answer.specs.Answers.{given}
use Rattle.page.specs.Refusals.{page_answer, ending_answer, ending_written}
use Rattle.runs.specs.Paged.{count_of}
use Rattle.calls.specs.Calls.{endings_counted, ending_given}
use Rattle.signed.specs.Signed.{Counts, Writes}
use Rattle.signed.specs.Called.{CountsC, WritesC}

abbrev lent : List ℕ → Bor (List ℕ)
lent s = record { ref_ptr = (0, 0); now = s }

abbrev lent_mut : List ℕ → MutBor (List ℕ)
lent_mut s = record { ref_ptr = (0, 0); ghost_name = 0; now = s }

pub counts_there : Lfts 1 → (s : List ℕ) → Counts s (given (page_answer s) (count_of s))
counts_there κs s = (κs, lent s, refl, refl)

pub writes_there : Lfts 2 → (s : List ℕ) (k : ℕ) (b : List ℕ) → Writes s k b (ending_answer s k (length b)) (ending_written s k b)
writes_there κs s k b = (κs, lent s, lent_mut b, lent_mut (ending_written s k b), refl, refl, refl, (refl, refl))

pub counts_there_c : Lfts 1 → (s : List ℕ) → CountsC s (endings_counted s)
counts_there_c κs s = (κs, lent s, refl, refl)

pub writes_there_c : Lfts 2 → (s : List ℕ) (k : ℕ) (b : List ℕ) → WritesC s k b (ending_given s k (length b)) (ending_written s k b)
writes_there_c κs s k b = (κs, lent s, lent_mut b, lent_mut (ending_written s k b), refl, refl, refl, (refl, refl))
