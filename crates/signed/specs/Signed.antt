-- What a result of the count call is worth, whoever wrote the calls: nothing is asked of them but their contracts, as the source has them.
use Rattle.std.specs.Prelude.{ℕ, ◌<◌, ◌≤◌, ◌≡◌, List, length, Result, Ok, Err}
use contract.Lifetimes.{Lfts}
use Rattle.std.specs.Borrow.{Bor, MutBor}
use Rattle.lists.specs.Tab.{over}
use Rattle.answer.specs.Answers.{told, Answer, Taken}
use Rattle.answer.specs.declared.Told.{Told}
use Rattle.answer.specs.declared.Refusal.{Refusal}
use Rattle.image.specs.Form.{image_size}
use Rattle.image.specs.Layout.{image_bytes}
use Rattle.machine.specs.Line.{shape_of}
use Rattle.schedule.specs.Run.{Bench, Ran, ran}
use Rattle.page.specs.Refusals.{page_answer, ending_count, ending_in}
use Rattle.lawful.specs.Demand3.{Bytes, PageHolds, PageLawful}
use Rattle.pages.proofs.calls.count_endings.Reads as counting
use Rattle.pages.proofs.calls.ending_of.Reads as writing

-- what a result answers: taken, or its refusal
abbrev pub answered : Result ℕ Refusal → Answer
answered (Ok n) = Taken
answered (Err e) = Err e

-- the count call's contract allows the result r for the bytes s
abbrev pub Counts : List ℕ → Result ℕ Refusal → Type 0
Counts s r = (κs : Lfts 1) × (x : Bor (List ℕ)) × (x.now ≡ s) × counting.Post κs (x, tt) r (x, tt)

-- the ending call's contract allows the answer a for the bytes s, the ending k and a lent buffer that holds b before and z after it
abbrev pub Writes : List ℕ → ℕ → List ℕ → Answer → List ℕ → Type 0
Writes s k b a z =
    (κs : Lfts 2) × (x : Bor (List ℕ)) × (y : MutBor (List ℕ)) × (y' : MutBor (List ℕ))
    × (x.now ≡ s) × (y.now ≡ b) × (y'.now ≡ z) × writing.Post κs (x, (k, (y, tt))) a (x, (k, (y', tt)))

-- how many bytes an ending takes, by the shape of the schedule's machine
abbrev pub ending_size : List ℕ → ℕ
ending_size s = image_size (shape_of (ran s).bench.machine)

-- a count that was given
pub record Page (s : List ℕ) (n : ℕ) : Type 0 where
  pub count : n ≡ ending_count s
  pub holds : PageHolds s
  pub lawful : PageLawful s
  pub endings : (k : ℕ) → k < n → (b : List ℕ) → ending_size s ≤ length b
      → (a : Answer) (z : List ℕ) → Writes s k b a z → (a ≡ Taken) × (z ≡ over b 0 (image_bytes (ending_in s k)))

-- either a refusal, with the paper's number and place and no count, or a page
pub record Signed (s : List ℕ) (r : Result ℕ Refusal) : Type 0 where
  pub number : (told (answered r)).number ≡ (told (page_answer s)).number
  pub place : (told (answered r)).place ≡ (told (page_answer s)).place
  pub taken : (n : ℕ) → r ≡ Ok n → Page s n

-- for every byte string, and every result that the contract allows
abbrev pub AllSigned : Type 0
AllSigned = (s : List ℕ) → Bytes s → (r : Result ℕ Refusal) → Counts s r → Signed s r
