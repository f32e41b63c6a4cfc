-- The same for a host of the static library: what its numbers are worth. Nothing is asked of the calls but their contracts, as the source
-- has them; a result is taken apart as include/uq.h does it.
use Rattle.std.specs.Prelude.{ℕ, ◌<◌, ◌≤◌, ◌/◌, ◌%◌, ◌≡◌, Bool, true, false, List, length, eqb}
use contract.Lifetimes.{Lfts}
use Rattle.std.specs.Borrow.{Bor, MutBor}
use Rattle.lists.specs.Tab.{over}
use Rattle.answer.specs.Answers.{told}
use Rattle.answer.specs.declared.Told.{Told}
use Rattle.image.specs.Layout.{image_bytes}
use Rattle.page.specs.Refusals.{page_answer, ending_count, ending_in}
use Rattle.lawful.specs.Demand3.{Bytes, PageHolds, PageLawful}
use Rattle.library.proofs.schedules.uq_count_endings.Reads as counting
use Rattle.library.proofs.schedules.uq_ending.Reads as writing
use Rattle.signed.specs.Signed.{ending_size}

-- uq_count_endings' contract allows the number r for the bytes s
abbrev pub CountsC : List ℕ → ℕ → Type 0
CountsC s r = (κs : Lfts 1) × (x : Bor (List ℕ)) × (x.now ≡ s) × counting.Post κs (x, tt) r (x, tt)

-- uq_ending's contract allows the number q for the bytes s, the ending k and a lent buffer that holds b before and z after it
abbrev pub WritesC : List ℕ → ℕ → List ℕ → ℕ → List ℕ → Type 0
WritesC s k b q z =
    (κs : Lfts 2) × (x : Bor (List ℕ)) × (y : MutBor (List ℕ)) × (y' : MutBor (List ℕ))
    × (x.now ≡ s) × (y.now ≡ b) × (y'.now ≡ z) × writing.Post κs (x, (k, (y, tt))) q (x, (k, (y', tt)))

-- a number whose lowest byte is 0: taken
pub record PageC (s : List ℕ) (r : ℕ) : Type 0 where
  pub count : r / 256 ≡ ending_count s
  pub holds : PageHolds s
  pub lawful : PageLawful s
  pub endings : (k : ℕ) → k < r / 256 → (b : List ℕ) → ending_size s ≤ length b
      → (q : ℕ) (z : List ℕ) → WritesC s k b q z → (q ≡ 0) × (z ≡ over b 0 (image_bytes (ending_in s k)))

-- either a refusal, with the paper's number and place, or a page
pub record SignedC (s : List ℕ) (r : ℕ) : Type 0 where
  pub refused : eqb (r % 256) 0 ≡ false → (r % 256 ≡ (told (page_answer s)).number) × (r / 256 ≡ (told (page_answer s)).place)
  pub taken : eqb (r % 256) 0 ≡ true → PageC s r

-- for every byte string, and every number that the contract allows
abbrev pub AllSignedC : Type 0
AllSignedC = (s : List ℕ) → Bytes s → (r : ℕ) → CountsC s r → SignedC s r
