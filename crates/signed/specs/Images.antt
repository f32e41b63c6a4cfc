-- Images as the calls read and write them, and the bytes of an ending. Nothing is asked of the calls but their contracts, as the source has them.
use Rattle.std.specs.Prelude.{ℕ, ◌<◌, ◌≤◌, ◌≡◌, true, List, length, take, Result, Ok}
use contract.Lifetimes.{Lfts}
use Rattle.std.specs.Borrow.{Bor, MutBor}
use Rattle.answer.specs.Answers.{accepted, Answer}
use Rattle.answer.specs.declared.Refusal.{Refusal}
use Rattle.image.specs.declared.Image.{Image}
use Rattle.page.specs.Refusals.{page_answer, ending_count, ending_in}
use Rattle.lawful.specs.Demand3.{Bytes}
use Rattle.codec.proofs.read_image.Reads as reading
use Rattle.codec.proofs.write_image.Reads as writing
use Rattle.signed.specs.Signed.{Writes, ending_size}

-- read_image's contract allows the result r for the bytes s
abbrev pub ReadsAs : List ℕ → Result Image Refusal → Type 0
ReadsAs s r = (κs : Lfts 1) × (x : Bor (List ℕ)) × (x.now ≡ s) × reading.Post κs (x, tt) r (x, tt)

-- write_image's contract allows the answer a for the contents g and a lent buffer that holds b before and z after it
abbrev pub WritesAs : Image → List ℕ → Answer → List ℕ → Type 0
WritesAs g b a z =
    (κs : Lfts 1) × (y : MutBor (List ℕ)) × (y' : MutBor (List ℕ)) × (y.now ≡ b) × (y'.now ≡ z) × writing.Post κs (g, (y, tt)) a (g, (y', tt))

-- ---- the bytes of an ending

-- ending k, written into a lent buffer and read from there, is taken, and is ending k
abbrev pub ReadsBack : List ℕ → Type 0
ReadsBack s = (k : ℕ) → k < ending_count s → (b : List ℕ) → ending_size s ≤ length b → (a : Answer) (z : List ℕ) → Writes s k b a z
    → (r : Result Image Refusal) → ReadsAs (take (ending_size s) z) r → r ≡ Ok (ending_in s k)

-- two endings differ in their bytes
abbrev pub BytesApart : List ℕ → Type 0
BytesApart s = (j k : ℕ) → j < ending_count s → k < ending_count s → (b b' : List ℕ) → ending_size s ≤ length b → ending_size s ≤ length b'
    → (a a' : Answer) (z z' : List ℕ) → Writes s j b a z → Writes s k b' a' z' → take (ending_size s) z ≡ take (ending_size s) z' → j ≡ k

-- of every page that is not refused
abbrev pub AllEndings : Type 0
AllEndings = (s : List ℕ) → Bytes s → accepted (page_answer s) ≡ true → ReadsBack s × BytesApart s
