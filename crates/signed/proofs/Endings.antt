-- The bytes of an ending: taken by read_image, read back as that ending, and no other ending's.
use Prim.Native.Nat.{ℕ, ◌≤◌, ◌<◌}
use mathlib.Core.Path.{◌≡◌, sym, ap, ◌∙◌}
use mathlib.Core.Bool.{true}
use mathlib.Core.List.{List}
use lib.ListN.{length, take}
use Rattle.answer.specs.Answers.{accepted, given, Answer}
use Rattle.image.specs.Layout.{image_bytes}
use Rattle.image.specs.Refusals.{read_image, Read}
use Rattle.page.specs.Refusals.{page_answer, ending_count, ending_in, ending_written}
use Rattle.lawful.specs.Demand3.{Bytes}
use Rattle.pageproof.proofs.Holds.{page_holds}
use Rattle.endread.proofs.Bytes.{bytes_read, bytes_front}
use Rattle.signed.specs.Signed.{Writes, ending_size}
use Rattle.signed.specs.Images.{ReadsAs, ReadsBack, BytesApart, AllEndings}
use Rattle.signed.proofs.Images.{reads_is}

-- what the call leaves in the first bytes of a lent buffer
bytes_are : (s : List ℕ) → Bytes s → accepted (page_answer s) ≡ true → (k : ℕ) → k < ending_count s
    → (b : List ℕ) → ending_size s ≤ length b → (a : Answer) (z : List ℕ) → Writes s k b a z → take (ending_size s) z ≡ image_bytes (ending_in s k)
bytes_are s bytes h k lt b l a z (κs, x, y, y', e, f, g, p) =
    ap (take (ending_size s)) (sym g ∙ p.1 ∙ ap (λ (t : List ℕ). ending_written t k y.now) e ∙ ap (λ (t : List ℕ). ending_written s k t) f)
    ∙ bytes_front s bytes h k lt b l

-- ---- the theorem

reads_back : (s : List ℕ) → Bytes s → accepted (page_answer s) ≡ true → ReadsBack s
reads_back s bytes h k lt b l a z w r p =
    reads_is (take (ending_size s) z) r p
    ∙ ap (λ (x : Read). given x.answer x.image) (ap read_image (bytes_are s bytes h k lt b l a z w) ∙ bytes_read s bytes h k lt)

bytes_apart : (s : List ℕ) → Bytes s → accepted (page_answer s) ≡ true → BytesApart s
bytes_apart s bytes h j k p q b b' l l' a a' z z' w w' e =
    let o = sym (bytes_are s bytes h j p b l a z w) ∙ e ∙ bytes_are s bytes h k q b' l' a' z' w' in
    let g : ending_in s j ≡ ending_in s k = ap (λ (x : Read). x.image) (sym (bytes_read s bytes h j p) ∙ ap read_image o ∙ bytes_read s bytes h k q) in
    (page_holds s bytes h).1 j k p q g

pub all_endings : AllEndings
all_endings s bytes h = (reads_back s bytes h, bytes_apart s bytes h)
