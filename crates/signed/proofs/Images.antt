-- Demand 2's round trips, said of whatever the calls' contracts allow.
use Prim.Native.Nat.{ℕ, ◌≤◌}
use mathlib.Core.Path.{◌≡◌, sym, ap, ◌∙◌}
use mathlib.Core.Bool.{true, false}
use mathlib.Core.List.{List, ◌++◌}
use lib.ListN.{length, take, drop}
use Rattle.std.specs.Prelude.{Result, Ok}
use Rattle.answer.specs.Answers.{accepted, given, Answer, Taken}
use Rattle.answer.specs.declared.Refusal.{Refusal}
use Rattle.answer.proofs.Results.{given_taken}
use Rattle.answer.proofs.Injective.{told_injective}
use Rattle.image.specs.Form.{image_size}
use Rattle.image.specs.Layout.{image_shape}
use Rattle.image.specs.Refusals.{read_image, write_answer, written, Read}
use Rattle.image.specs.declared.Image.{Image}
use Rattle.codec.proofs.ReadWrite.{read_written}
use Rattle.codec.proofs.WriteRead.{Items, trimmed, written_read}
use Rattle.lawful.specs.Demand3.{Bytes}
use Rattle.signed.specs.Images.{ReadsAs, WritesAs}

pub reads_is : (s : List ℕ) (r : Result Image Refusal) → ReadsAs s r → r ≡ given (read_image s).answer (read_image s).image
reads_is s r (κs, x, e, p) = p ∙ ap (λ (l : List ℕ). given (read_image l).answer (read_image l).image) e

pub writes_answer : (g : Image) (b : List ℕ) (a : Answer) (z : List ℕ) → WritesAs g b a z → a ≡ write_answer g (length b)
writes_answer g b a z (κs, y, y', e, f, p) = told_injective a (write_answer g (length y.now)) p.0 ∙ ap (λ (l : List ℕ). write_answer g (length l)) e

pub writes_bytes : (g : Image) (b : List ℕ) (a : Answer) (z : List ℕ) → WritesAs g b a z → z ≡ written g b
writes_bytes g b a z (κs, y, y', e, f, p) = sym f ∙ p.1 ∙ ap (λ (l : List ℕ). written g l) e

-- "An image read and written again is the same bytes"; the rest of the buffer stays
pub read_then_written :
    (s : List ℕ) (r : Result Image Refusal) (g : Image) (b : List ℕ) (a : Answer) (z : List ℕ) → Bytes s → ReadsAs s r → r ≡ Ok g → length s ≤ length b →
    WritesAs g b a z → (a ≡ Taken) × (z ≡ s ++ drop (length s) b)
read_then_written s r g b a z y p h l w =
    let e = given_taken (read_image s).answer (read_image s).image (reads_is s r p) h in
    let o = read_written s b y e.0 l in (
      writes_answer g b a z w ∙ ap (λ (x : Image). write_answer x (length b)) e.1 ∙ o.0,
      writes_bytes g b a z w ∙ ap (λ (x : Image). written x b) e.1 ∙ o.1,
    )

-- "a written image reads back as the same contents"
pub written_then_read :
    (g : Image) (b : List ℕ) (a : Answer) (z : List ℕ) (r : Result Image Refusal) → Items g → WritesAs g b a z → accepted a ≡ true →
    ReadsAs (take (image_size (image_shape g)) z) r → r ≡ Ok (trimmed g)
written_then_read g b a z r f w h p =
    let e = reads_is (take (image_size (image_shape g)) z) r p in
    let t = ap accepted (sym (writes_answer g b a z w)) ∙ h in
    let o = ap (λ (l : List ℕ). read_image (take (image_size (image_shape g)) l)) (writes_bytes g b a z w) ∙ written_read g b f t in
    e ∙ ap (λ (x : Read). given x.answer x.image) o
