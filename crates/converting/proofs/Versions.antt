-- "Version 1 converts to 2 always, 2 to 1 when head and every index fit."
use Prim.Native.Nat.{ℕ, ◌+◌, ◌*◌, ◌≤◌, ◌<◌}
use mathlib.Core.Path.{◌≡◌, refl, ap, ◌∙◌}
use mathlib.Core.Bool.{true, false}
use mathlib.Core.List.{List, ◌++◌}
use native.Mathlib.Omega.{arith}
use lib.ListN.{length, take, drop}
use Rattle.answer.specs.Answers.{accepted, Taken}
use Rattle.image.specs.Bytes.{at1}
use Rattle.image.specs.Form.{known, width_of, top_of, head_lines, image_size, per_desk}
use Rattle.image.specs.Layout.{content_at, head_in, image_shape, in_form, form_in, shape_in, image_in}
use Rattle.image.specs.declared.Image.{Image}
use Rattle.image.specs.Refusals.{alone_answer}
use Rattle.image.proofs.ByteLaws.{Bytes}
use Rattle.image.proofs.FormLaws.{place_wide, place_plain, top_long}
use Rattle.codec.proofs.Accepted as acc
use Rattle.codec.proofs.ReadWrite as there
use Rattle.converting.specs.Converted.{size_in, widen_answer, widened, narrow_answer, narrowed}
use Rattle.converting.proofs.Laws as laws
use Rattle.converting.proofs.ThereAndBack as back

top_one : top_of 1 ≡ 4294967295
unfolding top_of width_of
top_one = refl

size_one : (s : List ℕ) → size_in 1 s ≡ 10 + at1 s 5 * 9
unfolding known image_size image_in shape_in
size_one s = place_plain (image_shape (in_form 1 (image_in s))) (at1 s 5) refl (λ e. omega arith) (λ e. omega arith)

size_two : (s : List ℕ) → size_in 2 s ≡ 14 + at1 s 5 * 13
unfolding image_size image_in shape_in
size_two s = place_wide (image_shape (in_form 2 (image_in s))) (at1 s 5) refl

-- head line 0 is the one that there is
only_line : (f : ℕ) (g : Image) (k : ℕ) → known f ≡ true → per_desk f ≡ false → k < head_lines (image_shape (in_form f g)) → k ≡ 0
only_line f g k h d l = omega (arith, l, laws.one_head (image_shape (in_form f g)) h d)

-- VERSION 1 TO 2, ALWAYS: of an image that is accepted, where there is room
pub widens_always : (s : List ℕ) (room : ℕ) → Bytes s → form_in s ≡ 1 → accepted (alone_answer s) ≡ true → 14 + at1 s 5 * 13 ≤ room → widen_answer s room ≡ Taken
unfolding image_in shape_in known per_desk
widens_always s room b e h l =
    let r = there.read_fits s b in
    let z = ap top_of e ∙ top_one in
    let one = laws.one_head (shape_in s) (acc.alone_taken s h).mark (rw e) in
    laws.converts_taken 1 2 s room record {
      form = e;
      image = h;
      fits = record { head = λ k q. omega (arith, r.head k (omega (arith, one, only_line 2 (image_in s) k refl refl q)), z, top_long 2 refl); at = λ i p. omega (arith, r.at i p, z, top_long 2 refl) };
      long = omega (arith, size_two s);
    }

-- the head index, and that of every node, recovered or not, are of 32 bits
pub record Narrow (s : List ℕ) : Type 0 where
  pub head : head_in (image_in s) 0 ≤ 4294967295
  pub at : (i : ℕ) → i < at1 s 5 → (content_at (image_in s).nodes i).index ≤ 4294967295

-- VERSION 2 TO 1, WHEN HEAD AND EVERY INDEX FIT, and only then
pub narrows_when : (s : List ℕ) (room : ℕ) → form_in s ≡ 2 → accepted (alone_answer s) ≡ true → Narrow s → 10 + at1 s 5 * 9 ≤ room → narrow_answer s room ≡ Taken
unfolding image_in shape_in known per_desk
narrows_when s room e h w l =
    laws.converts_taken 2 1 s room record {
      form = e;
      image = h;
      fits = record { head = λ k q. rw (only_line 1 (image_in s) k refl refl q) (omega (arith, w.head, top_one)); at = λ i p. omega (arith, w.at i p, top_one) };
      long = omega (arith, size_one s);
    }

pub narrows_only : (s : List ℕ) (room : ℕ) → accepted (narrow_answer s room) ≡ true
    → (form_in s ≡ 2) × (accepted (alone_answer s) ≡ true) × Narrow s × (10 + at1 s 5 * 9 ≤ room)
unfolding image_in shape_in known per_desk
narrows_only s room h =
    let c = laws.taken_converts 2 1 s room h in (
      c.form,
      c.image,
      record {
        head = omega (arith, c.fits.head 0 (omega (arith, laws.one_head (image_shape (in_form 1 (image_in s))) refl refl)), top_one);
        at = λ i p. omega (arith, c.fits.at i p, top_one);
      },
      omega (arith, c.long, size_one s),
    )

-- THERE AND BACK, both ways: x and y are the lent buffers
pub wide_and_back : (s : List ℕ) → Bytes s → (x y : List ℕ) → accepted (widen_answer s (length x)) ≡ true → length s ≤ length y
    → (narrow_answer (take (14 + at1 s 5 * 13) (widened s x)) (length y) ≡ Taken)
    × (narrowed (take (14 + at1 s 5 * 13) (widened s x)) y ≡ s ++ drop (length s) y)
unfolding known per_desk
wide_and_back s b x y h l = rw (size_two s) at (back.there_and_back 1 2 refl refl refl s b x y h l)

pub narrow_and_back : (s : List ℕ) → Bytes s → (x y : List ℕ) → accepted (narrow_answer s (length x)) ≡ true → length s ≤ length y
    → (widen_answer (take (10 + at1 s 5 * 9) (narrowed s x)) (length y) ≡ Taken)
    × (widened (take (10 + at1 s 5 * 9) (narrowed s x)) y ≡ s ++ drop (length s) y)
unfolding known per_desk
narrow_and_back s b x y h l = rw (size_one s) at (back.there_and_back 2 1 refl refl refl s b x y h l)
