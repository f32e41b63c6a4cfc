-- "Export followed by import returns the same image."
use Prim.Native.Nat.{ℕ, ◌+◌, ◌*◌, ◌≤◌, ◌<◌}
use mathlib.Core.Path.{◌≡◌, refl, sym, ap, ◌∙◌}
use mathlib.Core.Bool.{true}
use mathlib.Core.List.{List, ◌++◌}
use native.Mathlib.Omega.{arith}
use native.Mathlib.Decide.{dec_lt}
use borrow.Author.Tests.{lt-ltb, le-ltb}
use lib.Dec.{ltb}
use lib.ListN.{length, get_or, take, drop}
use lib.Seq.{take_at}
use Rattle.lists.specs.Find.{pick}
use Rattle.lists.specs.Tab.{over}
use Rattle.answer.specs.Answers.{accepted, Taken}
use Rattle.image.specs.Bytes.{at1}
use Rattle.image.specs.Form.{known, width_of, top_of, head_lines, image_size, per_desk}
use Rattle.image.specs.Layout.{head_in, heads_of, image_shape, form_in, shape_in, image_in, image_bytes}
use Rattle.image.specs.Recovered.{largest, head_of}
use Rattle.image.specs.Refusals.{sound, whole, alone_answer, read_image, write_answer, Read}
use Rattle.image.specs.declared.Image.{Image}
use Rattle.image.specs.declared.Shape.{Shape}
use Rattle.image.proofs.ByteLaws as num
use Rattle.image.proofs.FormLaws.{place_desks}
use Rattle.image.proofs.HeadLaws.{heads_at_lem, heads_same, lines_desks, largest_most, largest_within, head_within, head_is}
use Rattle.image.proofs.ShapeLaws.{Shaped, agree_own, threads_range}
use Rattle.image.proofs.SoundLaws.{Fitting, sound_then, is_fitting}
use Rattle.codec.proofs.Accepted as acc
use Rattle.codec.proofs.ReadWrite as there
use Rattle.codec.proofs.Same as same
use Rattle.codec.proofs.WriteRead.{trimmed, trimmed_alike, size_back, contents_again}
use Rattle.converting.specs.Desks.{reheaded, other_of, desks_answer, import_answer, imported, export_answer, exported}
use Rattle.converting.proofs.Laws as laws
use Rattle.converting.proofs.DeskLaws as desks
use Rattle.converting.proofs.ThereAndBack.{read_heads_lem, read_nodes_lem, read_items}

-- the head index of an image with one index in every head line, where there is one
pub head_again : (f t : ℕ) (g : Image) → 1 ≤ head_lines (image_shape (reheaded f t g)) → head_of (reheaded f t g) ≡ head_of g
head_again f t g l =
    let z = image_shape (reheaded f t g) in
    let x = (reheaded f t g).heads in
    let at : (k : ℕ) → k < head_lines z → get_or x k 0 ≡ head_of g = λ k p. heads_at_lem z (λ j. head_of g) k p in
    let up : largest x (head_lines z) ≤ head_of g = largest_within x (head_lines z) (head_of g) (λ k p. omega (arith, at k p)) in
    let down : get_or x 0 0 ≤ largest x (head_lines z) = largest_most x (head_lines z) 0 l in
    sym (head_is (reheaded f t g)) ∙ omega (arith, up, down, at 0 l)

-- of one head line it is that line's
one_largest : (l : List ℕ) → largest l 1 ≡ get_or l 0 0
unfolding largest
one_largest l = by (dec_lt 0 (get_or l 0 0))
  where
    by : Dec (0 < get_or l 0 0) → pick (ltb 0 (get_or l 0 0)) (get_or l 0 0) 0 ≡ get_or l 0 0
    by (yes p) = rw (lt-ltb 0 (get_or l 0 0) p)
    by (no p) = rw (le-ltb 0 (get_or l 0 0) (omega arith)) (omega arith)

head_one : (g : Image) → head_lines (image_shape g) ≡ 1 → head_of g ≡ head_in g 0
head_one g e = sym (head_is g) ∙ ap (largest g.heads) e ∙ one_largest g.heads

top_same : top_of 4 ≡ top_of 1
unfolding top_of width_of
top_same = refl

-- an image of "UQI" version 1, exported for t threads
module _ (s : List ℕ) (b : num.Bytes s) (t room : ℕ) (e : desks.Exports s t room) where
  abbrev out : Image
  out = other_of 4 t s

  -- T head lines
  out_lines : head_lines (image_shape out) ≡ t
  out_lines = sym (lines_desks (image_shape out) refl)

  out_head : head_of out ≡ head_of (image_in s)
  out_head = head_again 4 t (image_in s) (omega (arith, out_lines, (threads_range t e.threads).0))

  in_line : head_lines (shape_in s) ≡ 1
  unfolding shape_in per_desk
  in_line = laws.one_head (shape_in s) (acc.alone_taken s e.image).mark (rw e.form)

  in_shape : shape_in s ≡ record { form = 1; n = (image_in s).n; t = 0 }
  unfolding shape_in image_in
  in_shape = rw e.form

  out_fits : Fitting out
  unfolding image_in shape_in
  out_fits =
      let r = there.read_fits s b in
      let top : top_of (form_in s) ≡ top_of 4 = ap top_of e.form ∙ sym top_same in
      record {
        head = λ k p. omega (arith, heads_at_lem (image_shape out) (λ j. head_of (image_in s)) k p, head_within (image_in s) (top_of (form_in s)) r.head, top);
        at = λ i p. omega (arith, r.at i p, top);
      }

  out_sound : accepted (sound out Taken) ≡ true
  out_sound =
      ap accepted (same.sound_same out (image_in s) record { n = refl; head = out_head; nodes = λ i p. refl } Taken) ∙ (acc.alone_taken s e.image).clear

  out_writes : accepted (write_answer out room) ≡ true
  unfolding whole known per_desk image_in
  out_writes =
      let p = acc.alone_taken s e.image in
      let w : whole out Taken ≡ Taken = sound_then out _ out_sound ∙ is_fitting out Taken out_fits in
      let f : Shaped t (image_shape out) = record { form = refl; nodes = p.shape.nodes; own = e.threads; agrees = agree_own (image_shape out) } in
      ap accepted (acc.write_taken out room f (ap accepted w) e.long)

  out_again : read_image (image_bytes out) ≡ record { answer = Taken; image = trimmed out }
  out_again = contents_again out room (read_items 4 t out.heads s b (acc.alone_taken s e.image).lies) out_writes

  out_alone : accepted (alone_answer (image_bytes out)) ≡ true
  out_alone = ap accepted (sym (there.read_answer (image_bytes out)) ∙ ap (λ (r : Read). r.answer) out_again)

  out_image : image_in (image_bytes out) ≡ trimmed out
  out_image = sym (there.read_image_lem (image_bytes out) out_alone) ∙ ap (λ (r : Read). r.image) out_again

  -- WHAT IS EXPORTED IS ACCEPTED for import
  pub out_taken : desks_answer (image_bytes out) ≡ Taken
  unfolding image_in
  out_taken = desks.alone_desks (image_bytes out) out_alone (ap (λ (g : Image). g.form) out_image)

  pub out_size : length (image_bytes out) ≡ image_size (image_shape out)
  unfolding known
  out_size = size_back out refl

  -- the same contents come back
  pub same_image : other_of 1 0 (image_bytes out) ≡ image_in s
  unfolding image_in known per_desk
  same_image =
      let g = image_in s in
      let z : Shape = record { form = 1; n = g.n; t = 0 } in
      let one : head_lines z ≡ 1 = laws.one_head z refl refl in
      let h : head_of (trimmed out) ≡ head_in g 0 = (trimmed_alike out).head ∙ out_head ∙ head_one g in_line in
      let heads : heads_of z (λ k. head_of (trimmed out)) ≡ g.heads =
      heads_same z (λ k. head_of (trimmed out)) (head_in g) (λ k p. h ∙ ap (head_in g) (omega (arith, p, one)))
      ∙ ap (λ (z : Shape). heads_of z (head_in g)) (sym in_shape) ∙ read_heads_lem s in
      let form = ap (λ (z : Shape). z.form) (sym in_shape) in
      let threads = ap (λ (z : Shape). z.t) (sym in_shape) in
      ap (reheaded 1 0) out_image ∙ (λ k. record { form = form k; n = g.n; t = threads k; heads = heads k; nodes = read_nodes_lem s k })

  pub back_room : (room' : ℕ) → length s ≤ room' → image_size (image_shape (other_of 1 0 (image_bytes out))) ≤ room'
  unfolding image_in
  back_room room' l =
      let z : image_size (image_shape (other_of 1 0 (image_bytes out))) ≡ image_size (shape_in s) = ap (λ (g : Image). image_size (image_shape g)) same_image in
      omega (arith, z, (acc.alone_taken s e.image).size)

desks_size : (s : List ℕ) (t : ℕ) → image_size (image_shape (other_of 4 t s)) ≡ 7 + t * 4 + at1 s 5 * 9
unfolding image_size image_in shape_in
desks_size s t = place_desks (image_shape (other_of 4 t s)) (at1 s 5) refl

-- EXPORT FOLLOWED BY IMPORT: what export leaves in a lent buffer x, imported into another, y, is taken, and the image's own bytes stand in front there
pub export_import : (s : List ℕ) → num.Bytes s → (t : ℕ) (x y : List ℕ) → accepted (export_answer s t (length x)) ≡ true → length s ≤ length y
    → (import_answer (take (7 + t * 4 + at1 s 5 * 9) (exported s t x)) (length y) ≡ Taken)
    × (imported (take (7 + t * 4 + at1 s 5 * 9) (exported s t x)) y ≡ s ++ drop (length s) y)
export_import s b t x y h l =
    let e = desks.export_taken s t (length x) h in
    let o = image_bytes (other_of 4 t s) in
    let z = out_size s b t (length x) e in
    let w : exported s t x ≡ o ++ drop (length o) x =
    desks.exported_then s t x e.front ∙ desks.put_there 4 t s x (ap accepted (desks.room_there 4 t s (length x) e.long))
    ∙ there.over_front x o (omega (arith, z, e.long)) in
    let f : take (7 + t * 4 + at1 s 5 * 9) (exported s t x) ≡ o =
    ap (take (7 + t * 4 + at1 s 5 * 9)) w ∙ take_at o (drop (length o) x) (7 + t * 4 + at1 s 5 * 9) (z ∙ desks_size s t) in
    let taken = ap accepted (out_taken s b t (length x) e) in
    let r = desks.room_there 1 0 o (length y) (back_room s b t (length x) e (length y) l) in
    let a : import_answer o (length y) ≡ Taken = desks.import_then o (length y) taken ∙ r in
    let c : imported o y ≡ s ++ drop (length s) y =
    desks.imported_then o y taken ∙ desks.put_there 1 0 o y (ap accepted r)
    ∙ ap (λ (g : Image). over y 0 (image_bytes g)) (same_image s b t (length x) e)
    ∙ ap (over y 0) (there.bytes_again s b e.image) ∙ there.over_front y s l in
    rw f (a, c)
