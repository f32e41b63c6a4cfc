-- "There and back returns the same bytes." Said once for any two forms that are read and written and have one head line.
use Prim.Native.Nat.{ℕ, ◌+◌, ◌*◌, ◌≤◌}
use mathlib.Core.Path.{◌≡◌, refl, sym, ap, subst, ◌∙◌}
use mathlib.Core.Bool.{true, false}
use mathlib.Core.List.{List, ◌++◌}
use native.Mathlib.Omega.{arith}
use lib.ListN.{length, get_or, take, drop}
use lib.Seq.{take_at}
use Rattle.lists.specs.Tab.{over, front}
use Rattle.lists.proofs.TabLaws as tabs
use Rattle.answer.specs.Answers.{accepted, Taken}
use Rattle.image.specs.Bytes.{at_w}
use Rattle.image.specs.Form.{known, width_of, heads_at, head_lines, node_place, image_size, per_desk}
use Rattle.image.specs.Layout.{no_content, no_contents, content_at, head_in, heads_of, no_heads, image_shape, in_form, form_in, shape_in, image_in, image_bytes, read_content, read_heads, read_nodes}
use Rattle.image.specs.Refusals.{sound, whole, alone_answer, read_image, write_answer, Read}
use Rattle.image.specs.declared.Content.{Content}
use Rattle.image.specs.declared.Image.{Image}
use Rattle.image.proofs.ByteLaws as num
use Rattle.image.proofs.HeadLaws.{heads_at_lem, heads_same, head_same}
use Rattle.codec.specs.Parts.{Lies}
use Rattle.image.proofs.ShapeLaws.{agree_own}
use Rattle.image.proofs.SoundLaws.{Fitting, sound_then, is_fitting}
use Rattle.codec.proofs.Accepted as acc
use Rattle.codec.proofs.Lying.{content_in}
use Rattle.codec.proofs.ReadWrite as there
use Rattle.codec.proofs.Same as same
use Rattle.codec.proofs.WriteRead.{Items, trimmed, size_back, contents_again}
use Rattle.converting.specs.Converted.{bytes_in, size_in, convert_answer, converted}
use Rattle.converting.proofs.Laws as laws

-- a form with one head line, and no T
abbrev pub Plain : ℕ → Type 0
Plain f = (known f ≡ true) × (per_desk f ≡ false)

-- nothing stands beyond the head lines and the nodes that are read
pub read_heads_lem : (s : List ℕ) → heads_of (shape_in s) (head_in (image_in s)) ≡ (image_in s).heads
unfolding image_in read_heads
read_heads_lem s =
    let z = shape_in s in
    let x : ℕ → ℕ = λ k. at_w (width_of z.form) s (heads_at z.form + k * width_of z.form) in
    heads_same z (λ k. get_or (heads_of z x) k 0) x (heads_at_lem z x)

pub read_nodes_lem : (s : List ℕ) → front (content_at (image_in s).nodes) (image_in s).n no_contents ≡ (image_in s).nodes
unfolding image_in read_nodes
read_nodes_lem s =
    let z = shape_in s in
    let c : ℕ → Content = λ i. read_content z.form s (node_place z i) in
    tabs.front_same (content_at (front c z.n no_contents)) c z.n no_contents (λ i p. tabs.front_at c z.n no_contents i no_content p)

read_blank : (f : ℕ) (s : List ℕ) → Plain f → Plain (form_in s) → trimmed (in_form f (image_in s)) ≡ in_form f (image_in s)
unfolding image_in shape_in heads_of
read_blank f s p q =
    let g = image_in s in
    let z = image_shape (in_form f g) in
    let t = laws.no_own z p.0 p.1 ∙ sym (laws.no_threads s q.0 q.1) in
    let e = laws.one_head z p.0 p.1 ∙ sym (laws.one_head (shape_in s) q.0 q.1) in
    let h = ap (λ (m : ℕ). front (head_in g) m no_heads) e ∙ read_heads_lem s in
    let y = read_nodes_lem s in
    λ k. record { form = f; n = g.n; t = t k; heads = h k; nodes = y k }

pub read_items : (f t : ℕ) (h : List ℕ) (s : List ℕ) → num.Bytes s → Lies s (shape_in s) → Items (record { form = f; n = (image_in s).n; t = t; heads = h; nodes = (image_in s).nodes })
unfolding image_in
read_items f t h s b l i p =
    let z = shape_in s in
    let c = ap (λ (v : Content). v.item) (content_in s z i l p) in
    omega (arith, c, num.at_small 4 s (node_place z i + 1 + width_of z.form) b)

-- 6, 7 and 8 do not go by the form
sound_in : (f : ℕ) (g : Image) → head_lines (image_shape (in_form f g)) ≡ head_lines (image_shape g) → sound (in_form f g) Taken ≡ sound g Taken
sound_in f g e = same.sound_same (in_form f g) g record { n = refl; head = head_same (in_form f g) g e (λ k p. refl); nodes = λ i p. refl } Taken

-- an image in its own form
own_form : (f : ℕ) (s : List ℕ) → form_in s ≡ f → in_form f (image_in s) ≡ image_in s
unfolding image_in shape_in
own_form f s e = λ k. record { form = sym e k; n = (image_in s).n; t = (image_in s).t; heads = (image_in s).heads; nodes = (image_in s).nodes }

-- an image in form f that is taken for writing in form f'
module _ (f f' : ℕ) (k : known f' ≡ true) (d : per_desk f ≡ false) (d' : per_desk f' ≡ false) (s : List ℕ) (b : num.Bytes s) (room : ℕ) (t : laws.Converts f f' s room) where
  plain : Plain (form_in s)
  plain = ((acc.alone_taken s t.image).mark, ap per_desk t.form ∙ d)

  lines : head_lines (image_shape (in_form f' (image_in s))) ≡ head_lines (image_shape (image_in s))
  unfolding image_in shape_in
  lines = laws.one_head (image_shape (in_form f' (image_in s))) k d' ∙ sym (laws.one_head (shape_in s) plain.0 plain.1)

  writes : accepted (write_answer (in_form f' (image_in s)) room) ≡ true
  unfolding whole image_in
  writes =
      let g = in_form f' (image_in s) in
      let p = acc.alone_taken s t.image in
      let w : whole g Taken ≡ Taken = sound_then g _ (ap accepted (sound_in f' (image_in s) lines) ∙ p.clear) ∙ is_fitting g Taken t.fits in
      ap accepted (acc.write_taken g room (record { form = k; nodes = p.shape.nodes; own = rw d'; agrees = agree_own (image_shape g) }) (ap accepted w) t.long)

  -- WHAT IS WRITTEN IS ACCEPTED, WITH THE SAME CONTENTS
  pub same_contents : read_image (bytes_in f' s) ≡ record { answer = Taken; image = in_form f' (image_in s) }
  unfolding bytes_in
  same_contents =
      contents_again (in_form f' (image_in s)) room (read_items f' (image_in s).t (image_in s).heads s b (acc.alone_taken s t.image).lies) writes
      ∙ ap (λ (g : Image). record { answer = Taken; image = g }) (read_blank f' s (k, d') plain)

  other_taken : accepted (alone_answer (bytes_in f' s)) ≡ true
  other_taken = ap accepted (sym (there.read_answer (bytes_in f' s)) ∙ ap (λ (r : Read). r.answer) same_contents)

  other_image : image_in (bytes_in f' s) ≡ in_form f' (image_in s)
  other_image = sym (there.read_image_lem (bytes_in f' s) other_taken) ∙ ap (λ (r : Read). r.image) same_contents

  pub size : length (bytes_in f' s) ≡ size_in f' s
  unfolding bytes_in
  size = size_back (in_form f' (image_in s)) k

  -- the same bytes come back
  pub same_bytes : bytes_in f (bytes_in f' s) ≡ s
  unfolding bytes_in
  same_bytes = ap (λ (g : Image). image_bytes (in_form f g)) other_image ∙ ap image_bytes (own_form f s t.form) ∙ there.bytes_again s b t.image

  -- and nothing is refused on the way back, where there is room
  pub back_taken : (room' : ℕ) → length s ≤ room' → convert_answer f' f (bytes_in f' s) room' ≡ Taken
  unfolding image_in shape_in
  back_taken room' l =
      let p = acc.alone_taken s t.image in
      let e : in_form f (image_in (bytes_in f' s)) ≡ image_in s = ap (in_form f) other_image ∙ own_form f s t.form in
      let z : size_in f (bytes_in f' s) ≡ image_size (shape_in s) = ap (λ (g : Image). image_size (image_shape g)) e in
      laws.converts_taken f' f (bytes_in f' s) room' record {
        form = ap (λ (g : Image). g.form) other_image;
        image = other_taken;
        fits = subst Fitting (sym e) (there.read_fits s b);
        long = omega (arith, z, p.size);
      }

-- THERE AND BACK: what a conversion leaves in a lent buffer, converted back into another, is taken, and the image's bytes stand in front there
pub there_and_back : (f f' : ℕ) → known f' ≡ true → per_desk f ≡ false → per_desk f' ≡ false → (s : List ℕ) → num.Bytes s → (x y : List ℕ) → accepted (convert_answer f f' s (length x)) ≡ true → length s ≤ length y
    → (convert_answer f' f (take (size_in f' s) (converted f f' s x)) (length y) ≡ Taken)
    × (converted f' f (take (size_in f' s) (converted f f' s x)) y ≡ s ++ drop (length s) y)
unfolding bytes_in
there_and_back f f' k d d' s b x y h l =
    let t = laws.taken_converts f f' s (length x) h in
    let z = size f f' k d d' s b (length x) t in
    let w : converted f f' s x ≡ bytes_in f' s ++ drop (length (bytes_in f' s)) x = laws.taken_over f f' s x h ∙ there.over_front x (bytes_in f' s) (omega (arith, z, t.long)) in
    let e : take (size_in f' s) (converted f f' s x) ≡ bytes_in f' s =
    ap (take (size_in f' s)) w ∙ take_at (bytes_in f' s) (drop (length (bytes_in f' s)) x) (size_in f' s) z in
    let a = back_taken f f' k d d' s b (length x) t (length y) l in
    let c : converted f' f (bytes_in f' s) y ≡ s ++ drop (length s) y =
    laws.taken_over f' f (bytes_in f' s) y (ap accepted a) ∙ ap (over y 0) (same_bytes f f' k d d' s b (length x) t) ∙ there.over_front y s l in
    rw e (a, c)
