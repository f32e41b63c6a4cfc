-- Bytes that are taken as an image, read and written again, are the same bytes.
use Prim.Native.Nat.{ℕ, ◌+◌, ◌*◌, ◌≤◌, ◌<◌}
use mathlib.Core.Path.{◌≡◌, refl, sym, ap, ap₂, ◌∙◌}
use mathlib.Core.Bool.{true}
use mathlib.Core.List.{List, [], ◌∷◌, ◌++◌}
use native.Mathlib.Omega.{arith}
use native.Mathlib.Nat.{zero-add}
use borrow.Author.Tests.{eqb-true}
use lib.ListN.{length, get_or, take, drop}
use lib.Seq.{take_all, take-add, drop-drop}
use lib.Dec.{eqb}
use Rattle.lists.specs.Tab.{tab, over}
use Rattle.lists.proofs.BoolLaws.{both_true}
use Rattle.lists.proofs.TabLaws as tabs
use Rattle.answer.specs.Answers.{accepted, Taken}
use Rattle.image.specs.Bytes.{le, at1, at4, at_w}
use Rattle.image.specs.Form.{form_of, known, letter, version, thread_bytes, held_threads, width_of, top_of, heads_at, node_size, head_lines, header_size, node_place, image_size}
use Rattle.image.specs.declared.Content.{Content}
use Rattle.image.specs.Layout as im
use Rattle.image.specs.declared.Shape.{Shape}
use Rattle.image.proofs.HeadLaws.{heads_at_lem}
use Rattle.image.proofs.FormLaws.{size_is, header_is, place_from, place_within, by_form, has_mark, form_marked}
use Rattle.codec.proofs.Shapes.{form_of_lem, line_within, size_place, size_from}
use Rattle.image.proofs.SoundLaws.{Fitting, sound_then, is_fitting}
use Rattle.image.specs.Refusals.{sound, whole, image_answer, alone_answer, read_image, write_answer, written}
use Rattle.codec.proofs.Accepted as acc
use Rattle.image.proofs.ByteLaws as num

-- a node's bytes
pub node_there : (f : ℕ) (s : List ℕ) (p : ℕ) → num.Bytes s → known f ≡ true → p + node_size f ≤ length s → im.node_bytes f (im.read_content f s p) ≡ take (node_size f) (drop p s)
node_there f s p b k h =
    let w = width_of f in
    let z = size_is f k in
    let one : get_or s p 0 ∷ [] ≡ take 1 (drop p s) = sym (num.one_at s p (omega arith)) in
    let x : le w (at_w w s (p + 1)) ≡ take w (drop (p + 1) s) = num.le_at w s (p + 1) b (omega arith) in
    let y : le 4 (at4 s (p + 1 + w)) ≡ take 4 (drop (p + 1 + w) s) = num.le_at 4 s (p + 1 + w) b (omega arith) in
    let long : 1 + (w + 4) ≡ node_size f = omega arith in
    let r = drop (p + 1) s in
    let two : take w r ++ take 4 (drop (p + 1 + w) s) ≡ take (w + 4) r = ap (λ (l : List ℕ). take w r ++ take 4 l) (sym (drop-drop w (p + 1) s)) ∙ sym (take-add w 4 r) in
    let all : take 1 (drop p s) ++ take (w + 4) r ≡ take (1 + (w + 4)) (drop p s) = ap (λ (l : List ℕ). take 1 (drop p s) ++ take (w + 4) l) (sym (drop-drop 1 p s)) ∙ sym (take-add 1 (w + 4) (drop p s)) in
    ap₂ (λ (u v : List ℕ). (get_or s p 0 ∷ []) ++ (u ++ v)) x y
    ∙ ap₂ (λ (u v : List ℕ). u ++ v) one two
    ∙ all
    ∙ ap (λ (k : ℕ). take k (drop p s)) long

-- the five bytes of a mark and a version
five_there : (x v : ℕ) (s : List ℕ) → im.marked 85 81 x v s ≡ true
    → (get_or s 0 0 ≡ 85) × (get_or s 1 0 ≡ 81) × (get_or s 2 0 ≡ x) × (get_or s 3 0 ≡ v) × (get_or s 4 0 ≡ 0)
unfolding im.marked
five_there x v s m =
    let m0 = both_true (eqb (get_or s 0 0) 85) _ m in
    let m1 = both_true (eqb (get_or s 1 0) 81) _ m0.1 in
    let m2 = both_true (eqb (get_or s 2 0) x) _ m1.1 in
    let m3 = both_true (eqb (get_or s 3 0) v) _ m2.1 in
    (eqb-true _ _ m0.0, eqb-true _ _ m1.0, eqb-true _ _ m2.0, eqb-true _ _ m3.0, eqb-true _ _ m3.1)

-- mark, version, N and T of a form are what the bytes begin with
mark_there : (f : ℕ) (s : List ℕ) → known f ≡ true → has_mark f s ≡ true → heads_at f ≤ length s
    → 85 ∷ 81 ∷ letter (form_of f) ∷ version (form_of f) ∷ 0 ∷ at1 s 5 ∷ thread_bytes (form_of f) (held_threads (form_of f) (at1 s 6)) ≡ take (heads_at f) s
unfolding tab heads_at
mark_there f s k =
    by_form
    (λ f. has_mark f s ≡ true → heads_at f ≤ length s
    → 85 ∷ 81 ∷ letter (form_of f) ∷ version (form_of f) ∷ 0 ∷ at1 s 5 ∷ thread_bytes (form_of f) (held_threads (form_of f) (at1 s 6)) ≡ take (heads_at f) s)
    f
    k
    (λ m l. let e = five_there 73 1 s m in sym (rw (e.0, e.1, e.2, e.3, e.4) at (tabs.take_drop_tab s 0 0 6 l)))
    (λ m l. let e = five_there 73 2 s m in sym (rw (e.0, e.1, e.2, e.3, e.4) at (tabs.take_drop_tab s 0 0 6 l)))
    (λ m l. let e = five_there 80 1 s m in sym (rw (e.0, e.1, e.2, e.3, e.4) at (tabs.take_drop_tab s 0 0 7 l)))

-- the head's bytes
pub head_there : (s : List ℕ) → num.Bytes s → im.is_image s ≡ true → header_size (im.shape_in s) ≤ length s
    → im.head_bytes (im.shape_in s) (λ k. at_w (width_of (im.shape_in s).form) s (heads_at (im.shape_in s).form + k * width_of (im.shape_in s).form)) ≡ take (header_size (im.shape_in s)) s
unfolding im.head_bytes im.mark_bytes im.shape_in
head_there s b m h =
    let f = im.form_in s in
    let w = width_of f in
    let n = head_lines (im.shape_in s) in
    let z = header_is (im.shape_in s) in
    ap₂ (λ (x y : List ℕ). x ++ y)
    (mark_there f s m (form_marked s m) (omega (arith, z)))
    (tabs.joined_same (λ k. le w (at_w w s (heads_at f + k * w))) (λ k. take w (drop (k * w) (drop (heads_at f) s))) n
    (λ k p. num.le_at w s (heads_at f + k * w) b (omega (arith, line_within (im.shape_in s) k p)) ∙ ap (take w) (sym (drop-drop (k * w) (heads_at f) s)))
    ∙ tabs.joined_parts (drop (heads_at f) s) w n)
    ∙ sym (take-add (heads_at f) (n * w) s)
    ∙ ap (λ (k : ℕ). take k s) (sym z)

-- the indices of the head lines that are read
pub heads_there : (z : Shape) (x y : ℕ → ℕ) → ((k : ℕ) → k < head_lines z → x k ≡ y k) → im.head_bytes z x ≡ im.head_bytes z y
unfolding im.head_bytes
heads_there z x y h =
    ap (λ (l : List ℕ). im.mark_bytes z ++ l) (tabs.joined_same (λ k. le (width_of z.form) (x k)) (λ k. le (width_of z.form) (y k)) (head_lines z) (λ k p. ap (le (width_of z.form)) (h k p)))

body_there : (z : Shape) (s : List ℕ) → num.Bytes s → known z.form ≡ true → image_size z ≤ length s
    → im.body_bytes z.form (im.read_nodes z s) z.n ≡ take (z.n * node_size z.form) (drop (header_size z) s)
unfolding im.body_bytes im.read_nodes
body_there z s b k e =
    let f = z.form in
    let n = z.n in
    tabs.joined_same (λ i. im.node_bytes f (im.content_at (im.read_nodes z s) i)) (λ i. take (node_size f) (drop (i * node_size f) (drop (header_size z) s))) n
    (λ i p.
    ap (im.node_bytes f)
    (tabs.front_at (λ k. im.read_content f s (node_place z k)) n im.no_contents i im.no_content p)
    ∙ node_there f s (node_place z i) b k (omega (arith, place_within z i n p, size_place z))
    ∙ ap (λ (j : ℕ). take (node_size f) (drop j s)) (place_from z i)
    ∙ ap (take (node_size f)) (sym (drop-drop (i * node_size f) (header_size z) s)))
    ∙ tabs.joined_parts (drop (header_size z) s) (node_size f) n

-- an image that lies in the bytes: its own bytes come back
pub shape_again : (s : List ℕ) → num.Bytes s → im.is_image s ≡ true → image_size (im.shape_in s) ≤ length s → im.image_bytes (im.image_in s) ≡ take (image_size (im.shape_in s)) s
unfolding im.image_bytes im.image_in im.read_heads
shape_again s b m l =
    let z = im.shape_in s in
    let f = z.form in
    let x : ℕ → ℕ = λ k. at_w (width_of f) s (heads_at f + k * width_of f) in
    ap₂ (λ (x y : List ℕ). x ++ y)
    (heads_there z _ x (λ k p. heads_at_lem z x k p) ∙ head_there s b m (omega (arith, l, size_from z)))
    (body_there z s b (ap known (form_of_lem s) ∙ m) l)
    ∙ sym (take-add (header_size z) (z.n * node_size f) s)
    ∙ ap (λ (k : ℕ). take k s) (sym (size_from z))

pub part_again : (t more : ℕ) (s : List ℕ) → num.Bytes s → accepted (image_answer t more s) ≡ true → im.image_bytes (im.image_in s) ≡ take (image_size (im.shape_in s)) s
part_again t more s b h = let a = acc.part_taken t more s h in shape_again s b a.mark (omega (arith, a.size))

-- an image alone
pub bytes_again : (s : List ℕ) → num.Bytes s → accepted (alone_answer s) ≡ true → im.image_bytes (im.image_in s) ≡ s
bytes_again s b h =
    let a = acc.alone_taken s h in
    shape_again s b a.mark (omega (arith, a.size)) ∙ take_all (image_size (im.shape_in s)) s (omega (arith, a.size))

pub read_answer : (s : List ℕ) → (read_image s).answer ≡ alone_answer s
unfolding read_image
read_answer s = refl

pub read_image_lem : (s : List ℕ) → accepted (alone_answer s) ≡ true → (read_image s).image ≡ im.image_in s
unfolding read_image
read_image_lem s h = rw h

-- every index that is read is within its width
pub read_fits : (s : List ℕ) → num.Bytes s → Fitting (im.image_in s)
unfolding im.image_in im.read_heads im.read_nodes top_of
read_fits s b =
    let z = im.shape_in s in
    let f = z.form in
    let x : ℕ → ℕ = λ k. at_w (width_of f) s (heads_at f + k * width_of f) in
    record {
      head = λ k p. omega (arith, heads_at_lem z x k p, num.at_small (width_of f) s (heads_at f + k * width_of f) b);
      at = λ i p.
          let c = ap (λ (v : Content). v.index) (tabs.front_at (λ k. im.read_content f s (node_place z k)) z.n im.no_contents i im.no_content p) in
          omega (arith, c, num.at_small (width_of f) s (node_place z i + 1) b);
    }

pub read_whole : (s : List ℕ) → num.Bytes s → accepted (sound (im.image_in s) Taken) ≡ true → whole (im.image_in s) Taken ≡ Taken
unfolding whole
read_whole s b h = sound_then (im.image_in s) _ h ∙ is_fitting (im.image_in s) Taken (read_fits s b)

-- an image that was read is taken for writing wherever there is room
pub room_taken : (s : List ℕ) (room : ℕ) → num.Bytes s → accepted (alone_answer s) ≡ true → length s ≤ room → write_answer (im.image_in s) room ≡ Taken
unfolding im.image_in
room_taken s room b h l =
    let a = acc.alone_taken s h in
    acc.write_taken (im.image_in s) room a.shape (ap accepted (read_whole s b a.clear)) (omega (arith, a.size))

-- bytes written from the front on, then the rest
pub over_front : (b s : List ℕ) → length s ≤ length b → over b 0 s ≡ s ++ drop (length s) b
over_front b s l = tabs.over_is b 0 s (omega arith) ∙ ap (λ (k : ℕ). s ++ drop k b) (zero-add (length s))

-- READ, THEN WRITTEN: what `read_image` gives of bytes that it takes, `write_image` takes and writes as those bytes, and the rest of the buffer stays
pub read_written : (s b : List ℕ) → num.Bytes s → accepted (read_image s).answer ≡ true → length s ≤ length b →
    (write_answer (read_image s).image (length b) ≡ Taken) × (written (read_image s).image b ≡ s ++ drop (length s) b)
read_written s b by t l =
    let h : accepted (alone_answer s) ≡ true = rw (← read_answer s) t in
    let w = room_taken s (length b) by h l in
    rw (read_image_lem s h) (
      w,
      rw (w, bytes_again s by h) (over_front b s l),
    )
