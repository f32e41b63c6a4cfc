-- One turn of each loop that reads or writes an image, and the parts that its bytes are written in.
use Prim.Native.Nat.{ℕ, ◌+◌, ◌*◌, ◌/◌, ◌<◌}
use mathlib.Core.Path.{◌≡◌, refl, sym, ap, ap₂, ◌∙◌}
use mathlib.Core.Bool.{true}
use mathlib.Core.List.{List, ◌∷◌, ◌++◌}
use native.Mathlib.Omega.{arith}
use native.Mathlib.Numerals.{add-one}
use native.Mathlib.Nat.{zero-add}
use lib.ListN.{length, set, length-append}
use Rattle.lists.specs.Tab.{joined, over, front}
use Rattle.lists.proofs.TabLaws as tabs
use Rattle.answer.specs.Answers.{accepted}
use Rattle.image.specs.Bytes.{le, le4}
use Rattle.image.specs.Form.{known, width_of, heads_at, node_size, head_lines, header_size, node_place}
use Rattle.image.proofs.ByteLaws.{length_le}
use Rattle.image.proofs.FormLaws.{size_is, header_is, place_from}
use Rattle.image.specs.Bytes.{at_w}
use Rattle.image.specs.Layout.{no_contents, no_heads, content_at, node_bytes, heads_of, mark_bytes, head_bytes, body_bytes, read_content, read_nodes, read_heads, image_in}
use Rattle.image.specs.Refusals.{image_answer}
use Rattle.image.specs.declared.Content.{Content}
use Rattle.image.specs.declared.Shape.{Shape}
use Rattle.codec.specs.Parts.{read_part}
use Rattle.codec.proofs.Shapes.{mark_length}

pub line_over : (b : List ℕ) (at l w x y : ℕ) → over (over (set b at l) (at + 1) (le w x)) (at + 1 + w) (le4 y) ≡ over b at (l ∷ (le w x ++ le4 y))
unfolding over
line_over b at l w x y =
    ap (λ (k : ℕ). over (over (set b at l) (at + 1) (le w x)) (at + 1 + k) (le4 y)) (sym (length_le w x))
    ∙ tabs.over_append (set b at l) (at + 1) (le w x) (le4 y)
    ∙ ap (λ (i : ℕ). over (set b at l) i (le w x ++ le4 y)) (add-one at)

-- 64 bits in two parts
pub long_over : (b : List ℕ) (at x : ℕ) → over (over b at (le4 x)) (at + 4) (le4 (x / 256 / 256 / 256 / 256)) ≡ over b at (le 8 x)
long_over b at x = tabs.over_append b at (le4 x) (le4 (x / 256 / 256 / 256 / 256))

pub node_length : (f : ℕ) (v : Content) → known f ≡ true → length (node_bytes f v) ≡ node_size f
node_length f v h =
    omega (arith, length-append (le (width_of f) v.index) (le4 v.item), length_le (width_of f) v.index, size_is f h)

pub body_next : (f : ℕ) (l : List Content) (i : ℕ) → body_bytes f l (i + 1) ≡ body_bytes f l i ++ node_bytes f (content_at l i)
unfolding body_bytes joined
body_next f l i = ap (joined (λ k. node_bytes f (content_at l k))) (add-one i)

pub length_body : (f : ℕ) (l : List Content) (n : ℕ) → known f ≡ true → length (body_bytes f l n) ≡ n * node_size f
unfolding body_bytes
length_body f l n h = tabs.length_joined (λ k. node_bytes f (content_at l k)) (node_size f) n (λ k. node_length f (content_at l k) h)

-- one turn of the loop that writes the nodes
pub body_over : (b : List ℕ) (z : Shape) (l : List Content) (i : ℕ) → known z.form ≡ true
    → over (over b (header_size z) (body_bytes z.form l i)) (node_place z i) (node_bytes z.form (content_at l i)) ≡ over b (header_size z) (body_bytes z.form l (i + 1))
body_over b z l i h =
    let f = z.form in
    ap (λ (k : ℕ). over (over b (header_size z) (body_bytes f l i)) k (node_bytes f (content_at l i))) (place_from z i ∙ ap (λ k. header_size z + k) (sym (length_body f l i h)))
    ∙ tabs.over_append b (header_size z) (body_bytes f l i) (node_bytes f (content_at l i))
    ∙ ap (over b (header_size z)) (sym (body_next f l i))

-- the first i nodes that are read, and one turn of the loop
unfoldable pub nodes_to : Shape → List ℕ → ℕ → List Content
nodes_to z s i = front (λ k. read_content z.form s (node_place z k)) i no_contents

pub nodes_none : (z : Shape) (s : List ℕ) → no_contents ≡ nodes_to z s 0
unfolding nodes_to
nodes_none z s = tabs.front_none (λ k. read_content z.form s (node_place z k)) no_contents

pub nodes_next : (z : Shape) (s : List ℕ) (i : ℕ) → i < 64 → set (nodes_to z s i) i (read_content z.form s (node_place z i)) ≡ nodes_to z s (i + 1)
unfolding nodes_to no_contents
nodes_next z s i h = tabs.front_next (λ k. read_content z.form s (node_place z k)) i no_contents h

pub nodes_all : (z : Shape) (s : List ℕ) → nodes_to z s z.n ≡ read_nodes z s
unfolding nodes_to read_nodes
nodes_all z s = refl

-- ---- the head lines

-- the first k that are read, and one turn of the loop
unfoldable pub heads_to : ℕ → List ℕ → ℕ → List ℕ
heads_to f s k = front (λ j. at_w (width_of f) s (heads_at f + j * width_of f)) k no_heads

pub heads_none : (f : ℕ) (s : List ℕ) → no_heads ≡ heads_to f s 0
unfolding heads_to
heads_none f s = tabs.front_none (λ j. at_w (width_of f) s (heads_at f + j * width_of f)) no_heads

pub heads_next : (f : ℕ) (s : List ℕ) (k : ℕ) → k < 8 → set (heads_to f s k) k (at_w (width_of f) s (heads_at f + k * width_of f)) ≡ heads_to f s (k + 1)
unfolding heads_to no_heads
heads_next f s k h = tabs.front_next (λ j. at_w (width_of f) s (heads_at f + j * width_of f)) k no_heads h

pub heads_all : (z : Shape) (s : List ℕ) → heads_to z.form s (head_lines z) ≡ read_heads z s
unfolding heads_to read_heads heads_of
heads_all z s = refl

-- the first k that are written, and one turn of the loop
unfoldable pub lines_to : ℕ → (ℕ → ℕ) → ℕ → List ℕ
lines_to f x k = joined (λ j. le (width_of f) (x j)) k

pub lines_none : (b : List ℕ) (f i : ℕ) (x : ℕ → ℕ) → b ≡ over b i (lines_to f x 0)
unfolding lines_to joined over
lines_none b f i x = refl

pub lines_length : (f : ℕ) (x : ℕ → ℕ) (k : ℕ) → length (lines_to f x k) ≡ k * width_of f
unfolding lines_to
lines_length f x k = tabs.length_joined (λ j. le (width_of f) (x j)) (width_of f) k (λ j. length_le (width_of f) (x j))

lines_next : (f : ℕ) (x : ℕ → ℕ) (k : ℕ) → lines_to f x (k + 1) ≡ lines_to f x k ++ le (width_of f) (x k)
unfolding lines_to joined
lines_next f x k = ap (joined (λ j. le (width_of f) (x j))) (add-one k)

pub lines_over : (b : List ℕ) (f : ℕ) (x : ℕ → ℕ) (k : ℕ)
    → over (over b (heads_at f) (lines_to f x k)) (heads_at f + k * width_of f) (le (width_of f) (x k)) ≡ over b (heads_at f) (lines_to f x (k + 1))
lines_over b f x k =
    ap (λ (i : ℕ). over (over b (heads_at f) (lines_to f x k)) (heads_at f + i) (le (width_of f) (x k))) (sym (lines_length f x k))
    ∙ tabs.over_append b (heads_at f) (lines_to f x k) (le (width_of f) (x k))
    ∙ ap (over b (heads_at f)) (sym (lines_next f x k))

pub head_over : (b : List ℕ) (z : Shape) (x : ℕ → ℕ) → known z.form ≡ true
    → over (over b 0 (mark_bytes z)) (heads_at z.form) (lines_to z.form x (head_lines z)) ≡ over b 0 (head_bytes z x)
unfolding head_bytes lines_to
head_over b z x h =
    ap (λ (i : ℕ). over (over b 0 (mark_bytes z)) i (lines_to z.form x (head_lines z))) (sym (mark_length z h) ∙ sym (zero-add (length (mark_bytes z))))
    ∙ tabs.over_append b 0 (mark_bytes z) (lines_to z.form x (head_lines z))

pub head_length : (z : Shape) (x : ℕ → ℕ) → known z.form ≡ true → length (head_bytes z x) ≡ header_size z
unfolding head_bytes
head_length z x h =
    length-append (mark_bytes z) (joined (λ j. le (width_of z.form) (x j)) (head_lines z))
    ∙ ap₂ (λ (a b : ℕ). a + b) (mark_length z h) (tabs.length_joined (λ j. le (width_of z.form) (x j)) (width_of z.form) (head_lines z) (λ j. length_le (width_of z.form) (x j)))
    ∙ sym (header_is z)

-- the head, then the nodes
pub image_over : (b : List ℕ) (z : Shape) (x : ℕ → ℕ) (l : List Content) → known z.form ≡ true
    → over (over b 0 (head_bytes z x)) (header_size z) (body_bytes z.form l z.n) ≡ over b 0 (head_bytes z x ++ body_bytes z.form l z.n)
image_over b z x l h =
    ap (λ k. over (over b 0 (head_bytes z x)) k (body_bytes z.form l z.n)) (sym (head_length z x h) ∙ sym (zero-add (length (head_bytes z x))))
    ∙ tabs.over_append b 0 (head_bytes z x) (body_bytes z.form l z.n)

-- what is read of a part that is taken
pub part_answer : (t more : ℕ) (s : List ℕ) → (read_part t more s).answer ≡ image_answer t more s
unfolding read_part
part_answer t more s = refl

pub part_image : (t more : ℕ) (s : List ℕ) → accepted (image_answer t more s) ≡ true → (read_part t more s).image ≡ image_in s
unfolding read_part
part_image t more s h = rw h
