-- The image's layout: mark "UQI", version, N, head index, then for each node linked, index, item.
-- #101: "mark "UQP", version 1, N, T (1 byte each), T indices of 4 bytes, then nodes as in "UQI"".
use Rattle.std.specs.Prelude.{ℕ, ◌+◌, ◌*◌, Bool, List, ◌∷◌, ◌++◌, get_or, replicate, eqb}
use Rattle.lists.specs.Find.{pick, both}
use Rattle.lists.specs.Tab.{joined, front}
use Rattle.image.specs.Bytes.{le, at1, at_w, at4, le4}
use Rattle.image.specs.Form.{form_of, known, width_of, letter, version, held_threads, thread_bytes, heads_at, head_lines, node_place}
use Rattle.image.specs.declared.Content.{Content}
use Rattle.image.specs.declared.Image.{Image}
use Rattle.image.specs.declared.Shape.{Shape}

abbrev pub no_content : Content
no_content = record { linked = 0; index = 0; item = 0 }

unfoldable pub no_contents : List Content
no_contents = replicate 64 no_content

abbrev pub content_at : List Content → ℕ → Content
content_at l i = get_or l i no_content

-- whether two contents are equal
unfoldable pub same_content : Content → Content → Bool
same_content a b = both (eqb a.linked b.linked) (both (eqb a.index b.index) (eqb a.item b.item))

-- of a head line the index alone is a content
abbrev pub head_content : ℕ → Content
head_content x = record { linked = 0; index = x; item = 0 }

-- there are places for eight head lines
unfoldable pub no_heads : List ℕ
no_heads = replicate 8 0

abbrev pub image_shape : Image → Shape
image_shape g = record { form = g.form; n = g.n; t = g.t }

-- an image's contents in form f
abbrev pub in_form : ℕ → Image → Image
in_form f g = record { form = f; n = g.n; t = g.t; heads = g.heads; nodes = g.nodes }

-- the index in head line k
abbrev pub head_in : Image → ℕ → ℕ
head_in g k = get_or g.heads k 0

-- the indices x 0, x 1, .. in the head lines of this shape, blank behind them
unfoldable pub heads_of : Shape → (ℕ → ℕ) → List ℕ
heads_of z x = front x (head_lines z) no_heads

-- bytes 0 to 4 are these: a mark of three letters, and a version
unfoldable pub marked : ℕ → ℕ → ℕ → ℕ → List ℕ → Bool
marked a b c v s =
    both (eqb (at1 s 0) a) (both (eqb (at1 s 1) b) (both (eqb (at1 s 2) c) (both (eqb (at1 s 3) v) (eqb (at1 s 4) 0))))

-- the form that bytes have by their mark and version: "UQI" version 1 or 2, "UQP" version 1; 0 where they have none
unfoldable pub form_in : List ℕ → ℕ
form_in s = pick (marked 85 81 73 1 s) 1 (pick (marked 85 81 73 2 s) 2 (pick (marked 85 81 80 1 s) 4 0))

-- a mark and a version that are read
abbrev pub is_image : List ℕ → Bool
is_image s = known (form_in s)

-- T stands behind N, in "UQP" alone
unfoldable pub shape_in : List ℕ → Shape
shape_in s = record { form = form_in s; n = at1 s 5; t = held_threads (form_of (form_in s)) (at1 s 6) }

-- a node's bytes: linked, index, item
abbrev pub node_bytes : ℕ → Content → List ℕ
node_bytes f v = v.linked ∷ (le (width_of f) v.index ++ le4 v.item)

-- mark, version, N, T where it is held
unfoldable pub mark_bytes : Shape → List ℕ
mark_bytes z = 85 ∷ 81 ∷ letter (form_of z.form) ∷ version (form_of z.form) ∷ 0 ∷ z.n ∷ thread_bytes (form_of z.form) z.t

-- and the indices of the head lines
unfoldable pub head_bytes : Shape → (ℕ → ℕ) → List ℕ
head_bytes z x = mark_bytes z ++ joined (λ k. le (width_of z.form) (x k)) (head_lines z)

unfoldable pub body_bytes : ℕ → List Content → ℕ → List ℕ
body_bytes f l n = joined (λ i. node_bytes f (content_at l i)) n

-- an image as bytes
unfoldable pub image_bytes : Image → List ℕ
image_bytes g = head_bytes (image_shape g) (head_in g) ++ body_bytes g.form g.nodes g.n

-- and back: what the bytes hold
abbrev pub read_content : ℕ → List ℕ → ℕ → Content
read_content f s at = record { linked = at1 s at; index = at_w (width_of f) s (at + 1); item = at4 s (at + 1 + width_of f) }

unfoldable pub read_nodes : Shape → List ℕ → List Content
read_nodes z s = front (λ i. read_content z.form s (node_place z i)) z.n no_contents

unfoldable pub read_heads : Shape → List ℕ → List ℕ
read_heads z s = heads_of z (λ k. at_w (width_of z.form) s (heads_at z.form + k * width_of z.form))

unfoldable pub image_in : List ℕ → Image
image_in s = record {
  form = (shape_in s).form;
  n = (shape_in s).n;
  t = (shape_in s).t;
  heads = read_heads (shape_in s) s;
  nodes = read_nodes (shape_in s) s;
}
