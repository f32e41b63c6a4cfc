-- An image's nodes and its head index, as the bytes have them.
use Prim.Native.Nat.{ℕ, ◌≤◌, ◌<◌}
use mathlib.Core.Path.{◌≡◌}
use mathlib.Core.List.{List}
use native.Mathlib.Omega.{arith}
use lib.ListN.{length}
use Rattle.lists.proofs.TabLaws as tabs
use Rattle.image.specs.Form.{head_lines, header_size, node_place}
use Rattle.image.specs.Layout.{no_content, no_contents, content_at, read_content, read_nodes, read_heads, image_in}
use Rattle.image.specs.Recovered.{largest, head_of}
use Rattle.image.specs.declared.Shape.{Shape}
use Rattle.image.proofs.HeadLaws.{own_few}
use Rattle.codec.specs.Parts.{Lies}
use Rattle.codec.proofs.Shapes.{size_from}

pub nodes_in_lem : (s : List ℕ) (z : Shape) → Lies s z → (image_in s).n ≡ z.n
unfolding image_in
nodes_in_lem s z l = rw l.shape

-- node i's content is read from its place
pub content_in : (s : List ℕ) (z : Shape) (i : ℕ) → Lies s z → i < z.n → content_at (image_in s).nodes i ≡ read_content z.form s (node_place z i)
unfolding image_in read_nodes
content_in s z i l h =
    rw (← l.shape) (tabs.front_at (λ k. read_content z.form s (node_place z k)) z.n no_contents i no_content h)

-- the head index is the largest of the head lines
pub head_in : (s : List ℕ) (z : Shape) → Lies s z → head_of (image_in s) ≡ largest (read_heads z s) (head_lines z)
unfolding image_in head_of
head_in s z l = rw l.shape

pub lines_lie : (s : List ℕ) (z : Shape) → Lies s z → (head_lines z ≤ 8) × (header_size z ≤ length s)
lines_lie s z l = (own_few z l.own, omega (arith, l.long, size_from z))
