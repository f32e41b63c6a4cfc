-- Which nodes of an image are recovered, which of them are twins, and which one is the dummy.
use Rattle.std.specs.Prelude.{ℕ, zero, suc, Bool, not, List, get_or, eqb, ltb}
use Rattle.lists.specs.Find.{pick, both, least, any}
use Rattle.image.specs.Form.{top_of, head_lines}
use Rattle.image.specs.Layout.{content_at, image_shape, head_in}
use Rattle.image.specs.declared.Content.{Content}
use Rattle.image.specs.declared.Image.{Image}

-- the largest of the first k numbers of a list; 0 of none
unfoldable pub largest : List ℕ → ℕ → ℕ
largest l zero = 0
largest l (suc k) = let r = largest l k in pick (ltb r (get_or l k 0)) (get_or l k 0) r

-- the head index that a start takes from an image; #101: "Recovery takes the largest thread index"
unfoldable pub head_of : Image → ℕ
head_of g = largest g.heads (head_lines (image_shape g))

-- "A node is recovered when its linked flag is 1 and its index is above the head index."
unfoldable pub recovered : ℕ → Content → Bool
recovered h c = both (eqb c.linked 1) (ltb h c.index)

abbrev pub recovered_at : Image → ℕ → Bool
recovered_at g i = recovered (head_of g) (content_at g.nodes i)

-- nodes i and j are recovered with one index
unfoldable pub twins : Image → ℕ → ℕ → Bool
twins g i j = both (recovered_at g i) (both (recovered_at g j) (eqb (content_at g.nodes i).index (content_at g.nodes j).index))

-- node i has a lower-numbered twin
unfoldable pub has_twin : Image → ℕ → Bool
has_twin g i = any (twins g i) i

-- "the smallest node number that has a lower-numbered twin"; N where none has
unfoldable pub first_twin : Image → ℕ
first_twin g = least (has_twin g) g.n 0

-- the lowest-numbered node that is not recovered; N where every node is
unfoldable pub dummy_of : Image → ℕ
dummy_of g = least (λ i. not (recovered_at g i)) g.n 0

-- the first node whose linked byte is above 1; N where none is
unfoldable pub first_unclear : Image → ℕ
first_unclear g = least (λ i. ltb 1 (content_at g.nodes i).linked) g.n 0

-- an index is above the largest of its image's form
abbrev pub too_wide : Image → ℕ → Bool
too_wide g x = ltb (top_of g.form) x

-- a head line's is
unfoldable pub head_too_wide : Image → Bool
head_too_wide g = any (λ k. too_wide g (head_in g k)) (head_lines (image_shape g))

-- the first node, recovered or not, whose index is; N where none is
unfoldable pub first_too_wide : Image → ℕ
first_too_wide g = least (λ i. too_wide g (content_at g.nodes i).index) g.n 0
