-- Mending an image: whose linked flags are cleared, in 02's three steps, and the reason for each.
use Rattle.std.specs.Prelude.{ℕ, zero, suc, Bool, not, List, [], ◌∷◌, eqb, ltb}
use Rattle.lists.specs.Find.{pick, both, count}
use Rattle.lists.specs.Tab.{joined, front}
use Rattle.image.specs.Layout.{content_at}
use Rattle.image.specs.Recovered.{has_twin, first_twin, dummy_of}
use Rattle.image.specs.declared.Content.{Content}
use Rattle.image.specs.declared.Image.{Image}

-- a content whose linked flag is cleared where the test holds
abbrev pub unlinked : Bool → Content → Content
unlinked b c = record { linked = pick b 0 c.linked; index = c.index; item = c.item }

-- the image g with the linked flag of each node that f holds of cleared: "Nothing else is touched."
unfoldable pub cleared : (ℕ → Bool) → Image → Image
cleared f g = record {
  form = g.form;
  n = g.n;
  t = g.t;
  heads = g.heads;
  nodes = front (λ i. unlinked (f i) (content_at g.nodes i)) g.n g.nodes;
}

-- ---- the three steps

-- "First, linked bytes above 1 become 0."
unfoldable pub unclear_at : Image → ℕ → Bool
unclear_at g i = ltb 1 (content_at g.nodes i).linked

unfoldable pub bytes_mended : Image → Image
bytes_mended g = cleared (unclear_at g) g

-- "Then among recovered nodes with one index all but the lowest-numbered have linked cleared."
unfoldable pub twins_mended : Image → Image
twins_mended g = cleared (has_twin g) g

-- of nodes r and k the one with the larger index, r where the two are equal
unfoldable pub larger_at : Image → ℕ → ℕ → ℕ
larger_at g r k = pick (ltb (content_at g.nodes r).index (content_at g.nodes k).index) k r

-- the one of the first k nodes with the largest index, the first of equals; 0 of none
unfoldable pub largest_at : Image → ℕ → ℕ
largest_at g zero = 0
largest_at g (suc k) = larger_at g (largest_at g k) k

-- "if every node is recovered, the one with the largest index"
unfoldable pub spare_at : Image → ℕ → Bool
spare_at g i = both (eqb (dummy_of g) g.n) (eqb i (largest_at g g.n))

-- "Then, if every node is recovered, the one with the largest index has too."
unfoldable pub spare_mended : Image → Image
spare_mended g = cleared (spare_at g) g

unfoldable pub mended : Image → Image
mended g = spare_mended (twins_mended (bytes_mended g))

-- ---- "It lists the changed nodes in order with the reason."

-- why node i was changed: 6, 7 or 8; 0 where it was not
unfoldable pub reason_at : Image → ℕ → ℕ
reason_at g i =
    pick (unclear_at g i) 6
    (pick (has_twin (bytes_mended g) i) 7
    (pick (spare_at (twins_mended (bytes_mended g)) i) 8 0))

unfoldable pub is_changed : Image → ℕ → Bool
is_changed g i = not (eqb (reason_at g i) 0)

-- how many of the first k nodes were changed
unfoldable pub changed : Image → ℕ → ℕ
changed g k = count (is_changed g) k

-- an entry: a node's number and the reason, where there is one
abbrev pub entry_of : ℕ → ℕ → List ℕ
entry_of i why = pick (not (eqb why 0)) (i ∷ why ∷ []) []

-- the entries of the first k nodes, "in order"
unfoldable pub changes : Image → ℕ → List ℕ
changes g k = joined (λ i. entry_of i (reason_at g i)) k

-- ---- the same said of the image as it came, which is what the code looks at

-- the node cleared for 8: N where there is none
unfoldable pub spare_of : Image → ℕ
spare_of g = pick (both (eqb (first_twin g) g.n) (eqb (dummy_of g) g.n)) (largest_at g g.n) g.n

unfoldable pub plain_reason : Image → ℕ → ℕ → ℕ
plain_reason g spare i = pick (unclear_at g i) 6 (pick (has_twin g i) 7 (pick (eqb i spare) 8 0))
