-- The page of endings: one content for each line, in document 01's order, and what is printed of it.
use Rattle.std.specs.Prelude.{true, false, List, [], ◌∷◌, ◌++◌, map, ℕ, zero, suc, ◌+◌, ◌-◌, get_or}
use Rattle.model.specs.Lines.{Line, of_head, of_node}
use Rattle.model.specs.Conf.{Conf, Engine, Chooser, Mode, head_lines}
use Rattle.model.specs.Core.{Node, zero_node, same_node}
use Rattle.model.specs.Recovery.{Image, head_of, items_of}
use Rattle.model.specs.Machine.{M}

-- from the end of the list to its front
unfoldable pub each : {A B : Type 0} → List A → (A → B → B) → B → B
each [] f b = b
each (a ∷ l) f b = f a (each l f b)

-- k lines of a row, from i on
unfoldable pub row_from : (ℕ → Line) → ℕ → ℕ → List Line
row_from row zero i = []
row_from row (suc k) i = row i ∷ row_from row k (suc i)

-- line 0 first: the head lines, then the nodes
unfoldable pub lines_of : Conf → List Line
lines_of c = row_from of_head (head_lines c) 0 ++ row_from of_node c.nodes 0

-- a content joins the end of a list, unless it is there: equal contents count once, at the first appearance
unfoldable pub push : List Node → Node → List Node
push [] c = c ∷ []
push (b ∷ l) c = elim (same_node b c) [ true ↦ b ∷ l | false ↦ b ∷ push l c ]

-- k contents, from time i on
unfoldable pub push_all : (ℕ → Node) → ℕ → ℕ → List Node → List Node
push_all f zero i l = l
push_all f (suc k) i l = push_all f k (suc i) (push l (f i))

-- the contents of a line as a list, what is persisted first
unfoldable pub contents_of : M → Line → List Node
contents_of m l = push_all (m.past l) (suc m.now - m.from l) (m.from l) []

-- one content for each line, the first turning slowest
unfoldable pub spread : List Line → (Line → List Node) → List (List Node)
spread [] h = [] ∷ []
spread (i ∷ r) h = each (h i) (λ c z. map (λ l. c ∷ l) (spread r h) ++ z) []

-- a choice as an image
unfoldable pub choice : Conf → List Node → Image
choice c l = record { conf = c; heads = λ k. (get_or l k zero_node).index; at = λ n. get_or l (head_lines c + n) zero_node }

-- the endings in the order of their numbers
unfoldable pub endings : M → List Image
endings m = map (choice m.core.conf) (spread (lines_of m.core.conf) (contents_of m))

-- a line of the printed page: head index and items
unfoldable pub printed : Image → ℕ × List ℕ
printed e = (head_of e, items_of e)

unfoldable pub page : M → List (ℕ × List ℕ)
page m = map printed (endings m)

-- n zero nodes, t threads, 32-bit indices, head index i
unfoldable pub head_image : Engine → Chooser → Mode → ℕ → ℕ → ℕ → Image
head_image e k m n t i = record {
  conf = record { nodes = n; threads = t; top = 4294967295; engine = e; chooser = k; mode = m };
  heads = λ k. i;
  at = λ k. zero_node;
}

unfoldable pub zero_image : Engine → Chooser → Mode → ℕ → ℕ → Image
zero_image e k m n t = head_image e k m n t 0
