-- Recovery: what an image is, which nodes are recovered, the core after a start.
use Rattle.std.specs.Prelude.{Bool, true, false, not, List, [], ◌∷◌, map, ℕ, zero, suc, max, eqb, ltb}
use Rattle.std.proofs.Math.Option.{Option, none, some}
use Rattle.model.specs.Basics.{bothb, upd}
use Rattle.model.specs.Lines.{Line, of_head, of_node}
use Rattle.model.specs.Conf.{Conf, head_lines}
use Rattle.model.specs.Core.{Core, Node, hd, with_index, idle}
use Rattle.model.specs.Choice.{lowest}

-- the index of each head line, the content of each node
pub record Image : Type 0 where
  pub conf : Conf
  pub heads : ℕ → ℕ
  pub at : ℕ → Node

abbrev pub image_has : Image → Line → Node
image_has g (of_head k) = hd (g.heads k)
image_has g (of_node n) = g.at n

unfoldable pub largest : ℕ → (ℕ → ℕ) → ℕ
largest zero f = 0
largest (suc k) f = max (largest k f) (f k)

-- the head index: the largest of the head lines. In `shared` there is one
unfoldable pub head_of : Image → ℕ
head_of g = largest (head_lines g.conf) g.heads

-- a node is recovered when its linked flag is 1 and its index is above the head index
abbrev pub recovered : ℕ → Node → Bool
recovered h c = bothb c.linked (ltb h c.index)

-- n joins a list that rises by index
unfoldable pub insert : (ℕ → Node) → ℕ → List ℕ → List ℕ
insert f n [] = n ∷ []
insert f n (k ∷ l) = elim (ltb (f n).index (f k).index) [ true ↦ n ∷ k ∷ l | false ↦ k ∷ insert f n l ]

-- the recovered nodes below k, in rising index
unfoldable pub queue_of : (ℕ → Node) → ℕ → ℕ → List ℕ
queue_of f h zero = []
queue_of f h (suc k) = elim (recovered h (f k)) [ true ↦ insert f k (queue_of f h k) | false ↦ queue_of f h k ]

-- the items that a start of the image has in its queue
unfoldable pub items_of : Image → List ℕ
items_of g = map (λ n. (g.at n).item) (queue_of g.at (head_of g) g.conf.nodes)

-- the links run from the dummy through the queue, and are none elsewhere
unfoldable pub link_up : ℕ → List ℕ → (ℕ → Option ℕ)
link_up d [] = λ n. none
link_up d (k ∷ l) = upd (link_up k l) d (some k)

unfoldable pub last_of : ℕ → List ℕ → ℕ
last_of d [] = d
last_of d (k ∷ l) = last_of k l

abbrev pub or_zero : Option ℕ → ℕ
or_zero none = 0
or_zero (some n) = n

-- a start with the dummy d and the queue q: the dummy's cached index becomes the head index; all other nodes are free
unfoldable pub start' : Image → ℕ → List ℕ → Core
start' g d q = record {
  conf = g.conf;
  node = upd g.at d (with_index (g.at d) (head_of g));
  next = link_up d q;
  hnode = d;
  hidx = head_of g;
  tail = last_of d q;
  marks = g.heads;
  last = d;
  free = λ n. bothb (ltb n g.conf.nodes) (bothb (not (eqb n d)) (not (recovered (head_of g) (g.at n))));
  wait = λ n. [];
  held = λ t. none;
  thr = λ t. idle;
}

-- the dummy is the lowest-numbered node that is not recovered
abbrev pub start : Image → Core
start g = start' g
    (or_zero (lowest g.conf.nodes 0 (λ n. not (recovered (head_of g) (g.at n)))))
    (queue_of g.at (head_of g) g.conf.nodes)
