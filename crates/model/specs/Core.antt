-- All that the threads use: the cached copies, and what no line holds. And the content of a line.
use Rattle.std.specs.Prelude.{Bool, true, false, not, List, ℕ, eqb}
use Rattle.std.proofs.Math.Option.{Option}
use Rattle.model.specs.Basics.{bothb}
use Rattle.model.specs.Lines.{Line, of_head, of_node}
use Rattle.model.specs.Conf.{Conf, Engine, line_ix}

-- what a thread is about to do, with what it has read: v the item, n its own node, t the tail read at A5,
-- h i the head read at D1, x the next read at D2. a10f, d3f and d6f are the fences behind A10, D3 and
-- D6 in `fenced`. s3 and s6 are the stores before D3 and D6 in `split`; there no step uses i.
-- elsewhere: the thread has an operation on another queue over the same table
pub data Th : Type 0 where
  idle : Th
  a1 : (v : ℕ) → Th
  a2 a3 a4 a5 : (v n : ℕ) → Th
  a6 a7 a8 a9 a10 a11 a12 : (v n t : ℕ) → Th
  d1 : Th
  elsewhere : Th
  d2 d3 : (h i : ℕ) → Th
  d4 : (h i x : ℕ) → Th
  d5 : (h x : ℕ) → Th
  d6 d7 : (h v : ℕ) → Th
  a10f : (v n t : ℕ) → Th
  d3f : (h i : ℕ) → Th
  d6f : (h v : ℕ) → Th
  s3 : (h i : ℕ) → Th
  s6 : (h x v : ℕ) → Th

-- the thread has an operation
abbrev pub busy : Th → Bool
busy idle = false
busy (a1 v) = true
busy (a2 v n) = true
busy (a3 v n) = true
busy (a4 v n) = true
busy (a5 v n) = true
busy (a6 v n t) = true
busy (a7 v n t) = true
busy (a8 v n t) = true
busy (a9 v n t) = true
busy (a10 v n t) = true
busy (a10f v n t) = true
busy (a11 v n t) = true
busy (a12 v n t) = true
busy d1 = true
busy elsewhere = true
busy (d2 h i) = true
busy (d3 h i) = true
busy (d3f h i) = true
busy (s3 h i) = true
busy (d4 h i x) = true
busy (d5 h x) = true
busy (d6 h v) = true
busy (d6f h v) = true
busy (s6 h x v) = true
busy (d7 h v) = true

-- the thread has an operation of this queue
abbrev pub acts : Th → Bool
acts idle = false
acts (a1 v) = true
acts (a2 v n) = true
acts (a3 v n) = true
acts (a4 v n) = true
acts (a5 v n) = true
acts (a6 v n t) = true
acts (a7 v n t) = true
acts (a8 v n t) = true
acts (a9 v n t) = true
acts (a10 v n t) = true
acts (a10f v n t) = true
acts (a11 v n t) = true
acts (a12 v n t) = true
acts d1 = true
acts elsewhere = false
acts (d2 h i) = true
acts (d3 h i) = true
acts (d3f h i) = true
acts (s3 h i) = true
acts (d4 h i x) = true
acts (d5 h x) = true
acts (d6 h v) = true
acts (d6f h v) = true
acts (s6 h x v) = true
acts (d7 h v) = true

-- the answers: none yet, Done, Full, Worn out, Empty, an item
pub data Ans : Type 0 where
  nothing done full worn empty : Ans
  item : (v : ℕ) → Ans

-- a node's content: linked flag, index, item
pub record Node : Type 0 where
  pub linked : Bool
  pub index : ℕ
  pub item : ℕ

-- node, next: the nodes' cached contents and links; hnode, hidx: Head; tail: Tail; free, wait: the free nodes, and for which threads a retired
-- node still waits; held: what each thread holds; thr: the threads. marks: what each thread has stored in its index line (`split`; there no step
-- uses hidx); last: the node last handed out
pub record Core : Type 0 where
  pub conf : Conf
  pub node : ℕ → Node
  pub next : ℕ → Option ℕ
  pub hnode : ℕ
  pub hidx : ℕ
  pub tail : ℕ
  pub marks : ℕ → ℕ
  pub last : ℕ
  pub free : ℕ → Bool
  pub wait : ℕ → List ℕ
  pub held : ℕ → Option ℕ
  pub thr : ℕ → Th

-- ---- the content of a line

-- of a head line the index alone is a content
abbrev pub hd : ℕ → Node
hd i = record { linked = false; index = i; item = 0 }

abbrev pub zero_node : Node
zero_node = hd 0

abbrev pub line_has : Engine → (node : ℕ → Node) (hidx : ℕ) (marks : ℕ → ℕ) → Line → Node
line_has e node i f (of_head k) = hd (line_ix e i f k)
line_has e node i f (of_node n) = node n

abbrev pub content : Core → Line → Node
content c = line_has c.conf.engine c.node c.hidx c.marks

abbrev pub same_bool : Bool → Bool → Bool
same_bool true b = b
same_bool false b = not b

-- equal contents
abbrev pub same_node : Node → Node → Bool
same_node a b = bothb (same_bool a.linked b.linked) (bothb (eqb a.index b.index) (eqb a.item b.item))

abbrev pub with_item : Node → ℕ → Node
with_item c v = record { linked = c.linked; index = c.index; item = v }

abbrev pub with_linked : Node → Bool → Node
with_linked c b = record { linked = b; index = c.index; item = c.item }

abbrev pub with_index : Node → ℕ → Node
with_index c i = record { linked = c.linked; index = i; item = c.item }
