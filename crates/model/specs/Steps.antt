-- What each step of a thread does, as document 01 lists them. Each test of a step is an argument of a function of its own.
use Rattle.std.specs.Prelude.{Bool, true, false, not, List, [], ◌∷◌, ℕ, zero, suc, eqb, leb}
use Rattle.std.proofs.Math.Option.{Option, none, some}
use Rattle.model.specs.Basics.{bothb, upd}
use Rattle.model.specs.Lines.{Touch, nowhere, stores, flushes, issues, fences, of_head, of_node}
use Rattle.model.specs.Conf.{Mode, at_once, fenced, Engine, shared, split, line_of, head_touch, same_head}
use Rattle.model.specs.Core.{elsewhere, a10f, d3f, d6f, Core, Th, busy, Ans, nothing, done, full, worn, empty, item, with_item, with_linked, with_index, idle, a1, a2, a3, a4}
use Rattle.model.specs.Core.{a5, a6, a7, a8, a9, a10, a11, a12, d1, d2, d3, d4, d5, d6, d7, s3, s6}
use Rattle.model.specs.Changes.{set_th, set_next, store, set_head, set_tail, set_free, set_last, set_held, set_mark}

-- ---- free and waiting nodes

unfoldable pub remove : ℕ → List ℕ → List ℕ
remove t [] = []
remove t (u ∷ l) = elim (eqb u t) [ true ↦ remove t l | false ↦ u ∷ remove t l ]

-- free before; or it waited, and with this thread gone waits for nobody
abbrev pub freed : Bool → List ℕ → List ℕ → Bool
freed true w w' = true
freed false [] w' = false
freed false (u ∷ w) [] = true
freed false (u ∷ w) (u' ∷ w') = false

-- the threads below k, without t, that have an operation
unfoldable pub others : ℕ → ℕ → (ℕ → Th) → List ℕ
others zero t thr = []
others (suc k) t thr = elim (bothb (busy (thr k)) (not (eqb k t))) [ true ↦ k ∷ others k t thr | false ↦ others k t thr ]

-- thread t has answered: no node waits for it any more, and it has no operation
abbrev pub leave : Core → ℕ → Core
leave m t = set_th (set_free m (λ n. freed (m.free n) (m.wait n) (remove t (m.wait n))) (λ n. remove t (m.wait n))) t idle

-- a node that t held is retired: it waits for every other thread that has an operation; and for t itself, which answers in the same step
abbrev pub retire_held : Core → ℕ → Option ℕ → Core
retire_held m t none = m
retire_held m t (some n) = set_free m m.free (upd m.wait n (t ∷ others m.conf.threads t m.thr))

-- ---- what a step gives: the core after it, the answer, the line touched

pub record Out : Type 0 where
  pub core : Core
  pub ans : Ans
  pub touch : Touch

-- the thread goes on, with a line touched, or none
abbrev pub goes : Core → ℕ → Th → Touch → Out
goes m t s k = record { core = set_th m t s; ans = nothing; touch = k }

abbrev pub go : Core → ℕ → Th → Out
go m t s = goes m t s nowhere

-- the thread answers, with a line touched, or none
abbrev pub replies : Core → ℕ → Ans → Touch → Out
replies m t a k = record { core = leave m t; ans = a; touch = k }

abbrev pub reply : Core → ℕ → Ans → Out
reply m t a = replies m t a nowhere

-- ---- enqueue. m the core, t the thread, v the item, n its own node, x the tail read

-- A1 takes a free node, if there is one; else Full
abbrev pub step_a1 : Core → ℕ → ℕ → Option ℕ → Out
step_a1 m t v none = reply m t full
step_a1 m t v (some n) = go (set_last (set_free m (upd m.free n false) m.wait) n) t (a2 v n)

-- A6, with x's next
abbrev pub step_a6 : Core → ℕ → (v n x : ℕ) → Option ℕ → Out
step_a6 m t v n x none = go m t (a7 v n x)
step_a6 m t v n x (some y) = go m t (a12 v n x)

-- A7: is x's index the largest? Then the node is free again and the answer is Worn out; else the index is stored
abbrev pub step_a7 : Core → ℕ → (v n x : ℕ) → Bool → Out
step_a7 m t v n x true = reply (set_free m (upd m.free n true) m.wait) t worn
step_a7 m t v n x false = goes (store m n (with_index (m.node n) (suc (m.node x).index))) t (a8 v n x) (stores (of_node n))

-- A8, with x's next
abbrev pub step_a8 : Core → ℕ → (v n x : ℕ) → Option ℕ → Out
step_a8 m t v n x none = go (set_next m x (some n)) t (a9 v n x)
step_a8 m t v n x (some y) = go m t (a12 v n x)

-- A11: is Tail still x?
abbrev pub step_a11 : Core → ℕ → (n : ℕ) → Bool → Out
step_a11 m t n true = reply (set_tail m n) t done
step_a11 m t n false = reply m t done

-- A12: is Tail still x? With x's next, which in a run is there
abbrev pub step_a12 : Core → ℕ → (v n : ℕ) → Bool → Option ℕ → Out
step_a12 m t v n true none = go m t (a5 v n)
step_a12 m t v n true (some y) = go (set_tail m y) t (a5 v n)
step_a12 m t v n false o = go m t (a5 v n)

-- ---- dequeue. h i the head read, x the next read

-- after a next that is none: D3, in `split` the store before it
abbrev pub empty_to : Engine → (h i : ℕ) → Th
empty_to shared h i = d3 h i
empty_to split h i = s3 h i

-- after D5: D6, in `split` the store before it
abbrev pub item_to : Engine → (h x v : ℕ) → Th
item_to shared h x v = d6 h v
item_to split h x v = s6 h x v

-- D2, with h's next
abbrev pub step_d2 : Core → ℕ → (h i : ℕ) → Option ℕ → Out
step_d2 m t h i none = go m t (empty_to m.conf.engine h i)
step_d2 m t h i (some x) = go m t (d4 h i x)

-- D4: is Head still what was read? Then it becomes x with x's index
abbrev pub step_d4 : Core → ℕ → (h x : ℕ) → Bool → Out
step_d4 m t h x true = goes (set_head m x (m.node x).index) t (d5 h x) (head_touch m.conf.engine)
step_d4 m t h x false = go m t d1

-- ---- persisting: in one step, or a flush and a fence

-- A10
abbrev pub step_a10 : Core → ℕ → (v n x : ℕ) → Mode → Out
step_a10 m t v n x at_once = goes m t (a11 v n x) (flushes (of_node n))
step_a10 m t v n x fenced = goes m t (a10f v n x) (issues t)

-- D3: Empty is answered once the line is persisted
abbrev pub step_d3 : Core → ℕ → (h i : ℕ) → Mode → Out
step_d3 m t h i at_once = replies m t empty (flushes (of_head (line_of m.conf.engine t)))
step_d3 m t h i fenced = goes m t (d3f h i) (issues t)

-- D6
abbrev pub step_d6 : Core → ℕ → (h v : ℕ) → Mode → Out
step_d6 m t h v at_once = goes m t (d7 h v) (flushes (of_head (line_of m.conf.engine t)))
step_d6 m t h v fenced = goes m t (d6f h v) (issues t)

-- ---- one step of thread t, which is at s

abbrev pub step : Core → ℕ → Th → Out
step m t idle = record { core = m; ans = nothing; touch = nowhere }
-- A1 takes a free node
step m t (a1 v) = step_a1 m t v (m.conf.chooser.pick m.conf.nodes m.last m.free)
-- A2 item stored. A3 next set to none. A4 linked set to 0
step m t (a2 v n) = goes (store m n (with_item (m.node n) v)) t (a3 v n) (stores (of_node n))
step m t (a3 v n) = go (set_next m n none) t (a4 v n)
step m t (a4 v n) = goes (store m n (with_linked (m.node n) false)) t (a5 v n) (stores (of_node n))
-- A5 Tail read as x. A6 next of x read
step m t (a5 v n) = go m t (a6 v n m.tail)
step m t (a6 v n x) = step_a6 m t v n x (m.next x)
-- A7 index set to x's index + 1, or Worn out
step m t (a7 v n x) = step_a7 m t v n x (leb m.conf.top (m.node x).index)
-- A8 if x's next is none it becomes the new node
step m t (a8 v n x) = step_a8 m t v n x (m.next x)
-- A9 linked set to 1. A10 the node's line is persisted
step m t (a9 v n x) = goes (store m n (with_linked (m.node n) true)) t (a10 v n x) (stores (of_node n))
step m t (a10 v n x) = step_a10 m t v n x m.conf.mode
step m t (a10f v n x) = goes m t (a11 v n x) (fences t (of_node n))
-- A11 Tail becomes the new node if it is still x. Done
step m t (a11 v n x) = step_a11 m t n (eqb m.tail x)
-- A12 Tail becomes x's next if it is still x. Back to A5
step m t (a12 v n x) = step_a12 m t v n (eqb m.tail x) (m.next x)
-- D1 Head read. D2 next of that node read
step m t d1 = go m t (d2 m.hnode m.hidx)
-- a thread with an operation on another queue moves there
step m t elsewhere = go m t elsewhere
step m t (d2 h i) = step_d2 m t h i (m.next h)
-- D3 line 0 persisted (`split`: the thread's line). Empty
step m t (d3 h i) = step_d3 m t h i m.conf.mode
step m t (d3f h i) = replies m t empty (fences t (of_head (line_of m.conf.engine t)))
-- D4 if Head is still the pair read it becomes the next node
step m t (d4 h i x) = step_d4 m t h x (same_head m.conf.engine (eqb m.hnode h) (eqb m.hidx i))
-- D5 item of the next node read. D6 line 0 persisted (`split`: the thread's line)
step m t (d5 h x) = go m t (item_to m.conf.engine h x (m.node x).item)
step m t (d6 h v) = step_d6 m t h v m.conf.mode
step m t (d6f h v) = goes m t (d7 h v) (fences t (of_head (line_of m.conf.engine t)))
-- `split`: before D3 the index of the node found last, before D6 the new dummy's index, stored in the thread's line
step m t (s3 h i) = goes (set_mark m t (m.node h).index) t (d3 h i) (stores (of_head t))
step m t (s6 h x v) = goes (set_mark m t (m.node x).index) t (d6 h v) (stores (of_head t))
-- D7 the node held is retired, the old dummy is now held. The item
step m t (d7 h v) = reply (set_held (retire_held m t (m.held t)) t h) t (item v)

-- ---- acts: begin an enqueue of v, begin a dequeue, move by one step

pub data Act : Type 0 where
  enq : (t v : ℕ) → Act
  deq : (t : ℕ) → Act
  move : (t : ℕ) → Act

abbrev pub does : Core → Act → Out
does m (enq t v) = go m t (a1 v)
does m (deq t) = go m t d1
does m (move t) = step m t (m.thr t)
