-- The six places in which a node can be, each with a definition of its own.
use Rattle.std.specs.Prelude.{◌≡◌, true, [], ◌≢◌, ℕ, zero, suc}
use Rattle.std.proofs.Math.Option.{Option, none, some}
use Rattle.model.specs.Core.{elsewhere, a10f, d3f, d6f}
use Rattle.model.specs.Core.{Core, Th, idle, a1, a2, a3, a4, a5, a6, a7, a8, a9, a10, a11, a12, d1, d2, d3, d4, d5, d6, d7, s3, s6}

-- the node that an enqueue owns before its A8
abbrev pub owns_e : Th → Option ℕ
owns_e idle = none
owns_e (a1 v) = none
owns_e (a2 v n) = some n
owns_e (a3 v n) = some n
owns_e (a4 v n) = some n
owns_e (a5 v n) = some n
owns_e (a6 v n t) = some n
owns_e (a7 v n t) = some n
owns_e (a8 v n t) = some n
owns_e (a9 v n t) = none
owns_e (a10 v n t) = none
owns_e (a10f v n t) = none
owns_e (a11 v n t) = none
owns_e (a12 v n t) = some n
owns_e d1 = none
owns_e elsewhere = none
owns_e (d2 h i) = none
owns_e (d3 h i) = none
owns_e (d3f h i) = none
owns_e (s3 h i) = none
owns_e (d4 h i x) = none
owns_e (d5 h x) = none
owns_e (d6 h v) = none
owns_e (d6f h v) = none
owns_e (s6 h x v) = none
owns_e (d7 h v) = none

-- the node that a dequeue owns between D4 and D7
abbrev pub owns_d : Th → Option ℕ
owns_d idle = none
owns_d (a1 v) = none
owns_d (a2 v n) = none
owns_d (a3 v n) = none
owns_d (a4 v n) = none
owns_d (a5 v n) = none
owns_d (a6 v n t) = none
owns_d (a7 v n t) = none
owns_d (a8 v n t) = none
owns_d (a9 v n t) = none
owns_d (a10 v n t) = none
owns_d (a10f v n t) = none
owns_d (a11 v n t) = none
owns_d (a12 v n t) = none
owns_d d1 = none
owns_d elsewhere = none
owns_d (d2 h i) = none
owns_d (d3 h i) = none
owns_d (d3f h i) = none
owns_d (s3 h i) = none
owns_d (d4 h i x) = none
owns_d (d5 h x) = some h
owns_d (d6 h v) = some h
owns_d (d6f h v) = some h
owns_d (s6 h x v) = some h
owns_d (d7 h v) = some h

-- the queue (dummy included), waiting, owned by a dequeue, held, owned by an enqueue, free
pub data PlaceKind : Type 0 where
  in_queue is_waiting in_deq is_held in_enq is_free : PlaceKind

-- the node k links behind h
unfoldable pub walk : (ℕ → Option ℕ) → ℕ → ℕ → Option ℕ
walk next zero h = some h
walk next (suc k) h = elim (walk next k h) [ none ↦ none | some x ↦ next x ]

-- node n is there: some links behind Head; it waits for some thread; a dequeue owns it; a thread holds it; an enqueue owns it; it is free
abbrev pub At : Core → ℕ → PlaceKind → Type 0
At m n in_queue = (k : ℕ) × (walk m.next k m.hnode ≡ some n)
At m n is_waiting = m.wait n ≢ []
At m n in_deq = (t : ℕ) × (owns_d (m.thr t) ≡ some n)
At m n is_held = (t : ℕ) × (m.held t ≡ some n)
At m n in_enq = (t : ℕ) × (owns_e (m.thr t) ≡ some n)
At m n is_free = m.free n ≡ true
