-- What is so after every event of a run, as types: every number is in its range; lines are steady; the numbers of nodes in the six places add up to N.
use Rattle.std.specs.Prelude.{◌≡◌, Bool, true, false, not, List, [], ◌∷◌, ◌≢◌, ◌↔◌, ℕ, zero, suc, ◌+◌, ◌≤◌, ◌<◌, eqb}
use Rattle.std.proofs.Math.Option.{Option, none, some}
use Rattle.model.specs.Basics.{sel, has}
use Rattle.model.specs.Lines.{of_head, of_node}
use Rattle.model.specs.Conf.{head_lines}
use Rattle.model.specs.Core.{elsewhere, a10f, d3f, d6f}
use Rattle.model.specs.Core.{Core, Th, busy, idle, a1, a2, a3, a4, a5, a6, a7, a8, a9, a10, a11, a12, d1, d2, d3, d4, d5, d6, d7}
use Rattle.model.specs.Core.{s3, s6}
use Rattle.model.specs.Recovery.{Image}
use Rattle.model.specs.Machine.{M, Event, starts, run}
use Rattle.model.specs.Demand3.{Fit, Tidy, TakesAll}
use Rattle.model.specs.Places.{PlaceKind, in_queue, is_waiting, in_deq, is_held, in_enq, is_free, walk, At, owns_e, owns_d}

-- ---- every number in its range

-- the nodes that a thread's next steps use: its own node, t, the head read, the next read; and at A12 t's next is there
abbrev pub ThIn : (N : ℕ) (next : ℕ → Option ℕ) → Th → Type 0
ThIn N next idle = Unit {0}
ThIn N next (a1 v) = Unit {0}
ThIn N next (a2 v n) = n < N
ThIn N next (a3 v n) = n < N
ThIn N next (a4 v n) = n < N
ThIn N next (a5 v n) = n < N
ThIn N next (a6 v n t) = (n < N) × (t < N)
ThIn N next (a7 v n t) = (n < N) × (t < N)
ThIn N next (a8 v n t) = (n < N) × (t < N)
ThIn N next (a9 v n t) = (n < N) × (t < N)
ThIn N next (a10 v n t) = (n < N) × (t < N)
ThIn N next (a10f v n t) = (n < N) × (t < N)
ThIn N next (a11 v n t) = (n < N) × (t < N)
ThIn N next (a12 v n t) = (n < N) × (t < N) × (next t ≢ none)
ThIn N next d1 = Unit {0}
ThIn N next elsewhere = Unit {0}
ThIn N next (d2 h i) = h < N
ThIn N next (d3 h i) = h < N
ThIn N next (d3f h i) = h < N
ThIn N next (s3 h i) = h < N
ThIn N next (d4 h i x) = (h < N) × (x < N)
ThIn N next (d5 h x) = (h < N) × (x < N)
ThIn N next (d6 h v) = h < N
ThIn N next (d6f h v) = h < N
ThIn N next (s6 h x v) = (h < N) × (x < N)
ThIn N next (d7 h v) = h < N

pub record InRange (m : Core) : Type 0 where
  pub head : m.hnode < m.conf.nodes
  pub tail : m.tail < m.conf.nodes
  pub last : m.last < m.conf.nodes
  pub links : (n x : ℕ) → m.next n ≡ some x → x < m.conf.nodes
  pub free : (n : ℕ) → m.free n ≡ true → n < m.conf.nodes
  pub waits : (n t : ℕ) → has t (m.wait n) → (n < m.conf.nodes) × (t < m.conf.threads)
  pub holds : (t n : ℕ) → m.held t ≡ some n → (t < m.conf.threads) × (n < m.conf.nodes)
  pub works : (t : ℕ) → busy (m.thr t) ≡ true → t < m.conf.threads
  pub threads : (t : ℕ) → ThIn m.conf.nodes m.next (m.thr t)

abbrev pub AlwaysInRange : Type 0
AlwaysInRange = (g : Image) → Fit g → Tidy g → (l : List Event) → TakesAll (starts g) l → InRange (run (starts g) l).core

-- ---- what lines do in the course of time

-- head lines never fall, and from its flush to its fence the line of an enqueue's node does not change
pub record Steady (m : M) : Type 0 where
  pub heads : (k : ℕ) → k < head_lines m.core.conf → (i j : ℕ) → i ≤ j → j ≤ m.now → (m.past (of_head k) i).index ≤ (m.past (of_head k) j).index
  pub nodes : (t v n x : ℕ) → m.core.thr t ≡ a10f v n x → (i : ℕ) → m.mark t ≤ i → i ≤ m.now → m.past (of_node n) i ≡ m.core.node n

abbrev pub AlwaysSteady : Type 0
AlwaysSteady = (g : Image) → Fit g → Tidy g → (l : List Event) → TakesAll (starts g) l → Steady (run (starts g) l)

-- ---- the six places, and the six numbers

-- each node is in exactly one of the six places
abbrev pub OnePlace : Type 0
OnePlace = (g : Image) → Fit g → Tidy g → (l : List Event) → TakesAll (starts g) l → (n : ℕ) → n < g.conf.nodes →
    let m = (run (starts g) l).core in
    (k : PlaceKind) × At m n k × ((k' : PlaceKind) → At m n k' → k ≡ k')

-- how many numbers below k pass the test
unfoldable pub count_below : (ℕ → Bool) → ℕ → ℕ
count_below f zero = 0
count_below f (suc k) = sel (f k) 1 0 + count_below f k

-- some number below k passes the test
unfoldable pub some_below : (ℕ → Bool) → ℕ → Bool
some_below f zero = false
some_below f (suc k) = sel (f k) true (some_below f k)

abbrev pub is_it : ℕ → Option ℕ → Bool
is_it n none = false
is_it n (some k) = eqb k n

abbrev pub is_nil : List ℕ → Bool
is_nil [] = true
is_nil (t ∷ l) = false

-- the six places as tests: at most N - 1 links behind Head; waits for some thread; some thread's, below T; free
abbrev pub placed : Core → PlaceKind → ℕ → Bool
placed m in_queue n = some_below (λ k. is_it n (walk m.next k m.hnode)) m.conf.nodes
placed m is_waiting n = not (is_nil (m.wait n))
placed m in_deq n = some_below (λ t. is_it n (owns_d (m.thr t))) m.conf.threads
placed m is_held n = some_below (λ t. is_it n (m.held t)) m.conf.threads
placed m in_enq n = some_below (λ t. is_it n (owns_e (m.thr t))) m.conf.threads
placed m is_free n = m.free n

-- the tests say what the definitions say
abbrev pub PlacesTested : Type 0
PlacesTested = (g : Image) → Fit g → Tidy g → (l : List Event) → TakesAll (starts g) l → (n : ℕ) (k : PlaceKind) →
    let m = (run (starts g) l).core in
    (placed m k n ≡ true) ↔ At m n k

-- how many of N are in each place, all together
abbrev pub six_total : (PlaceKind → ℕ → Bool) → ℕ → ℕ
six_total p N = count_below (p in_queue) N + count_below (p is_free) N + count_below (p is_waiting) N
    + count_below (p is_held) N + count_below (p in_enq) N + count_below (p in_deq) N

abbrev pub SixAddUp : Type 0
SixAddUp = (g : Image) → Fit g → Tidy g → (l : List Event) → TakesAll (starts g) l →
    six_total (placed (run (starts g) l).core) g.conf.nodes ≡ g.conf.nodes
