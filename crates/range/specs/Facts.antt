-- What a record that 18 lets through is known to be: the ranges as facts.
use Rattle.std.specs.Prelude.{ℕ, ◌≤◌, ◌<◌, ◌^◌, ◌≡◌, true, ◌⊎◌}
use Rattle.image.specs.Form.{known, top_of, head_lines}
use Rattle.machine.specs.Record.{none, node, kept, head_at, kept_head, thread, flushed, late, over_head, over_node}
use Rattle.machine.specs.Stage.{is_step, own, t, the_head, the_next, uses, stage}
use Rattle.machine.specs.Line.{shape_of}
use Rattle.machine.specs.declared.Machine.{Machine}

-- 2 to 64 nodes, 1 to 8 threads
pub record Sizes (n k : ℕ) : Type 0 where
  pub nodes_low : 2 ≤ n
  pub nodes_high : n ≤ 64
  pub threads_low : 1 ≤ k
  pub threads_high : k ≤ 8

-- none, or a node
abbrev pub Link : Machine → ℕ → Type 0
Link m x = (x ≡ none) ⊎ (x < m.n)

pub record NodeFacts (m : Machine) (i : ℕ) : Type 0 where
  pub next : Link m (node m i).next
  pub linked : (node m i).linked ≤ 1
  pub kept_linked : (kept m i).linked ≤ 1
  pub waits : (node m i).waits < 2 ^ m.t

-- what the thread's next step uses is a node, the rest is a node or none
pub record ThreadFacts (m : Machine) (k : ℕ) : Type 0 where
  pub step : is_step m (thread m k).step ≡ true
  pub own_used : uses (stage m k) own ≡ true → (thread m k).node < m.n
  pub tail_used : uses (stage m k) t ≡ true → (thread m k).tail < m.n
  pub head_used : uses (stage m k) the_head ≡ true → (thread m k).head < m.n
  pub next_used : uses (stage m k) the_next ≡ true → (thread m k).next < m.n
  pub own_link : Link m (thread m k).node
  pub tail_link : Link m (thread m k).tail
  pub head_link : Link m (thread m k).head
  pub next_link : Link m (thread m k).next
  pub held_link : Link m (thread m k).held
  -- "t's next at A12"
  pub after : (thread m k).step ≡ 12 → (node m (thread m k).tail).next < m.n

-- every index is within the width of the form
pub record Narrow (m : Machine) : Type 0 where
  pub form : known m.form ≡ true
  pub head : (k : ℕ) → k < head_lines (shape_of m) → head_at m k ≤ top_of m.form
  pub kept_head_lem : (k : ℕ) → k < head_lines (shape_of m) → kept_head m k ≤ top_of m.form
  pub index : (i : ℕ) → i < m.n → (node m i).index ≤ top_of m.form
  pub kept_index : (i : ℕ) → i < m.n → (kept m i).index ≤ top_of m.form
  pub read : (k : ℕ) → k < m.t → (thread m k).index ≤ top_of m.form

-- what each thread has flushed is a content, and every set is of threads
pub record Flushes (m : Machine) : Type 0 where
  pub linked : (k : ℕ) → k < m.t → (flushed m k).linked ≤ 1
  pub index : (k : ℕ) → k < m.t → (flushed m k).index ≤ top_of m.form
  pub late : (k : ℕ) → k < m.t → late m k < 2 ^ m.t
  pub over_head_lem : (k : ℕ) → k < head_lines (shape_of m) → over_head m k < 2 ^ m.t
  pub over_node_lem : (i : ℕ) → i < m.n → over_node m i < 2 ^ m.t

pub record Facts (m : Machine) : Type 0 where
  pub sizes : Sizes m.n m.t
  pub head : m.head < m.n
  pub tail : m.tail < m.n
  pub last : m.last < m.n
  pub free : m.free < 2 ^ m.n
  pub node : (i : ℕ) → i < m.n → NodeFacts m i
  pub thread : (k : ℕ) → k < m.t → ThreadFacts m k
  pub indices : Narrow m
  pub flushes : Flushes m
