-- The shape of a machine, fixed for a whole run; and what differs between the two engines.
use Rattle.std.specs.Prelude.{◌≡◌, Bool, true, false, ℕ, zero, suc, ◌<◌}
use Rattle.std.proofs.Math.Option.{Option, none, some}
use Rattle.model.specs.Basics.{bothb}
use Rattle.model.specs.Lines.{Line, of_head, of_node, Touch, nowhere, stores}

-- shared: document 01's machine, one line for Head with its index.
-- split: an index line for each thread, and Head is a node number alone
pub data Engine : Type 0 where
  shared split : Engine

-- at_once: A10, D3 and D6 persist a line in one step. fenced: they flush it, and a step of its own behind each, the fence, waits for that
pub data Mode : Type 0 where
  at_once fenced : Mode

-- how A1 chooses, from N, the node last handed out and the free set: a free node, and none only if none is free
pub record Chooser : Type 0 where
  pub pick : ℕ → ℕ → (ℕ → Bool) → Option ℕ
  pub is_free : (N last : ℕ) (f : ℕ → Bool) (n : ℕ) → pick N last f ≡ some n → f n ≡ true
  pub none_free : (N last : ℕ) (f : ℕ → Bool) → pick N last f ≡ none → (n : ℕ) → n < N → f n ≡ false

-- N, T, the largest index, the engine, the choice, how a line is persisted
pub record Conf : Type 0 where
  pub nodes : ℕ
  pub threads : ℕ
  pub top : ℕ
  pub engine : Engine
  pub chooser : Chooser
  pub mode : Mode

-- how many head lines there are
abbrev pub line_count : Engine → ℕ → ℕ
line_count shared T = 1
line_count split T = T

abbrev pub head_lines : Conf → ℕ
head_lines c = line_count c.engine c.threads

-- the lines that exist
abbrev pub Within : Conf → Line → Type 0
Within c (of_head k) = k < head_lines c
Within c (of_node n) = n < c.nodes

-- the head line that thread t persists
abbrev pub line_of : Engine → ℕ → ℕ
line_of shared t = 0
line_of split t = t

-- the index in head line k, from Head's index i and what the threads have stored (in `shared` there is line 0 alone)
abbrev pub line_ix : Engine → ℕ → (ℕ → ℕ) → ℕ → ℕ
line_ix shared i f zero = i
line_ix shared i f (suc k) = f (suc k)
line_ix split i f k = f k

-- what thread t has stored in a line of its own
abbrev pub thread_ix : Engine → (ℕ → ℕ) → ℕ → ℕ
thread_ix shared f t = 0
thread_ix split f t = f t

-- what a change of Head touches
abbrev pub head_touch : Engine → Touch
head_touch shared = stores (of_head 0)
head_touch split = nowhere

-- what D4 compares: number and index, or the number alone
abbrev pub same_head : Engine → Bool → Bool → Bool
same_head shared n i = bothb n i
same_head split n i = n
