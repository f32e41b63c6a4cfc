-- Lines of memory: what an event does to them, from which time on their contents count, write-backs.
use Rattle.std.specs.Prelude.{ℕ, max}
use Rattle.model.specs.Basics.{upd}

-- a head line, or the line of node n. How many head lines there are is the engine's; document 01 has one
pub data Line : Type 0 where
  of_head : (k : ℕ) → Line
  of_node : (n : ℕ) → Line

-- a table over lines with a at one of them
unfoldable pub upd_l : {A : Type 0} → (Line → A) → Line → A → Line → A
upd_l f (of_head i) a (of_head j) = upd (λ k. f (of_head k)) i a j
upd_l f (of_head i) a (of_node j) = f (of_node j)
upd_l f (of_node i) a (of_head j) = f (of_head j)
upd_l f (of_node i) a (of_node j) = upd (λ k. f (of_node k)) i a j

-- what an event does to the lines: it stores to one, or persists one at once; or thread t issues its flush, or waits for its flush of a line at
-- the fence; or none of these
pub data Touch : Type 0 where
  nowhere : Touch
  stores flushes : (l : Line) → Touch
  issues : (t : ℕ) → Touch
  fences : (t : ℕ) (l : Line) → Touch

-- the times of the threads' flushes, after an event at time k
abbrev pub mark_after : Touch → ℕ → (ℕ → ℕ) → ℕ → ℕ
mark_after nowhere k mk = mk
mark_after (stores l) k mk = mk
mark_after (flushes l) k mk = mk
mark_after (issues t) k mk = upd mk t k
mark_after (fences t l) k mk = mk

-- the times from which the contents of each line count, after an event at time k: k where it persists the line at once; at a fence the time of
-- the flush, if nothing later is persisted there already
abbrev pub from_after : Touch → ℕ → (ℕ → ℕ) → (Line → ℕ) → Line → ℕ
from_after nowhere k mk f = f
from_after (stores l) k mk f = f
from_after (flushes l) k mk f = upd_l f l k
from_after (issues t) k mk f = f
from_after (fences t l) k mk f = upd_l f l (max (f l) (mk t))

-- an act of the threads, or a write-back of a line
pub data Ev (E : Type 0) : Type 0 where
  act : E → Ev E
  back : Line → Ev E
