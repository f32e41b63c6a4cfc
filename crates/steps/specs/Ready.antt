-- What one step of a thread needs of the machine record. It follows from 18's test.
use Rattle.std.specs.Prelude.{ℕ, ◌<◌, ◌≤◌, ◌^◌, ◌≡◌, true}
use Rattle.machine.specs.Record.{thread}
use Rattle.machine.specs.Stage.{own, t, the_head, the_next, uses, stage}
use Rattle.machine.specs.declared.Machine.{Machine}
use Rattle.dequeue.specs.Held.{NodeOrNone}

-- what a thread has read is a place of the table where its step uses it
pub record Ready (m : Machine) (k : ℕ) : Type 0 where
  pub thread_in : k < 8
  pub nodes_in_lem : m.n ≤ 64
  pub threads_in_lem : m.t ≤ 8
  pub free_in : m.free < 2 ^ m.n
  pub last_in : m.last < m.n
  pub own_in : uses (stage m k) own ≡ true → (thread m k).node < 64
  pub t_in : uses (stage m k) t ≡ true → (thread m k).tail < 64
  pub head_in : uses (stage m k) the_head ≡ true → (thread m k).head < 64
  pub next_in : uses (stage m k) the_next ≡ true → (thread m k).next < 64
  pub held_in : NodeOrNone (thread m k).held
