-- The six places of a node, each with a definition of its own.
use Rattle.std.specs.Prelude.{ℕ, zero, suc, Bool, true, false, not, eqb}
use Rattle.lists.specs.Find.{both, any, count}
use Rattle.lists.specs.Word.{has}
use Rattle.answer.specs.Answers.{Answer, Taken, Record}
use Rattle.machine.specs.Record.{none, node, thread}
use Rattle.machine.specs.Stage.{stage, enqueue_owns, dequeue_owns}
use Rattle.machine.specs.Range.{in_range}
use Rattle.machine.specs.declared.Machine.{Machine}
use Rattle.machine.specs.declared.Places.{Places}

-- node i is x, or is reached from x in at most c moves along the links
unfoldable pub reached : Machine → ℕ → ℕ → ℕ → Bool
reached m zero x i = eqb x i
reached m (suc c) x i = elim (eqb x i) [
  | true ↦ true
  | false ↦ elim (eqb (node m x).next none) [ true ↦ false | false ↦ reached m c (node m x).next i ]
]

-- the queue, dummy included: what the links reach from Head's node
abbrev pub in_queue : Machine → ℕ → Bool
in_queue m i = reached m m.n m.head i

abbrev pub is_free : Machine → ℕ → Bool
is_free m i = has m.free i

-- it waits for some thread
abbrev pub is_waiting : Machine → ℕ → Bool
is_waiting m i = not (eqb (node m i).waits 0)

-- some thread holds it
unfoldable pub is_held : Machine → ℕ → Bool
is_held m i = any (λ k. eqb (thread m k).held i) m.t

-- owned by an enqueue before its A8
unfoldable pub in_enqueue : Machine → ℕ → Bool
in_enqueue m i = any (λ k. both (enqueue_owns (stage m k)) (eqb (thread m k).node i)) m.t

-- owned by a dequeue between D4 and D7
unfoldable pub in_dequeue : Machine → ℕ → Bool
in_dequeue m i = any (λ k. both (dequeue_owns (stage m k)) (eqb (thread m k).head i)) m.t

-- how many nodes are in a place
abbrev pub placed : (Machine → ℕ → Bool) → Machine → ℕ
placed at m = count (at m) m.n

unfoldable pub places_of : Machine → Places
places_of m = record {
  queue = placed in_queue m;
  free = placed is_free m;
  waiting = placed is_waiting m;
  held = placed is_held m;
  enqueue = placed in_enqueue m;
  dequeue = placed in_dequeue m;
}

abbrev pub no_places : Places
no_places = record { queue = 0; free = 0; waiting = 0; held = 0; enqueue = 0; dequeue = 0 }

-- what counting answers, and the six numbers beside it
pub record Counted : Type 0 where
  pub answer : Answer
  pub places : Places

-- the six numbers of a record that is handed in: 18 before all else
unfoldable pub count_places : Machine → Counted
count_places m = elim (in_range m) [
  | true ↦ record { answer = Taken; places = places_of m }
  | false ↦ record { answer = Record; places = no_places }
]
