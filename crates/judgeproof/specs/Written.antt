-- A history written as bytes, from its operations and its two queues: what the rig that kept them hands to the judge.
use Rattle.std.specs.Prelude.{ℕ, List, [], ◌∷◌, ◌++◌, length, get_or}
use Rattle.lists.specs.Tab.{joined}
use Rattle.image.specs.Bytes.{le, le4}
use Rattle.lawful.specs.Operation.{Operation, Reply, nothing, done, full, worn_out, empty, gave, Call, puts, takes}
use Rattle.lawful.specs.Lawful.{at}

-- "kind (1 enqueue, 2 dequeue)"
abbrev pub kind_of : Call → ℕ
kind_of (puts v) = 1
kind_of takes = 2

-- "0 none, 1 Done, 2 Full, 3 Worn out, 4 item, 5 Empty"
abbrev pub answer_of : Reply → ℕ
answer_of nothing = 0
answer_of done = 1
answer_of full = 2
answer_of worn_out = 3
answer_of (gave v) = 4
answer_of empty = 5

-- "item where it has one": an enqueue's own, or the one that a dequeue answered with; else zero
abbrev pub given_by : Reply → ℕ
given_by nothing = 0
given_by done = 0
given_by full = 0
given_by worn_out = 0
given_by (gave v) = v
given_by empty = 0

abbrev pub item_of : Call → Reply → ℕ
item_of (puts v) r = v
item_of takes r = given_by r

-- an operation's 22 bytes: kind, begin time (8), answer time (8), answer, item (4)
abbrev pub operation_bytes : Operation → List ℕ
operation_bytes o = kind_of o.call ∷ (le 8 o.began ++ (le 8 o.ended ++ (answer_of o.reply ∷ le4 (item_of o.call o.reply))))

-- a queue's bytes: 4 an item
unfoldable pub queue_bytes : List ℕ → List ℕ
queue_bytes q = joined (λ p. le4 (get_or q p 0)) (length q)

unfoldable pub operations_bytes : List Operation → List ℕ
operations_bytes ops = joined (λ i. operation_bytes (at ops i)) (length ops)

-- how many operations, items at the start and items recovered there are; the items, those of the start first; the operations
unfoldable pub history_bytes : List Operation → List ℕ → List ℕ → List ℕ
history_bytes ops first last = length ops ∷ length first ∷ length last ∷ (queue_bytes first ++ (queue_bytes last ++ operations_bytes ops))
