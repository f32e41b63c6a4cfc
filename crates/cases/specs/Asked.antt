-- The operations that count, computed: with an item, an Empty, a Full, a Worn out, and across a crash.
use Rattle.std.specs.Prelude.{ℕ, List, [], ◌++◌}
use Rattle.schedule.specs.Layout.{events_in}
use Rattle.schedule.specs.Run.{ran}
use Rattle.lawful.specs.Operation.{Operation, Call, Reply, operations}
use Rattle.cases.specs.Inputs.{enqueue, dequeue, step, crash, zero_nodes, schedule}
use Rattle.cases.specs.Starred.{p1, p3}

-- the operations of a schedule since its last start
abbrev pub asked : List ℕ → List Operation
asked s = operations 0 (events_in s) (ran s).replies []

abbrev pub operation : Call → ℕ → Reply → ℕ → Operation
operation c b r e = record { thread = 0; call = c; began = b; reply = r; ended = e }

-- N = 2, T = 1: 7 goes in and comes out, a second dequeue finds nothing, an enqueue of 8 finds no node, one of 9 has just begun
unfoldable pub drained : List ℕ
drained = schedule 1 (zero_nodes 2 0) (p3 7 ++ dequeue 0 ++ step 4 0 ++ enqueue 0 8 ++ step 1 0 ++ enqueue 0 9)

-- P10's enqueue
unfoldable pub worn : List ℕ
worn = schedule 1 (zero_nodes 2 4294967295) (p1 7)

-- 7 goes in, and there is a crash; a dequeue has moved Head and not answered
unfoldable pub crashed : List ℕ
crashed = schedule 1 (zero_nodes 2 0) (p1 12 ++ crash ++ dequeue 0 ++ step 4 0)
