-- Request 104: what a flush leaves open and a fence settles; the smallest sequences that tell readings of it apart.
use Rattle.std.specs.Prelude.{ℕ, List, [], ◌∷◌, ◌++◌}
use Rattle.page.specs.Endings.{endings}
use Rattle.cases.specs.Inputs.{enqueue, dequeue, step, zero_nodes, schedule}
use Rattle.cases.specs.Starred.{p1, p3}
use Rattle.cases.specs.Clean.{back, Shown}

-- N = 3, T = 2: 8 and 9 go in; thread 0 begins a dequeue and flushes Head's line, thread 1 begins one and takes c steps, of which the third moves Head on
unfoldable pub overtaken : ℕ → List ℕ
overtaken c = enqueue 0 8 ++ step 12 0 ++ enqueue 0 9 ++ step 12 0 ++ dequeue 0 ++ step 5 0 ++ dequeue 1 ++ step c 1

unfoldable pub fenced : List Shown
fenced =
    -- P2's tenth step, the flush: "Between the two nothing is assured"
    record { schedule = schedule 1 (zero_nodes 2 0) (p1 10); page = "UQS 1 threads 1 nodes 2 events 11 endings 4\n0 0 -\n1 0 -\n2 0 -\n3 0 7\n" }
    -- P4's second, the flush
    ∷ record { schedule = schedule 1 (zero_nodes 2 0) (p3 5); page = "UQS 1 threads 1 nodes 2 events 19 endings 2\n0 0 7\n1 1 -\n" }
    -- "the line's contents start no earlier than the one at the flush": thread 0's fence settles what it flushed, not what thread 1 stored since
    ∷ record { schedule = schedule 2 (zero_nodes 3 0) (overtaken 3); page = "UQS 1 threads 2 nodes 3 events 36 endings 3\n0 0 8 9\n1 1 9\n2 2 -\n" }
    ∷ record { schedule = schedule 2 (zero_nodes 3 0) (overtaken 3 ++ step 1 0); page = "UQS 1 threads 2 nodes 3 events 37 endings 2\n0 1 9\n1 2 -\n" }
    -- "if a later one was persisted already, that one stays": by a write-back, or by the fence of a thread that flushed later
    ∷ record { schedule = schedule 2 (zero_nodes 3 0) (overtaken 3 ++ back 0 0 ++ step 1 0); page = "UQS 1 threads 2 nodes 3 events 38 endings 1\n0 2 -\n" }
    ∷ record { schedule = schedule 2 (zero_nodes 3 0) (overtaken 6 ++ step 1 0); page = "UQS 1 threads 2 nodes 3 events 40 endings 1\n0 2 -\n" }
    -- thread 1 has flushed later, and is behind with its fence: thread 0's counts
    ∷ record { schedule = schedule 2 (zero_nodes 3 0) (overtaken 5 ++ step 1 0); page = "UQS 1 threads 2 nodes 3 events 39 endings 2\n0 1 9\n1 2 -\n" }
    ∷ record { schedule = schedule 2 (zero_nodes 3 0) (overtaken 5 ++ step 1 0 ++ step 1 1); page = "UQS 1 threads 2 nodes 3 events 40 endings 1\n0 2 -\n" }
    ∷ []
