-- Request 101: P1 to P5 with one head index per desk, a thread whose line is the largest, crashes, and the order of 1, 3 and 4.
use Rattle.std.specs.Prelude.{ℕ, ◌*◌, List, [], ◌∷◌, ◌++◌, length, replicate}
use Rattle.page.specs.Endings.{endings}
use Rattle.cases.specs.Inputs.{four, enqueue, dequeue, crash, step, schedule}
use Rattle.cases.specs.Starred.{Case, p1, p3}
use Rattle.cases.specs.Clean.{Shown}

-- "mark "UQP", version 1, N, T (1 byte each), T indices of 4 bytes", nodes of nine zero bytes
unfoldable pub fours : List ℕ → List ℕ
fours [] = []
fours (x ∷ l) = four x ++ fours l

unfoldable pub desk_nodes : ℕ → List ℕ → List ℕ
desk_nodes n heads = 85 ∷ 81 ∷ 80 ∷ 1 ∷ 0 ∷ n ∷ length heads ∷ fours heads ++ replicate (9 * n) 0

-- thread 0 enqueues 7, thread 1 begins a dequeue and takes c steps
unfoldable pub by_one : ℕ → List ℕ
by_one c = p1 12 ++ dequeue 1 ++ step c 1

unfoldable pub desks : List Case
desks =
    -- P1
    record {
      schedule = schedule 1 (desk_nodes 2 (0 ∷ [])) (p1 9);
      page = "UQS 1 threads 1 nodes 2 events 10 endings 4\n0 0 -\n1 0 -\n2 0 -\n3 0 7\n";
      reply = 0;
      places = 2 ∷ 0 ∷ 0 ∷ 0 ∷ 0 ∷ 0 ∷ [];
      held = [];
    }
    -- P2
    ∷ record {
      schedule = schedule 1 (desk_nodes 2 (0 ∷ [])) (p1 11);
      page = "UQS 1 threads 1 nodes 2 events 12 endings 1\n0 0 7\n";
      reply = 0;
      places = 2 ∷ 0 ∷ 0 ∷ 0 ∷ 0 ∷ 0 ∷ [];
      held = [];
    }
    -- P3: D4 stores a node number, which is in no line: one ending
    ∷ record {
      schedule = schedule 1 (desk_nodes 2 (0 ∷ [])) (p3 3);
      page = "UQS 1 threads 1 nodes 2 events 17 endings 1\n0 0 7\n";
      reply = 0;
      places = 1 ∷ 0 ∷ 0 ∷ 0 ∷ 0 ∷ 1 ∷ [];
      held = [];
    }
    -- its fifth step stores the new dummy's index in the thread's line
    ∷ record {
      schedule = schedule 1 (desk_nodes 2 (0 ∷ [])) (p3 5);
      page = "UQS 1 threads 1 nodes 2 events 19 endings 2\n0 0 7\n1 1 -\n";
      reply = 0;
      places = 1 ∷ 0 ∷ 0 ∷ 0 ∷ 0 ∷ 1 ∷ [];
      held = [];
    }
    -- the sixth flushes that line
    ∷ record {
      schedule = schedule 1 (desk_nodes 2 (0 ∷ [])) (p3 6);
      page = "UQS 1 threads 1 nodes 2 events 20 endings 2\n0 0 7\n1 1 -\n";
      reply = 0;
      places = 1 ∷ 0 ∷ 0 ∷ 0 ∷ 0 ∷ 1 ∷ [];
      held = [];
    }
    -- P4: the seventh is the fence
    ∷ record {
      schedule = schedule 1 (desk_nodes 2 (0 ∷ [])) (p3 7);
      page = "UQS 1 threads 1 nodes 2 events 21 endings 1\n0 1 -\n";
      reply = 0;
      places = 1 ∷ 0 ∷ 0 ∷ 0 ∷ 0 ∷ 1 ∷ [];
      held = [];
    }
    -- P5: finish that dequeue, begin an enqueue: its first step answers Full, because node 0 is held
    ∷ record {
      schedule = schedule 1 (desk_nodes 2 (0 ∷ [])) (p3 8 ++ enqueue 0 8 ++ step 1 0);
      page = "UQS 1 threads 1 nodes 2 events 24 endings 1\n0 1 -\n";
      reply = 2;
      places = 1 ∷ 0 ∷ 0 ∷ 1 ∷ 0 ∷ 0 ∷ [];
      held = 0 ∷ [];
    }
    -- thread 1 dequeues: its line is the largest, and line 0 stays 0
    ∷ record {
      schedule = schedule 2 (desk_nodes 2 (0 ∷ 0 ∷ [])) (by_one 5);
      page = "UQS 1 threads 2 nodes 2 events 19 endings 2\n0 0 7\n1 1 -\n";
      reply = 0;
      places = 1 ∷ 0 ∷ 0 ∷ 0 ∷ 0 ∷ 1 ∷ [];
      held = [];
    }
    -- it answers the item
    ∷ record {
      schedule = schedule 2 (desk_nodes 2 (0 ∷ 0 ∷ [])) (by_one 8);
      page = "UQS 1 threads 2 nodes 2 events 22 endings 1\n0 1 -\n";
      reply = 4;
      places = 1 ∷ 0 ∷ 0 ∷ 1 ∷ 0 ∷ 0 ∷ [];
      held = 0 ∷ [];
    }
    -- then thread 0 finds nothing: it stores the index of the node it found last; two endings that print the same line
    ∷ record {
      schedule = schedule 2 (desk_nodes 2 (0 ∷ 0 ∷ [])) (by_one 8 ++ dequeue 0 ++ step 3 0);
      page = "UQS 1 threads 2 nodes 2 events 26 endings 2\n0 1 -\n1 1 -\n";
      reply = 0;
      places = 1 ∷ 0 ∷ 0 ∷ 1 ∷ 0 ∷ 0 ∷ [];
      held = 0 ∷ [];
    }
    -- flushes it, and answers Empty at the fence
    ∷ record {
      schedule = schedule 2 (desk_nodes 2 (0 ∷ 0 ∷ [])) (by_one 8 ++ dequeue 0 ++ step 5 0);
      page = "UQS 1 threads 2 nodes 2 events 28 endings 1\n0 1 -\n";
      reply = 5;
      places = 1 ∷ 0 ∷ 0 ∷ 1 ∷ 0 ∷ 0 ∷ [];
      held = 0 ∷ [];
    }
    -- a crash between the store and the fence: the item is still queued, and thread 0 takes it
    ∷ record {
      schedule = schedule 2 (desk_nodes 2 (0 ∷ 0 ∷ [])) (by_one 5 ++ crash ++ dequeue 0 ++ step 8 0);
      page = "UQS 1 threads 2 nodes 2 events 29 endings 1\n0 1 -\n";
      reply = 4;
      places = 1 ∷ 0 ∷ 0 ∷ 1 ∷ 0 ∷ 0 ∷ [];
      held = 0 ∷ [];
    }
    -- a crash behind the fence: recovery takes the largest and alters none; the dummy's cached index is the head index
    ∷ record {
      schedule = schedule 2 (desk_nodes 2 (0 ∷ 0 ∷ [])) (by_one 7 ++ crash);
      page = "UQS 1 threads 2 nodes 2 events 22 endings 2\n0 1 -\n1 1 -\n";
      reply = 0;
      places = 1 ∷ 1 ∷ 0 ∷ 0 ∷ 0 ∷ 0 ∷ [];
      held = [];
    }
    -- the printed head index is the largest, whichever line has it
    ∷ record {
      schedule = schedule 2 (desk_nodes 2 (3 ∷ 5 ∷ [])) [];
      page = "UQS 1 threads 2 nodes 2 events 0 endings 2\n0 5 -\n1 5 -\n";
      reply = 0;
      places = 1 ∷ 1 ∷ 0 ∷ 0 ∷ 0 ∷ 0 ∷ [];
      held = [];
    }
    ∷ []

-- what is turned away
unfoldable pub turned_away : List Shown
turned_away =
    -- "a schedule whose two T differ is 4", "fewer than 10 bytes left is still 1"
    record { schedule = schedule 1 (desk_nodes 2 (0 ∷ 0 ∷ [])) []; page = "refused 4 at 0\n" }
    ∷ record { schedule = schedule 1 (desk_nodes 2 []) []; page = "refused 4 at 0\n" }
    ∷ record { schedule = schedule 1 (desk_nodes 1 (0 ∷ 0 ∷ [])) []; page = "refused 3 at 0\n" }
    ∷ record { schedule = schedule 1 (85 ∷ 81 ∷ 80 ∷ 1 ∷ 0 ∷ 2 ∷ 2 ∷ []) []; page = "refused 1 at 0\n" }
    -- a line of a thread is clean behind a start; line 2 is node 0, there is no line 4
    ∷ record { schedule = schedule 2 (desk_nodes 2 (3 ∷ 5 ∷ [])) (4 ∷ 1 ∷ four 0); page = "refused 19 at 0\n" }
    ∷ record { schedule = schedule 2 (desk_nodes 2 (3 ∷ 5 ∷ [])) (4 ∷ 2 ∷ four 0); page = "UQS 1 threads 2 nodes 2 events 1 endings 1\n0 5 -\n" }
    ∷ record { schedule = schedule 2 (desk_nodes 2 (3 ∷ 5 ∷ [])) (4 ∷ 4 ∷ four 0); page = "refused 10 at 0\n" }
    ∷ []
