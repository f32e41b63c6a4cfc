-- The ten starred sequences: one list, and a single proof over it.
use Rattle.std.specs.Prelude.{ℕ, zero, suc, Bool, true, false, List, [], ◌∷◌, ◌++◌, eqb}
use Prim.Native.String.{String}
use Rattle.lists.specs.Find.{pick, both}
use Rattle.lists.specs.Text.{text}
use Rattle.answer.specs.Answers.{told, Answer, Taken}
use Rattle.machine.specs.Place.{in_queue, is_free, is_waiting, is_held, in_enqueue, in_dequeue, placed}
use Rattle.machine.specs.declared.Machine.{Machine}
use Rattle.schedule.specs.Run.{ran}
use Rattle.page.specs.Endings.{endings}
use Rattle.page.specs.Printed.{printed}
use Rattle.cases.specs.Inputs.{enqueue, dequeue, step, zero_nodes, schedule}

-- a schedule; the page that is printed; the answer of its last event (0 none, 1 Done, 2 Full, 3 Worn out, 4 an item, 5 Empty);
-- how many nodes are then in the queue, free, waiting, held, owned by an enqueue, owned by a dequeue; and which nodes are held
pub record Case : Type 0 where
  pub schedule : List ℕ
  pub page : String
  pub reply : ℕ
  pub places : List ℕ
  pub held : List ℕ

-- P1: N = 2, T = 1, all-zero image, one begin of an enqueue of 7, nine steps. P2: two more, a flush and a fence
unfoldable pub p1 : ℕ → List ℕ
p1 c = enqueue 0 7 ++ step c 0

-- P3: after twelve steps in all, a dequeue with three steps. P4: three more
unfoldable pub p3 : ℕ → List ℕ
p3 c = p1 12 ++ dequeue 0 ++ step c 0

-- P6: thread 0 begins 5 and takes eight steps; thread 1 begins 6 and takes fifteen. P7: thread 0's ninth
unfoldable pub p6 : List ℕ
p6 = enqueue 0 5 ++ step 8 0 ++ enqueue 1 6 ++ step 15 1

unfoldable pub starred : List Case
starred =
    -- P1
    record {
      schedule = schedule 1 (zero_nodes 2 0) (p1 9);
      page = "UQS 1 threads 1 nodes 2 events 10 endings 4\n0 0 -\n1 0 -\n2 0 -\n3 0 7\n";
      reply = 0;
      places = 2 ∷ 0 ∷ 0 ∷ 0 ∷ 0 ∷ 0 ∷ [];
      held = [];
    }
    -- P2
    ∷ record {
      schedule = schedule 1 (zero_nodes 2 0) (p1 11);
      page = "UQS 1 threads 1 nodes 2 events 12 endings 1\n0 0 7\n";
      reply = 0;
      places = 2 ∷ 0 ∷ 0 ∷ 0 ∷ 0 ∷ 0 ∷ [];
      held = [];
    }
    -- P3
    ∷ record {
      schedule = schedule 1 (zero_nodes 2 0) (p3 3);
      page = "UQS 1 threads 1 nodes 2 events 17 endings 2\n0 0 7\n1 1 -\n";
      reply = 0;
      places = 1 ∷ 0 ∷ 0 ∷ 0 ∷ 0 ∷ 1 ∷ [];
      held = [];
    }
    -- P4
    ∷ record {
      schedule = schedule 1 (zero_nodes 2 0) (p3 6);
      page = "UQS 1 threads 1 nodes 2 events 20 endings 1\n0 1 -\n";
      reply = 0;
      places = 1 ∷ 0 ∷ 0 ∷ 0 ∷ 0 ∷ 1 ∷ [];
      held = [];
    }
    -- P5: finish that dequeue, begin an enqueue: its first step answers Full, because node 0 is held
    ∷ record {
      schedule = schedule 1 (zero_nodes 2 0) (p3 7 ++ enqueue 0 8 ++ step 1 0);
      page = "UQS 1 threads 1 nodes 2 events 23 endings 1\n0 1 -\n";
      reply = 2;
      places = 1 ∷ 0 ∷ 0 ∷ 1 ∷ 0 ∷ 0 ∷ [];
      held = 0 ∷ [];
    }
    -- P6: N = 3, T = 2
    ∷ record {
      schedule = schedule 2 (zero_nodes 3 0) p6;
      page = "UQS 1 threads 2 nodes 3 events 25 endings 3\n0 0 6\n1 0 6\n2 0 6\n";
      reply = 1;
      places = 3 ∷ 0 ∷ 0 ∷ 0 ∷ 0 ∷ 0 ∷ [];
      held = [];
    }
    -- P7
    ∷ record {
      schedule = schedule 2 (zero_nodes 3 0) (p6 ++ step 1 0);
      page = "UQS 1 threads 2 nodes 3 events 26 endings 4\n0 0 6\n1 0 6\n2 0 6\n3 0 5 6\n";
      reply = 0;
      places = 3 ∷ 0 ∷ 0 ∷ 0 ∷ 0 ∷ 0 ∷ [];
      held = [];
    }
    -- P8: zero nodes, head index 5, no events: two endings, both empty
    ∷ record {
      schedule = schedule 1 (zero_nodes 2 5) [];
      page = "UQS 1 threads 1 nodes 2 events 0 endings 2\n0 5 -\n1 5 -\n";
      reply = 0;
      places = 1 ∷ 1 ∷ 0 ∷ 0 ∷ 0 ∷ 0 ∷ [];
      held = [];
    }
    -- P9: all-zero image, no events: one ending
    ∷ record {
      schedule = schedule 1 (zero_nodes 2 0) [];
      page = "UQS 1 threads 1 nodes 2 events 0 endings 1\n0 0 -\n";
      reply = 0;
      places = 1 ∷ 1 ∷ 0 ∷ 0 ∷ 0 ∷ 0 ∷ [];
      held = [];
    }
    -- P10: zero nodes, head index 4,294,967,295: an enqueue answers Worn out at its seventh step
    ∷ record {
      schedule = schedule 1 (zero_nodes 2 4294967295) (p1 7);
      page = "UQS 1 threads 1 nodes 2 events 8 endings 4\n0 4294967295 -\n1 4294967295 -\n2 4294967295 -\n3 4294967295 -\n";
      reply = 3;
      places = 1 ∷ 1 ∷ 0 ∷ 0 ∷ 0 ∷ 0 ∷ [];
      held = [];
    }
    ∷ []

-- ---- the test of a case, by the definitions

unfoldable pub same_bytes : List ℕ → List ℕ → Bool
same_bytes [] [] = true
same_bytes [] (y ∷ m) = false
same_bytes (x ∷ l) [] = false
same_bytes (x ∷ l) (y ∷ m) = elim (eqb x y) [ true ↦ same_bytes l m | false ↦ false ]

unfoldable pub last_answer : Answer → List Answer → Answer
last_answer a [] = a
last_answer a (b ∷ l) = last_answer b l

unfoldable pub six_places : Machine → List ℕ
six_places m =
    placed in_queue m ∷ placed is_free m ∷ placed is_waiting m ∷ placed is_held m ∷ placed in_enqueue m ∷ placed in_dequeue m ∷ []

-- the nodes below k that are held
unfoldable pub held_below : Machine → ℕ → List ℕ
held_below m zero = []
held_below m (suc k) = pick (is_held m k) (held_below m k ++ (k ∷ [])) (held_below m k)

unfoldable pub right : Case → Bool
right c =
    let m = (ran c.schedule).bench.machine in
    both (same_bytes (printed c.schedule) (text c.page))
    (both (eqb (told (last_answer Taken (ran c.schedule).replies)).reply c.reply)
    (both (same_bytes (six_places m) c.places) (same_bytes (held_below m m.n) c.held)))

unfoldable pub all_right : List Case → Bool
all_right [] = true
all_right (c ∷ l) = elim (right c) [ true ↦ all_right l | false ↦ false ]
