-- Request 102: write-backs of clean lines, of changed ones, and of one whose content came back; the order of 10, 13 and 19.
use Rattle.std.specs.Prelude.{ℕ, Bool, true, false, List, [], ◌∷◌, ◌++◌}
use Prim.Native.String.{String}
use Rattle.lists.specs.Text.{text}
use Rattle.page.specs.Endings.{endings}
use Rattle.page.specs.Printed.{printed}
use Rattle.cases.specs.Inputs.{four, enqueue, crash, step, zero_nodes, schedule}
use Rattle.cases.specs.Starred.{p1, p3, same_bytes}

-- line l written back; v is the item, which is zero in a right one
unfoldable pub back : ℕ → ℕ → List ℕ
back l v = 4 ∷ l ∷ four v

-- a schedule, and its printed page
pub record Shown : Type 0 where
  pub schedule : List ℕ
  pub page : String

-- node 1's item goes from 0 to 1 and back to 0, in enqueues that wear out
unfoldable pub came_back : List ℕ
came_back = enqueue 0 1 ++ step 7 0 ++ enqueue 0 0 ++ step 2 0

unfoldable pub written : List Shown
written =
    -- behind a start Head's line is clean
    record { schedule = schedule 1 (zero_nodes 2 0) (back 0 0); page = "refused 19 at 0\n" }
    -- 10 and 13 stand before 19
    ∷ record { schedule = schedule 1 (zero_nodes 2 0) (back 3 1); page = "refused 10 at 0\n" }
    ∷ record { schedule = schedule 1 (zero_nodes 2 0) (back 0 1); page = "refused 13 at 0\n" }
    -- the dummy's line is not, where its index is not the head index
    ∷ record { schedule = schedule 1 (zero_nodes 2 5) (back 1 0); page = "UQS 1 threads 1 nodes 2 events 1 endings 1\n0 5 -\n" }
    -- P1 with node 1's line written back; and so twice, as a probe doubles it
    ∷ record { schedule = schedule 1 (zero_nodes 2 0) (p1 9 ++ back 2 0); page = "UQS 1 threads 1 nodes 2 events 11 endings 1\n0 0 7\n" }
    ∷ record { schedule = schedule 1 (zero_nodes 2 0) (p1 9 ++ back 2 0 ++ back 2 0); page = "refused 19 at 11\n" }
    -- P2: A10's flush alone cleans nothing; its fence has persisted the line, or finds that it is
    ∷ record { schedule = schedule 1 (zero_nodes 2 0) (p1 10 ++ back 2 0 ++ step 1 0); page = "UQS 1 threads 1 nodes 2 events 13 endings 1\n0 0 7\n" }
    ∷ record { schedule = schedule 1 (zero_nodes 2 0) (p1 11 ++ back 2 0); page = "refused 19 at 12\n" }
    -- P3 with Head's line written back; and so behind F6
    ∷ record { schedule = schedule 1 (zero_nodes 2 0) (p3 3 ++ back 0 0); page = "UQS 1 threads 1 nodes 2 events 18 endings 1\n0 1 -\n" }
    ∷ record { schedule = schedule 1 (zero_nodes 2 0) (p3 6 ++ back 0 0); page = "refused 19 at 20\n" }
    -- by content: node 1's line has two contents, the present one is the persisted one, and its write-back is refused though it is no double
    ∷ record {
      schedule = schedule 1 (zero_nodes 2 4294967295) came_back;
      page = "UQS 1 threads 1 nodes 2 events 11 endings 4\n0 4294967295 -\n1 4294967295 -\n2 4294967295 -\n3 4294967295 -\n";
    }
    ∷ record { schedule = schedule 1 (zero_nodes 2 4294967295) (came_back ++ back 2 0); page = "refused 19 at 11\n" }
    -- a crash reads every line anew
    ∷ record { schedule = schedule 1 (zero_nodes 2 0) (p1 9 ++ crash ++ back 2 0); page = "refused 19 at 11\n" }
    ∷ []

unfoldable pub all_shown : List Shown → Bool
all_shown [] = true
all_shown (c ∷ l) = elim (same_bytes (printed c.schedule) (text c.page)) [ true ↦ all_shown l | false ↦ false ]
