-- The second engine, the other choice of the free node, and fences, computed on small runs.
use mathlib.Core.Path.{◌≡◌, refl}
use mathlib.Core.Bool.{true}
use mathlib.Core.List.{List, [], ◌∷◌}
use Prim.Native.Nat.{ℕ, zero, suc}
use Rattle.model.specs.Basics.{upd}
use Rattle.model.specs.Lines.{upd_l, act, back, of_head}
use Rattle.model.specs.Conf.{Engine, Chooser, shared, split, at_once, fenced}
use Rattle.model.specs.Core.{a2, zero_node}
use Rattle.model.specs.Steps.{enq, deq, move, remove, others}
use Rattle.model.specs.Choice.{lowest, lowest_first, rotation, round_table}
use Rattle.model.specs.Recovery.{Image, head_of, largest, insert, queue_of, items_of, link_up, last_of, start'}
use Rattle.model.specs.Machine.{M, Event, ev, starts, run}
use Rattle.model.specs.Page.{zero_image, head_image, page, printed, endings, choice, spread, contents_of, push_all, push, lines_of, row_from, each}

unfoldable moves : ℕ → ℕ → List Event → List Event
moves zero t l = l
moves (suc k) t l = ev (act (move t)) ∷ moves k t l

-- n nodes, t threads, the all-zero image
table : Engine → Chooser → List Event → ℕ → ℕ → M
table e c l n t = run (starts (zero_image e c at_once n t)) l

-- ---- `split`: D4 stores to no line, so nothing of a dequeue shows before the thread's own store

page_of : List Event → ℕ → ℕ → List (ℕ × List ℕ)
page_of l n t = page (table split lowest_first l n t)

-- an enqueue of 7, after A9
putting : List Event
unfolding moves
putting = ev (act (enq 0 7)) ∷ moves 9 0 []

-- an enqueue of 7, and k steps of a dequeue: D4 is the third, the store the fifth, the persist the sixth
taking : ℕ → List Event
unfolding moves
taking k = ev (act (enq 0 7)) ∷ moves 11 0 (ev (act (deq 0)) ∷ moves k 0 [])

-- two threads: thread 1's dequeue has stored and persisted, thread 0's has not; the head index is the larger one
both : List Event
unfolding moves
both = ev (act (enq 0 7)) ∷ moves 11 0 (ev (act (enq 0 8)) ∷ moves 11 0 (ev (act (deq 0)) ∷ moves 3 0 (ev (act (deq 1)) ∷ moves 6 1 [])))

split_pages : page_of putting 2 1 ∷ page_of (taking 3) 2 1 ∷ page_of (taking 5) 2 1 ∷ page_of (taking 6) 2 1 ∷ page_of both 4 2 ∷ []
    ≡ ((0, []) ∷ (0, []) ∷ (0, []) ∷ (0, 7 ∷ []) ∷ [])
    ∷ ((0, 7 ∷ []) ∷ [])
    ∷ ((0, 7 ∷ []) ∷ (1, []) ∷ [])
    ∷ ((1, []) ∷ [])
    ∷ ((2, []) ∷ [])
    ∷ []
unfolding page_of putting taking both table moves run start' zero_image head_image upd upd_l remove others lowest lowest_first head_of largest
    insert queue_of items_of link_up last_of page printed endings choice spread contents_of push_all push lines_of row_from each
split_pages = refl

-- ---- in rotation node 3 is handed out where the lowest free one is node 0

again : List Event
unfolding moves
again = ev (act (enq 0 5)) ∷ moves 11 0 (ev (act (deq 0)) ∷ moves 6 0
    (ev (act (enq 0 6)) ∷ moves 11 0 (ev (act (deq 0)) ∷ moves 6 0 (ev (act (enq 0 7)) ∷ moves 1 0 []))))

handed_out : (table shared lowest_first again 4 1).core.thr 0 ∷ (table shared rotation again 4 1).core.thr 0 ∷ [] ≡ a2 7 0 ∷ a2 7 3 ∷ []
unfolding table again moves run start' zero_image head_image upd upd_l remove others lowest lowest_first rotation round_table head_of largest
    insert queue_of link_up last_of
handed_out = refl

-- ---- `fenced`: a flush persists nothing, the fence behind it what was there at the flush

fenced_of : Engine → List Event → ℕ → ℕ → List (ℕ × List ℕ)
fenced_of e l n t = page (run (starts (zero_image e lowest_first fenced n t)) l)

-- an enqueue of 7: A10 is the tenth step, its fence the eleventh
flushed : ℕ → List Event
unfolding moves
flushed k = ev (act (enq 0 7)) ∷ moves k 0 []

-- and k steps of a dequeue: in `split` the store is the fifth, the flush the sixth, the fence the seventh
afterwards : ℕ → List Event
unfolding moves
afterwards k = ev (act (enq 0 7)) ∷ moves 12 0 (ev (act (deq 0)) ∷ moves k 0 [])

-- three nodes, two threads, a queue of 8 and 9
eight_nine : Image
eight_nine = record {
  conf = record { nodes = 3; threads = 2; top = 4294967295; engine = shared; chooser = lowest_first; mode = fenced };
  heads = λ k. 0;
  at = upd (upd (λ n. zero_node) 1 (record { linked = true; index = 1; item = 8 })) 2 (record { linked = true; index = 2; item = 9 });
}

-- thread 0 has flushed Head at 1, thread 1 has moved it to 2; then thread 0's fence, with or without a write-back of Head before it
between : List Event → List Event
unfolding moves
between l = ev (act (deq 0)) ∷ moves 5 0 (ev (act (deq 1)) ∷ moves 3 1 l)

late : List Event → List (ℕ × List ℕ)
late l = page (run (starts eight_nine) (between l))

fenced_pages : fenced_of shared (flushed 10) 2 1 ∷ fenced_of shared (flushed 11) 2 1 ∷ fenced_of split (afterwards 6) 2 1 ∷ fenced_of split (afterwards 7) 2 1
    ∷ late [] ∷ late (ev (act (move 0)) ∷ []) ∷ late (ev (back (of_head 0)) ∷ ev (act (move 0)) ∷ []) ∷ []
    ≡ ((0, []) ∷ (0, []) ∷ (0, []) ∷ (0, 7 ∷ []) ∷ [])
    ∷ ((0, 7 ∷ []) ∷ [])
    ∷ ((0, 7 ∷ []) ∷ (1, []) ∷ [])
    ∷ ((1, []) ∷ [])
    ∷ ((0, 8 ∷ 9 ∷ []) ∷ (1, 9 ∷ []) ∷ (2, []) ∷ [])
    ∷ ((1, 9 ∷ []) ∷ (2, []) ∷ [])
    ∷ ((2, []) ∷ [])
    ∷ []
unfolding fenced_of flushed afterwards eight_nine between late moves run start' zero_image head_image upd upd_l remove others lowest lowest_first head_of largest
    insert queue_of items_of link_up last_of page printed endings choice spread contents_of push_all push lines_of row_from each
fenced_pages = refl
