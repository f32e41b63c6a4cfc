-- Pages computed with flush and fence apart: 01's sequences, which gain a step where a persist is passed, and two that tell readings apart. Each ending is its head
-- index and the items that it recovers to. Assumes nothing.
use Prim.Native.Nat.{ℕ}
use mathlib.Core.Path.{◌≡◌, refl}
use mathlib.Core.List.{List, [], ◌∷◌, ◌++◌, map}
use lib.ListN.{get_or, replicate}
use Rattle.lists.specs.Find.{least, around, any, count}
use Rattle.lists.specs.Tab.{tab, front}
use Rattle.lists.specs.Word.{has, with, without, word_of}
use Rattle.answer.specs.Answers.{Answer, Taken, Done, Full, Item, Empty}
use Rattle.image.specs.Form.{head_lines, per_desk, own_threads, top_of, width_of}
use Rattle.image.specs.Layout.{no_contents, no_heads, heads_of, same_content}
use Rattle.image.specs.Recovered.{largest, head_of, recovered, dummy_of}
use Rattle.machine.specs.Record.{blank_nodes, idle_threads, no_flushed, no_sets}
use Rattle.machine.specs.Line.{shape_of, line_at, put_line}
use Rattle.machine.specs.Flush.{late_after, over_after}
use Rattle.machine.specs.Start.{insert, risen, behind, last_of, start_with, fresh_of}
use Rattle.machine.specs.Retire.{next_free, released_at, released, others, retired}
use Rattle.machine.specs.Event.{event_at}
use Rattle.machine.specs.declared.Event.{Event}
use Rattle.schedule.specs.Run.{Bench, begins, run}
use Rattle.page.specs.Contents.{joins, gathered, contents_of, table_of}
use Rattle.page.specs.Endings.{choices, image_of, endings}
use Rattle.page.specs.Printed.{items_of}

abbrev enqueue : ℕ → ℕ → List Event
enqueue k v = record { kind = 1; number = k; item = v } ∷ []

abbrev dequeue : ℕ → List Event
dequeue k = record { kind = 2; number = k; item = 0 } ∷ []

abbrev step : ℕ → ℕ → List Event
step c k = replicate c (record { kind = 3; number = k; item = 0 })

abbrev back : ℕ → List Event
back l = record { kind = 4; number = l; item = 0 } ∷ []

-- the endings of a run from the fresh machine of n nodes and t threads
abbrev page : ℕ → ℕ → List Event → List (List ℕ)
page n t l = let b : Bench = (run 0 (begins (fresh_of n t)) l).bench in map (λ g. head_of g ∷ items_of g) (endings (shape_of b.machine) (table_of b))

-- what event i of it answers
abbrev answered : ℕ → ℕ → ℕ → List Event → Answer
answered n t i l = get_or (run 0 (begins (fresh_of n t)) l).replies i Taken

abbrev p5_events : List Event
p5_events = enqueue 0 7 ++ step 12 0 ++ dequeue 0 ++ step 7 0 ++ enqueue 0 8 ++ step 1 0

-- P1, and P2: the tenth step, a flush, leaves its four endings, the eleventh, the fence, one
pub p1 : page 2 1 (enqueue 0 7 ++ step 9 0) ≡ (0 ∷ []) ∷ (0 ∷ []) ∷ (0 ∷ []) ∷ (0 ∷ 7 ∷ []) ∷ []
unfolding run event_at table_of contents_of gathered joins endings choices image_of items_of head_of largest head_lines heads_of no_heads no_contents same_content recovered dummy_of least around any has with
    without word_of tab front blank_nodes idle_threads no_flushed no_sets line_at put_line late_after over_after insert risen behind last_of start_with next_free released_at released others retired per_desk own_threads
    top_of width_of
p1 = refl

pub p2_flush : page 2 1 (enqueue 0 7 ++ step 10 0) ≡ (0 ∷ []) ∷ (0 ∷ []) ∷ (0 ∷ []) ∷ (0 ∷ 7 ∷ []) ∷ []
unfolding run event_at table_of contents_of gathered joins endings choices image_of items_of head_of largest head_lines heads_of no_heads no_contents same_content recovered dummy_of least around any has with
    without word_of tab front blank_nodes idle_threads no_flushed no_sets line_at put_line late_after over_after insert risen behind last_of start_with next_free released_at released others retired per_desk own_threads
    top_of width_of
p2_flush = refl

pub p2_fence : page 2 1 (enqueue 0 7 ++ step 11 0) ≡ (0 ∷ 7 ∷ []) ∷ []
unfolding run event_at table_of contents_of gathered joins endings choices image_of items_of head_of largest head_lines heads_of no_heads no_contents same_content recovered dummy_of least around any has with
    without word_of tab front blank_nodes idle_threads no_flushed no_sets line_at put_line late_after over_after insert risen behind last_of start_with next_free released_at released others retired per_desk own_threads
    top_of width_of
p2_fence = refl

-- P3: after twelve steps in all, a dequeue with three. P4: three more, of which the second, a flush, leaves both endings
pub p3 : page 2 1 (enqueue 0 7 ++ step 12 0 ++ dequeue 0 ++ step 3 0) ≡ (0 ∷ 7 ∷ []) ∷ (1 ∷ []) ∷ []
unfolding run event_at table_of contents_of gathered joins endings choices image_of items_of head_of largest head_lines heads_of no_heads no_contents same_content recovered dummy_of least around any has with
    without word_of tab front blank_nodes idle_threads no_flushed no_sets line_at put_line late_after over_after insert risen behind last_of start_with next_free released_at released others retired per_desk own_threads
    top_of width_of
p3 = refl

pub p4_flush : page 2 1 (enqueue 0 7 ++ step 12 0 ++ dequeue 0 ++ step 5 0) ≡ (0 ∷ 7 ∷ []) ∷ (1 ∷ []) ∷ []
unfolding run event_at table_of contents_of gathered joins endings choices image_of items_of head_of largest head_lines heads_of no_heads no_contents same_content recovered dummy_of least around any has with
    without word_of tab front blank_nodes idle_threads no_flushed no_sets line_at put_line late_after over_after insert risen behind last_of start_with next_free released_at released others retired per_desk own_threads
    top_of width_of
p4_flush = refl

pub p4_fence : page 2 1 (enqueue 0 7 ++ step 12 0 ++ dequeue 0 ++ step 6 0) ≡ (1 ∷ []) ∷ []
unfolding run event_at table_of contents_of gathered joins endings choices image_of items_of head_of largest head_lines heads_of no_heads no_contents same_content recovered dummy_of least around any has with
    without word_of tab front blank_nodes idle_threads no_flushed no_sets line_at put_line late_after over_after insert risen behind last_of start_with next_free released_at released others retired per_desk own_threads
    top_of width_of
p4_fence = refl

-- P6: thread 1 takes fifteen steps. P7: thread 0's ninth gives a fourth
pub p6 : page 3 2 (enqueue 0 5 ++ step 8 0 ++ enqueue 1 6 ++ step 15 1) ≡ (0 ∷ 6 ∷ []) ∷ (0 ∷ 6 ∷ []) ∷ (0 ∷ 6 ∷ []) ∷ []
unfolding run event_at table_of contents_of gathered joins endings choices image_of items_of head_of largest head_lines heads_of no_heads no_contents same_content recovered dummy_of least around any has with
    without word_of tab front blank_nodes idle_threads no_flushed no_sets line_at put_line late_after over_after insert risen behind last_of start_with next_free released_at released others retired per_desk own_threads
    top_of width_of
p6 = refl

pub p7 : page 3 2 (enqueue 0 5 ++ step 8 0 ++ enqueue 1 6 ++ step 15 1 ++ step 1 0) ≡ (0 ∷ 6 ∷ []) ∷ (0 ∷ 6 ∷ []) ∷ (0 ∷ 6 ∷ []) ∷ (0 ∷ 5 ∷ 6 ∷ []) ∷ []
unfolding run event_at table_of contents_of gathered joins endings choices image_of items_of head_of largest head_lines heads_of no_heads no_contents same_content recovered dummy_of least around any has with
    without word_of tab front blank_nodes idle_threads no_flushed no_sets line_at put_line late_after over_after insert risen behind last_of start_with next_free released_at released others retired per_desk own_threads
    top_of width_of
p7 = refl

-- the content at the flush, not the present one: thread 1 moves Head on between thread 0's flush and its fence
pub at_the_flush : page 3 2 (enqueue 0 8 ++ step 12 0 ++ enqueue 0 9 ++ step 12 0 ++ dequeue 0 ++ step 5 0 ++ dequeue 1 ++ step 3 1 ++ step 1 0) ≡ (1 ∷ 9 ∷ []) ∷ (2 ∷ []) ∷ []
unfolding run event_at table_of contents_of gathered joins endings choices image_of items_of head_of largest head_lines heads_of no_heads no_contents same_content recovered dummy_of least around any has with
    without word_of tab front blank_nodes idle_threads no_flushed no_sets line_at put_line late_after over_after insert risen behind last_of start_with next_free released_at released others retired per_desk own_threads
    top_of width_of
at_the_flush = refl

-- and what a write-back has persisted later stays
pub later_stays : page 3 2 (enqueue 0 8 ++ step 12 0 ++ enqueue 0 9 ++ step 12 0 ++ dequeue 0 ++ step 5 0 ++ dequeue 1 ++ step 3 1 ++ back 0 ++ step 1 0) ≡ (2 ∷ []) ∷ []
unfolding run event_at table_of contents_of gathered joins endings choices image_of items_of head_of largest head_lines heads_of no_heads no_contents same_content recovered dummy_of least around any has with
    without word_of tab front blank_nodes idle_threads no_flushed no_sets line_at put_line late_after over_after insert risen behind last_of start_with next_free released_at released others retired per_desk own_threads
    top_of width_of
later_stays = refl

-- and what another thread's fence has: thread 1 flushed later and is through its fence first
pub later_fence : page 3 2 (enqueue 0 8 ++ step 12 0 ++ enqueue 0 9 ++ step 12 0 ++ dequeue 0 ++ step 5 0 ++ dequeue 1 ++ step 6 1 ++ step 1 0) ≡ (2 ∷ []) ∷ []
unfolding run event_at table_of contents_of gathered joins endings choices image_of items_of head_of largest head_lines heads_of no_heads no_contents same_content recovered dummy_of least around any has with
    without word_of tab front blank_nodes idle_threads no_flushed no_sets line_at put_line late_after over_after insert risen behind last_of start_with next_free released_at released others retired per_desk own_threads
    top_of width_of
later_fence = refl

-- P5: the dequeue answers at its seventh step, the enqueue is Full at its first step. D3 answers at the fence: its fourth step
pub p5 : (answered 2 1 19 p5_events ≡ Taken) × (answered 2 1 20 p5_events ≡ Item 7) × (answered 2 1 22 p5_events ≡ Full)
unfolding run event_at table_of contents_of gathered joins endings choices image_of items_of head_of largest head_lines heads_of no_heads no_contents same_content recovered dummy_of least around any has with
    without word_of tab front blank_nodes idle_threads no_flushed no_sets line_at put_line late_after over_after insert risen behind last_of start_with next_free released_at released others retired per_desk own_threads
    top_of width_of
p5 = (refl, refl, refl)

pub empty_at_the_fence : (answered 2 1 3 (dequeue 0 ++ step 4 0) ≡ Taken) × (answered 2 1 4 (dequeue 0 ++ step 4 0) ≡ Empty)
unfolding run event_at table_of contents_of gathered joins endings choices image_of items_of head_of largest head_lines heads_of no_heads no_contents same_content recovered dummy_of least around any has with
    without word_of tab front blank_nodes idle_threads no_flushed no_sets line_at put_line late_after over_after insert risen behind last_of start_with next_free released_at released others retired per_desk own_threads
    top_of width_of
empty_at_the_fence = (refl, refl)
