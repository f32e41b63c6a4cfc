-- Demand 3's second half at P6 and P7, computed: every ending recovers to a lawful queue, with the order that shows it.
use Rattle.std.specs.Prelude.{ℕ, zero, suc, ◌<◌, ◌≡◌, refl, Bool, true, false, List, [], ◌∷◌, ◌++◌, ◌⊎◌}
use Rattle.std.proofs.Common.{inl, inr, arith}
use Rattle.lists.specs.Find.{least, around, any}
use Rattle.lists.specs.Tab.{tab, front}
use Rattle.lists.specs.Word.{has, with, without, word_of}
use Rattle.image.specs.Bytes.{at_w}
use Rattle.image.specs.Form.{known, width_of, top_of, heads_at, node_size, header_size, head_lines, own_threads, per_desk, node_place, image_size}
use Rattle.image.specs.Layout.{no_contents, marked, form_in, read_nodes, image_in, same_content, no_heads, heads_of, read_heads, shape_in}
use Rattle.image.specs.Recovered.{largest, head_of, recovered, twins, has_twin, first_twin, dummy_of, first_unclear, head_too_wide, first_too_wide}
use Rattle.image.specs.Refusals.{startable, sound, fitting, whole}
use Rattle.machine.specs.Record.{blank_nodes, idle_threads, no_flushed, no_sets}
use Rattle.machine.specs.Line.{line_at, put_line}
use Rattle.machine.specs.Flush.{late_after, over_after}
use Rattle.machine.specs.Start.{insert, risen, behind, last_of, start_with, start_answer}
use Rattle.machine.specs.Retire.{next_free, released_at, released, others, retired}
use Rattle.machine.specs.Event.{event_at}
use Rattle.schedule.specs.Layout.{schedule_in, events_in}
use Rattle.schedule.specs.Run.{run, ran}
use Rattle.page.specs.Contents.{joins, gathered, contents_of, table_of}
use Rattle.page.specs.Endings.{choices, image_of, ending}
use Rattle.page.specs.Refusals.{table_in, ending_in}
use Rattle.lawful.specs.Operation.{Operation, operations, says, puts, nothing, done}
use Rattle.lawful.specs.Plain.{serve_all, items_from}
use Rattle.lawful.specs.Lawful.{Lawful, Has, Earlier, at}
use Rattle.lawful.specs.Demand3.{Recovers}
use Rattle.cases.specs.Inputs.{four, enqueue, step, zero_nodes, schedule}
use Rattle.cases.specs.Starred.{p6}

unfoldable pub P6 : List ℕ
P6 = schedule 2 (zero_nodes 3 0) p6

unfoldable pub P7 : List ℕ
P7 = schedule 2 (zero_nodes 3 0) (p6 ++ step 1 0)

-- the operations of both: thread 0's enqueue of 5 is not answered, thread 1's of 6, begun at event 9, was answered Done at event 24
abbrev five : Operation
five = record { thread = 0; call = puts 5; began = 0; reply = nothing; ended = 0 }

abbrev six : Operation
six = record { thread = 1; call = puts 6; began = 9; reply = done; ended = 24 }

never : {A : Type 0} → ◌≡◌ {A = Bool} false true → A
never e = let z : ◌≡◌ {A = ℕ} 0 1 = cc in absurd (omega arith)

-- the unanswered one left out
pub lawful_six : Lawful (five ∷ six ∷ []) [] (6 ∷ [])
unfolding serve_all
lawful_six = record { order = 1 ∷ []; within = within; once = ((λ z. z), tt); whole = whole; timely = ((λ j z. absurd z), tt); plays = refl }
  where
    within : (k : ℕ) → Has k (1 ∷ []) → k < 2
    within k (inl e) = omega arith
    within k (inr z) = absurd z

    whole : (k : ℕ) → k < 2 → says (at (five ∷ six ∷ []) k).reply ≡ true → Has k (1 ∷ [])
    whole zero l e = never e
    whole (suc zero) l e = inl refl
    whole (suc (suc k)) l e = absurd (omega arith)

-- the unanswered one first
pub lawful_five_six : Lawful (five ∷ six ∷ []) [] (5 ∷ 6 ∷ [])
unfolding serve_all
lawful_five_six = record { order = 0 ∷ 1 ∷ []; within = within; once = (differ, ((λ z. z), tt)); whole = whole; timely = (later, ((λ j z. absurd z), tt)); plays = refl }
  where
    within : (k : ℕ) → Has k (0 ∷ 1 ∷ []) → k < 2
    within k (inl e) = omega arith
    within k (inr (inl e)) = omega arith
    within k (inr (inr z)) = absurd z

    differ : ¬ Has 0 (1 ∷ [])
    differ (inl e) = omega arith
    differ (inr z) = z

    later : (j : ℕ) → Has j (1 ∷ []) → ¬ Earlier (at (five ∷ six ∷ []) j) five
    later j p e = omega arith

    whole : (k : ℕ) → k < 2 → says (at (five ∷ six ∷ []) k).reply ≡ true → Has k (0 ∷ 1 ∷ [])
    whole zero l e = never e
    whole (suc zero) l e = inr (inl refl)
    whole (suc (suc k)) l e = absurd (omega arith)

-- every ending of P6
pub P6-recovers : (k : ℕ) → k < 3 → Recovers P6 (ending_in P6 k)
unfolding P6 P7 p6 four enqueue step zero_nodes schedule least around any tab front has with without word_of no_contents at_w known width_of top_of heads_at node_size header_size marked form_in node_place read_nodes image_in
    recovered twins has_twin first_twin dummy_of first_unclear startable sound head_too_wide first_too_wide fitting whole blank_nodes idle_threads no_flushed no_sets late_after over_after insert risen behind last_of start_with start_answer
    next_free released_at released others retired event_at schedule_in events_in run ran head_lines own_threads per_desk image_size shape_in no_heads heads_of read_heads largest head_of line_at put_line same_content joins gathered contents_of table_of
    choices image_of ending table_in ending_in operations serve_all items_from
P6-recovers zero h = record { starts = refl; lawful = lawful_six }
P6-recovers (suc zero) h = record { starts = refl; lawful = lawful_six }
P6-recovers (suc (suc zero)) h = record { starts = refl; lawful = lawful_six }
P6-recovers (suc (suc (suc k))) h = absurd (omega arith)

-- and of P7, whose fourth has both items
pub P7-recovers : (k : ℕ) → k < 4 → Recovers P7 (ending_in P7 k)
unfolding P6 P7 p6 four enqueue step zero_nodes schedule least around any tab front has with without word_of no_contents at_w known width_of top_of heads_at node_size header_size marked form_in node_place read_nodes image_in
    recovered twins has_twin first_twin dummy_of first_unclear startable sound head_too_wide first_too_wide fitting whole blank_nodes idle_threads no_flushed no_sets late_after over_after insert risen behind last_of start_with start_answer
    next_free released_at released others retired event_at schedule_in events_in run ran head_lines own_threads per_desk image_size shape_in no_heads heads_of read_heads largest head_of line_at put_line same_content joins gathered contents_of table_of
    choices image_of ending table_in ending_in operations serve_all items_from
P7-recovers zero h = record { starts = refl; lawful = lawful_six }
P7-recovers (suc zero) h = record { starts = refl; lawful = lawful_six }
P7-recovers (suc (suc zero)) h = record { starts = refl; lawful = lawful_six }
P7-recovers (suc (suc (suc zero))) h = record { starts = refl; lawful = lawful_five_six }
P7-recovers (suc (suc (suc (suc k)))) h = absurd (omega arith)
