-- The operations that count, computed.
use Rattle.std.specs.Prelude.{◌≡◌, refl, [], ◌∷◌}
use Rattle.lists.specs.Find.{least, around, any}
use Rattle.lists.specs.Tab.{tab, front}
use Rattle.lists.specs.Word.{has, with, without, word_of}
use Rattle.image.specs.Bytes.{at_w}
use Rattle.image.specs.Form.{known, width_of, top_of, heads_at, node_size, header_size, head_lines, own_threads, per_desk, node_place, image_size}
use Rattle.image.specs.Layout.{no_contents, marked, read_nodes, image_in, no_heads, heads_of, read_heads, form_in, shape_in}
use Rattle.image.specs.Recovered.{largest, head_of, recovered, twins, has_twin, first_twin, dummy_of}
use Rattle.image.specs.Refusals.{startable}
use Rattle.machine.specs.Record.{blank_nodes, idle_threads, no_flushed, no_sets}
use Rattle.machine.specs.Line.{line_at, put_line}
use Rattle.machine.specs.Flush.{late_after, over_after}
use Rattle.machine.specs.Start.{insert, risen, behind, last_of, start_with}
use Rattle.machine.specs.Retire.{next_free, released_at, released, others, retired}
use Rattle.machine.specs.Event.{event_at}
use Rattle.schedule.specs.Layout.{schedule_in, events_in}
use Rattle.schedule.specs.Run.{run, ran}
use Rattle.lawful.specs.Operation.{puts, takes, nothing, done, full, worn_out, empty, gave, operations}
use Rattle.lawful.specs.Plain.{serve_all, items_from}
use Rattle.lawful.specs.Demand3.{first_queue}
use Rattle.cases.specs.Inputs.{four, enqueue, dequeue, step, crash, zero_nodes, schedule}
use Rattle.cases.specs.Starred.{p1, p3}
use Rattle.cases.specs.Asked.{asked, operation, drained, worn, crashed}

pub drained_asked : asked drained ≡
    operation (puts 7) 0 done 12 ∷ operation takes 13 (gave 7) 20 ∷ operation takes 21 empty 25 ∷ operation (puts 8) 26 full 27
    ∷ operation (puts 9) 28 nothing 0 ∷ []
unfolding drained worn crashed p1 p3 four enqueue dequeue step crash zero_nodes schedule least around any tab front has with without word_of no_contents at_w known width_of top_of heads_at node_size header_size marked form_in node_place read_nodes image_in
    head_lines own_threads per_desk image_size shape_in no_heads heads_of read_heads largest head_of recovered twins has_twin first_twin dummy_of startable blank_nodes idle_threads no_flushed no_sets late_after over_after
    line_at put_line insert risen behind last_of start_with next_free released_at released others retired event_at schedule_in events_in run ran operations serve_all items_from
drained_asked = refl

pub worn_asked : asked worn ≡ operation (puts 7) 0 worn_out 7 ∷ []
unfolding drained worn crashed p1 p3 four enqueue dequeue step crash zero_nodes schedule least around any tab front has with without word_of no_contents at_w known width_of top_of heads_at node_size header_size marked form_in node_place read_nodes image_in
    head_lines own_threads per_desk image_size shape_in no_heads heads_of read_heads largest head_of recovered twins has_twin first_twin dummy_of startable blank_nodes idle_threads no_flushed no_sets late_after over_after
    line_at put_line insert risen behind last_of start_with next_free released_at released others retired event_at schedule_in events_in run ran operations serve_all items_from
worn_asked = refl

-- what was asked before the crash does not count; its item is in the queue at the last start
pub crashed_asked : (asked crashed ≡ operation takes 14 nothing 0 ∷ []) × (first_queue crashed ≡ 7 ∷ [])
unfolding drained worn crashed p1 p3 four enqueue dequeue step crash zero_nodes schedule least around any tab front has with without word_of no_contents at_w known width_of top_of heads_at node_size header_size marked form_in node_place read_nodes image_in
    head_lines own_threads per_desk image_size shape_in no_heads heads_of read_heads largest head_of recovered twins has_twin first_twin dummy_of startable blank_nodes idle_threads no_flushed no_sets late_after over_after
    line_at put_line insert risen behind last_of start_with next_free released_at released others retired event_at schedule_in events_in run ran operations serve_all items_from
crashed_asked = (refl, refl)
