-- The schedules with write-backs print what is stated of them.
use Rattle.std.specs.Prelude.{◌≡◌, refl, true}
use Rattle.lists.specs.Find.{least, around, any, count}
use Rattle.lists.specs.Tab.{tab, joined, over, front}
use Rattle.lists.specs.Text.{text, digits_of, decimal}
use Rattle.lists.specs.Word.{has, with, without, word_of}
use Rattle.image.specs.Bytes.{at_w}
use Rattle.image.specs.Form.{known, width_of, top_of, heads_at, node_size, header_size, head_lines, own_threads, per_desk, node_place, image_size}
use Rattle.image.specs.Layout.{no_contents, marked, form_in, read_nodes, image_in, same_content, no_heads, heads_of, read_heads, shape_in}
use Rattle.image.specs.Recovered.{largest, head_of, recovered, twins, has_twin, first_twin, dummy_of, first_unclear}
use Rattle.image.specs.Refusals.{startable, sound, image_answer}
use Rattle.machine.specs.Record.{blank_nodes, idle_threads, no_flushed, no_sets}
use Rattle.machine.specs.Line.{line_at, put_line}
use Rattle.machine.specs.Flush.{late_after, over_after}
use Rattle.machine.specs.Start.{insert, risen, behind, last_of, start_with}
use Rattle.machine.specs.Retire.{next_free, released_at, released, others, retired}
use Rattle.machine.specs.Event.{event_at}
use Rattle.schedule.specs.Layout.{schedule_in, events_in, schedule_answer}
use Rattle.schedule.specs.Run.{run, ran}
use Rattle.page.specs.Contents.{joins, gathered, contents_of, table_of}
use Rattle.page.specs.Endings.{choices, product, image_of, endings}
use Rattle.page.specs.Refusals.{table_in, first_crowded, table_answer, page_answer, ending_count}
use Rattle.page.specs.Printed.{items_of, spaced, ending_line, lines_from, first_line, refused_line, printed}
use Rattle.cases.specs.Inputs.{four, enqueue, dequeue, crash, step, zero_nodes, schedule}
use Rattle.cases.specs.Starred.{p1, p3, same_bytes}
use Rattle.cases.specs.Clean.{back, came_back, written, all_shown}

pub clean_hold : all_shown written ≡ true
unfolding all_shown written came_back back p1 p3 same_bytes four enqueue dequeue crash step zero_nodes schedule
    least around any count tab joined over front text digits_of decimal has with without word_of
    no_contents at_w known width_of top_of heads_at node_size header_size marked form_in node_place read_nodes image_in recovered twins has_twin first_twin dummy_of first_unclear startable sound image_answer
    blank_nodes idle_threads no_flushed no_sets late_after over_after insert risen behind last_of start_with next_free released_at released others retired event_at schedule_in events_in schedule_answer run ran
    head_lines own_threads per_desk image_size shape_in no_heads heads_of read_heads largest head_of line_at put_line same_content joins gathered contents_of table_of choices product image_of endings
    table_in first_crowded table_answer page_answer ending_count
    items_of spaced ending_line lines_from first_line refused_line printed
clean_hold = refl
