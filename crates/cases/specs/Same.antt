-- P1 to P5 as events' Points has them, at which benches that cheat are shut out, are the first five of the starred list.
use Rattle.std.specs.Prelude.{ℕ, ◌≡◌, refl, List, [], ◌∷◌, ◌++◌, get_or}
use Rattle.lists.specs.Find.{least}
use Rattle.lists.specs.Tab.{tab, front}
use Rattle.lists.specs.Word.{word_of}
use Rattle.image.specs.Bytes.{at_w}
use Rattle.image.specs.Form.{known, width_of, top_of, heads_at, node_size, header_size, head_lines, own_threads, per_desk, node_place, image_size}
use Rattle.image.specs.Layout.{no_contents, read_nodes, image_in, no_heads, heads_of, read_heads, marked, form_in, shape_in}
use Rattle.image.specs.Recovered.{largest, head_of, recovered, dummy_of}
use Rattle.machine.specs.Record.{blank_nodes, idle_threads, no_flushed, no_sets}
use Rattle.machine.specs.Start.{risen, behind, last_of, start_with, fresh_of}
use Rattle.machine.specs.declared.Machine.{Machine}
use Rattle.schedule.specs.Layout.{schedule_in, events_in}
use Rattle.schedule.specs.Run.{Bench, opened}
use Rattle.events.specs.Points as points
use Rattle.events.specs.Points.{Point, P1, P2, P3, P4, P5, before}
use Rattle.cases.specs.Inputs.{four, enqueue, dequeue, step, zero_nodes, schedule}
use Rattle.cases.specs.Starred.{Case, p1, p3, starred}

abbrev no_case : Case
no_case = record { schedule = []; page = ""; reply = 0; places = []; held = [] }

-- the place of a point in the list
abbrev place_of : Point → ℕ
place_of P1 = 0
place_of P2 = 1
place_of P3 = 2
place_of P4 = 3
place_of P5 = 4

abbrev pub schedule_of : Point → List ℕ
schedule_of c = (get_or starred (place_of c) no_case).schedule

-- the same start, and the same events
pub record SamePoint (c : Point) : Type 0 where
  pub starts : (opened (schedule_in (schedule_of c))).machine ≡ fresh_of 2 1
  pub events : events_in (schedule_of c) ≡ before c ++ (points.step ∷ [])

pub same_points : (c : Point) → SamePoint c
unfolding starred p1 p3 four enqueue dequeue step zero_nodes schedule least tab front word_of no_contents at_w known width_of top_of heads_at node_size header_size marked form_in node_place read_nodes image_in
    head_lines own_threads per_desk image_size shape_in no_heads heads_of read_heads largest head_of recovered dummy_of blank_nodes idle_threads no_flushed no_sets risen behind last_of start_with schedule_in events_in
same_points P1 = record { starts = refl; events = refl }
same_points P2 = record { starts = refl; events = refl }
same_points P3 = record { starts = refl; events = refl }
same_points P4 = record { starts = refl; events = refl }
same_points P5 = record { starts = refl; events = refl }
