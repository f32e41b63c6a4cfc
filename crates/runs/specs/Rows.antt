-- The rows that a run keeps, as a table and its counts.
use Rattle.std.specs.Prelude.{ℕ, ◌-◌, ◌<◌, Option, None, Some, Bool, List, [], map, get_or, set, replicate, eqb, ltb}
use Rattle.lists.specs.Find.{pick}
use Rattle.lists.specs.Word.{has}
use Rattle.lists.specs.Tab.{front}
use Rattle.image.specs.Layout.{no_content}
use Rattle.image.specs.declared.Content.{Content}
use Rattle.image.specs.declared.Shape.{Shape}
use Rattle.image.specs.Form.{head_lines}
use Rattle.machine.specs.Line.{shape_of, line_count, line_at, cached_at}
use Rattle.machine.specs.declared.Machine.{Machine}
use Rattle.machine.specs.declared.Event.{Event}
use Rattle.machine.specs.declared.Acted.{Acted}
use Rattle.machine.specs.declared.Line.{Line}
use Rattle.machine.specs.declared.Touch.{Touch}
use Rattle.machine.specs.declared.Touch.TheVariants.{Nothing as nothing, Store as a_store, Persist as a_persist, Flush as a_flush, Fence as a_fence}
use Rattle.endtable.specs.Opened.{line_opened, line_counted, opened_table, opened_counts}
use Rattle.endtable.specs.Rows.{no_row, joined_row}
use Rattle.endtable.specs.Since.{since_after}
use Rattle.endtable.specs.Touched.{Touched, touched_row, by_touch}
use Rattle.endtable.specs.declared.row.Row.{Row}

abbrev pub ats_of : List Row → List (List Content)
ats_of rows = map (λ r. r.at) rows

abbrev pub counts_of : List Row → List ℕ
counts_of rows = map (λ r. r.count) rows

unfoldable pub no_rows : List Row
no_rows = replicate 72 (record { count = 0; at = replicate 16 no_content })

abbrev pub row_at : List (List Content) → List ℕ → ℕ → Row
row_at t cs l = record { count = get_or cs l 0; at = get_or t l [] }

-- the first k rows of a table and its counts
unfoldable pub rows_of : List (List Content) → List ℕ → ℕ → List Row
rows_of t cs k = front (row_at t cs) k no_rows

unfoldable pub opened_rows : Machine → List Row
opened_rows m = rows_of (opened_table m (line_count (shape_of m))) (opened_counts m (line_count (shape_of m))) 72

-- the row of line l after a start
abbrev pub line_row : Machine → ℕ → Row
line_row m l = record { count = line_counted m l; at = line_opened m l }

-- #104: thread k is over the line numbered l, the threads over each head line and over each node being these
unfoldable pub over_in : List ℕ → List ℕ → Shape → ℕ → ℕ → Bool
over_in heads nodes z l k = has (pick (ltb l (head_lines z)) (get_or heads l 0) (get_or nodes (l - head_lines z) 0)) k

-- the rows after a touch that left its line with the content c; whether a fence finds something later is `late`
abbrev pub rows_touched : List Row → List Row → Bool → Touched → Content → List Row
rows_touched rows since late w c =
    by_touch w rows (set rows w.line (joined_row (get_or rows w.line no_row) c w.persisted)) rows
    (pick late rows (set rows w.line (get_or since w.thread no_row)))

-- what an event with the outcome o touched, and left there
abbrev pub touch_of : Acted → Touched
touch_of o = touched_row (shape_of o.machine) o.touch

abbrev pub left_at : Acted → Content
left_at o = cached_at o.machine (line_at (shape_of o.machine) (touch_of o).line)

-- on machine m its fence finds something later
abbrev pub finds_later : Machine → Acted → Bool
finds_later m o = over_in m.over_heads m.over (shape_of o.machine) (touch_of o).line (touch_of o).thread

-- ---- the same at the code's terms

-- the line that was touched
abbrev pub line_in : Touch → Option Line
line_in nothing = None
line_in (a_store l) = Some l
line_in (a_persist l) = Some l
line_in (a_flush k l) = Some l
line_in (a_fence k l) = Some l

-- it is a thread's own flush or fence
abbrev pub OfThreads : Touch → Type 0
OfThreads nothing = Unit {0}
OfThreads (a_store l) = Unit {0}
OfThreads (a_persist l) = Unit {0}
OfThreads (a_flush k l) = k < 8
OfThreads (a_fence k l) = k < 8

-- both kinds of rows behind a touch that left the machine m, the threads over each head line and over each node before it being these
unfoldable pub rows_left : List Row → List Row → List ℕ → List ℕ → Machine → Touch → List Row
rows_left rows since heads nodes m t =
    let w = touched_row (shape_of m) t in
    rows_touched rows since (over_in heads nodes (shape_of m) w.line w.thread) w (cached_at m (line_at (shape_of m) w.line))

unfoldable pub since_left : List Row → Machine → Touch → List Row
since_left since m t =
    let w = touched_row (shape_of m) t in
    since_after (shape_of m) m.threads since w (cached_at m (line_at (shape_of m) w.line))

-- ---- after an event

-- the rows of the lines and those since the flushes after event e on machine m with the outcome o: a crash is a start
unfoldable pub rows_after : List Row → List Row → Machine → Event → Acted → List Row
rows_after rows since m e o = pick (eqb e.kind 5) (opened_rows o.machine) (rows_touched rows since (finds_later m o) (touch_of o) (left_at o))

unfoldable pub since_now : List Row → Event → Acted → List Row
since_now since e o = pick (eqb e.kind 5) since (since_after (shape_of o.machine) o.machine.threads since (touch_of o) (left_at o))
