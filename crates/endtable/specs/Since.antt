-- #104: the rows since the flushes, one for each thread.
use Rattle.std.specs.Prelude.{ℕ, Bool, false, List, get_or, set, replicate, eqb, leb}
use Rattle.lists.specs.Find.{pick, least}
use Rattle.lists.specs.Tab.{front}
use Rattle.image.specs.Layout.{no_content}
use Rattle.image.specs.declared.Content.{Content}
use Rattle.image.specs.declared.Shape.{Shape}
use Rattle.machine.specs.Record.{zero_thread}
use Rattle.machine.specs.Stage.{F10, number}
use Rattle.machine.specs.Line.{number_of}
use Rattle.machine.specs.declared.Thread.{Thread}
use Rattle.moments.specs.Marked.{fence_line}
use Rattle.endtable.specs.Rows.{no_row, joined_row, row_of}
use Rattle.endtable.specs.Touched.{Touched, by_touch}
use Rattle.endtable.specs.declared.row.Row.{Row}

unfoldable pub no_since : List Row
no_since = replicate 8 (record { count = 0; at = replicate 16 no_content })

-- the number of the line that thread k, which is v, is at its fence of; 72 where it is at none
unfoldable pub fence_row : Shape → ℕ → Thread → ℕ
fence_row z k v = pick (leb (number F10) v.step) (number_of z (fence_line z.form k v)) 72

-- thread k of these is at its fence of the line numbered l
abbrev pub waits_at : Shape → List Thread → ℕ → ℕ → Bool
waits_at z ts l k = eqb (fence_row z k (get_or ts k zero_thread)) l

unfoldable pub first_waiting : Shape → List Thread → ℕ → ℕ
first_waiting z ts l = least (waits_at z ts l) 8 0

-- a store left line l with the content c: the row of each thread that is at its fence of l gets it
abbrev pub stored_row : Shape → List Thread → List Row → ℕ → Content → ℕ → Row
stored_row z ts since l c k = pick (waits_at z ts l k) (joined_row (get_or since k no_row) c false) (get_or since k no_row)

unfoldable pub since_joined : Shape → List Thread → List Row → ℕ → Content → ℕ → List Row
since_joined z ts since l c n = front (stored_row z ts since l c) n since

-- the rows after an event that touched w and left that line with the cached content c: a flush begins its thread's row anew
unfoldable pub since_after : Shape → List Thread → List Row → Touched → Content → List Row
since_after z ts since w c =
    by_touch w since (pick w.persisted since (since_joined z ts since w.line c 8)) (set since w.thread (row_of c)) since
