-- What the code holds of a bench.
use Rattle.std.specs.Prelude.{ℕ, ◌<◌, ◌≤◌, ◌≡◌, List, length, get_or}
use Rattle.image.specs.declared.Content.{Content}
use Rattle.image.specs.Form.{head_lines}
use Rattle.machine.specs.Line.{shape_of}
use Rattle.machine.specs.declared.Line.{Line}
use Rattle.machine.specs.declared.Machine.{Machine}
use Rattle.machine.proofs.LineLaws.{LineIn}
use Rattle.schedule.specs.Run.{Bench}
use Rattle.page.specs.Contents.{table_of}
use Rattle.endtable.specs.Rows.{no_row}
use Rattle.endtable.specs.Tables.{Held, Tables}
use Rattle.endtable.specs.declared.row.Row.{Row}
use Rattle.moments.specs.Marked.{Waits, since_of}
use Rattle.moments.proofs.Known.{Known}

-- #104: the rows since the flushes. Row k of a thread that is at its fence of a line stands for the line's contents since its flush
pub record Sinces (b : Bench) (since : List Row) : Type 0 where
  pub eight : length since ≡ 8
  pub held : (k : ℕ) (l : Line) → k < b.machine.t → LineIn (shape_of b.machine) l → Waits b.machine k l
      → Held (get_or since k no_row).at (get_or since k no_row).count (since_of b k l)

-- the machine m, the table t and the counts cs, and the rows since the flushes are those of the bench b
pub record Stands (b : Bench) (m : Machine) (t : List (List Content)) (cs : List ℕ) (since : List Row) : Type 0 where
  pub machine : m ≡ b.machine
  pub small : b.machine.n ≤ 64
  pub few : head_lines (shape_of b.machine) ≤ 8
  pub known : Known b
  pub tables : Tables t cs (table_of b)
  pub sinces : Sinces b since
