-- What the code's table stands for: the lists of contents, as far as they fit.
use Rattle.std.specs.Prelude.{ℕ, ◌<◌, min, ◌≡◌, List, [], length, get_or, set, Bool}
use Rattle.lists.specs.Find.{pick}
use Rattle.lists.specs.Word.{has}
use Rattle.image.specs.Layout.{content_at}
use Rattle.image.specs.declared.Content.{Content}
use Rattle.machine.specs.Line.{shape_of, line_at, over_at}
use Rattle.machine.specs.declared.Machine.{Machine}
use Rattle.endtable.specs.Rows.{row_after, count_after, no_row}
use Rattle.endtable.specs.Touched.{Touched, by_touch}
use Rattle.endtable.specs.declared.row.Row.{Row}

-- a row and its count stand for the list l: its first sixteen contents, and how many they are, 17 where there are more
pub record Held (row : List Content) (n : ℕ) (l : List Content) : Type 0 where
  pub wide : length row ≡ 16
  pub counted : n ≡ min 17 (length l)
  pub same : (j : ℕ) → j < 16 → j < length l → content_at row j ≡ content_at l j

-- the table and the counts stand for the lists of the lines, line 0 first
pub record Tables (t : List (List Content)) (cs : List ℕ) (lists : List (List Content)) : Type 0 where
  pub tall : length t ≡ 72
  pub long : length cs ≡ 72
  pub held : (l : ℕ) → l < length lists → Held (get_or t l []) (get_or cs l 0) (get_or lists l [])

-- ---- the table and the counts after an event on machine m that touched w and left that line with the cached content c, the rows since the flushes being `since`

-- #104 "if a later one was persisted already, that one stays": the fence of w finds that
abbrev pub over_line : Machine → Touched → Bool
over_line m w = has (over_at m (line_at (shape_of m) w.line)) w.thread

-- a fence that finds none puts the row since its flush in the line's place
unfoldable pub table_after : List (List Content) → List ℕ → List Row → Bool → Touched → Content → List (List Content)
table_after t cs since late w c =
    by_touch w t (set t w.line (row_after (get_or t w.line []) (get_or cs w.line 0) c w.persisted)) t
    (pick late t (set t w.line (get_or since w.thread no_row).at))

unfoldable pub counts_after : List (List Content) → List ℕ → List Row → Bool → Touched → Content → List ℕ
counts_after t cs since late w c =
    by_touch w cs (set cs w.line (count_after (get_or t w.line []) (get_or cs w.line 0) c w.persisted)) cs
    (pick late cs (set cs w.line (get_or since w.thread no_row).count))
