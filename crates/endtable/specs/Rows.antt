-- A line's row in the table, and its count: up to sixteen contents, 17 standing for more.
use Rattle.std.specs.Prelude.{ℕ, ◌+◌, Bool, true, false, List, [], set, replicate, ltb}
use Rattle.lists.specs.Find.{pick}
use Rattle.image.specs.Layout.{no_content}
use Rattle.image.specs.declared.Content.{Content}
use Rattle.moments.specs.Seats.{seat_of}
use Rattle.endtable.specs.declared.row.Row.{Row}

-- the row after its line's cached content became c: a full row stays, what does not fit is told by the count
unfoldable pub row_joined : List Content → ℕ → Content → List Content
row_joined row n c = pick (ltb n 16) (set row (seat_of row n c) c) row

unfoldable pub count_joined : List Content → ℕ → Content → ℕ
count_joined row n c = pick (ltb 16 n) n (pick (ltb (seat_of row n c) n) n (n + 1))

-- the row of a line that an event touched and left with the cached content c: once the line is persisted, c is its only content
abbrev pub row_after : List Content → ℕ → Content → Bool → List Content
row_after row n c true = set row 0 c
row_after row n c false = row_joined row n c

abbrev pub count_after : List Content → ℕ → Content → Bool → ℕ
count_after row n c true = 1
count_after row n c false = count_joined row n c

-- ---- both as one

-- the row of no content
unfoldable pub blank_row : Row
blank_row = record { count = 0; at = replicate 16 no_content }

abbrev pub no_row : Row
no_row = record { count = 0; at = [] }

unfoldable pub joined_row : Row → Content → Bool → Row
joined_row r c p = record { count = count_after r.at r.count c p; at = row_after r.at r.count c p }

-- the row of one content
unfoldable pub row_of : Content → Row
row_of c = record { count = 1; at = replicate 16 c }
