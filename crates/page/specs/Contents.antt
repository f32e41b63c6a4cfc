-- The contents that a crash may leave in a line.
use Rattle.std.specs.Prelude.{ℕ, zero, suc, Bool, true, false, List, [], ◌∷◌, ◌++◌, map, drop}
use Rattle.lists.specs.Tab.{tab}
use Rattle.image.specs.Layout.{same_content}
use Rattle.image.specs.declared.Content.{Content}
use Rattle.machine.specs.Line.{shape_of, line_count, line_at, cached_at, persisted_at}
use Rattle.machine.specs.declared.Line.{Line}
use Rattle.machine.specs.declared.Machine.{Machine}
use Rattle.schedule.specs.Run.{Bench}

-- "Equal contents count once, at the first appearance": c joins the list unless it is there
unfoldable pub joins : List Content → Content → List Content
joins [] c = c ∷ []
joins (a ∷ l) c = elim (same_content a c) [ true ↦ a ∷ l | false ↦ a ∷ joins l c ]

unfoldable pub gathered : List Content → List Content → List Content
gathered seen [] = seen
gathered seen (c ∷ l) = gathered (joins seen c) l

-- "its persisted content after its last write-back or persist (or after the last start) and each cached content since, the present one included"
unfoldable pub contents_of : Bench → Line → List Content
contents_of b l =
    gathered (persisted_at b.machine l ∷ [])
    (map (λ m. cached_at m l) (drop (b.from l) b.past))

-- the contents of each line, line 0 first
unfoldable pub table_of : Bench → List (List Content)
table_of b = tab (λ l. contents_of b (line_at (shape_of b.machine) l)) (line_count (shape_of b.machine))
