-- The table after a start: for each line the persisted content, and the cached one behind it.
use Rattle.std.specs.Prelude.{ℕ, List, ◌∷◌, replicate}
use Rattle.lists.specs.Find.{pick}
use Rattle.lists.specs.Tab.{front}
use Rattle.image.specs.Layout.{no_content, same_content}
use Rattle.image.specs.declared.Content.{Content}
use Rattle.machine.specs.Line.{shape_of, line_at, cached_at, persisted_at}
use Rattle.machine.specs.declared.Machine.{Machine}

unfoldable pub blank_table : List (List Content)
blank_table = replicate 72 (replicate 16 no_content)

unfoldable pub blank_counts : List ℕ
blank_counts = replicate 72 0

unfoldable pub opened_row : Content → Content → List Content
opened_row p c = p ∷ c ∷ replicate 14 no_content

-- two contents, or one where they are equal
unfoldable pub opened_count : Content → Content → ℕ
opened_count p c = pick (same_content p c) 1 2

abbrev pub line_opened : Machine → ℕ → List Content
line_opened m l = let L = line_at (shape_of m) l in opened_row (persisted_at m L) (cached_at m L)

abbrev pub line_counted : Machine → ℕ → ℕ
line_counted m l = let L = line_at (shape_of m) l in opened_count (persisted_at m L) (cached_at m L)

-- the first k lines opened
unfoldable pub opened_table : Machine → ℕ → List (List Content)
opened_table m k = front (line_opened m) k blank_table

unfoldable pub opened_counts : Machine → ℕ → List ℕ
opened_counts m k = front (line_counted m) k blank_counts
