-- Where a content stands among others.
use Rattle.std.specs.Prelude.{ℕ, Bool, List}
use Rattle.lists.specs.Find.{least}
use Rattle.image.specs.Layout.{content_at, same_content}
use Rattle.image.specs.declared.Content.{Content}

-- whether the list has c at place j
abbrev pub is_at : List Content → Content → ℕ → Bool
is_at row c j = same_content (content_at row j) c

-- the first of the list's n contents that equals c; n where none does
unfoldable pub seat_of : List Content → ℕ → Content → ℕ
seat_of row n c = least (is_at row c) n 0
