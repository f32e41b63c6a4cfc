-- The lines of the printed page from plain numbers.
use Rattle.std.specs.Prelude.{ℕ, List, [], ◌++◌, true, false, length, drop, ltb}
use Rattle.lists.specs.Text.{text, decimal}
use Rattle.image.specs.declared.Content.{Content}
use Rattle.image.specs.declared.Shape.{Shape}
use Rattle.machine.specs.Laid.{zeros}
use Rattle.page.specs.Printed.{items_text, newline, ending_line}
use Rattle.endtable.specs.Picks.{ending_from}
use Rattle.printing.specs.declared.items.Items.{Items}

-- ending number, head index, items
unfoldable pub line_text : ℕ → ℕ → List ℕ → List ℕ
line_text k h l = decimal k ++ text " " ++ decimal h ++ items_text l ++ newline

-- a refusal's number and place
unfoldable pub refused_text : ℕ → ℕ → List ℕ
refused_text n p = text "refused " ++ decimal n ++ text " at " ++ decimal p ++ newline

-- items in the first places of a table
unfoldable pub listed : List ℕ → Items
listed l = record { count = length l; items = l ++ drop (length l) zeros }

-- the line of ending k, picked from the table
unfoldable pub line_from : List (List Content) → List ℕ → Shape → ℕ → List ℕ
line_from t cs z k = ending_line k (ending_from t cs z k)

-- a text that goes whole into `room` bytes, and nothing where it does not
unfoldable pub if_fits : ℕ → List ℕ → List ℕ
if_fits room l = elim (ltb room (length l)) [ true ↦ [] | false ↦ l ]
