-- The printed page, as bytes.
use Rattle.std.specs.Prelude.{ℕ, zero, suc, Bool, true, false, List, [], ◌∷◌, ◌++◌, map}
use Rattle.lists.specs.Text.{text, decimal}
use Rattle.answer.specs.Answers.{told, accepted, Answer}
use Rattle.image.specs.Layout.{content_at}
use Rattle.image.specs.Recovered.{head_of}
use Rattle.image.specs.declared.Image.{Image}
use Rattle.machine.specs.Start.{queue_of}
use Rattle.schedule.specs.Layout.{threads_in, nodes_in, count_in, schedule_shape}
use Rattle.schedule.specs.Run.{Ran, Bench, ran}
use Rattle.page.specs.Endings.{endings}
use Rattle.page.specs.Refusals.{table_in, page_answer, ending_count}

abbrev pub newline : List ℕ
newline = 10 ∷ []

-- the items that an image recovers to, in order
unfoldable pub items_of : Image → List ℕ
items_of g = map (λ i. (content_at g.nodes i).item) (queue_of g)

-- "the recovered items in order, or `-`"
unfoldable pub spaced : List ℕ → List ℕ
spaced [] = []
spaced (v ∷ l) = text " " ++ decimal v ++ spaced l

abbrev pub items_text : List ℕ → List ℕ
items_text [] = text " -"
items_text (v ∷ l) = spaced (v ∷ l)

-- "Each other line gives ending number, head index, and the recovered items in order"; #101: "the printed head index is the largest"
unfoldable pub ending_line : ℕ → Image → List ℕ
ending_line k g = decimal k ++ text " " ++ decimal (head_of g) ++ items_text (items_of g) ++ newline

unfoldable pub lines_from : ℕ → List Image → List ℕ
lines_from k [] = []
lines_from k (g ∷ l) = ending_line k g ++ lines_from (suc k) l

-- "The first line gives mark, schedule version, T, N, event count and ending count."
unfoldable pub first_line : ℕ → ℕ → ℕ → ℕ → List ℕ
first_line t n events count =
    text "UQS 1 threads " ++ decimal t ++ text " nodes " ++ decimal n ++ text " events " ++ decimal events
    ++ text " endings " ++ decimal count ++ newline

-- "A refusal prints one line"
unfoldable pub refused_line : Answer → List ℕ
refused_line a = text "refused " ++ decimal (told a).number ++ text " at " ++ decimal (told a).place ++ newline

unfoldable pub printed : List ℕ → List ℕ
printed s = elim (accepted (page_answer s)) [
  | true ↦ first_line (threads_in s) (nodes_in s) (count_in s) (ending_count s) ++ lines_from 0 (endings (schedule_shape s) (table_in s))
  | false ↦ refused_line (page_answer s)
]
