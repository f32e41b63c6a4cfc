-- The contents of one line of a schedule's page, as the call on it gives them.
use Rattle.std.specs.Prelude.{ℕ, List, [], length, get_or, replicate, leb}
use Rattle.lists.specs.Find.{pick}
use Rattle.lists.specs.Tab.{front}
use Rattle.answer.specs.Answers.{check, accepted, Answer, Taken, Number}
use Rattle.image.specs.Layout.{no_content, content_at}
use Rattle.image.specs.declared.Content.{Content}
use Rattle.pages.specs.declared.lines.LineContents.{LineContents}
use Rattle.page.specs.Refusals.{and_then, table_in, page_answer}

-- the page's refusals, in its order; then 10 where there is no line l
unfoldable pub line_answer : List ℕ → ℕ → Answer
line_answer s l = and_then (page_answer s) (check (leb (length (table_in s)) l) (Number 0) Taken)

-- line l's row of the table of contents, the oldest content first; none on a refusal
unfoldable pub line_in : List ℕ → ℕ → List Content
line_in s l = pick (accepted (line_answer s l)) (get_or (table_in s) l []) []

unfoldable pub blank_row : List Content
blank_row = replicate 16 no_content

-- the first n contents of a list, blank beyond
unfoldable pub first_of : List Content → ℕ → List Content
first_of c n = front (content_at c) n blank_row

-- a line's contents as an array of sixteen
abbrev pub sixteen : List Content → List Content
sixteen c = first_of c (length c)

-- how many contents line l has, and these
abbrev pub line_shown : List ℕ → ℕ → LineContents
line_shown s l = record { count = length (line_in s l); contents = sixteen (line_in s l) }
