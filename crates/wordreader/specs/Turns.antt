-- One byte of a text: the line that is being read, its number, and what the lines before it said.
use Rattle.std.specs.Prelude.{ℕ, ◌+◌, List, eqb}
use Rattle.lists.specs.Find.{pick}
use Rattle.image.specs.declared.Shape.{Shape}
use Rattle.spelling.specs.declared.Line.{Line}
use Rattle.spelling.specs.declared.Survey.{Survey}
use Rattle.spelling.specs.Words.{no_line, line_byte}
use Rattle.spelling.specs.Lines.{said}
use Rattle.spelling.specs.Reading.{surveyed, put_by, reach_by}

unfoldable pub line_next : Line → ℕ → Line
line_next l x = pick (eqb x 10) no_line (line_byte l x)

unfoldable pub number_next : ℕ → ℕ → ℕ
number_next i x = pick (eqb x 10) (i + 1) i

unfoldable pub survey_next : ℕ → Survey → Line → ℕ → Survey
survey_next i v l x = pick (eqb x 10) (surveyed i v (said l)) v

-- what the line that is being read puts into the file, where it ends
unfoldable pub put_next : Shape → ℕ → List ℕ → ℕ → Line → ℕ → List ℕ
put_next g z b p l x = pick (eqb x 10) (put_by g z b p (said l)) b

unfoldable pub reach_next : ℕ → ℕ → Line → ℕ → ℕ
reach_next z p l x = pick (eqb x 10) (reach_by z p (said l)) p
