-- What the calls that write text return. The bytes are those of linesWritten and refusalWritten.
use Rattle.std.specs.Prelude.{ℕ, List, length}
use Rattle.answer.specs.Answers.{told}
use Rattle.page.specs.Filled.{lines_answer, lines_taken, lines_bytes}
use Rattle.filling.specs.Lines.{refusal_answer, refusal_bytes}
use Rattle.calls.specs.Packed.{packed, lines_of}

abbrev pub lines_given : List ℕ → ℕ → ℕ → ℕ
lines_given s k room = packed (told (lines_answer s k room)) (lines_of (lines_taken s k room) (length (lines_bytes s k room)))

abbrev pub refusal_given : ℕ → ℕ → ℕ → ℕ
refusal_given number place room = packed (told (refusal_answer number place room)) (lines_of 1 (length (refusal_bytes number place room)))
