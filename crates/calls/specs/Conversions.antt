-- What the conversions of an image return. What they leave in the lent bytes: `widened`, `narrowed`, `imported`, `exported`.
use Rattle.std.specs.Prelude.{ℕ, List}
use Rattle.answer.specs.Answers.{told}
use Rattle.converting.specs.Converted.{widen_answer, narrow_answer}
use Rattle.converting.specs.Desks.{import_answer, export_answer}
use Rattle.calls.specs.Packed.{packed}

abbrev pub widen_given : List ℕ → ℕ → ℕ
widen_given s room = packed (told (widen_answer s room)) 0

abbrev pub narrow_given : List ℕ → ℕ → ℕ
narrow_given s room = packed (told (narrow_answer s room)) 0

-- #101: from and to "UQP"
abbrev pub import_given : List ℕ → ℕ → ℕ
import_given s room = packed (told (import_answer s room)) 0

abbrev pub export_given : List ℕ → ℕ → ℕ → ℕ
export_given s t room = packed (told (export_answer s t room)) 0
