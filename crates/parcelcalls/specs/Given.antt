-- What the call on a schedule's list returns; the bytes are those of despatchWritten.
use Rattle.std.specs.Prelude.{ℕ, List}
use Rattle.answer.specs.Answers.{told}
use Rattle.calls.specs.Packed.{packed}
use Rattle.parcels.specs.Despatch.{despatch_answer, despatch_count}

-- the value is the number of entries
abbrev pub despatch_given : List ℕ → ℕ → ℕ → ℕ
despatch_given s k room = packed (told (despatch_answer s k room)) (despatch_count s k room)
