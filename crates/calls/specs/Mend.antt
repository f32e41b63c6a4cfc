-- What the call of the mender returns; the lent bytes are those of mendWritten and listWritten.
use Rattle.std.specs.Prelude.{ℕ, List}
use Rattle.answer.specs.Answers.{told}
use Rattle.mending.specs.Bytes.{mend_answer, mend_count}
use Rattle.calls.specs.Packed.{packed}

-- the value is the number of changed nodes
abbrev pub mend_given : List ℕ → ℕ → ℕ → ℕ
mend_given s room listed = packed (told (mend_answer s room listed)) (mend_count s room listed)
