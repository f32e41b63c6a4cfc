-- What the call of the plain way returns; the lent bytes are those of plainWritten.
use Rattle.std.specs.Prelude.{ℕ, List}
use Rattle.answer.specs.Answers.{told}
use Rattle.plainway.specs.Plainly.{plain_answer, plain_count}
use Rattle.calls.specs.Packed.{packed}

-- the value is the number of images
abbrev pub plain_given : List ℕ → ℕ → ℕ
plain_given s room = packed (told (plain_answer s room)) (plain_count s room)
