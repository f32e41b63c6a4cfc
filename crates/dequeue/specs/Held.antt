-- The node that a thread holds, if any.
use Rattle.std.specs.Prelude.{ℕ, ◌<◌, ◌≢◌}
use Rattle.machine.specs.Record.{none}

-- a number that is a place of the table unless it is none
abbrev pub NodeOrNone : ℕ → Type 0
NodeOrNone x = x ≢ none → x < 64
