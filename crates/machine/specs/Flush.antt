-- #104 "Flush and fence are two things": "each becomes a flush step, then a fence step". By time, and without a clock: the record knows of two threads which one
-- flushed later (`late`), and of each line whose flushes are no later than what is persisted there (`over_at`).
use Rattle.std.specs.Prelude.{ℕ, true, not, List, eqb}
use Rattle.lists.specs.Find.{pick}
use Rattle.lists.specs.Tab.{front}
use Rattle.lists.specs.Word.{has, with, without, word_of}
use Rattle.machine.specs.Record.{flushed, late, put_flushed}
use Rattle.machine.specs.Line.{Line, cached_at, over_at, put_over, keeping}
use Rattle.machine.specs.declared.Machine.{Machine}

-- thread k flushes now: none has since, and since each other thread last did, k has
unfoldable pub late_after : Machine → ℕ → List ℕ
late_after m k = front (λ u. pick (eqb u k) 0 (with (late m u) k)) m.t m.late

-- thread k flushes line l: what it has flushed is the present content, which is later than what is persisted. "Between the two nothing is assured"
abbrev pub flush : Machine → ℕ → Line → Machine
flush m k l = put_over (put_flushed m k (cached_at m l) (late_after m k)) l (without (over_at m l) k)

-- the threads over line l once it holds what thread k has flushed: those that were, and those that have not flushed since k did
unfoldable pub over_after : Machine → ℕ → Line → ℕ
over_after m k l = word_of (λ u. pick (has (over_at m l) u) true (not (has (late m k) u))) m.t

-- thread k's fence of line l: "From the fence on, the line's contents start no earlier than the one at the flush; if a later one was persisted already, that one stays"
abbrev pub fence : Machine → ℕ → Line → Machine
fence m k l = pick (has (over_at m l) k) m (keeping m l (flushed m k) (over_after m k l))
