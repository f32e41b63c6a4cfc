-- #104's sets of threads, one thread at a time.
use Rattle.std.specs.Prelude.{ℕ, ◌+◌, ◌^◌, Bool, true, not, List, get_or, eqb}
use Rattle.lists.specs.Find.{pick}
use Rattle.lists.specs.Tab.{front}
use Rattle.lists.specs.Word.{has, with, word_of}

-- who has flushed since thread u last did, once thread k flushes; it was w
abbrev pub late_of : ℕ → ℕ → ℕ → ℕ
late_of w u k = pick (eqb u k) 0 (with w k)

-- the same of the threads below n
unfoldable pub late_from : List ℕ → ℕ → ℕ → List ℕ
late_from l k n = front (λ u. late_of (get_or l u 0) u k) n l

-- thread u is over a line behind a fence of it: it was, or it has not flushed since
abbrev pub is_over : ℕ → ℕ → ℕ → Bool
is_over over late u = pick (has over u) true (not (has late u))

-- the set r of threads below u, with thread u where that is such a one
abbrev pub over_with : ℕ → ℕ → ℕ → ℕ → ℕ
over_with over late u r = pick (is_over over late u) (r + 2 ^ u) r

-- those below n
unfoldable pub over_below : ℕ → ℕ → ℕ → ℕ
over_below over late n = word_of (λ u. is_over over late u) n
