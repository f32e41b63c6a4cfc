-- The other threads that have an operation, gathered one thread at a time.
use Rattle.std.specs.Prelude.{ℕ, zero, suc, ◌+◌, ◌^◌, Bool, not, eqb}
use Rattle.lists.specs.Find.{pick, both}
use Rattle.machine.specs.Stage.{busy}
use Rattle.machine.specs.declared.Machine.{Machine}

-- thread u is another than k, and has an operation
abbrev pub is_other : Machine → ℕ → ℕ → Bool
is_other m k u = both (not (eqb u k)) (busy m u)

-- the set w of threads below u, with thread u where that is such a one
abbrev pub joined : Machine → ℕ → ℕ → ℕ → ℕ
joined m k u w = pick (is_other m k u) (w + 2 ^ u) w

-- those below n
unfoldable pub others_below : Machine → ℕ → ℕ → ℕ
others_below m k zero = 0
others_below m k (suc n) = joined m k n (others_below m k n)
