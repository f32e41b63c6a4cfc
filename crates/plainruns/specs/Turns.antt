-- The runs of the plain way by their numbers.
use Rattle.std.specs.Prelude.{ℕ, zero, suc, ◌/◌, ◌%◌, ◌^◌, List, [], ◌∷◌, replicate}
use Rattle.lists.specs.Tab.{over}

-- the picks of run k, with b picks a line and n lines: line 0 turns slowest
unfoldable pub turn_of : ℕ → ℕ → ℕ → List ℕ
turn_of b zero k = []
turn_of b (suc n) k = k / b ^ n ∷ turn_of b n (k % b ^ n)

-- in a table of six places
unfoldable pub no_picks : List ℕ
no_picks = replicate 6 0

unfoldable pub turn_in : ℕ → ℕ → ℕ → List ℕ
turn_in b n k = over no_picks 0 (turn_of b n k)
