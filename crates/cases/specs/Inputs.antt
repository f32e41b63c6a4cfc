-- How the sequences are written down: schedules as bytes, from their parts.
use Rattle.std.specs.Prelude.{ℕ, zero, suc, ◌*◌, ◌/◌, ◌%◌, List, [], ◌∷◌, ◌++◌, length, replicate}

-- a number's four bytes, lowest first
unfoldable pub four : ℕ → List ℕ
four x = x % 256 ∷ x / 256 % 256 ∷ x / 65536 % 256 ∷ x / 16777216 % 256 ∷ []

-- an event's six bytes: kind, number, item
unfoldable pub enqueue : ℕ → ℕ → List ℕ
enqueue k v = 1 ∷ k ∷ four v

unfoldable pub dequeue : ℕ → List ℕ
dequeue k = 2 ∷ k ∷ 0 ∷ 0 ∷ 0 ∷ 0 ∷ []

unfoldable pub crash : List ℕ
crash = 5 ∷ 0 ∷ 0 ∷ 0 ∷ 0 ∷ 0 ∷ []

-- c steps of thread k
unfoldable pub step : ℕ → ℕ → List ℕ
step zero k = []
step (suc c) k = 3 ∷ k ∷ 0 ∷ 0 ∷ 0 ∷ 0 ∷ step c k

-- "UQI", version 1, N, head index h, nodes of nine zero bytes
unfoldable pub zero_nodes : ℕ → ℕ → List ℕ
zero_nodes n h = 85 ∷ 81 ∷ 73 ∷ 1 ∷ 0 ∷ n ∷ four h ++ replicate (9 * n) 0

-- "UQS", version 1, T, the event count, an image, the events
unfoldable pub schedule : ℕ → List ℕ → List ℕ → List ℕ
schedule t image events =
    let c = length events / 6 in
    85 ∷ 81 ∷ 83 ∷ 1 ∷ 0 ∷ t ∷ c % 256 ∷ c / 256 ∷ image ++ events
