-- A page piece by piece: lent buffers of one room, filled one after the other.
use Rattle.std.specs.Prelude.{ℕ, zero, suc, ◌+◌, List, [], ◌++◌}
use Rattle.page.specs.Filled.{lines_left, lines_taken, lines_bytes}

-- the bytes of c buffers from line k on, joined: each begins where the one before it stopped. A buffer that finds no line is left empty
unfoldable pub pieces_from : List ℕ → ℕ → ℕ → ℕ → List ℕ
pieces_from s room k zero = []
pieces_from s room k (suc c) = lines_bytes s k room ++ pieces_from s room (k + lines_taken s k room) c

-- as many buffers as there are lines: none needs more
unfoldable pub pieces : List ℕ → ℕ → List ℕ
pieces s room = pieces_from s room 0 (lines_left s 0)
