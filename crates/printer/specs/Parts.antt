-- A text that is written part by part.
use Rattle.std.specs.Prelude.{ℕ, ◌+◌, ◌≤◌, ◌<◌, ◌≡◌, List, length, take, drop}

-- of a text whose first `done` bytes are written, the first n bytes of b are the next n. The count of bytes fits 64 bits
abbrev pub NextPart : List ℕ → ℕ → List ℕ → ℕ → Type 0
NextPart t done b n = (n ≤ length b) × (done + n ≤ length t) × (take n b ≡ take n (drop done t)) × (done + n < 18446744073709551616)
