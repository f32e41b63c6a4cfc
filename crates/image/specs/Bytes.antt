-- Numbers as bytes: little-endian, of any width.
use Rattle.std.specs.Prelude.{ℕ, zero, suc, ◌+◌, ◌*◌, ◌/◌, ◌%◌, List, [], ◌∷◌, get_or, take, drop}

-- a number as w bytes, lowest first
abbrev pub le : ℕ → ℕ → List ℕ
le zero x = []
le (suc w) x = x % 256 ∷ le w (x / 256)

-- and the number that bytes are
abbrev pub num_of : List ℕ → ℕ
num_of [] = 0
num_of (b ∷ s) = b + num_of s * 256

-- the byte at place i, and the number of w bytes there
abbrev pub at1 : List ℕ → ℕ → ℕ
at1 s i = get_or s i 0

unfoldable pub at_w : ℕ → List ℕ → ℕ → ℕ
at_w w s i = num_of (take w (drop i s))

-- numbers of 16 and of 32 bits
abbrev pub at2 : List ℕ → ℕ → ℕ
at2 = at_w 2

abbrev pub at4 : List ℕ → ℕ → ℕ
at4 = at_w 4

abbrev pub le4 : ℕ → List ℕ
le4 = le 4
