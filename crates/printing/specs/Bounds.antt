-- How many bytes a printed line has at most.
use Rattle.std.specs.Prelude.{ℕ, ◌+◌, ◌*◌, ◌<◌, List, [], ◌∷◌}

-- the line of an ending with at most c items: a number of at most 5 digits, a blank, a head index of at most 20, each item behind a
-- blank with at most 10, the line's end
abbrev pub line_room : ℕ → ℕ
line_room c = 5 + 1 + 20 + c * 11 + 1

-- the first line: the words, T, N, the event count (at most 4,096), the ending count (at most 65,536), the line's end
abbrev pub first_room : ℕ
first_room = 14 + 1 + 7 + 2 + 8 + 4 + 9 + 5 + 1

-- a refusal's line: the words, the number (at most 20), a place of 32 bits, the line's end
abbrev pub refused_room : ℕ
refused_room = 8 + 2 + 4 + 10 + 1

-- every number of the list fits 32 bits
abbrev pub AllSmall : List ℕ → Type 0
AllSmall [] = Unit {0}
AllSmall (v ∷ l) = (v < 4294967296) × AllSmall l
