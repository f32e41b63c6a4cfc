-- Digits in groups, as the code writes them.
use Rattle.std.specs.Prelude.{ℕ, ◌+◌, ◌/◌, ◌%◌, List, [], ◌∷◌, ◌++◌}

-- the four digits of a number below 10,000, zeros in front among them: those of its hundreds, and those of the rest
unfoldable pub four_digits : ℕ → List ℕ
four_digits x = (48 + x / 100 / 10) ∷ (48 + x / 100 % 10) ∷ (48 + x % 100 / 10) ∷ (48 + x % 100 % 10) ∷ []

-- the eight digits of a number below 100,000,000
unfoldable pub eight_digits : ℕ → List ℕ
eight_digits x = four_digits (x / 10000) ++ four_digits (x % 10000)
