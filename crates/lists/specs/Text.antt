-- Printed text as bytes: quoted text, and numbers in decimal.
use Rattle.std.specs.Prelude.{ℕ, zero, suc, ◌+◌, ◌/◌, ◌%◌, true, false, List, [], ◌∷◌, ◌++◌, ltb}
use Prim.Native.Char.{code}
use Prim.Native.String.{String}

-- the codes of a text's characters
unfoldable pub text : String → List ℕ
text String.[] = []
text (String.◌∷◌ c s) = code c ∷ text s

-- the digits of n, highest first; k bounds how many follow the last
unfoldable pub digits_of : ℕ → ℕ → List ℕ
digits_of zero n = (48 + n % 10) ∷ []
digits_of (suc k) n = elim (ltb n 10) [ true ↦ (48 + n) ∷ [] | false ↦ digits_of k (n / 10) ++ ((48 + n % 10) ∷ []) ]

-- a number in decimal, without zeros in front
unfoldable pub decimal : ℕ → List ℕ
decimal n = digits_of n n
