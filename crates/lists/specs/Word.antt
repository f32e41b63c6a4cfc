-- A set of numbers below 64 as a word: number i is in it where bit i is set.
use Rattle.std.specs.Prelude.{ℕ, zero, suc, ◌+◌, ◌-◌, ◌/◌, ◌%◌, ◌^◌, Bool, eqb}
use Rattle.lists.specs.Find.{pick}

-- whether number i is in the set w
unfoldable pub has : ℕ → ℕ → Bool
has w zero = eqb (w % 2) 1
has w (suc i) = has (w / 2) i

-- the set with number i in it
unfoldable pub with : ℕ → ℕ → ℕ
with w i = pick (has w i) w (w + 2 ^ i)

-- the set without number i
unfoldable pub without : ℕ → ℕ → ℕ
without w i = pick (has w i) (w - 2 ^ i) w

-- the numbers below n that f holds of
unfoldable pub word_of : (ℕ → Bool) → ℕ → ℕ
word_of f zero = 0
word_of f (suc n) = pick (f n) (word_of f n + 2 ^ n) (word_of f n)
