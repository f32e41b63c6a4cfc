-- Choices, searches and counts over numbers.
use Rattle.std.specs.Prelude.{ℕ, zero, suc, ◌+◌, ◌-◌, Bool, true, false, ltb}

-- one of two, by a test
abbrev pub pick : {A : Type 0} → Bool → A → A → A
pick true a b = a
pick false a b = b

-- both hold; the second is looked at only where the first holds
abbrev pub both : Bool → Bool → Bool
both a b = pick a b false

-- the least number from s on, k numbers looked at, that f holds of; s + k where there is none
unfoldable pub least : (ℕ → Bool) → ℕ → ℕ → ℕ
least f zero s = s
least f (suc k) s = let r = least f k (suc s) in pick (f s) s r

-- the first number below n after i that f holds of, going round past the end: i itself comes last; n where there is none
unfoldable pub around : (ℕ → Bool) → ℕ → ℕ → ℕ
around f n i = let r = least f (n - suc i) (suc i) in pick (ltb r n) r (least f n 0)

-- whether f holds of a number below n
unfoldable pub any : (ℕ → Bool) → ℕ → Bool
any f zero = false
any f (suc n) = let r = any f n in pick (f n) true r

-- how many numbers below n f holds of
unfoldable pub count : (ℕ → Bool) → ℕ → ℕ
count f zero = 0
count f (suc n) = pick (f n) 1 0 + count f n
