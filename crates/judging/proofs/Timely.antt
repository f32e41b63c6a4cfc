-- An operation is timely where it began at the latest when the first of those that are answered and not taken was answered. Assumes nothing.
use Prim.Native.Nat.{ℕ, zero, suc, ◌≤◌, ◌<◌}
use mathlib.Core.Path.{◌≡◌, refl, sym}
use mathlib.Core.Bool.{Bool, true, false}
use mathlib.Core.List.{List}
use native.Mathlib.Omega.{arith}
use native.Mathlib.Decide.{dec_lt}
use lib.Dec.{ltb}
use borrow.Author.Tests.{lt-ltb, le-ltb}
use Rattle.lists.specs.Find.{pick, both, any}
use Rattle.judging.specs.History.{ended_at}
use Rattle.judging.specs.Place.{due, top, bar_with, bar_below}

-- the lesser of two times is below b where one of them is
less : (e r b : ℕ) → Dec (e < r) → Dec (e < b) → pick (ltb e b) true (ltb r b) ≡ ltb (pick (ltb e r) e r) b
less e r b (yes p) (yes q) = rw (lt-ltb e r p, lt-ltb e b q)
less e r b (yes p) (no q) = rw (lt-ltb e r p, le-ltb e b (omega arith), le-ltb r b (omega arith))
less e r b (no p) (yes q) = rw (le-ltb e r (omega arith), lt-ltb e b q, lt-ltb r b (omega arith))
less e r b (no p) (no q) = rw (le-ltb e r (omega arith), le-ltb e b (omega arith))

module _ (s taken : List ℕ) (b : ℕ) (fits : b ≤ top) where
  abbrev pub before : ℕ → Bool
  before j = both (due s taken j) (ltb (ended_at s j) b)

  pub bar_is : (k : ℕ) → any before k ≡ ltb (bar_below s taken k) b
  unfolding any bar_below bar_with
  bar_is zero = sym (le-ltb top b fits)
  bar_is (suc k) = rw (bar_is k) (by (due s taken k) refl)
    where
      by : (d : Bool) → due s taken k ≡ d → pick (both d (ltb (ended_at s k) b)) true (ltb (bar_below s taken k) b) ≡ ltb (bar_with s taken k (bar_below s taken k)) b
      by true e = rw e (less (ended_at s k) (bar_below s taken k) b (dec_lt (ended_at s k) (bar_below s taken k)) (dec_lt (ended_at s k) b))
      by false e = rw e
