-- What is longer than the longest history is refused, by 1 at 0, however it goes on: the program `judge` looks at 1,024 bytes.
use Prim.Native.Nat.{ℕ, ◌≤◌, ◌<◌}
use mathlib.Core.Path.{◌≡◌, refl, sym, ap, ◌∙◌}
use mathlib.Core.Bool.{Bool, true, false, not}
use mathlib.Core.List.{List}
use native.Mathlib.Omega.{arith}
use lib.ListN.{length, take}
use lib.Seq.{length-take-le}
use lib.Dec.{ltb}
use Rattle.answer.specs.Answers.{check, Taken, Length}
use Rattle.judging.specs.History.{count_in, first_odd, fault_at, sized, history_answer}
use Rattle.judging.proofs.Taken.{whole_of}

module _ (s : List ℕ) (long : 859 < length s) where
  not_sized : sized s ≡ false
  not_sized = by (sized s) refl
    where
      by : (b : Bool) → sized s ≡ b → b ≡ false
      by false e = refl
      by true e = let w = whole_of s e in absurd (omega (arith, w.size, w.count, w.first, w.last))

  pub long_refused : history_answer s ≡ Length
  unfolding history_answer
  long_refused = ap (λ (b : Bool). check (not b) Length (check (ltb (first_odd s) (count_in s)) (fault_at s (first_odd s)) Taken)) not_sized

-- the first part is answered as the whole is
pub long_same : (s : List ℕ) (room : ℕ) → 859 < room → room ≤ length s → history_answer (take room s) ≡ history_answer s
long_same s room long h =
    long_refused (take room s) (omega (arith, length-take-le room s h)) ∙ sym (long_refused s (omega arith))
