-- A verdict comes after at most a million tries, and its order has at most as many numbers as there are operations. Assumes nothing.
use Prim.Native.Nat.{ℕ, zero, suc, ◌+◌, ◌≤◌}
use mathlib.Core.Path.{◌≡◌, refl, sym, subst}
use mathlib.Core.Bool.{Bool, true, false}
use mathlib.Core.List.{List, [], ◌∷◌, ◌++◌}
use mathlib.Core.Option.{Option, none, some}
use native.Mathlib.Omega.{arith}
use lib.ListN.{length, length-append}
use lib.Dec.{ltb}
use borrow.Author.Tests.{ltb-true}
use Rattle.answer.specs.Answers.{accepted}
use Rattle.lawful.specs.Operation.{Operation}
use Rattle.judging.specs.History.{count_in, first_in, last_in, operations_in, history_answer}
use Rattle.judging.specs.Search.{Verdict, lawful, unlawful, undecided, Judged, judged, taking, finished, or_else, consider, scan, searched, enough}
use Rattle.judging.specs.Judged.{judged_in}
use Rattle.judging.proofs.Taken.{operation_count}
use Rattle.judging.proofs.Turns.{judged_refused, judged_taken}

pub record Small (n : ℕ) (r : Judged) : Type 0 where
  pub tries : r.tries ≤ 1000000
  pub order : length r.order ≤ n

or_small : (n : ℕ) (v : Verdict) (r : Judged) (go : ℕ → Judged) → Small n r → ((t : ℕ) → t ≤ 1000000 → Small n (go t)) → Small n (or_else v r go)
or_small n lawful r go h g = h
or_small n unlawful r go h g = g r.tries h.tries
or_small n undecided r go h g = h

module _ (n : ℕ) (ops : List Operation) (last : List ℕ) where
  abbrev Keeps : ℕ → (List ℕ → List ℕ → ℕ → Judged) → Type 0
  Keeps m f = (o q : List ℕ) (t : ℕ) → length o + m ≤ n → t ≤ 1000000 → Small n (f o q t)

  scan_small : (m : ℕ) (f : List ℕ → List ℕ → ℕ → Judged) → Keeps m f
      → (k : ℕ) (o q : List ℕ) (i t : ℕ) → length o + suc m ≤ n → t ≤ 1000000 → Small n (scan enough ops f k o q i t)
  unfolding scan
  scan_small m f g zero o q i t h l = record { tries = l; order = omega arith }
  scan_small m f g (suc k) o q i t h l = by (taking ops o q i) (λ u z. scan_small m f g k o q (suc i) u h z)
    where
      by : (x : Option (List ℕ)) → ((u : ℕ) → u ≤ 1000000 → Small n (scan enough ops f k o q (suc i) u))
          → Small n (consider enough (f (o ++ (i ∷ []))) (scan enough ops f k o q (suc i)) t x)
      by none go = go t l
      by (some q') go = on (ltb t 1000000) refl
        where
          r : Judged
          r = f (o ++ (i ∷ [])) q' (suc t)

          on : (b : Bool) → ltb t 1000000 ≡ b
              → Small n (elim b as (λ _. Judged) [ true ↦ or_else r.verdict r (scan enough ops f k o q (suc i)) | false ↦ judged undecided t [] ])
          on true e =
              or_small n r.verdict r (scan enough ops f k o q (suc i))
              (g (o ++ (i ∷ [])) q' (suc t) (omega (arith, length-append o (i ∷ []))) (omega (arith, ltb-true t 1000000 e))) go
          on false e = record { tries = l; order = omega arith }

  searched_small : (m : ℕ) → Keeps m (searched enough ops last m)
  unfolding searched
  searched_small zero o q t h l = by (finished ops last o q)
    where
      by : (b : Bool) → Small n (elim b as (λ _. Judged) [ true ↦ judged lawful t o | false ↦ judged unlawful t [] ])
      by true = record { tries = l; order = omega arith }
      by false = record { tries = l; order = omega arith }
  searched_small (suc m) o q t h l =
      by (finished ops last o q) (scan_small m (searched enough ops last m) (searched_small m) (length ops) o q 0 t h l)
    where
      by : (b : Bool) → Small n (scan enough ops (searched enough ops last m) (length ops) o q 0 t)
          → Small n (elim b as (λ _. Judged) [ true ↦ judged lawful t o | false ↦ scan enough ops (searched enough ops last m) (length ops) o q 0 t ])
      by true z = record { tries = l; order = omega arith }
      by false z = z

pub judged_small : (s : List ℕ) → Small (count_in s) (judged_in s)
judged_small s = by (accepted (history_answer s)) refl
  where
    by : (b : Bool) → accepted (history_answer s) ≡ b → Small (count_in s) (judged_in s)
    by true e =
        subst (Small (count_in s)) (sym (judged_taken s e))
        (searched_small (count_in s) (operations_in s) (last_in s) (length (operations_in s)) [] (first_in s) 0 (omega (arith, operation_count s)) (omega arith))
    by false e = subst (Small (count_in s)) (sym (judged_refused s e)) (record { tries = omega arith; order = omega arith })
