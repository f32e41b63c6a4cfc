-- The other side: small outcomes that `Lawful` lets through, each with its order.
use Prim.Native.Nat.{ℕ, zero, suc, ◌<◌}
use mathlib.Core.Path.{◌≡◌, refl}
use mathlib.Core.Bool.{Bool, true, false}
use mathlib.Core.List.{List, [], ◌∷◌}
use mathlib.Core.Logic.{◌⊎◌, inl, inr}
use native.Mathlib.Omega.{arith}
use Rattle.lawful.specs.Operation.{Operation, Reply, nothing, done, Call, puts, takes, says}
use Rattle.lawful.specs.Plain.{serve_all}
use Rattle.lawful.specs.Lawful.{Lawful, at, Has, Earlier}

abbrev operation : Call → ℕ → Reply → ℕ → Operation
operation c b r e = record { thread = 0; call = c; began = b; reply = r; ended = e }

never : {A : Type 0} → ◌≡◌ {A = Bool} false true → A
never e = let z : ◌≡◌ {A = ℕ} 0 1 = cc in absurd (omega arith)

-- a dequeue that has not answered: the item is still there
abbrev waiting : List Operation
waiting = operation takes 0 nothing 0 ∷ []

pub still_there : Lawful waiting (5 ∷ []) (5 ∷ [])
unfolding serve_all
still_there = record { order = []; within = λ k h. absurd h; once = tt; whole = whole; timely = tt; plays = refl }
  where
    whole : (k : ℕ) → k < 1 → says (at waiting k).reply ≡ true → Has k []
    whole zero l e = never e
    whole (suc k) l e = absurd (omega arith)

-- or it has been taken
pub taken_unheard : Lawful waiting (5 ∷ []) []
unfolding serve_all
taken_unheard = record { order = 0 ∷ []; within = within; once = ((λ z. z), tt); whole = λ k l e. inl (omega arith); timely = ((λ j z. absurd z), tt); plays = refl }
  where
    within : (k : ℕ) → Has k (0 ∷ []) → k < 1
    within k (inl e) = omega arith
    within k (inr z) = absurd z

-- two enqueues at one time, both answered: either may have been first
abbrev together : List Operation
together = operation (puts 1) 0 done 12 ∷ operation (puts 2) 1 done 13 ∷ []

both_orders : (i j : ℕ) → ((i ≡ 0) × (j ≡ 1)) ⊎ ((i ≡ 1) × (j ≡ 0)) → (k : ℕ) → k < 2 → Has k (i ∷ j ∷ [])
both_orders i j (inl e) zero l = inl (omega (arith, e.0))
both_orders i j (inl e) (suc zero) l = inr (inl (omega (arith, e.1)))
both_orders i j (inl e) (suc (suc k)) l = absurd (omega arith)
both_orders i j (inr e) zero l = inr (inl (omega (arith, e.1)))
both_orders i j (inr e) (suc zero) l = inl (omega (arith, e.0))
both_orders i j (inr e) (suc (suc k)) l = absurd (omega arith)

among : (i j : ℕ) → i < 2 → j < 2 → (k : ℕ) → Has k (i ∷ j ∷ []) → k < 2
among i j p q k (inl e) = omega (arith, e)
among i j p q k (inr (inl e)) = omega (arith, e)
among i j p q k (inr (inr z)) = absurd z

-- neither was answered before the other began
overlap : (k : ℕ) → k < 2 → (j : ℕ) → j < 2 → ¬ Earlier (at together j) (at together k)
overlap zero p zero q e = omega (arith, e.1)
overlap zero p (suc zero) q e = omega (arith, e.1)
overlap zero p (suc (suc j)) q e = omega arith
overlap (suc zero) p zero q e = omega (arith, e.1)
overlap (suc zero) p (suc zero) q e = omega (arith, e.1)
overlap (suc zero) p (suc (suc j)) q e = omega arith
overlap (suc (suc k)) p j q e = omega arith

pub in_order : Lawful together [] (1 ∷ 2 ∷ [])
unfolding serve_all
in_order = record {
  order = 0 ∷ 1 ∷ [];
  within = among 0 1 (omega arith) (omega arith);
  once = ((λ h. differ h), ((λ z. z), tt));
  whole = λ k l e. both_orders 0 1 (inl (refl, refl)) k l;
  timely = ((λ j h. overlap 0 (omega arith) j (among 1 1 (omega arith) (omega arith) j (inr h))), ((λ j z. absurd z), tt));
  plays = refl;
}
  where
    differ : ¬ Has 0 (1 ∷ [])
    differ (inl e) = omega arith
    differ (inr z) = z

pub out_of_order : Lawful together [] (2 ∷ 1 ∷ [])
unfolding serve_all
out_of_order = record {
  order = 1 ∷ 0 ∷ [];
  within = among 1 0 (omega arith) (omega arith);
  once = ((λ h. differ h), ((λ z. z), tt));
  whole = λ k l e. both_orders 1 0 (inr (refl, refl)) k l;
  timely = ((λ j h. overlap 1 (omega arith) j (among 0 0 (omega arith) (omega arith) j (inr h))), ((λ j z. absurd z), tt));
  plays = refl;
}
  where
    differ : ¬ Has 1 (0 ∷ [])
    differ (inl e) = omega arith
    differ (inr z) = z
