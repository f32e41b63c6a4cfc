-- `Lawful` is not empty talk: nine small wrong outcomes that it shuts out. Each of its fields is needed by one of them.
use Prim.Native.Nat.{ℕ, zero, suc, ◌<◌}
use mathlib.Core.Path.{◌≡◌, refl, sym, ap, subst, ◌∙◌}
use mathlib.Core.Bool.{Bool, true, false}
use mathlib.Core.List.{List, [], ◌∷◌, map}
use mathlib.Core.Logic.{◌⊎◌, inl, inr}
use mathlib.Core.Option.{Option, none, some}
use native.Mathlib.Omega.{arith}
use lib.ListN.{length}
use Rattle.lawful.specs.Operation.{Operation, Reply, nothing, done, full, worn_out, empty, gave, Call, puts, takes}
use Rattle.lawful.specs.Plain.{serve_all}
use Rattle.lawful.specs.Lawful.{Lawful, at, Has, Timely}
use Rattle.lawful.proofs.Orders.{none_left, one, two}

abbrev operation : Call → ℕ → Reply → ℕ → Operation
operation c b r e = record { thread = 0; call = c; began = b; reply = r; ended = e }

-- an answered item lost: an enqueue of 7 was answered Done, the queue is empty
abbrev lost : List Operation
lost = operation (puts 7) 0 done 11 ∷ []

pub not_lost : ¬ Lawful lost [] []
unfolding serve_all
not_lost w =
    let o = one w.order w.within w.once (w.whole 0 (omega arith) refl) in
    let p : serve_all (map (at lost) (0 ∷ [])) [] ≡ some [] = subst (λ r. serve_all (map (at lost) r) [] ≡ some []) o w.plays in
    let z : ◌≡◌ {A = ℕ} 0 1 = cc in absurd (omega arith)

-- an item there that was turned away: an enqueue of 7 was answered Full, the queue has it
abbrev turned_away : List Operation
turned_away = operation (puts 7) 0 full 1 ∷ []

pub not_full : ¬ Lawful turned_away [] (7 ∷ [])
unfolding serve_all
not_full w =
    let o = one w.order w.within w.once (w.whole 0 (omega arith) refl) in
    let p : serve_all (map (at turned_away) (0 ∷ [])) [] ≡ some (7 ∷ []) = subst (λ r. serve_all (map (at turned_away) r) [] ≡ some (7 ∷ [])) o w.plays in
    let z : ◌≡◌ {A = ℕ} 0 1 = cc in absurd (omega arith)

-- the same, answered Worn out
abbrev worn : List Operation
worn = operation (puts 7) 0 worn_out 7 ∷ []

pub not_worn : ¬ Lawful worn [] (7 ∷ [])
unfolding serve_all
not_worn w =
    let o = one w.order w.within w.once (w.whole 0 (omega arith) refl) in
    let p : serve_all (map (at worn) (0 ∷ [])) [] ≡ some (7 ∷ []) = subst (λ r. serve_all (map (at worn) r) [] ≡ some (7 ∷ [])) o w.plays in
    let z : ◌≡◌ {A = ℕ} 0 1 = cc in absurd (omega arith)

-- one item handed out twice
abbrev twice : List Operation
twice = operation takes 0 (gave 5) 6 ∷ operation takes 7 (gave 5) 13 ∷ []

pub not_twice : ¬ Lawful twice (5 ∷ []) []
unfolding serve_all
not_twice w = by (two w.order w.within w.once (w.whole 0 (omega arith) refl) (w.whole 1 (omega arith) refl))
  where
    plays : (r : List ℕ) → w.order ≡ r → serve_all (map (at twice) r) (5 ∷ []) ≡ some []
    plays r e = subst (λ r. serve_all (map (at twice) r) (5 ∷ []) ≡ some []) e w.plays

    by : (w.order ≡ 0 ∷ 1 ∷ []) ⊎ (w.order ≡ 1 ∷ 0 ∷ []) → ⊥
    by (inl e) = let p = plays (0 ∷ 1 ∷ []) e in let z : ◌≡◌ {A = ℕ} 0 1 = cc in omega arith
    by (inr e) = let p = plays (1 ∷ 0 ∷ []) e in let z : ◌≡◌ {A = ℕ} 0 1 = cc in omega arith

-- two swapped: 1 was in before 2 was begun
abbrev swapped : List Operation
swapped = operation (puts 1) 0 done 11 ∷ operation (puts 2) 12 done 23 ∷ []

pub not_swapped : ¬ Lawful swapped [] (2 ∷ 1 ∷ [])
unfolding serve_all
not_swapped w = by (two w.order w.within w.once (w.whole 0 (omega arith) refl) (w.whole 1 (omega arith) refl))
  where
    by : (w.order ≡ 0 ∷ 1 ∷ []) ⊎ (w.order ≡ 1 ∷ 0 ∷ []) → ⊥
    by (inl e) =
        let p : serve_all (map (at swapped) (0 ∷ 1 ∷ [])) [] ≡ some (2 ∷ 1 ∷ []) = subst (λ r. serve_all (map (at swapped) r) [] ≡ some (2 ∷ 1 ∷ [])) e w.plays in
        let z : ◌≡◌ {A = ℕ} 1 2 = cc in omega arith
    by (inr e) = let t : Timely swapped (1 ∷ 0 ∷ []) = subst (Timely swapped) e w.timely in t.0 0 (inl refl) (refl, omega arith)

-- Empty answered while an item that was in before the dequeue began is still there
abbrev unseen : List Operation
unseen = operation (puts 7) 0 done 11 ∷ operation takes 12 empty 15 ∷ []

pub not_unseen : ¬ Lawful unseen [] (7 ∷ [])
unfolding serve_all
not_unseen w = by (two w.order w.within w.once (w.whole 0 (omega arith) refl) (w.whole 1 (omega arith) refl))
  where
    by : (w.order ≡ 0 ∷ 1 ∷ []) ⊎ (w.order ≡ 1 ∷ 0 ∷ []) → ⊥
    by (inl e) =
        let p : serve_all (map (at unseen) (0 ∷ 1 ∷ [])) [] ≡ some (7 ∷ []) = subst (λ r. serve_all (map (at unseen) r) [] ≡ some (7 ∷ [])) e w.plays in
        let z : ◌≡◌ {A = ℕ} 0 1 = cc in omega arith
    by (inr e) = let t : Timely unseen (1 ∷ 0 ∷ []) = subst (Timely unseen) e w.timely in t.0 0 (inl refl) (refl, omega arith)

-- `once`: an enqueue of 7 was answered once, and 7 stands there twice
pub not_doubled : ¬ Lawful lost [] (7 ∷ 7 ∷ [])
unfolding serve_all
not_doubled w =
    let o = one w.order w.within w.once (w.whole 0 (omega arith) refl) in
    let p : serve_all (map (at lost) (0 ∷ [])) [] ≡ some (7 ∷ 7 ∷ []) = subst (λ r. serve_all (map (at lost) r) [] ≡ some (7 ∷ 7 ∷ [])) o w.plays in
    let z : ◌≡◌ {A = ℕ} 0 1 = cc in absurd (omega arith)

-- `within`: nobody asked for anything, so the queue is the one there was
unasked : (first last : List ℕ) → Lawful [] first last → first ≡ last
unfolding serve_all
unasked first last w =
    let o : w.order ≡ [] = none_left w.order (λ k h. let z = w.within k h in omega arith) in
    let p : serve_all (map (at []) []) first ≡ some last = subst (λ r. serve_all (map (at []) r) first ≡ some last) o w.plays in
    cc

-- an item that was there is gone, and nobody took it
pub not_vanished : ¬ Lawful [] (5 ∷ []) []
not_vanished w = let e = unasked (5 ∷ []) [] w in let z : ◌≡◌ {A = ℕ} 0 1 = cc in absurd (omega arith)

-- an item is there, and nobody brought it
pub not_invented : ¬ Lawful [] [] (7 ∷ [])
not_invented w = let e = unasked [] (7 ∷ []) w in let z : ◌≡◌ {A = ℕ} 0 1 = cc in absurd (omega arith)
