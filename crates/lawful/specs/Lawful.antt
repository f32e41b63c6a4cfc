-- Lawful: an order of all answered operations and some of the unanswered ones that a plain queue can follow.
use Rattle.std.specs.Prelude.{ℕ, ◌<◌, ◌≡◌, Bool, true, false, List, [], ◌∷◌, map, ◌⊎◌, length, get_or}
use Rattle.std.proofs.Math.Option.{Option, some}
use Rattle.lawful.specs.Operation.{Operation, says, nothing, Call, takes}
use Rattle.lawful.specs.Plain.{serve_all}

abbrev pub no_operation : Operation
no_operation = record { thread = 0; call = takes; began = 0; reply = nothing; ended = 0 }

abbrev pub at : List Operation → ℕ → Operation
at ops k = get_or ops k no_operation

abbrev pub Has : ℕ → List ℕ → Type 0
Has k [] = ⊥
Has k (j ∷ l) = (k ≡ j) ⊎ Has k l

-- no number stands twice
abbrev pub Once : List ℕ → Type 0
Once [] = Unit {0}
Once (k ∷ l) = (¬ Has k l) × Once l

-- a was answered before b began, by event number
abbrev pub Earlier : Operation → Operation → Type 0
Earlier a b = (says a.reply ≡ true) × (a.ended < b.began)

-- none stands ahead of one answered before it began
abbrev pub Timely : List Operation → List ℕ → Type 0
Timely ops [] = Unit {0}
Timely ops (k ∷ l) = ((j : ℕ) → Has j l → ¬ Earlier (at ops j) (at ops k)) × Timely ops l

-- operations are named by their number in begin order
pub record Lawful (ops : List Operation) (first last : List ℕ) : Type 0 where
  pub order : List ℕ
  pub within : (k : ℕ) → Has k order → k < length ops
  pub once : Once order
  -- every answered one is there
  pub whole : (k : ℕ) → k < length ops → says (at ops k).reply ≡ true → Has k order
  pub timely : Timely ops order
  -- one at a time, each answered one getting its answer, they lead from the first queue to the last
  pub plays : serve_all (map (at ops) order) first ≡ some last
