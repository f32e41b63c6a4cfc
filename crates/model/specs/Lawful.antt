-- Lawful: some order of the operations, true to their times, takes a plain queue from what it was to what was recovered.
use Rattle.std.specs.Prelude.{◌≡◌, List, [], ◌∷◌, ◌++◌, ◌≢◌, ℕ, ◌<◌, eqb}
use Rattle.std.proofs.Math.Option.{Option, none, some}
use Rattle.model.specs.Basics.{sel, has}
use Rattle.model.specs.Core.{Ans, nothing, done, full, worn, empty, item}

-- ---- operations

pub data Call : Type 0 where
  putting : (v : ℕ) → Call
  taking : Call

-- what was asked, the event at which it began, what was answered, the event that answered. One without an answer has said nothing
pub record Op : Type 0 where
  pub call : Call
  pub began : ℕ
  pub said : Ans
  pub ended : ℕ

-- ---- a plain queue: what an operation with that answer makes of it, if the answer fits. Full and Worn out change nothing, wherever they stand

abbrev pub put_by : Ans → ℕ → List ℕ → Option (List ℕ)
put_by nothing v q = some (q ++ v ∷ [])
put_by done v q = some (q ++ v ∷ [])
put_by full v q = some q
put_by worn v q = some q
put_by empty v q = none
put_by (item x) v q = none

abbrev pub take_by : Ans → List ℕ → Option (List ℕ)
take_by nothing [] = some []
take_by nothing (x ∷ q) = some q
take_by empty [] = some []
take_by empty (x ∷ q) = none
take_by (item y) [] = none
take_by (item y) (x ∷ q) = sel (eqb x y) (some q) none
take_by done q = none
take_by full q = none
take_by worn q = none

abbrev pub serve : Call → Ans → List ℕ → Option (List ℕ)
serve (putting v) a q = put_by a v q
serve taking a q = take_by a q

abbrev pub and_then : {A B : Type 0} → Option A → (A → Option B) → Option B
and_then none f = none
and_then (some a) f = f a

-- the operations in the order given
unfoldable pub serve_all : (ℕ → Op) → List ℕ → List ℕ → Option (List ℕ)
serve_all op [] q = some q
serve_all op (k ∷ l) q = and_then (serve (op k).call (op k).said q) (λ q'. serve_all op l q')

-- ---- lawful

-- a was answered before b began
abbrev pub Earlier : Op → Op → Type 0
Earlier a b = (a.said ≢ nothing) × (a.ended < b.began)

-- in the order no operation stands before one that was answered before it began
abbrev pub Timely : (ℕ → Op) → List ℕ → Type 0
Timely op [] = Unit {0}
Timely op (k ∷ l) = ((j : ℕ) → has j l → ¬ Earlier (op j) (op k)) × Timely op l

abbrev pub Distinct : List ℕ → Type 0
Distinct [] = Unit {0}
Distinct (k ∷ l) = (¬ has k l) × Distinct l

-- some order of the operations below count, all answered ones among them, takes the plain queue from q₀ to q₁
pub record Lawful (op : ℕ → Op) (count : ℕ) (q₀ q₁ : List ℕ) : Type 0 where
  pub order : List ℕ
  pub within : (k : ℕ) → has k order → k < count
  pub distinct : Distinct order
  pub whole : (k : ℕ) → k < count → (op k).said ≢ nothing → has k order
  pub timely : Timely op order
  pub plays : serve_all op order q₀ ≡ some q₁
