-- Small general functions: a choice by a test, a table changed at one number, membership.
use Rattle.std.specs.Prelude.{◌≡◌, Bool, true, false, List, [], ◌∷◌, ◌⊎◌, ℕ, eqb}

abbrev pub sel {ℓ} : {A : Type ℓ} → Bool → A → A → A
sel true a b = a
sel false a b = b

abbrev pub bothb : Bool → Bool → Bool
bothb true b = b
bothb false b = false

-- the table f with a at number i
unfoldable pub upd {ℓ} : {A : Type ℓ} → (ℕ → A) → ℕ → A → ℕ → A
upd f i a j = sel (eqb j i) a (f j)

-- k is in the list
abbrev pub has : ℕ → List ℕ → Type 0
has k [] = ⊥
has k (j ∷ l) = (k ≡ j) ⊎ has k l
