-- Lists made from a function on places, and bytes written over others.
use Rattle.std.specs.Prelude.{ℕ, zero, suc, List, [], ◌∷◌, ◌++◌, drop}
use Rattle.std.proofs.lemmas.List.Edits.{sets}

-- the list f 0, f 1, .., f (n - 1)
unfoldable pub tab : {A : Type 0} → (ℕ → A) → ℕ → List A
tab f zero = []
tab f (suc n) = tab f n ++ (f n ∷ [])

-- the lists f 0, f 1, .., f (n - 1), joined
unfoldable pub joined : {A : Type 0} → (ℕ → List A) → ℕ → List A
joined f zero = []
joined f (suc n) = joined f n ++ f n

-- l with the list b written over it from place i on
unfoldable pub over : {A : Type 0} → List A → ℕ → List A → List A
over l i b = sets l i b

-- the first n elements are f 0, .., f (n - 1), the others those of l
unfoldable pub front : {A : Type 0} → (ℕ → A) → ℕ → List A → List A
front f n l = tab f n ++ drop n l
