-- Lists with repeats after the first dropped, and every choice of one element a list.
use Rattle.std.specs.Prelude.{ℕ, Bool, true, false, List, [], ◌∷◌, ◌++◌, map, eqb}
use Rattle.lists.specs.Find.{both}
use Rattle.image.specs.Layout.{same_content}
use Rattle.image.specs.declared.Image.{Image}

-- c joins the list unless it is there; `same` tells whether two are equal
unfoldable pub joins_by : {A : Type 0} → (A → A → Bool) → List A → A → List A
joins_by same [] c = c ∷ []
joins_by same (a ∷ l) c = elim (same a c) [ true ↦ a ∷ l | false ↦ a ∷ joins_by same l c ]

unfoldable pub gathered_by : {A : Type 0} → (A → A → Bool) → List A → List A → List A
gathered_by same seen [] = seen
gathered_by same seen (c ∷ l) = gathered_by same (joins_by same seen c) l

-- "With repeats after the first dropped"
abbrev pub once : {A : Type 0} → (A → A → Bool) → List A → List A
once same l = gathered_by same [] l

-- every choice of one element a list: the first list turns slowest
unfoldable pub each_of : {A : Type 0} → List A → List (List A) → List (List A)
each_of [] r = []
each_of (c ∷ l) r = map (λ z. c ∷ z) r ++ each_of l r

unfoldable pub choices_of : {A : Type 0} → List (List A) → List (List A)
choices_of [] = [] ∷ []
choices_of (line ∷ rest) = each_of line (choices_of rest)

-- whether two lists are equal, two images
unfoldable pub same_all : {A : Type 0} → (A → A → Bool) → List A → List A → Bool
same_all same [] [] = true
same_all same [] (b ∷ m) = false
same_all same (a ∷ l) [] = false
same_all same (a ∷ l) (b ∷ m) = elim (same a b) [ true ↦ same_all same l m | false ↦ false ]

unfoldable pub same_image : Image → Image → Bool
same_image a b =
    both (eqb a.form b.form)
    (both (eqb a.n b.n) (both (eqb a.t b.t) (both (same_all eqb a.heads b.heads) (same_all same_content a.nodes b.nodes))))
