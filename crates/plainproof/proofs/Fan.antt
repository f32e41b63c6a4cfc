-- A map in each line, through the choices; repeats dropped, through a map.
use Prim.Native.Nat.{ℕ, zero, suc, ◌+◌, ◌<◌}
use mathlib.Core.Path.{◌≡◌, refl, sym, ap, ap₂, subst, ◌∙◌}
use mathlib.Core.Bool.{Bool}
use mathlib.Core.List.{List, [], ◌∷◌, ◌++◌, map, map-append}
use mathlib.Core.Logic.{◌⊎◌, inl, inr}
use native.Mathlib.Omega.{arith}
use lib.ListN.{length, get_or, replicate}
use Rattle.image.specs.Layout.{no_content, content_at}
use Rattle.image.specs.declared.Content.{Content}
use Rattle.page.specs.Endings.{choices}
use Rattle.plainproof.specs.Once.{joins_by, gathered_by, each_of, choices_of}
use Rattle.plainproof.proofs.OnceLaws as laws
use Rattle.plainproof.proofs.OnceLaws.{In, Tells}

-- ---- repeats dropped, through a map that keeps apart those that P holds of

module _ {A B : Type 0} (same : A → A → Bool) (tells : Tells same) (same' : B → B → Bool) (tells' : Tells same') (f : A → B) (P : A → Type 0)
    (one : (x y : A) → P x → P y → f x ≡ f y → x ≡ y) where
  pub once_map : (t l : List A) → ((x : A) → In x t → P x) → ((x : A) → In x l → P x) → gathered_by same' (map f t) (map f l) ≡ map f (gathered_by same t l)
  unfolding gathered_by
  once_map t [] ht hl = refl
  once_map t (x ∷ l) ht hl = by (laws.there same tells x t) (once_map t l ht (λ y k. hl y (inr k)))
      (once_map (t ++ (x ∷ [])) l (λ y k. both_p y (laws.in_either y t (x ∷ []) k)) (λ y k. hl y (inr k)))
    where
      both_p : (y : A) → In y t ⊎ In y (x ∷ []) → P y
      both_p y (inl k) = ht y k
      both_p y (inr (inl e)) = subst P (sym e) (hl x (inl refl))
      both_p y (inr (inr z)) = absurd z

      by : In x t ⊎ (In x t → ⊥) → gathered_by same' (map f t) (map f l) ≡ map f (gathered_by same t l)
          → gathered_by same' (map f (t ++ (x ∷ []))) (map f l) ≡ map f (gathered_by same (t ++ (x ∷ [])) l)
          → gathered_by same' (joins_by same' (map f t) (f x)) (map f l) ≡ map f (gathered_by same (joins_by same t x) l)
      by (inl k) old new = rw (laws.join_in same' tells' (f x) (map f t) (laws.in_map f x t k), laws.join_in same tells x t k) old
      by (inr n) old new =
          rw (laws.join_out same' tells' (f x) (map f t) apart, laws.join_out same tells x t n)
          (ap (λ (z : List B). gathered_by same' z (map f l)) (sym (map-append f t (x ∷ []))) ∙ new)
        where
          apart : In (f x) (map f t) → ⊥
          apart k = let r = laws.map_in f (f x) t k in n (subst (λ (y : A). In y t) (sym (one x r.0 (hl x (inl refl)) (ht r.0 r.1) r.2)) r.1)

-- ---- a map in each line: line k has F k

unfoldable pub fan : (ℕ → ℕ → Content) → List ℕ → ℕ → ℕ → List (List Content)
fan F D k zero = []
fan F D k (suc n) = map (F k) D ∷ fan F D (suc k) n

unfoldable pub each : (ℕ → ℕ → Content) → ℕ → List ℕ → List Content
each F k [] = []
each F k (x ∷ π) = F k x ∷ each F (suc k) π

map_each : (F : ℕ → ℕ → Content) (k : ℕ) (x : ℕ) (r : List (List ℕ)) → map (each F k) (map (λ z. x ∷ z) r) ≡ map (λ z. F k x ∷ z) (map (each F (suc k)) r)
unfolding each
map_each F k x [] = refl
map_each F k x (π ∷ r) = ap (λ (z : List (List Content)). (F k x ∷ each F (suc k) π) ∷ z) (map_each F k x r)

each_line : (F : ℕ → ℕ → Content) (k : ℕ) (D : List ℕ) (r : List (List ℕ)) → map (each F k) (each_of D r) ≡ each_of (map (F k) D) (map (each F (suc k)) r)
unfolding each_of
each_line F k [] r = refl
each_line F k (x ∷ D) r =
    map-append (each F k) (map (λ z. x ∷ z) r) (each_of D r) ∙ ap₂ (λ (y z : List (List Content)). y ++ z) (map_each F k x r) (each_line F k D r)

pub each_choices : (F : ℕ → ℕ → Content) (D : List ℕ) (n k : ℕ) → map (each F k) (choices_of (replicate n D)) ≡ choices_of (fan F D k n)
unfolding choices_of fan each
each_choices F D zero k = refl
each_choices F D (suc n) k = each_line F k D (choices_of (replicate n D)) ∙ ap (each_of (map (F k) D)) (each_choices F D n (suc k))

each_at : (F : ℕ → ℕ → Content) (k : ℕ) (π : List ℕ) (j : ℕ) → j < length π → content_at (each F k π) j ≡ F (k + j) (get_or π j 0)
unfolding each
each_at F k [] j h = absurd (omega arith)
each_at F k (x ∷ π) zero h = ap (λ (i : ℕ). F i x) (omega arith)
each_at F k (x ∷ π) (suc j) h = each_at F (suc k) π j (omega arith) ∙ ap (λ (i : ℕ). F i (get_or π j 0)) (omega arith)

pub each_first : (F : ℕ → ℕ → Content) (π : List ℕ) (j : ℕ) → j < length π → content_at (each F 0 π) j ≡ F j (get_or π j 0)
each_first F π j h = each_at F 0 π j h ∙ ap (λ (i : ℕ). F i (get_or π j 0)) (omega arith)

pub length_each : (F : ℕ → ℕ → Content) (k : ℕ) (π : List ℕ) → length (each F k π) ≡ length π
unfolding each
length_each F k [] = refl
length_each F k (x ∷ π) = ap suc (length_each F (suc k) π)

pub fan_length : (F : ℕ → ℕ → Content) (D : List ℕ) (n k : ℕ) → length (fan F D k n) ≡ n
unfolding fan
fan_length F D zero k = refl
fan_length F D (suc n) k = ap suc (fan_length F D n (suc k))

fan_at : (g : List Content → List Content) (F : ℕ → ℕ → Content) (D : List ℕ) (n k j : ℕ) → j < n → get_or (map g (fan F D k n)) j [] ≡ g (map (F (k + j)) D)
unfolding fan
fan_at g F D zero k j h = absurd (omega arith)
fan_at g F D (suc n) k zero h = ap (λ (i : ℕ). g (map (F i) D)) (omega arith)
fan_at g F D (suc n) k (suc j) h = fan_at g F D n (suc k) j (omega arith) ∙ ap (λ (i : ℕ). g (map (F i) D)) (omega arith)

pub fan_first : (g : List Content → List Content) (F : ℕ → ℕ → Content) (D : List ℕ) (n j : ℕ) → j < n → get_or (map g (fan F D 0 n)) j [] ≡ g (map (F j) D)
fan_first g F D n j h = fan_at g F D n 0 j h ∙ ap (λ (i : ℕ). g (map (F i) D)) (omega arith)

-- ---- a choice has an element of each list

-- every element of π is in D, and there are n
pub record Choice (D : List ℕ) (n : ℕ) (π : List ℕ) : Type 0 where
  pub long : length π ≡ n
  pub from : (j : ℕ) → j < n → In (get_or π j 0) D

choice_each : (D D' : List ℕ) (r : List (List ℕ)) (n : ℕ) → ((x : ℕ) → In x D' → In x D) → ((ρ : List ℕ) → In ρ r → Choice D n ρ) → (π : List ℕ) → In π (each_of D' r) → Choice D (suc n) π
unfolding each_of
choice_each D [] r n i h π k = absurd k
choice_each D (x ∷ D') r n i h π k = by (laws.in_either π (map (λ z. x ∷ z) r) (each_of D' r) k) (choice_each D D' r n (λ y p. i y (inr p)) h π)
  where
    cons : (ρ : List ℕ) → In ρ r → Choice D (suc n) (x ∷ ρ)
    cons ρ p = record { long = ap suc (h ρ p).long; from = at }
      where
        at : (j : ℕ) → j < suc n → In (get_or (x ∷ ρ) j 0) D
        at zero q = i x (inl refl)
        at (suc j) q = (h ρ p).from j (omega arith)

    by : In π (map (λ z. x ∷ z) r) ⊎ In π (each_of D' r) → (In π (each_of D' r) → Choice D (suc n) π) → Choice D (suc n) π
    by (inl w) f = let m = laws.map_in (λ z. x ∷ z) π r w in subst (Choice D (suc n)) (sym m.2) (cons m.0 m.1)
    by (inr w) f = f w

pub choice_is : (D : List ℕ) (n : ℕ) (π : List ℕ) → In π (choices_of (replicate n D)) → Choice D n π
unfolding choices_of
choice_is D zero π (inl e) = subst (Choice D 0) (sym e) (record { long = refl; from = λ j h. absurd (omega arith) })
choice_is D zero π (inr z) = absurd z
choice_is D (suc n) π k = choice_each D D (choices_of (replicate n D)) n (λ x p. p) (choice_is D n) π k

-- ---- lists

pub map_in_same : {A B : Type 0} (f g : A → B) (l : List A) → ((x : A) → In x l → f x ≡ g x) → map f l ≡ map g l
map_in_same f g [] h = refl
map_in_same f g (x ∷ l) h = ap₂ (λ y z. y ∷ z) (h x (inl refl)) (map_in_same f g l (λ y k. h y (inr k)))

pub map_twice : {A B C : Type 0} (f : B → C) (g : A → B) (l : List A) → map f (map g l) ≡ map (λ x. f (g x)) l
map_twice f g [] = refl
map_twice f g (x ∷ l) = ap (λ z. f (g x) ∷ z) (map_twice f g l)

-- the page's own choices are the general ones
choices_cons : (line : List Content) (rest : List (List Content)) → choices (line ∷ rest) ≡ each_of line (choices rest)
unfolding choices each_of
choices_cons [] rest = refl
choices_cons (c ∷ line) rest = ap (λ (z : List (List Content)). map (λ y. c ∷ y) (choices rest) ++ z) (choices_cons line rest)

choices_nil : choices [] ≡ [] ∷ []
unfolding choices
choices_nil = refl

pub choices_are : (lists : List (List Content)) → choices_of lists ≡ choices lists
unfolding choices_of
choices_are [] = sym choices_nil
choices_are (line ∷ rest) = ap (each_of line) (choices_are rest) ∙ sym (choices_cons line rest)
