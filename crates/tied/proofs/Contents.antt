-- The record's lists of contents: how they grow.
use mathlib.Core.Path.{◌≡◌, refl, sym, subst}
use mathlib.Core.Bool.{Bool, true, false}
use mathlib.Core.List.{List, [], ◌∷◌, ◌++◌}
use mathlib.Core.Logic.{◌⊎◌, inl, inr}
use Prim.Native.Nat.{ℕ, ◌≤◌}
use Rattle.image.specs.declared.Content.{Content}
use Rattle.image.specs.Layout.{same_content}
use Rattle.page.specs.Contents.{joins, gathered}
use Rattle.moments.proofs.Joins.{same_equal}
use Rattle.model.specs.Core as core
use Rattle.tied.specs.Always.{Among}

pub gathered_snoc : (s l : List Content) (c : Content) → gathered s (l ++ c ∷ []) ≡ joins (gathered s l) c
unfolding gathered
gathered_snoc s [] c = refl
gathered_snoc s (a ∷ l) c = gathered_snoc (joins s a) l c

-- ---- contents whose flag is 0 or 1 and whose index is at most z, the largest

abbrev pub Small : ℕ → Content → Type 0
Small z c = (c.linked ≤ 1) × (c.index ≤ z)

-- a content of a list that another joined was there, or is the other
pub joins_old : (s : List Content) (c a : Content) → Among a (joins s c) → Among a s ⊎ (a ≡ c)
unfolding joins
joins_old [] c a (inl e) = inr e
joins_old [] c a (inr z) = absurd z
joins_old (d ∷ s) c a h = by (same_content d c) (joins_old s c a) h
  where
    by : (b : Bool) → (Among a (joins s c) → Among a s ⊎ (a ≡ c)) → Among a (elim b as (λ _. List Content) [ true ↦ d ∷ s | false ↦ d ∷ joins s c ])
        → ((a ≡ d) ⊎ Among a s) ⊎ (a ≡ c)
    by true r h = inl h
    by false r (inl e) = inl (inl e)
    by false r (inr h) = on (r h)
      where
        on : Among a s ⊎ (a ≡ c) → ((a ≡ d) ⊎ Among a s) ⊎ (a ≡ c)
        on (inl x) = inl (inr x)
        on (inr y) = inr y

-- and each that is told is there
joins_has : (s : List Content) (c : Content) → Among c (joins s c)
unfolding joins
joins_has [] c = inl refl
joins_has (d ∷ s) c = by (same_content d c) refl (joins_has s c)
  where
    by : (b : Bool) → same_content d c ≡ b → Among c (joins s c) → Among c (elim b as (λ _. List Content) [ true ↦ d ∷ s | false ↦ d ∷ joins s c ])
    by true e h = inl (sym (same_equal d c e))
    by false e h = inr h

joins_keeps : (s : List Content) (c a : Content) → Among a s → Among a (joins s c)
unfolding joins
joins_keeps [] c a h = absurd h
joins_keeps (d ∷ s) c a h = by (same_content d c) (joins_keeps s c a) h
  where
    by : (b : Bool) → (Among a s → Among a (joins s c)) → (a ≡ d) ⊎ Among a s → Among a (elim b as (λ _. List Content) [ true ↦ d ∷ s | false ↦ d ∷ joins s c ])
    by true r h = h
    by false r (inl e) = inl e
    by false r (inr h) = inr (r h)

gathered_keeps : (l s : List Content) (a : Content) → Among a s → Among a (gathered s l)
unfolding gathered
gathered_keeps [] s a h = h
gathered_keeps (c ∷ l) s a h = gathered_keeps l (joins s c) a (joins_keeps s c a h)

pub gathered_has : (l s : List Content) (a : Content) → Among a l → Among a (gathered s l)
unfolding gathered
gathered_has [] s a h = absurd h
gathered_has (c ∷ l) s a (inl e) = gathered_keeps l (joins s c) a (subst (λ x. Among x (joins s c)) (sym e) (joins_has s c))
gathered_has (c ∷ l) s a (inr h) = gathered_has l (joins s c) a h

pub gathered_old : (l s : List Content) (a : Content) → Among a (gathered s l) → Among a s ⊎ Among a l
unfolding gathered
gathered_old [] s a z = inl z
gathered_old (c ∷ l) s a z = by (gathered_old l (joins s c) a z)
  where
    on : Among a s ⊎ (a ≡ c) → Among a s ⊎ ((a ≡ c) ⊎ Among a l)
    on (inl x) = inl x
    on (inr y) = inr (inl y)

    by : Among a (joins s c) ⊎ Among a l → Among a s ⊎ ((a ≡ c) ⊎ Among a l)
    by (inl x) = on (joins_old s c a x)
    by (inr y) = inr (inr y)
