-- Texts told slot by slot, and all at once.
use Prim.Native.Nat.{ℕ, zero, suc}
use mathlib.Core.Path.{◌≡◌, refl, sym, ap, ap₂, ◌∙◌}
use mathlib.Core.Bool.{Bool, true, false}
use mathlib.Core.List.{List, [], ◌∷◌, ◌++◌, map, append_assoc, append-nil}
use lib.ListN.{length, get_or}
use Rattle.lists.specs.Tab.{joined}
use Rattle.lists.specs.Text.{text}
use Rattle.page.specs.Printed.{spaced, items_text, newline}
use Rattle.sheet.specs.Told.{piece_if, closing}
use Rattle.sheet.proofs.OrderLaws as orders
use Rattle.sheet.proofs.OrderLaws.{kept, Each}

joined_cons : (f : ℕ → List ℕ) (n : ℕ) → joined f (suc n) ≡ f 0 ++ joined (λ i. f (suc i)) n
unfolding joined
joined_cons f zero = sym (append-nil (f 0))
joined_cons f (suc n) = ap (λ (z : List ℕ). z ++ f (suc n)) (joined_cons f n) ∙ append_assoc (f 0) (joined (λ i. f (suc i)) n) (f (suc n))

-- each slot's piece, one behind the other
unfoldable pub tell_all : (ℕ → List ℕ) → List ℕ → List ℕ
tell_all f [] = []
tell_all f (e ∷ q) = f e ++ tell_all f q

pub joined_all : (f : ℕ → List ℕ) (q : List ℕ) → joined (λ p. f (get_or q p 0)) (length q) ≡ tell_all f q
unfolding joined tell_all
joined_all f [] = refl
joined_all f (e ∷ q) = joined_cons (λ p. f (get_or (e ∷ q) p 0)) (length q) ∙ ap (λ (z : List ℕ). f e ++ z) (joined_all f q)

module _ (sel : ℕ → Bool) (it : ℕ → ℕ) where
  -- the slots that are told are the items behind blanks
  pub all_spaced : (q : List ℕ) → spaced (map it (kept sel q)) ≡ tell_all (λ e. piece_if (it e) (sel e)) q
  unfolding spaced tell_all kept orders.kept_if
  all_spaced [] = refl
  all_spaced (e ∷ q) = by (sel e) refl (all_spaced q)
    where
      by : (b : Bool) → sel e ≡ b → spaced (map it (kept sel q)) ≡ tell_all (λ e. piece_if (it e) (sel e)) q
          → spaced (map it (kept sel (e ∷ q))) ≡ piece_if (it e) (sel e) ++ tell_all (λ e. piece_if (it e) (sel e)) q
      by true s ih =
          ap (λ (z : List ℕ). spaced (map it z)) (orders.kept_by it sel e q true s)
          ∙ ap₂ (λ (b : Bool) (z : List ℕ). piece_if (it e) b ++ z) (sym s) ih
      by false s ih =
          ap (λ (z : List ℕ). spaced (map it z)) (orders.kept_by it sel e q false s)
          ∙ ap₂ (λ (b : Bool) (z : List ℕ). piece_if (it e) b ++ z) (sym s) ih

pub map_each : (f g : ℕ → ℕ) (q : List ℕ) → Each (λ e. f e ≡ g e) q → map f q ≡ map g q
map_each f g [] a = refl
map_each f g (e ∷ q) a = ap₂ (λ (x : ℕ) (z : List ℕ). x ∷ z) a.0 (map_each f g q a.1)

pub map_map : (f g : ℕ → ℕ) (q : List ℕ) → map f (map g q) ≡ map (λ e. f (g e)) q
map_map f g [] = refl
map_map f g (e ∷ q) = ap (λ (z : List ℕ). f (g e) ∷ z) (map_map f g q)

-- a dash where there are no items
pub items_closed : (l : List ℕ) → items_text l ++ newline ≡ spaced l ++ closing (spaced l)
unfolding spaced text
items_closed [] = refl
items_closed (v ∷ l) = refl
