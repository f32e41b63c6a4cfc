-- The choices of one content a line: there are as many as the product says, and each takes a content of every line.
use Prim.Native.Nat.{ℕ, zero, suc, ◌*◌, ◌<◌}
use mathlib.Core.Path.{◌≡◌, refl, sym, ap, subst, ◌∙◌}
use mathlib.Core.List.{List, [], ◌∷◌, ◌++◌, map}
use mathlib.Core.Logic.{inl, inr}
use native.Mathlib.Omega.{arith}
use native.Mathlib.Nat.{zero-mul, suc-mul}
use lib.ListN.{length, get_or, length-append, length-map}
use Rattle.image.specs.declared.Content.{Content}
use Rattle.image.specs.Layout.{content_at}
use Rattle.page.specs.Endings.{choices, product}
use Rattle.tied.specs.Always.{Among}

choices_none : choices [] ≡ [] ∷ []
unfolding choices
choices_none = refl

choices_empty : (rest : List (List Content)) → choices ([] ∷ rest) ≡ []
unfolding choices
choices_empty rest = refl

choices_cons : (c : Content) (line : List Content) (rest : List (List Content)) → choices ((c ∷ line) ∷ rest) ≡ map (λ z. c ∷ z) (choices rest) ++ choices (line ∷ rest)
unfolding choices
choices_cons c line rest = refl

-- ---- how many

length_line : (rest : List (List Content)) → length (choices rest) ≡ product rest → (line : List Content) → length (choices (line ∷ rest)) ≡ length line * product rest
length_line rest e [] = ap length (choices_empty rest) ∙ sym (zero-mul (product rest))
length_line rest e (c ∷ line) =
    ap length (choices_cons c line rest)
    ∙ length-append (map (λ z. c ∷ z) (choices rest)) (choices (line ∷ rest))
    ∙ omega (arith, length-map (choices rest) (λ z. c ∷ z), e, length_line rest e line, suc-mul (length line) (product rest))

pub choices_length : (table : List (List Content)) → length (choices table) ≡ product table
unfolding product
choices_length [] = ap length choices_none
choices_length (line ∷ rest) = length_line rest (choices_length rest) line

-- ---- each takes a content of every line

abbrev pub Picks : List (List Content) → List Content → Type 0
Picks [] c = Unit {0}
Picks (line ∷ rest) [] = ⊥
Picks (line ∷ rest) (x ∷ c) = Among x line × Picks rest c

abbrev Every : (List Content → Type 0) → List (List Content) → Type 0
Every P [] = Unit {0}
Every P (c ∷ l) = P c × Every P l

every_append : (P : List Content → Type 0) (l k : List (List Content)) → Every P l → Every P k → Every P (l ++ k)
every_append P [] k a b = b
every_append P (c ∷ l) k a b = (a.0, every_append P l k a.1 b)

every_map : (P Q : List Content → Type 0) (f : List Content → List Content) → ((c : List Content) → P c → Q (f c)) → (l : List (List Content)) → Every P l → Every Q (map f l)
every_map P Q f h [] a = tt
every_map P Q f h (c ∷ l) a = (h c a.0, every_map P Q f h l a.1)

every_at : (P : List Content → Type 0) (l : List (List Content)) → Every P l → (k : ℕ) → k < length l → P (get_or l k [])
every_at P [] a k h = absurd (omega arith)
every_at P (c ∷ l) a zero h = a.0
every_at P (c ∷ l) a (suc k) h = every_at P l a.1 k (omega arith)

picks_line : (line : List Content) (rest : List (List Content)) → Every (Picks rest) (choices rest) → (part : List Content) → ((x : Content) → Among x part → Among x line)
    → Every (Picks (line ∷ rest)) (choices (part ∷ rest))
picks_line line rest a [] f = subst (Every (Picks (line ∷ rest))) (sym (choices_empty rest)) tt
picks_line line rest a (x ∷ part) f = subst (Every (Picks (line ∷ rest))) (sym (choices_cons x part rest))
    (every_append (Picks (line ∷ rest)) (map (λ z. x ∷ z) (choices rest)) (choices (part ∷ rest))
    (every_map (Picks rest) (Picks (line ∷ rest)) (λ z. x ∷ z) (λ c p. (f x (inl refl), p)) (choices rest) a)
    (picks_line line rest a part (λ y h. f y (inr h))))

all_pick : (table : List (List Content)) → Every (Picks table) (choices table)
all_pick [] = subst (Every (Picks [])) (sym choices_none) (tt, tt)
all_pick (line ∷ rest) = picks_line line rest (all_pick rest) line (λ x h. h)

picks_at : (table : List (List Content)) (c : List Content) → Picks table c → (k : ℕ) → k < length table → Among (content_at c k) (get_or table k [])
picks_at [] c p k h = absurd (omega arith)
picks_at (line ∷ rest) [] p k h = absurd p
picks_at (line ∷ rest) (x ∷ c) p zero h = p.0
picks_at (line ∷ rest) (x ∷ c) p (suc k) h = picks_at rest c p.1 k (omega arith)

-- the choice numbered k takes a content of each line
pub choice_picks : (table : List (List Content)) (k : ℕ) → k < product table → (l : ℕ) → l < length table → Among (content_at (get_or (choices table) k []) l) (get_or table l [])
choice_picks table k h l = picks_at table (get_or (choices table) k [])
    (every_at (Picks table) (choices table) (all_pick table) k (omega (arith, choices_length table))) l
