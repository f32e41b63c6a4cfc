-- Laws of the choices: how many there are, which one has number k, from the first line and from the last.
use Prim.Native.Nat.{ℕ, ◌+◌, ◌*◌, ◌/◌, ◌%◌, ◌<◌}
use mathlib.Core.Path.{◌≡◌, refl, sym, ap, ap₂, ◌∙◌}
use mathlib.Core.List.{List, [], ◌∷◌, ◌++◌, map, map-append, append-nil}
use mathlib.Core.Logic.{◌⊎◌, inl, inr}
use native.Mathlib.Omega.{arith}
use native.Mathlib.Nat.{mul-zero, mul-one, one-mul, mul_assoc, mod-lt, eq-zero-or-pos}
use lib.ListN.{length, get_or, length-map}
use Rattle.image.specs.Layout.{no_content, content_at}
use Rattle.image.specs.declared.Content.{Content}
use Rattle.page.specs.Endings.{choices, product}
use Rattle.moments.proofs.Blocks as blocks

-- ---- from the first line

-- every choice of the other lines behind the content c
abbrev behind : List (List Content) → Content → List (List Content)
behind rest c = map (λ z. c ∷ z) (choices rest)

choices_first : (line : List Content) (rest : List (List Content)) → choices (line ∷ rest) ≡ blocks.blocks (behind rest) line
unfolding choices
choices_first [] rest = refl
choices_first (c ∷ line) rest = ap (λ z. behind rest c ++ z) (choices_first line rest)

behind_length : (rest : List (List Content)) → length (choices rest) ≡ product rest → (c : Content) → length (behind rest c) ≡ product rest
behind_length rest h c = length-map (choices rest) (λ z. c ∷ z) ∙ h

pub choices_nothing : choices [] ≡ [] ∷ []
unfolding choices
choices_nothing = refl

choices_none : length (choices []) ≡ 1
choices_none = ap length choices_nothing

-- "how many there are"
pub choices_length : (lists : List (List Content)) → length (choices lists) ≡ product lists
unfolding product
choices_length [] = choices_none
choices_length (line ∷ rest) =
    ap length (choices_first line rest) ∙ blocks.length_blocks (behind rest) (product rest) (behind_length rest (choices_length rest)) line

-- a number below a product is below no empty one
pub factor_pos : (k a b : ℕ) → k < a * b → 0 < b
factor_pos k a b h = by (eq-zero-or-pos b)
  where
    by : (b ≡ 0) ⊎ (0 < b) → 0 < b
    by (inl e) = absurd (omega (arith, ap (λ (x : ℕ). a * x) e, mul-zero a))
    by (inr p) = p

-- line 0 turns slowest: the choice numbered k has its content k / P, and of the others the choice numbered k % P, where they have P
pub choices_at : (line : List Content) (rest : List (List Content)) (k : ℕ) → k < length line * product rest
    → get_or (choices (line ∷ rest)) k [] ≡ content_at line (k / product rest) ∷ get_or (choices rest) (k % product rest) []
choices_at line rest k h =
    let w = product rest in
    let p = factor_pos k (length line) w h in
    ap (λ z. get_or z k []) (choices_first line rest)
    ∙ blocks.get_or_blocks (behind rest) w (behind_length rest (choices_length rest)) p line k no_content [] h
    ∙ blocks.get_or_map_in (λ z. content_at line (k / w) ∷ z) (choices rest) (k % w) [] [] (omega (arith, mod-lt k p, choices_length rest))

-- ---- from the last line

-- a choice with each content of the last line behind it
abbrev ahead : List Content → List Content → List (List Content)
ahead line z = map (λ c. z ++ (c ∷ [])) line

ahead_cons : (c : Content) (z : List Content) (line : List Content) → ahead line (c ∷ z) ≡ map (λ y. c ∷ y) (ahead line z)
ahead_cons c z [] = refl
ahead_cons c z (a ∷ line) = ap (λ y. (c ∷ z ++ (a ∷ [])) ∷ y) (ahead_cons c z line)

blocks_ahead : (c : Content) (line : List Content) (r : List (List Content)) → map (λ y. c ∷ y) (blocks.blocks (ahead line) r) ≡ blocks.blocks (ahead line) (map (λ y. c ∷ y) r)
blocks_ahead c line [] = refl
blocks_ahead c line (z ∷ r) =
    map-append (λ y. c ∷ y) (ahead line z) (blocks.blocks (ahead line) r)
    ∙ ap₂ ◌++◌ (sym (ahead_cons c z line)) (blocks_ahead c line r)

choices_single : (line : List Content) → choices (line ∷ []) ≡ ahead line []
unfolding choices
choices_single [] = refl
choices_single (c ∷ line) = ap (λ z. (c ∷ []) ∷ z) (choices_single line)

pub choices_last : (lists : List (List Content)) (line : List Content) → choices (lists ++ (line ∷ [])) ≡ blocks.blocks (ahead line) (choices lists)
choices_last [] line =
    choices_single line ∙ sym (append-nil (ahead line [])) ∙ ap (blocks.blocks (ahead line)) (sym choices_nothing)
choices_last (first ∷ lists) line =
    choices_first first (lists ++ (line ∷ []))
    ∙ blocks.blocks_same (behind (lists ++ (line ∷ []))) (λ c. blocks.blocks (ahead line) (behind lists c))
    (λ c. ap (map (λ z. c ∷ z)) (choices_last lists line) ∙ blocks_ahead c line (choices lists)) first
    ∙ sym (blocks.blocks_blocks (ahead line) (behind lists) first)
    ∙ ap (blocks.blocks (ahead line)) (sym (choices_first first lists))

ahead_length : (line z : List Content) → length (ahead line z) ≡ length line
ahead_length line z = length-map line (λ c. z ++ (c ∷ []))

-- the last line turns fastest
pub choices_end : (lists : List (List Content)) (line : List Content) (k : ℕ) → k < product lists * length line
    → get_or (choices (lists ++ (line ∷ []))) k [] ≡ get_or (choices lists) (k / length line) [] ++ (content_at line (k % length line) ∷ [])
choices_end lists line k h =
    let w = length line in
    let p = factor_pos k (product lists) w h in
    ap (λ z. get_or z k []) (choices_last lists line)
    ∙ blocks.get_or_blocks (ahead line) w (ahead_length line) p (choices lists) k [] [] (omega (arith, ap (λ (x : ℕ). x * w) (choices_length lists)))
    ∙ blocks.get_or_map_in (λ c. get_or (choices lists) (k / w) [] ++ (c ∷ [])) line (k % w) no_content [] (mod-lt k p)

pub product_last : (lists : List (List Content)) (line : List Content) → product (lists ++ (line ∷ [])) ≡ product lists * length line
unfolding product
product_last [] line = mul-one (length line) ∙ sym (one-mul (length line))
product_last (first ∷ lists) line = ap (λ x. length first * x) (product_last lists line) ∙ sym (mul_assoc (length first) (product lists) (length line))
