-- Lists made of parts of one width, one part for each element of another list.
use Prim.Native.Nat.{ℕ, zero, suc, ◌+◌, ◌-◌, ◌*◌, ◌/◌, ◌%◌, ◌<◌}
use mathlib.Core.Path.{◌≡◌, refl, sym, ap, ap₂, ◌∙◌}
use mathlib.Core.List.{List, [], ◌∷◌, ◌++◌, map, append_assoc}
use native.Mathlib.Omega.{arith}
use native.Mathlib.Decide.{dec_lt}
use native.Mathlib.Nat.{zero-mul, suc-mul, div-eq_of_lt, mod-eq_of_lt, add-div_left, add-mod_left}
use native.Mathlib.Numerals.{add-one}
use lib.ListN.{length, get_or, length-append, get_or-append}
use lib.Seq.{get_or-append-add}

pub get_d_any : {A : Type 0} (l : List A) (i : ℕ) (d e : A) → i < length l → get_or l i d ≡ get_or l i e
get_d_any [] i d e h = absurd (omega arith)
get_d_any (a ∷ l) zero d e h = refl
get_d_any (a ∷ l) (suc i) d e h = get_d_any l i d e (omega arith)

pub get_or_map_in : {A B : Type 0} (f : A → B) (l : List A) (i : ℕ) (d : A) (e : B) → i < length l → get_or (map f l) i e ≡ f (get_or l i d)
get_or_map_in f [] i d e h = absurd (omega arith)
get_or_map_in f (a ∷ l) zero d e h = refl
get_or_map_in f (a ∷ l) (suc i) d e h = get_or_map_in f l i d e (omega arith)

abbrev pub blocks : {A B : Type 0} → (A → List B) → List A → List B
blocks f [] = []
blocks f (x ∷ l) = f x ++ blocks f l

pub length_blocks : {A B : Type 0} (f : A → List B) (w : ℕ) → ((x : A) → length (f x) ≡ w) → (l : List A) → length (blocks f l) ≡ length l * w
length_blocks f w h [] = sym (zero-mul w)
length_blocks f w h (x ∷ l) = length-append (f x) (blocks f l) ∙ omega (arith, h x, length_blocks f w h l, suc-mul (length l) w)

block_at : {A B : Type 0} (f : A → List B) (w : ℕ) → ((x : A) → length (f x) ≡ w) → (x : A) (l : List A) (k : ℕ) (d : A) (e : B) → 0 < w → k < length l * w + w
    → ((j : ℕ) → j < length l * w → get_or (blocks f l) j e ≡ get_or (f (get_or l (j / w) d)) (j % w) e)
    → Dec (k < w) → get_or (f x ++ blocks f l) k e ≡ get_or (f (get_or (x ∷ l) (k / w) d)) (k % w) e
block_at f w h x l k d e p q ih (yes s) =
    rw (div-eq_of_lt s, mod-eq_of_lt s) (get_or-append (f x) (blocks f l) e k (omega (arith, h x)))
block_at f w h x l k d e p q ih (no s) =
    let j = k - w in
    let z : k ≡ w + j = omega arith in
    let y : k ≡ length (f x) + j = omega (arith, h x) in
    ap (λ (i : ℕ). get_or (f x ++ blocks f l) i e) y
    ∙ get_or-append-add (f x) (blocks f l) j e
    ∙ ih j (omega arith)
    ∙ sym (ap (λ (i : ℕ). get_or (f (get_or (x ∷ l) (i / w) d)) (i % w) e) z ∙ rw (add-div_left j p, add-mod_left w j, add-one))

-- element k is element k % w of part k / w
pub get_or_blocks : {A B : Type 0} (f : A → List B) (w : ℕ) → ((x : A) → length (f x) ≡ w) → 0 < w → (l : List A) (k : ℕ) (d : A) (e : B) → k < length l * w
    → get_or (blocks f l) k e ≡ get_or (f (get_or l (k / w) d)) (k % w) e
get_or_blocks f w h p [] k d e q = absurd (omega (arith, zero-mul w))
get_or_blocks f w h p (x ∷ l) k d e q =
    block_at f w h x l k d e p (omega (arith, suc-mul (length l) w)) (λ j s. get_or_blocks f w h p l j d e s) (dec_lt k w)

pub blocks_append : {A B : Type 0} (f : A → List B) (l k : List A) → blocks f (l ++ k) ≡ blocks f l ++ blocks f k
blocks_append f [] k = refl
blocks_append f (x ∷ l) k = ap (λ z. f x ++ z) (blocks_append f l k) ∙ sym (append_assoc (f x) (blocks f l) (blocks f k))

pub blocks_blocks : {A B C : Type 0} (g : B → List C) (f : A → List B) (l : List A) → blocks g (blocks f l) ≡ blocks (λ x. blocks g (f x)) l
blocks_blocks g f [] = refl
blocks_blocks g f (x ∷ l) = blocks_append g (f x) (blocks f l) ∙ ap (λ z. blocks g (f x) ++ z) (blocks_blocks g f l)

pub blocks_same : {A B : Type 0} (f g : A → List B) → ((x : A) → f x ≡ g x) → (l : List A) → blocks f l ≡ blocks g l
blocks_same f g h [] = refl
blocks_same f g h (x ∷ l) = ap₂ ◌++◌ (h x) (blocks_same f g h l)
