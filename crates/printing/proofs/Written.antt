-- Text written piece by piece.
use Prim.Native.Nat.{ℕ, zero, suc, ◌+◌, ◌-◌, ◌≤◌, ◌<◌}
use mathlib.Core.Path.{◌≡◌, refl, sym, ap, ap₂, subst, ◌∙◌}
use mathlib.Core.List.{List, [], ◌∷◌, ◌++◌, append_assoc, append-nil}
use native.Mathlib.Omega.{arith}
use native.Mathlib.Numerals.{add-one}
use lib.ListN.{length, get_or, set, take, drop, length-append}
use lib.Seq.{take-suc, take-add}
use Rattle.std.proofs.lemmas.List.{drop-drop}
use Rattle.lists.specs.Tab.{over}
use Rattle.lists.specs.Text.{text, decimal}
use Rattle.lists.proofs.TabLaws as tabs
use Rattle.page.specs.Printed.{spaced, items_text}

pub one : (l : List ℕ) (i x : ℕ) → set l i x ≡ over l i (x ∷ [])
unfolding over
one l i x = refl

-- one byte more behind what is written
pub byte_more : (l : List ℕ) (at : ℕ) (d : List ℕ) (x : ℕ) → set (over l at d) (at + length d) x ≡ over l at (d ++ (x ∷ []))
byte_more l at d x = one (over l at d) (at + length d) x ∙ tabs.over_append l at d (x ∷ [])

-- a part of the list that s was copied to
pub copied : (l : List ℕ) (at : ℕ) (s : List ℕ) → at + length s ≤ length l → take at l ++ (s ++ drop (length s) (drop at l)) ≡ over l at s
copied l at s h = ap (λ r. take at l ++ (s ++ r)) (drop-drop (length s) at l) ∙ sym (append_assoc (take at l) s (drop (at + length s) l)) ∙ sym (tabs.over_is l at s h)

-- ---- items behind blanks

pub spaced_append : (a b : List ℕ) → spaced (a ++ b) ≡ spaced a ++ spaced b
unfolding spaced text
spaced_append [] b = refl
spaced_append (v ∷ a) b = ap (λ r. 32 ∷ (decimal v ++ r)) (spaced_append a b) ∙ ap (λ r. 32 ∷ r) (sym (append_assoc (decimal v) (spaced a) (spaced b)))

spaced_one : (v : ℕ) → spaced (v ∷ []) ≡ 32 ∷ decimal v
unfolding spaced text
spaced_one v = ap (λ r. 32 ∷ r) (append-nil (decimal v))

pub spaced_next : (l : List ℕ) (i : ℕ) → i < length l → spaced (take (i + 1) l) ≡ spaced (take i l) ++ (32 ∷ decimal (get_or l i 0))
spaced_next l i h =
    ap (λ n. spaced (take n l)) (add-one i)
    ∙ ap spaced (take-suc l i 0 h)
    ∙ spaced_append (take i l) (get_or l i 0 ∷ [])
    ∙ ap (λ r. spaced (take i l) ++ r) (spaced_one (get_or l i 0))

pub spaced_within : (l : List ℕ) (i c : ℕ) → i < c → c ≤ length l → length (spaced (take i l)) + 1 + length (decimal (get_or l i 0)) ≤ length (spaced (take c l))
spaced_within l i c h g =
    let a : c ≡ (i + 1) + (c - (i + 1)) = omega arith in
    let e = ap (λ n. spaced (take n l)) a ∙ ap spaced (take-add (i + 1) (c - (i + 1)) l) ∙ spaced_append (take (i + 1) l) (take (c - (i + 1)) (drop (i + 1) l)) in
    let f = ap length e ∙ length-append (spaced (take (i + 1) l)) (spaced (take (c - (i + 1)) (drop (i + 1) l))) in
    let k = ap length (spaced_next l i (omega arith)) ∙ length-append (spaced (take i l)) (32 ∷ decimal (get_or l i 0)) in
    omega (arith, f, k)

-- a blank and a number behind what is written
pub spaced_write : (l : List ℕ) (at : ℕ) (d e : List ℕ) → over (set (over l at d) (at + length d) 32) (at + length d + 1) e ≡ over l at (d ++ (32 ∷ e))
spaced_write l at d e =
    ap (λ r. over r (at + length d + 1) e) (one (over l at d) (at + length d) 32)
    ∙ tabs.over_append (over l at d) (at + length d) (32 ∷ []) e
    ∙ tabs.over_append l at d (32 ∷ e)

pub length_next : (l : List ℕ) (i : ℕ) → i < length l → length (spaced (take (i + 1) l)) ≡ length (spaced (take i l)) + 1 + length (decimal (get_or l i 0))
length_next l i h =
    ap length (spaced_next l i h)
    ∙ length-append (spaced (take i l)) (32 ∷ decimal (get_or l i 0))
    ∙ omega arith

-- one item more behind those written
pub spaced_more : (l m : List ℕ) (at p : ℕ) (s : List ℕ) (i : ℕ) → i < length s
    → p ≡ at + length (spaced (take i s)) → m ≡ over l at (spaced (take i s))
    → over (set m p 32) (p + 1) (decimal (get_or s i 0)) ≡ over l at (spaced (take (i + 1) s))
spaced_more l m at p s i h e f =
    ap₂ (λ m p. over (set m p 32) (p + 1) (decimal (get_or s i 0))) f e
    ∙ spaced_write l at (spaced (take i s)) (decimal (get_or s i 0))
    ∙ ap (over l at) (sym (spaced_next s i h))

-- ---- one text behind another

-- the text s stands from place `at` on in what was l and is m; p is the place behind it
abbrev pub Put : List ℕ → ℕ → List ℕ → List ℕ → ℕ → Type 0
Put l at s m p = (p ≡ at + length s) × (m ≡ over l at s)

pub then : (l : List ℕ) (at : ℕ) (s t : List ℕ) {m : List ℕ} {p : ℕ} {n : List ℕ} {q : ℕ} → Put l at s m p → Put m p t n q → Put l at (s ++ t) n q
then l at s t a b = (
  omega (arith, a.0, b.0, length-append s t),
  b.1 ∙ ap₂ (λ m p. over m p t) a.1 a.0 ∙ tabs.over_append l at s t,
)

-- a word with a number behind it
pub then_two : (l : List ℕ) (at : ℕ) (s t d : List ℕ) {m : List ℕ} {p : ℕ} {n : List ℕ} {q : ℕ} → Put l at s m p → Put m p (t ++ d) n q → Put l at (s ++ t ++ d) n q
then_two l at s t d {m} {p} {n} {q} a b = subst (λ r. Put l at r n q) (sym (append_assoc s t d)) (then l at s (t ++ d) a b)

pub same_room : (l : List ℕ) (at : ℕ) (s : List ℕ) {m : List ℕ} → m ≡ over l at s → length m ≡ length l
same_room l at s e = ap length e ∙ tabs.length_over l at s

take_front : (s r : List ℕ) → take (length s) (s ++ r) ≡ s
take_front [] r = refl
take_front (x ∷ s) r = ap (λ l. x ∷ l) (take_front s r)

-- a text written to the front, and read from there
pub front_is : (l : List ℕ) (n : ℕ) (m s : List ℕ) → length s ≤ length l → n ≡ 0 + length s → m ≡ over l 0 s → take n m ≡ s
front_is l n m s h e f =
    let n' : n ≡ length s = omega (arith, e) in
    let m' : m ≡ s ++ drop (0 + length s) l = f ∙ tabs.over_is l 0 s (omega arith) in
    ap₂ take n' m' ∙ take_front s (drop (0 + length s) l)

-- where there is room for both, there is room for the first, and then for the second
pub room_first : (n at : ℕ) (s t : List ℕ) → at + length (s ++ t) ≤ n → at + length s ≤ n
room_first n at s t h = omega (arith, length-append s t)

pub room_then : (l : List ℕ) (at : ℕ) (s t : List ℕ) {m : List ℕ} {p : ℕ} → at + length (s ++ t) ≤ length l → Put l at s m p → p + length t ≤ length m
room_then l at s t h a = omega (arith, a.0, ap length a.1, tabs.length_over l at s, length-append s t)

pub room_two : (l : List ℕ) (at : ℕ) (s t d : List ℕ) {m : List ℕ} {p : ℕ} → at + length (s ++ t ++ d) ≤ length l → Put l at s m p → p + length (t ++ d) ≤ length m
room_two l at s t d h a = omega (arith, a.0, ap length a.1, tabs.length_over l at s, length-append (s ++ t) d, length-append s t, length-append t d)

-- ---- items or a dash

pub items_none : (l : List ℕ) (c : ℕ) → c ≡ 0 → items_text (take c l) ≡ 32 ∷ 45 ∷ []
unfolding text
items_none l zero e = refl
items_none l (suc c) e = absurd (omega arith)

pub items_some : (l : List ℕ) (c : ℕ) → 0 < c → c ≤ length l → items_text (take c l) ≡ spaced (take c l)
items_some [] c h g = absurd (omega arith)
items_some (x ∷ l) zero h g = absurd (omega arith)
items_some (x ∷ l) (suc c) h g = refl
