-- What each turn of a loop of the start adds, at the code's numbers. Assumes nothing.
use Prim.Native.Nat.{ℕ, suc, ◌+◌, ◌-◌, ◌≤◌, ◌<◌, ◌^◌}
use mathlib.Core.Path.{◌≡◌, refl, sym, ap, ◌∙◌}
use mathlib.Core.Bool.{Bool, true, false, not}
use mathlib.Core.List.{List, [], ◌∷◌}
use native.Mathlib.Omega.{arith}
use native.Mathlib.Nat.{pow-suc}
use native.Mathlib.Numerals.{add-one}
use lib.Pow.{pow_mono}
use borrow.Author.Tests.{eq-eqb, ne_eqb}
use lib.Dec.{eqb}
use lib.ListN.{length, get_or, set, take, drop, drop_of_length-le}
use lib.Seq.{length-take-le, drop-cons, get_or-take}
use Rattle.lists.specs.Find.{pick}
use Rattle.lists.specs.Tab.{tab, front}
use Rattle.lists.specs.Word.{word_of}
use Rattle.lists.proofs.FindLaws.{least_le}
use Rattle.lists.proofs.TabLaws as tabs
use Rattle.image.specs.declared.Image.{Image}
use Rattle.image.specs.Recovered.{recovered_at, dummy_of}
use Rattle.machine.specs.Record.{none, blank_nodes}
use Rattle.machine.specs.Start.{behind, last_of, start_node, spare}
use Rattle.machine.specs.Laid.{start_nodes, start_free}
use Rattle.lists.proofs.WordLaws.{word_of_lt}

-- ---- along the first c places of a table

rest_cons : (l : List ℕ) (c p : ℕ) → p < c → c ≤ length l → drop p (take c l) ≡ get_or l p 0 ∷ drop (p + 1) (take c l)
rest_cons l c p h f =
    drop-cons (take c l) p 0 (omega (arith, length-take-le c l f)) ∙ rw (get_or-take c l p 0 h, add-one)

rest_none : (l : List ℕ) (c p : ℕ) → c ≤ p → c ≤ length l → drop p (take c l) ≡ []
rest_none l c p h f = drop_of_length-le (take c l) {i = p} (omega (arith, length-take-le c l f))

last_at : (x : ℕ) (l : List ℕ) (d : ℕ) → last_of x l ≡ get_or (x ∷ l) (length l) d
unfolding last_of
last_at x [] d = refl
last_at x (y ∷ l) d = last_at y l d

-- the last of a list, a where it has none
pub last_is : (a : ℕ) (l : List ℕ) → get_or l (length l - 1) a ≡ last_of a l
unfolding last_of
last_is a [] = refl
last_is a (x ∷ l) = let e : suc (length l) - 1 ≡ length l = omega arith in ap (λ (n : ℕ). get_or (x ∷ l) n a) e ∙ sym (last_at x l a)

pub behind_by : (b : Bool) (a x i : ℕ) (l : List ℕ) → eqb a i ≡ b → behind (a ∷ x ∷ l) i ≡ pick b x (behind (x ∷ l) i)
unfolding behind
behind_by true a x i l e = ap (λ (b : Bool). elim b as (λ _. ℕ) [ true ↦ x | false ↦ behind (x ∷ l) i ]) e
behind_by false a x i l e = ap (λ (b : Bool). elim b as (λ _. ℕ) [ true ↦ x | false ↦ behind (x ∷ l) i ]) e

pub behind_hit : (l : List ℕ) (c p a i : ℕ) → p < c → c ≤ length l → a ≡ i → behind (a ∷ drop p (take c l)) i ≡ get_or l p 0
behind_hit l c p a i h f e =
    ap (λ (z : List ℕ). behind (a ∷ z) i) (rest_cons l c p h f) ∙ behind_by true a (get_or l p 0) i (drop (p + 1) (take c l)) (eq-eqb a i e)

pub behind_next : (l : List ℕ) (c p a i : ℕ) → p < c → c ≤ length l → (a ≡ i → ⊥) → behind (a ∷ drop p (take c l)) i ≡ behind (get_or l p 0 ∷ drop (p + 1) (take c l)) i
behind_next l c p a i h f e =
    ap (λ (z : List ℕ). behind (a ∷ z) i) (rest_cons l c p h f) ∙ behind_by false a (get_or l p 0) i (drop (p + 1) (take c l)) (ne_eqb a i e)

pub behind_end : (l : List ℕ) (c p a i : ℕ) → c ≤ p → c ≤ length l → behind (a ∷ drop p (take c l)) i ≡ none
unfolding behind
behind_end l c p a i h f = ap (λ (z : List ℕ). behind (a ∷ z) i) (rest_none l c p h f)

-- ---- tables filled from the front

pub nodes_none : (g : Image) (d : ℕ) (q : List ℕ) → blank_nodes ≡ start_nodes g d q 0
unfolding start_nodes front tab
nodes_none g d q = refl

pub nodes_next : (g : Image) (d : ℕ) (q : List ℕ) (i : ℕ) → i < 64 → set (start_nodes g d q i) i (start_node g d q i) ≡ start_nodes g d q (i + 1)
unfolding start_nodes blank_nodes
nodes_next g d q i h = tabs.front_next (start_node g d q) i blank_nodes h

-- ---- the free set

pub free_none : (g : Image) (d : ℕ) → 0 ≡ start_free g d 0
unfolding start_free word_of
free_none g d = refl

pub free_dummy : (g : Image) (d i : ℕ) → i ≡ d → start_free g d i ≡ start_free g d (suc i)
unfolding start_free word_of
free_dummy g d i e = rw (eq-eqb i d e)

pub free_recovered : (g : Image) (d i : ℕ) → (i ≡ d → ⊥) → recovered_at g i ≡ true → start_free g d i ≡ start_free g d (suc i)
unfolding start_free word_of
free_recovered g d i ne e = rw (ne_eqb i d ne, e)

pub free_spare : (g : Image) (d i : ℕ) → (i ≡ d → ⊥) → recovered_at g i ≡ false → start_free g d i + 2 ^ i ≡ start_free g d (suc i)
unfolding start_free word_of
free_spare g d i ne e = rw (ne_eqb i d ne, e)

pub free_lt : (g : Image) (d i : ℕ) → start_free g d i < 2 ^ i
unfolding start_free
free_lt g d i = word_of_lt (spare g d) i

-- the sum fits a word
pub free_fits : (g : Image) (d i : ℕ) → i < 64 → start_free g d i + 2 ^ i < 2 ^ 64
free_fits g d i h = omega (arith, free_lt g d i, pow-suc 2 i, pow_mono {i = suc i} {j = 64} h)

-- ---- the dummy

pub dummy_le : (g : Image) → dummy_of g ≤ g.n
unfolding dummy_of
dummy_le g = omega (arith, least_le (λ i. not (recovered_at g i)) g.n 0)
