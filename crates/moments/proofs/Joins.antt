-- Laws of a line's list of contents: what is joined to it, and that it has no repeats.
use Prim.Native.Nat.{ℕ, suc, ◌+◌, ◌≤◌, ◌<◌}
use mathlib.Core.Path.{◌≡◌, refl, ap, ◌∙◌}
use mathlib.Core.Bool.{Bool, true, false}
use mathlib.Core.List.{List, [], ◌∷◌, ◌++◌}
use native.Mathlib.Omega.{arith}
use native.Mathlib.Decide.{dec_lt}
use lib.ListN.{length, length-append, get_or-append}
use lib.Dec.{eqb, ltb, leb-suc-suc}
use borrow.Author.Tests.{eqb-true, eq-eqb, lt-ltb, le-ltb}
use Rattle.lists.specs.Find.{pick, both, least}
use Rattle.lists.proofs.BoolLaws.{both_true}
use Rattle.lists.proofs.FindLaws.{least_shift}
use Rattle.image.specs.Layout.{no_content, content_at, same_content}
use Rattle.image.specs.declared.Content.{Content}
use Rattle.page.specs.Contents.{joins, gathered}
use Rattle.moments.specs.Seats.{is_at, seat_of}

-- ---- equal contents

abbrev made : ℕ → ℕ → ℕ → Content
made l i v = record { linked = l; index = i; item = v }

pub same_equal : (a b : Content) → same_content a b ≡ true → a ≡ b
unfolding same_content
same_equal a b e =
    let t = both_true (eqb a.linked b.linked) (both (eqb a.index b.index) (eqb a.item b.item)) e in
    let u = both_true (eqb a.index b.index) (eqb a.item b.item) t.1 in
    ap (λ (x : ℕ). made x a.index a.item) (eqb-true a.linked b.linked t.0)
    ∙ ap (λ (x : ℕ). made b.linked x a.item) (eqb-true a.index b.index u.0)
    ∙ ap (λ (x : ℕ). made b.linked b.index x) (eqb-true a.item b.item u.1)

pub same_self : (a : Content) → same_content a a ≡ true
unfolding same_content
same_self a = rw (eq-eqb a.linked a.linked refl, eq-eqb a.index a.index refl, eq-eqb a.item a.item refl)

-- ---- seats

seat_cons : (a : Content) (l : List Content) (n : ℕ) (c : Content) → seat_of (a ∷ l) (suc n) c ≡ pick (same_content a c) 0 (suc (seat_of l n c))
unfolding seat_of least
seat_cons a l n c = ap (pick (same_content a c) 0) (least_shift (is_at (a ∷ l) c) n 0)

-- what joins a list: nothing where it has the content, else the content at its end
joins_pick : (a : Content) (l : List Content) (c : Content) (s : ℕ) (b : Bool) → joins l c ≡ pick (ltb s (length l)) l (l ++ (c ∷ []))
    → ◌≡◌ {A = List Content} (elim b [ true ↦ a ∷ l | false ↦ a ∷ joins l c ]) (pick (ltb (pick b 0 (suc s)) (suc (length l))) (a ∷ l) (a ∷ l ++ (c ∷ [])))
joins_pick a l c s true e = rw (lt-ltb 0 (suc (length l)) (omega arith))
joins_pick a l c s false e = rw (e, leb-suc-suc (suc s) (length l)) (push (ltb s (length l)))
  where
    push : (b : Bool) → a ∷ pick b l (l ++ (c ∷ [])) ≡ pick b (a ∷ l) (a ∷ l ++ (c ∷ []))
    push true = refl
    push false = refl

pub joins_seat : (l : List Content) (c : Content) → joins l c ≡ pick (ltb (seat_of l (length l) c) (length l)) l (l ++ (c ∷ []))
unfolding joins
joins_seat [] c = rw (le-ltb (seat_of [] 0 c) 0 (omega arith))
joins_seat (a ∷ l) c = rw (seat_cons a l (length l) c) (joins_pick a l c (seat_of l (length l) c) (same_content a c) (joins_seat l c))

pub joins_has : (l : List Content) (c : Content) → seat_of l (length l) c < length l → joins l c ≡ l
joins_has l c h = joins_seat l c ∙ rw (lt-ltb (seat_of l (length l) c) (length l) h)

pub joins_new : (l : List Content) (c : Content) → length l ≤ seat_of l (length l) c → joins l c ≡ l ++ (c ∷ [])
joins_new l c h = joins_seat l c ∙ rw (le-ltb (seat_of l (length l) c) (length l) h)

pub joins_none : (c : Content) → joins [] c ≡ c ∷ []
unfolding joins
joins_none c = refl

-- no content is lost
pub joins_length : (l : List Content) (c : Content) → length l ≤ length (joins l c)
joins_length l c = by (dec_lt (seat_of l (length l) c) (length l))
  where
    by : Dec (seat_of l (length l) c < length l) → length l ≤ length (joins l c)
    by (yes p) = rw (joins_has l c p) (omega arith)
    by (no p) = rw (joins_new l c (omega arith)) (omega (arith, length-append l (c ∷ [])))

-- the contents of a list stay where they are
pub joins_at : (l : List Content) (c : Content) (j : ℕ) → j < length l → content_at (joins l c) j ≡ content_at l j
joins_at l c j h = by (dec_lt (seat_of l (length l) c) (length l))
  where
    by : Dec (seat_of l (length l) c < length l) → content_at (joins l c) j ≡ content_at l j
    by (yes p) = rw (joins_has l c p)
    by (no p) = rw (joins_new l c (omega arith)) (get_or-append l (c ∷ []) no_content j h)

-- ---- what has joined is there: joined again, it changes nothing

pub joins_first : (a : Content) (l : List Content) (c : Content) → same_content a c ≡ true → joins (a ∷ l) c ≡ a ∷ l
unfolding joins
joins_first a l c e = ap (λ (b : Bool). elim b as (λ _. List Content) [ true ↦ a ∷ l | false ↦ a ∷ joins l c ]) e

pub joins_later : (a : Content) (l : List Content) (c : Content) → same_content a c ≡ false → joins (a ∷ l) c ≡ a ∷ joins l c
unfolding joins
joins_later a l c e = ap (λ (b : Bool). elim b as (λ _. List Content) [ true ↦ a ∷ l | false ↦ a ∷ joins l c ]) e

again_at : (a : Content) (l : List Content) (c : Content) (b : Bool) → same_content a c ≡ b → joins (joins l c) c ≡ joins l c → joins (joins (a ∷ l) c) c ≡ joins (a ∷ l) c
again_at a l c true e ih = ap (λ (k : List Content). joins k c) (joins_first a l c e)
again_at a l c false e ih = rw (joins_later a l c e) (joins_later a (joins l c) c e ∙ ap (λ (k : List Content). a ∷ k) ih)

pub joins_again : (l : List Content) (c : Content) → joins (joins l c) c ≡ joins l c
unfolding joins
joins_again [] c = joins_first c [] c (same_self c)
joins_again (a ∷ l) c = again_at a l c (same_content a c) refl (joins_again l c)

-- one content more, at the end
pub gathered_more : (seen l : List Content) (c : Content) → gathered seen (l ++ (c ∷ [])) ≡ joins (gathered seen l) c
unfolding gathered
gathered_more seen [] c = refl
gathered_more seen (a ∷ l) c = gathered_more (joins seen a) l c

-- a content of the present list changes nothing
pub gathered_last : (seen l : List Content) (c : Content) → joins (gathered seen (l ++ (c ∷ []))) c ≡ gathered seen (l ++ (c ∷ []))
gathered_last seen l c = rw (gathered_more seen l c) (joins_again (gathered seen l) c)
