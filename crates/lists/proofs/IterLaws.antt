-- What an iterator's `all`, `any` and `position` answer over the first n elements of a list is the definitions' search by number. Assumes nothing.
use Rattle.std.specs.Prelude.{ℕ, zero, suc, ◌+◌, Option, ◌≤◌, ◌<◌, Bool, true, false, not, cond, ◌&&◌, ◌||◌, ◌≡◌, List, [], ◌∷◌, length, get_or, take, Some, None}
use Rattle.std.proofs.Common.{refl, sym, ap, ◌∙◌, arith}
use lib.Dec.{ltb, eqb}
use native.Mathlib.Decide.{dec_lt}
use lib.Seq.{length-take-le}
use Rattle.std.specs.List.{FoldsTo, list_all, list_any, position, position_or_len}
use Rattle.std.proofs.iter.Yields.{fronts}
use Rattle.std.proofs.lemmas.Iterator.{YieldsList-from_slice}
use Rattle.std.proofs.lemmas.Iterator.Search.{all_from_yields_List, any_from_yields_List, position_from_yields_List}
use Rattle.std.specs.Fn.{Called}
use Rattle.std.specs.Iterator.{YieldsThen}
use Rattle.std.specs.Option.{MatchOption, unwrap_or}
use Rattle.std.specs.Slice.Iter.{iter_rest}
use Rattle.std.proofs.Common.{Iter}
use borrow.Author.Tests.{ltb-false, ltb-true, eq-eqb, ne_eqb}
use denote.Param.Members.{Mut}
use denote.Ref.{Bor}
use Rattle.lists.specs.Find.{pick, least, any}
use Rattle.lists.proofs.FindLaws.{least_shift, least_le, least_found, least_before, any_hit, any_none}

-- the search from the front on
any_front : (f : ℕ → Bool) (n : ℕ) → any f (suc n) ≡ pick (f 0) true (any (λ i. f (suc i)) n)
unfolding any
any_front f zero = refl
any_front f (suc n) = ap (λ (b : Bool). pick (f (suc n)) true b) (any_front f n) ∙ by (f (suc n)) (f 0) (any (λ i. f (suc i)) n)
  where
    by : (a b c : Bool) → pick a true (pick b true c) ≡ pick b true (pick a true c)
    by true true c = refl
    by true false c = refl
    by false true c = refl
    by false false c = refl

pub any_first : {A : Type 0} (p : A → Bool) (xs : List A) (d : A) (n : ℕ) → n ≤ length xs → list_any p (take n xs) ≡ any (λ i. p (get_or xs i d)) n
unfolding any
any_first p xs d zero h = refl
any_first p [] d (suc n) h = absurd (omega arith)
any_first p (x ∷ xs) d (suc n) h =
    ap (λ (b : Bool). p x || b) (any_first p xs d n (omega arith)) ∙ by (p x) (any (λ i. p (get_or xs i d)) n) ∙ sym (any_front (λ i. p (get_or (x ∷ xs) i d)) n)
  where
    by : (a b : Bool) → a || b ≡ pick a true b
    by true b = refl
    by false b = refl

-- all pass where none fails
pub all_first : {A : Type 0} (p : A → Bool) (xs : List A) (d : A) (n : ℕ) → n ≤ length xs → list_all p (take n xs) ≡ not (any (λ i. not (p (get_or xs i d))) n)
unfolding any
all_first p xs d zero h = refl
all_first p [] d (suc n) h = absurd (omega arith)
all_first p (x ∷ xs) d (suc n) h =
    ap (λ (b : Bool). p x && b) (all_first p xs d n (omega arith)) ∙ by (p x) (any (λ i. not (p (get_or xs i d))) n)
    ∙ ap not (sym (any_front (λ i. not (p (get_or (x ∷ xs) i d))) n))
  where
    by : (a b : Bool) → a && not b ≡ not (pick (not a) true b)
    by true b = refl
    by false b = refl

-- the place of the first that passes, n where none does
pub position_first : {A : Type 0} (p : A → Bool) (xs : List A) (d : A) (n : ℕ) → n ≤ length xs → position_or_len p (take n xs) ≡ least (λ i. p (get_or xs i d)) n 0
unfolding least
position_first p xs d zero h = refl
position_first p [] d (suc n) h = absurd (omega arith)
position_first p (x ∷ xs) d (suc n) h =
    by (p x) (position_or_len p (take n xs)) _ (position_first p xs d n (omega arith)) ∙ ap (λ (r : ℕ). pick (p x) 0 r) (sym (least_shift (λ i. p (get_or (x ∷ xs) i d)) n 0))
  where
    by : (a : Bool) (r s : ℕ) → r ≡ s → cond (not a) (1 + r) 0 ≡ pick a 0 (suc s)
    by true r s e = refl
    by false r s e = omega arith

-- and as `position` hands it out
pub position_found : {A : Type 0} (p : A → Bool) (xs : List A) (d : A) (n : ℕ) → n ≤ length xs
    → position p (take n xs) ≡ cond (ltb (least (λ i. p (get_or xs i d)) n 0) n) (Some (least (λ i. p (get_or xs i d)) n 0)) None
position_found p xs d n h =
    let l : length (take n xs) ≡ n = simp length-take-le in
    let e = position_first p xs d n h in
    rw (e, l)

-- ---- the calls themselves, on the iterator of `&xs[..n]` whose closure computes p

module _ {A F : Type 0} {g : Mut F (Bor A × Unit {0}) Bool} (p : A → Bool) (xs : List A) (d : A) (n : ℕ) (s u : Iter A) (f : F) where
  pub any_sliced : (r : Bool)
      → (ys : List (Bor A)) × (o : Option (Bor A)) × (j : F) × YieldsThen fronts s ys o u × FoldsTo (λ q x t. Called g q (x, tt) false t) f ys j × MatchOption o (r ≡ false) (λ x. (r ≡ true) × ((h : F) × Called g j (x, tt) true h))
      → iter_rest s ≡ take n xs → n ≤ length xs → ((x : Bor A) (b : Bool) (q : F) → Called g f (x, tt) b q → (q ≡ f) × (b ≡ p x.now)) → r ≡ any (λ i. p (get_or xs i d)) n
  any_sliced r ran e h each =
      any_from_yields_List p u f r ran (YieldsList-from_slice (take n xs) e) each ∙ any_first p xs d n h

  pub all_sliced : (r : Bool)
      → (ys : List (Bor A)) × (o : Option (Bor A)) × (j : F) × YieldsThen fronts s ys o u × FoldsTo (λ q x t. Called g q (x, tt) true t) f ys j × MatchOption o (r ≡ true) (λ x. (r ≡ false) × ((h : F) × Called g j (x, tt) false h))
      → iter_rest s ≡ take n xs → n ≤ length xs → ((x : Bor A) (b : Bool) (q : F) → Called g f (x, tt) b q → (q ≡ f) × (b ≡ p x.now)) → r ≡ not (any (λ i. not (p (get_or xs i d))) n)
  all_sliced r ran e h each =
      all_from_yields_List p u f r ran (YieldsList-from_slice (take n xs) e) each ∙ all_first p xs d n h

  pub position_sliced : (r : Option ℕ)
      → (ys : List (Bor A)) × (o : Option (Bor A)) × (j : F) × YieldsThen fronts s ys o u × FoldsTo (λ q x t. Called g q (x, tt) false t) f ys j × MatchOption o (r ≡ None) (λ x. (r ≡ Some (length ys)) × ((h : F) × Called g j (x, tt) true h))
      → iter_rest s ≡ take n xs → n ≤ length xs → ((x : Bor A) (b : Bool) (q : F) → Called g f (x, tt) b q → (q ≡ f) × (b ≡ p x.now))
      → r ≡ cond (ltb (least (λ i. p (get_or xs i d)) n 0) n) (Some (least (λ i. p (get_or xs i d)) n 0)) None
  position_sliced r ran e h each =
      position_from_yields_List p u f r ran (YieldsList-from_slice (take n xs) e) each ∙ position_found p xs d n h

-- n where there is none
pub found_or : (f : ℕ → Bool) (n : ℕ) → unwrap_or (cond (ltb (least f n 0) n) (Some (least f n 0)) None) n ≡ least f n 0
found_or f n = by (ltb (least f n 0) n) refl
  where
    by : (b : Bool) → ltb (least f n 0) n ≡ b → unwrap_or (cond b (Some (least f n 0)) None) n ≡ least f n 0
    by true e = refl
    by false e = omega (arith, ltb-false _ _ e, least_le f n 0)

-- the two outcomes of `position`, and of `all` by the search
pub found_some : (f : ℕ → Bool) (n i : ℕ) → cond (ltb (least f n 0) n) (Some (least f n 0)) None ≡ Some i → (least f n 0 ≡ i) × (i < n)
found_some f n i h = by (ltb (least f n 0) n) refl h
  where
    by : (b : Bool) → ltb (least f n 0) n ≡ b → cond b (Some (least f n 0)) None ≡ Some i → (least f n 0 ≡ i) × (i < n)
    by true e k = let z : least f n 0 ≡ i = cc in (z, omega (arith, ltb-true _ _ e))
    by false e k = absurd (cc)

pub found_none : (f : ℕ → Bool) (n : ℕ) → cond (ltb (least f n 0) n) (Some (least f n 0)) None ≡ None → n ≤ least f n 0
found_none f n h = by (ltb (least f n 0) n) refl h
  where
    by : (b : Bool) → ltb (least f n 0) n ≡ b → cond b (Some (least f n 0)) None ≡ None → n ≤ least f n 0
    by true e k = absurd (cc)
    by false e k = ltb-false _ _ e

pub none_least : (f : ℕ → Bool) (n : ℕ) → not (any f n) ≡ eqb (least f n 0) n
none_least f n = by (dec_lt (least f n 0) n)
  where
    by : Dec (least f n 0 < n) → not (any f n) ≡ eqb (least f n 0) n
    by (yes h) = rw (any_hit f n (least f n 0) h (least_found f n 0 (omega arith)), ne_eqb (least f n 0) n (omega arith))
    by (no h) = rw (any_none f n (λ i p. least_before f n 0 i (omega arith) (omega arith)), eq-eqb (least f n 0) n (omega (arith, least_le f n 0)))
