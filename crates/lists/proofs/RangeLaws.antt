-- A test of every number below n, as `(0..n).all(..)` and `(0..n).any(..)` make it, is the definitions' search. Assumes nothing.
use Rattle.std.specs.Prelude.{ℕ, zero, suc, ◌+◌, Bool, true, false, not, ◌&&◌, ◌||◌, ◌≡◌, Option, cond, filter, length}
use Rattle.std.proofs.Common.{refl, sym, ap, ◌∙◌, arith, List, [], ◌∷◌}
use Rattle.std.proofs.iter.Yields.{nat_range_steps}
use Rattle.std.proofs.lemmas.Iterator.{YieldsList-from_range}
use Rattle.std.proofs.lemmas.Iterator.Search.{all_from_yields_List, any_from_yields_List}
use Rattle.std.proofs.lemmas.Iterator.Consumers.{count_from_yields_List, YieldsList-from_filter}
use Rattle.std.specs.Fn.{Called, CalledAt}
use Rattle.std.specs.Iterator.{YieldsThen, Drains}
use Rattle.std.specs.Iterator.Adapters.{filter_source, filter_callee, filter_steps}
use Rattle.std.specs.List.{FoldsTo, list_all, list_any, range_with_len}
use Rattle.std.specs.Option.{MatchOption}
use Rattle.std.specs.declared.ops.Range.{Range}
use Rattle.std.specs.declared.iter.Filter.{Filter}
use denote.Param.Members.{Mut}
use denote.Ref.{Bor}
use Rattle.lists.specs.Find.{pick, any, count}

and_assoc : (a b c : Bool) → a && (b && c) ≡ (a && b) && c
and_assoc true b c = refl
and_assoc false b c = refl

or_assoc : (a b c : Bool) → a || (b || c) ≡ (a || b) || c
or_assoc true b c = refl
or_assoc false b c = refl

and_true : (a : Bool) → a && true ≡ a
and_true true = refl
and_true false = refl

or_false : (a : Bool) → a || false ≡ a
or_false true = refl
or_false false = refl

-- the last number of a range apart
all_more : (test : ℕ → Bool) (a n : ℕ) → list_all test (range_with_len a (suc n)) ≡ list_all test (range_with_len a n) && test (a + n)
all_more test a zero = let e : a + 0 ≡ a = omega arith in and_true (test a) ∙ ap test (sym e)
all_more test a (suc n) =
    let e : a + 1 + n ≡ a + suc n = omega arith in
    ap (λ b. test a && b) (all_more test (a + 1) n) ∙ and_assoc (test a) (list_all test (range_with_len (a + 1) n)) (test (a + 1 + n))
    ∙ ap (λ k. test a && list_all test (range_with_len (a + 1) n) && test k) e

any_more : (test : ℕ → Bool) (a n : ℕ) → list_any test (range_with_len a (suc n)) ≡ list_any test (range_with_len a n) || test (a + n)
any_more test a zero = let e : a + 0 ≡ a = omega arith in or_false (test a) ∙ ap test (sym e)
any_more test a (suc n) =
    let e : a + 1 + n ≡ a + suc n = omega arith in
    ap (λ b. test a || b) (any_more test (a + 1) n) ∙ or_assoc (test a) (list_any test (range_with_len (a + 1) n)) (test (a + 1 + n))
    ∙ ap (λ k. test a || list_any test (range_with_len (a + 1) n) || test k) e

all_step : (b c : Bool) → not b && c ≡ not (pick (not c) true b)
all_step true true = refl
all_step true false = refl
all_step false true = refl
all_step false false = refl

any_step : (b c : Bool) → b || c ≡ pick c true b
any_step true true = refl
any_step true false = refl
any_step false true = refl
any_step false false = refl

all_below : (test bad : ℕ → Bool) (n : ℕ) → ((k : ℕ) → bad k ≡ not (test k)) → list_all test (range_with_len 0 n) ≡ not (any bad n)
unfolding any
all_below test bad zero h = refl
all_below test bad (suc n) h =
    let e : 0 + n ≡ n = omega arith in
    all_more test 0 n ∙ ap (λ k. list_all test (range_with_len 0 n) && test k) e ∙ ap (λ b. b && test n) (all_below test bad n h)
    ∙ all_step (any bad n) (test n) ∙ ap (λ b. not (pick b true (any bad n))) (sym (h n))

any_below : (test : ℕ → Bool) (n : ℕ) → list_any test (range_with_len 0 n) ≡ any test n
unfolding any
any_below test zero = refl
any_below test (suc n) =
    let e : 0 + n ≡ n = omega arith in
    any_more test 0 n ∙ ap (λ k. list_any test (range_with_len 0 n) || test k) e ∙ ap (λ b. b || test n) (any_below test n) ∙ any_step (any test n) (test n)

module _ {F : Type 0} {g : Mut F (ℕ × Unit {0}) Bool} (test : ℕ → Bool) (n : ℕ) (s u : Range ℕ) (f : F) (r : Bool) where
  -- the answer of `(0..n).all(..)`, whose closure tells whether a number is not bad
  pub all_ranged : (bad : ℕ → Bool)
      → (xs : List ℕ) × (o : Option ℕ) × (j : F) × YieldsThen nat_range_steps s xs o u × FoldsTo (λ p x q. Called g p (x, tt) true q) f xs j × MatchOption o (r ≡ true) (λ x. (r ≡ false) × ((h : F) × Called g j (x, tt) false h))
      → s ≡ record { start = 0; end = n } → ((x : ℕ) (b : Bool) (q : F) → Called g f (x, tt) b q → (q ≡ f) × (b ≡ test x)) → ((k : ℕ) → bad k ≡ not (test k)) → r ≡ not (any bad n)
  all_ranged bad ran e each h =
      all_from_yields_List test u f r ran (YieldsList-from_range 0 n n e (omega arith)) each ∙ all_below test bad n h

  -- and of `(0..n).any(..)`
  pub any_ranged : (xs : List ℕ) × (o : Option ℕ) × (j : F) × YieldsThen nat_range_steps s xs o u × FoldsTo (λ p x q. Called g p (x, tt) false q) f xs j × MatchOption o (r ≡ false) (λ x. (r ≡ true) × ((h : F) × Called g j (x, tt) true h))
      → s ≡ record { start = 0; end = n } → ((x : ℕ) (b : Bool) (q : F) → Called g f (x, tt) b q → (q ≡ f) × (b ≡ test x)) → r ≡ any test n
  any_ranged ran e each =
      any_from_yields_List test u f r ran (YieldsList-from_range 0 n n e (omega arith)) each ∙ any_below test n

kept_length : (b : Bool) (x : ℕ) (xs : List ℕ) → length (cond b (x ∷ xs) xs) ≡ pick b 1 0 + length xs
kept_length true x xs = omega arith
kept_length false x xs = omega arith

filter_more : (test : ℕ → Bool) (a n : ℕ) → length (filter test (range_with_len a (suc n))) ≡ pick (test (a + n)) 1 0 + length (filter test (range_with_len a n))
filter_more test a zero = let e : a ≡ a + 0 = omega arith in kept_length (test a) a [] ∙ ap (λ k. pick (test k) 1 0 + 0) e
filter_more test a (suc n) =
    let e : a + 1 + n ≡ a + suc n = omega arith in
    let z = filter_more test (a + 1) n in
    kept_length (test a) a _ ∙ rw (z, kept_length (test a) a (filter test (range_with_len (a + 1) n)), e) (omega arith)

filter_below : (test : ℕ → Bool) (n : ℕ) → length (filter test (range_with_len 0 n)) ≡ count test n
unfolding count
filter_below test zero = refl
filter_below test (suc n) =
    let e : 0 + n ≡ n = omega arith in
    filter_more test 0 n ∙ ap (λ k. pick (test k) 1 0 + length (filter test (range_with_len 0 n))) e ∙ ap (λ c. pick (test n) 1 0 + c) (filter_below test n)

-- and of `(0..n).filter(..).count()`
pub counted_ranged : {F : Type 0} {g : Mut F (Bor ℕ × Unit {0}) Bool} (test : ℕ → Bool) (n : ℕ) (s : Filter (Range ℕ) F) (f : F) (r : ℕ) → (xs : List ℕ) × Drains (filter_steps nat_range_steps g) s xs × (r ≡ length xs)
    → filter_source s ≡ record { start = 0; end = n } → filter_callee s ≡ f → ((x : ℕ) (b : Bool) (q : F) → CalledAt g f x b q → (q ≡ f) × (b ≡ test x)) → r ≡ count test n
counted_ranged {F} {g} test n s f r ran e c each =
    count_from_yields_List s r ran (YieldsList-from_filter g test (YieldsList-from_range 0 n n e (omega arith)) c each) ∙ filter_below test n
