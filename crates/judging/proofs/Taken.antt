-- What a history that is taken has: its size, and operations that fit. Assumes nothing.
use Prim.Native.Nat.{ℕ, zero, suc, ◌≤◌, ◌<◌}
use mathlib.Core.Path.{◌≡◌, refl, sym, ◌∙◌}
use mathlib.Core.Bool.{Bool, true, false, not}
use mathlib.Core.List.{List}
use native.Mathlib.Omega.{arith}
use lib.ListN.{length}
use lib.Dec.{eqb, ltb, leb}
use borrow.Author.Tests.{leb-true, eqb-true, ltb-true, ltb-false, not-false}
use Rattle.lists.specs.Find.{pick, both}
use Rattle.lists.proofs.BoolLaws.{both_true, false_true, no_way}
use Rattle.lists.proofs.FindLaws as find
use Rattle.lists.proofs.TabLaws.{length_tab, get_or_tab}
use Rattle.answer.specs.Answers.{accepted, check, Taken, Length, Kind, NotZero}
use Rattle.image.proofs.ByteLaws.{at_small}
use Rattle.lawful.specs.Operation.{says}
use Rattle.lawful.specs.Lawful.{at, no_operation}
use Rattle.lawful.specs.Demand3.{Bytes}
use Rattle.judging.specs.History.{at8, count_in, first_count, last_count, operation_place, kind_at, answer_at, reply_by, operation_at, operations_in, kind_fits, fits, odd, first_odd, fault_at, sized, history_answer, odd_answer}
use Rattle.judging.specs.Place.{Whole, Clear, top}

pub whole_of : (s : List ℕ) → sized s ≡ true → Whole s
unfolding sized
whole_of s e =
    let a = both_true (leb 3 (length s)) (both (leb (count_in s) 16) (both (leb (first_count s) 63) (both (leb (last_count s) 63) (eqb (length s) (operation_place s (count_in s)))))) e in
    let b = both_true (leb (count_in s) 16) (both (leb (first_count s) 63) (both (leb (last_count s) 63) (eqb (length s) (operation_place s (count_in s))))) a.1 in
    let c = both_true (leb (first_count s) 63) (both (leb (last_count s) 63) (eqb (length s) (operation_place s (count_in s)))) b.1 in
    let d = both_true (leb (last_count s) 63) (eqb (length s) (operation_place s (count_in s))) c.1 in
    record {
      size = eqb-true (length s) (operation_place s (count_in s)) d.1;
      count = leb-true (count_in s) 16 b.0;
      first = leb-true (first_count s) 63 c.0;
      last = leb-true (last_count s) 63 d.0;
    }

pub clear_of : (s : List ℕ) → count_in s ≤ first_odd s → Clear s
unfolding first_odd odd
clear_of s h i l = not-false (fits s i) (find.least_clear (odd s) (count_in s) 0 (omega (arith, h)) i (omega arith) (omega (arith, l)))

never_fault : (s : List ℕ) (i : ℕ) → accepted (fault_at s i) ≡ false
unfolding fault_at
never_fault s i = by (not (kind_fits (kind_at s i) (answer_at s i)))
  where
    by : (x : Bool) → accepted (check x (Kind i) (NotZero i)) ≡ false
    by true = refl
    by false = refl

-- a history that is not refused
pub taken_of : (s : List ℕ) → accepted (history_answer s) ≡ true → Whole s × Clear s
unfolding history_answer
taken_of s e = by (sized s) refl (ltb (first_odd s) (count_in s)) refl e
  where
    by : (x : Bool) → sized s ≡ x → (y : Bool) → ltb (first_odd s) (count_in s) ≡ y
        → accepted (check (not x) Length (check y (fault_at s (first_odd s)) Taken)) ≡ true → Whole s × Clear s
    by false a y b h = false_true h
    by true a true b h = no_way (sym h ∙ never_fault s (first_odd s))
    by true a false b h = (whole_of s a, clear_of s (ltb-false (first_odd s) (count_in s) b))

-- behind the first refusal
pub sized_answer : (s : List ℕ) → sized s ≡ true → history_answer s ≡ odd_answer s
unfolding history_answer
sized_answer s e = rw e

-- ---- the operations that the bytes are

pub operation_count : (s : List ℕ) → length (operations_in s) ≡ count_in s
unfolding operations_in
operation_count s = length_tab (operation_at s) (count_in s)

pub operation_is : (s : List ℕ) (i : ℕ) → i < count_in s → at (operations_in s) i ≡ operation_at s i
unfolding operations_in
operation_is s i h = get_or_tab (operation_at s) (count_in s) i no_operation h

-- an answer of a known kind is at most 5
pub answer_le : (k a : ℕ) → kind_fits k a ≡ true → a ≤ 5
unfolding kind_fits
answer_le k a e = by (eqb k 1) (eqb k 2) (eqb a 0) refl (eqb a 4) refl e
  where
    by : (x y z : Bool) → eqb a 0 ≡ z → (w : Bool) → eqb a 4 ≡ w → pick x (ltb a 4) (both y (pick z true (pick w true (eqb a 5)))) ≡ true → a ≤ 5
    by true y z f w g h = omega (arith, ltb-true a 4 h)
    by false false z f w g h = false_true h
    by false true true f w g h = omega (arith, eqb-true a 0 f)
    by false true false f true g h = omega (arith, eqb-true a 4 g)
    by false true false f false g h = omega (arith, eqb-true a 5 h)

pub says_reply : (a v : ℕ) → a ≤ 5 → says (reply_by a v) ≡ not (eqb a 0)
says_reply zero v h = refl
says_reply (suc zero) v h = refl
says_reply (suc (suc zero)) v h = refl
says_reply (suc (suc (suc zero))) v h = refl
says_reply (suc (suc (suc (suc zero)))) v h = refl
says_reply (suc (suc (suc (suc (suc zero))))) v h = refl
says_reply (suc (suc (suc (suc (suc (suc a)))))) v h = absurd (omega arith)

-- a number of 64 bits
pub at8_le : (s : List ℕ) → Bytes s → (p : ℕ) → at8 s p ≤ top
at8_le s b p = omega (arith, at_small 8 s p b)
