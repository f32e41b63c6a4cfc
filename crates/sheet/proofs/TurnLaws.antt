-- The line that turns; and what a turn leaves alone.
use Prim.Native.Nat.{ℕ, zero, suc, ◌+◌, ◌-◌, ◌≤◌, ◌<◌}
use mathlib.Core.Path.{◌≡◌, refl, sym, ap, ◌∙◌}
use mathlib.Core.List.{List}
use native.Mathlib.Omega.{arith}
use native.Mathlib.Decide.{dec_lt}
use borrow.Author.Tests.{lt-ltb, le-ltb}
use lib.ListN.{get_or, set}
use lib.Seq.{get_or-set_other}
use Rattle.endtable.specs.Picks.{turned_of}
use Rattle.sheet.specs.Order.{turns_at}

at_yes : (cs ps : List ℕ) (n : ℕ) → suc (get_or ps n 0) < get_or cs n 0 → turns_at cs (suc n) ps ≡ n
unfolding turns_at
at_yes cs ps n h = rw (lt-ltb _ _ h, turns_at)

at_no : (cs ps : List ℕ) (n : ℕ) → get_or cs n 0 ≤ suc (get_or ps n 0) → turns_at cs (suc n) ps ≡ turns_at cs n ps
unfolding turns_at
at_no cs ps n h = rw (le-ltb _ _ h, turns_at)

turned_yes : (cs ps : List ℕ) (n : ℕ) → suc (get_or ps n 0) < get_or cs n 0 → turned_of cs (suc n) ps ≡ set ps n (suc (get_or ps n 0))
unfolding turned_of
turned_yes cs ps n h = rw (lt-ltb _ _ h, turned_of)

turned_no : (cs ps : List ℕ) (n : ℕ) → get_or cs n 0 ≤ suc (get_or ps n 0) → turned_of cs (suc n) ps ≡ turned_of cs n (set ps n 0)
unfolding turned_of
turned_no cs ps n h = rw (le-ltb _ _ h, turned_of)

-- lines from n on do not matter
at_behind : (cs ps : List ℕ) (n m x : ℕ) → n ≤ m → turns_at cs n (set ps m x) ≡ turns_at cs n ps
unfolding turns_at
at_behind cs ps zero m x h = refl
at_behind cs ps (suc n) m x h = by (dec_lt (suc (get_or ps n 0)) (get_or cs n 0)) (at_behind cs ps n m x (omega arith))
  where
    same : get_or (set ps m x) n 0 ≡ get_or ps n 0
    same = get_or-set_other ps m n x 0 (omega arith)

    by : Dec (suc (get_or ps n 0) < get_or cs n 0) → turns_at cs n (set ps m x) ≡ turns_at cs n ps → turns_at cs (suc n) (set ps m x) ≡ turns_at cs (suc n) ps
    by (yes l) ih = at_yes cs (set ps m x) n (omega (arith, same)) ∙ sym (at_yes cs ps n l)
    by (no l) ih = at_no cs (set ps m x) n (omega (arith, same)) ∙ ih ∙ sym (at_no cs ps n (omega arith))

-- ---- one line, at the code's numbers

pub at_none : (cs ps : List ℕ) (i : ℕ) → i ≤ 0 → turns_at cs i ps ≡ 0
unfolding turns_at
at_none cs ps zero h = refl
at_none cs ps (suc i) h = absurd (omega arith)

pub at_here : (cs ps : List ℕ) (i : ℕ) → 0 < i → get_or ps (i - 1) 0 + 1 < get_or cs (i - 1) 0 → turns_at cs i ps ≡ i - 1
at_here cs ps zero h l = absurd (omega arith)
at_here cs ps (suc n) h l =
    let e : suc n - 1 ≡ n = omega arith in
    let m : suc (get_or ps n 0) < get_or cs n 0 = omega (arith, rw e at l) in
    rw e (at_yes cs ps n m)

pub at_on : (cs ps : List ℕ) (i : ℕ) → 0 < i → get_or cs (i - 1) 0 ≤ get_or ps (i - 1) 0 + 1 → turns_at cs i ps ≡ turns_at cs (i - 1) (set ps (i - 1) 0)
at_on cs ps zero h l = absurd (omega arith)
at_on cs ps (suc n) h l =
    let e : suc n - 1 ≡ n = omega arith in
    let m : get_or cs n 0 ≤ suc (get_or ps n 0) = omega (arith, rw e at l) in
    rw e (at_no cs ps n m ∙ sym (at_behind cs ps n n 0 (omega arith)))

-- ---- what stays

pub at_le : (cs ps : List ℕ) (n : ℕ) → turns_at cs n ps ≤ n
at_le cs ps zero = omega (arith, at_none cs ps 0 (omega arith))
at_le cs ps (suc n) = by (dec_lt (suc (get_or ps n 0)) (get_or cs n 0)) (at_le cs ps n)
  where
    by : Dec (suc (get_or ps n 0) < get_or cs n 0) → turns_at cs n ps ≤ n → turns_at cs (suc n) ps ≤ suc n
    by (yes l) ih = omega (arith, at_yes cs ps n l)
    by (no l) ih = omega (arith, at_no cs ps n (omega arith))

-- a line before the one that turns keeps its choice
pub kept_before : (cs ps : List ℕ) (n l : ℕ) → l < turns_at cs n ps → get_or (turned_of cs n ps) l 0 ≡ get_or ps l 0
kept_before cs ps zero l h = absurd (omega (arith, at_none cs ps 0 (omega arith)))
kept_before cs ps (suc n) l h = by (dec_lt (suc (get_or ps n 0)) (get_or cs n 0)) (kept_before cs (set ps n 0) n l)
  where
    by : Dec (suc (get_or ps n 0) < get_or cs n 0)
        → (l < turns_at cs n (set ps n 0) → get_or (turned_of cs n (set ps n 0)) l 0 ≡ get_or (set ps n 0) l 0) → get_or (turned_of cs (suc n) ps) l 0 ≡ get_or ps l 0
    by (yes d) ih =
        ap (λ (z : List ℕ). get_or z l 0) (turned_yes cs ps n d)
        ∙ get_or-set_other ps n l (suc (get_or ps n 0)) 0 (omega (arith, at_yes cs ps n d))
    by (no d) ih =
        let e = at_no cs ps n (omega arith) in
        let b = at_behind cs ps n n 0 (omega arith) in
        ap (λ (z : List ℕ). get_or z l 0) (turned_no cs ps n (omega arith))
        ∙ ih (omega (arith, e, b))
        ∙ get_or-set_other ps n l 0 0 (omega (arith, e, b, at_le cs ps n))

pub at_lt : (cs ps : List ℕ) (n : ℕ) → 0 < n → turns_at cs n ps < n
at_lt cs ps zero h = absurd (omega arith)
at_lt cs ps (suc n) h = by (dec_lt (suc (get_or ps n 0)) (get_or cs n 0))
  where
    by : Dec (suc (get_or ps n 0) < get_or cs n 0) → turns_at cs (suc n) ps < suc n
    by (yes l) = omega (arith, at_yes cs ps n l)
    by (no l) = omega (arith, at_no cs ps n (omega arith), at_le cs ps n)
