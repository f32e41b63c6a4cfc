-- Turning an ending's choices gives those of the next ending.
use Prim.Native.Nat.{ℕ, zero, suc, ◌+◌, ◌-◌, ◌*◌, ◌/◌, ◌%◌, ◌≤◌, ◌<◌}
use mathlib.Core.Path.{◌≡◌, refl, sym, ap, ap₂, ◌∙◌}
use mathlib.Core.List.{List, [], ◌∷◌, ◌++◌, append_assoc}
use native.Mathlib.Omega.{arith}
use native.Mathlib.Decide.{dec_lt}
use native.Mathlib.Nat.{mod-lt, suc-mod, mod-eq_of_lt, mod_self, div-add-mod', div-eq_of_lt-le, suc-mul}
use native.Mathlib.Numerals.{add-one}
use borrow.Author.Tests.{lt-ltb, le-ltb}
use lib.ListN.{get_or, set, drop}
use lib.Seq.{get_or_at, set_at}
use Rattle.image.specs.declared.Shape.{Shape}
use Rattle.machine.specs.Line.{line_count}
use Rattle.endtable.specs.Opened.{blank_counts}
use Rattle.endtable.specs.Picks.{digits, picks_of, turned_of, Counted}
use Rattle.endtable.proofs.Digits as laws

-- ---- the number behind k, by a divisor

same_block : (k c : ℕ) → suc (k % c) < c → (suc k / c ≡ k / c) × (suc k % c ≡ suc (k % c))
same_block k c h = (
  div-eq_of_lt-le c (omega (arith, div-add-mod' k c)) (omega (arith, div-add-mod' k c, ap (λ x. x * c) (add-one (k / c)), suc-mul (k / c) c)),
  suc-mod k c ∙ mod-eq_of_lt h,
)

next_block : (k c : ℕ) → 0 < c → c ≤ suc (k % c) → (suc k / c ≡ suc (k / c)) × (suc k % c ≡ 0)
next_block k c p h =
    let e : suc (k % c) ≡ c = omega (arith, mod-lt k p) in (
      div-eq_of_lt-le c (omega (arith, div-add-mod' k c, suc-mul (k / c) c)) (omega (arith, div-add-mod' k c, suc-mul (k / c) c, ap (λ x. x * c) (add-one (suc (k / c))), suc-mul (suc (k / c)) c)),
      suc-mod k c ∙ ap (λ x. x % c) e ∙ mod_self c,
    )

-- ---- one line, at the code's numbers

pub turn_none : (cs ps : List ℕ) (i : ℕ) → i ≤ 0 → turned_of cs i ps ≡ ps
unfolding turned_of
turn_none cs ps zero h = refl
turn_none cs ps (suc i) h = absurd (omega arith)

turn_yes : (cs ps : List ℕ) (n : ℕ) → suc (get_or ps n 0) < get_or cs n 0 → turned_of cs (suc n) ps ≡ set ps n (suc (get_or ps n 0))
unfolding turned_of
turn_yes cs ps n h = rw (lt-ltb _ _ h, turned_of)

turn_no : (cs ps : List ℕ) (n : ℕ) → get_or cs n 0 ≤ suc (get_or ps n 0) → turned_of cs (suc n) ps ≡ turned_of cs n (set ps n 0)
unfolding turned_of
turn_no cs ps n h = rw (le-ltb _ _ h, turned_of)

pub turn_here : (cs ps : List ℕ) (i : ℕ) → 0 < i → get_or ps (i - 1) 0 + 1 < get_or cs (i - 1) 0 → turned_of cs i ps ≡ set ps (i - 1) (get_or ps (i - 1) 0 + 1)
turn_here cs ps zero h l = absurd (omega arith)
turn_here cs ps (suc n) h l =
    let e : suc n - 1 ≡ n = omega arith in
    let m : suc (get_or ps n 0) < get_or cs n 0 = omega (arith, rw e at l) in
    rw (e, add-one) (turn_yes cs ps n m)

pub turn_on : (cs ps : List ℕ) (i : ℕ) → 0 < i → get_or cs (i - 1) 0 ≤ get_or ps (i - 1) 0 + 1 → turned_of cs i ps ≡ turned_of cs (i - 1) (set ps (i - 1) 0)
turn_on cs ps zero h l = absurd (omega arith)
turn_on cs ps (suc n) h l =
    let e : suc n - 1 ≡ n = omega arith in
    let m : get_or cs n 0 ≤ suc (get_or ps n 0) = omega (arith, rw e at l) in
    rw e (turn_no cs ps n m)

-- ---- all lines

module _ (cs : List ℕ) (n k : ℕ) (rest : List ℕ) where
  abbrev c : ℕ
  c = get_or cs n 0

  abbrev before : List ℕ
  before = digits cs n (k / c)

  here : digits cs (suc n) k ++ rest ≡ before ++ (k % c ∷ rest)
  unfolding digits
  here = append_assoc before (k % c ∷ []) rest

  here_at : get_or (before ++ (k % c ∷ rest)) n 0 ≡ k % c
  here_at = get_or_at before (k % c) rest 0 n (laws.length_digits cs n (k / c))

  here_set : (x : ℕ) → set (before ++ (k % c ∷ rest)) n x ≡ before ++ (x ∷ rest)
  here_set x = set_at before (k % c) rest x n (laws.length_digits cs n (k / c))

  behind : digits cs n (suc k / c) ++ (suc k % c ∷ rest) ≡ digits cs (suc n) (suc k) ++ rest
  unfolding digits
  behind = sym (append_assoc (digits cs n (suc k / c)) (suc k % c ∷ []) rest)

  turn_line : Dec (suc (k % c) < c) → 0 < c
      → ((r : List ℕ) → turned_of cs n (before ++ r) ≡ digits cs n (suc (k / c)) ++ r)
      → turned_of cs (suc n) (digits cs (suc n) k ++ rest) ≡ digits cs (suc n) (suc k) ++ rest
  turn_line (yes l) p ih =
      let b = same_block k c l in
      ap (turned_of cs (suc n)) here
      ∙ turn_yes cs (before ++ (k % c ∷ rest)) n (omega (arith, here_at))
      ∙ here_set (suc (get_or (before ++ (k % c ∷ rest)) n 0))
      ∙ ap₂ (λ q x. digits cs n q ++ (x ∷ rest)) (sym b.0) (ap suc here_at ∙ sym b.1)
      ∙ behind
  turn_line (no l) p ih =
      let b = next_block k c p (omega arith) in
      ap (turned_of cs (suc n)) here
      ∙ turn_no cs (before ++ (k % c ∷ rest)) n (omega (arith, here_at))
      ∙ ap (turned_of cs n) (here_set 0)
      ∙ ih (0 ∷ rest)
      ∙ ap₂ (λ q x. digits cs n q ++ (x ∷ rest)) (sym b.0) (sym b.1)
      ∙ behind

pub turn_digits : (cs : List ℕ) (n k : ℕ) (rest : List ℕ) → Counted cs n → turned_of cs n (digits cs n k ++ rest) ≡ digits cs n (suc k) ++ rest
unfolding turned_of digits
turn_digits cs zero k rest p = refl
turn_digits cs (suc n) k rest p =
    turn_line cs n k rest (dec_lt (suc (k % get_or cs n 0)) (get_or cs n 0)) (p n (omega arith))
    (λ r. turn_digits cs n (k / get_or cs n 0) r (λ l h. p l (omega arith)))

-- from the choices of ending k to those of ending k + 1
pub turn_picks : (cs : List ℕ) (z : Shape) (k : ℕ) → Counted cs (line_count z) → turned_of cs (line_count z) (picks_of cs z k) ≡ picks_of cs z (k + 1)
unfolding picks_of
turn_picks cs z k p =
    turn_digits cs (line_count z) k (drop (line_count z) blank_counts) p
    ∙ ap (λ x. digits cs (line_count z) x ++ drop (line_count z) blank_counts) (sym (add-one k))
