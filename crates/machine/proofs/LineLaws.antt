-- Laws of lines: their numbers, and tables over them.
use Prim.Native.Nat.{ℕ, ◌+◌, ◌-◌, ◌≤◌, ◌<◌}
use mathlib.Core.Path.{◌≡◌, refl, sym, ap, subst, ◌∙◌}
use mathlib.Core.Bool.{true, false}
use mathlib.Core.Logic.{◌≢◌}
use native.Mathlib.Omega.{arith}
use native.Mathlib.Decide.{dec_lt, ℕ_discrete}
use lib.Dec.{eqb}
use borrow.Author.Tests.{lt-ltb, le-ltb, eq-eqb, ne_eqb, eqb-true}
use Rattle.lists.proofs.BoolLaws.{false_true}
use Rattle.image.specs.Form.{head_lines}
use Rattle.image.specs.declared.Shape.{Shape}
use Rattle.machine.specs.Line.{Line, of_head, of_node, line_count, line_at, number_of, same_line, put_line}

-- ---- numbers

pub line_head : (z : Shape) (k : ℕ) → k < head_lines z → line_at z k ≡ of_head k
unfolding line_at
line_head z k h = rw (lt-ltb k (head_lines z) h)

pub line_behind : (z : Shape) (l : ℕ) → head_lines z ≤ l → line_at z l ≡ of_node (l - head_lines z)
unfolding line_at
line_behind z l h = rw (le-ltb l (head_lines z) h)

pub line_node : (z : Shape) (i : ℕ) → line_at z (head_lines z + i) ≡ of_node i
line_node z i = line_behind z (head_lines z + i) (omega arith) ∙ ap of_node (omega arith)

-- a line's number is its own
pub number_line : (z : Shape) (l : ℕ) → number_of z (line_at z l) ≡ l
number_line z l = by (dec_lt l (head_lines z))
  where
    by : Dec (l < head_lines z) → number_of z (line_at z l) ≡ l
    by (yes h) = ap (number_of z) (line_head z l h)
    by (no h) = ap (number_of z) (line_behind z l (omega arith)) ∙ omega arith

pub line_one : (z : Shape) (i j : ℕ) → line_at z i ≡ line_at z j → i ≡ j
line_one z i j e = sym (number_line z i) ∙ ap (number_of z) e ∙ number_line z j

pub number_node : (z : Shape) (h i : ℕ) (l : Line) → h ≡ head_lines z → l ≡ of_node i → h + i ≡ number_of z l
number_node z h i l e f = ap (λ k. k + i) e ∙ sym (ap (number_of z) f)

-- the lines that there are
abbrev pub LineIn : Shape → Line → Type 0
LineIn z (of_head k) = k < head_lines z
LineIn z (of_node i) = i < z.n

pub line_in : (z : Shape) (l : ℕ) → l < line_count z → LineIn z (line_at z l)
line_in z l h = by (dec_lt l (head_lines z))
  where
    by : Dec (l < head_lines z) → LineIn z (line_at z l)
    by (yes k) = rw (line_head z l k) k
    by (no k) = rw (line_behind z l (omega arith)) (omega arith)

pub number_in : (z : Shape) (l : Line) → LineIn z l → number_of z l < line_count z
number_in z (of_head k) h = omega arith
number_in z (of_node i) h = omega arith

pub line_number : (z : Shape) (l : Line) → LineIn z l → line_at z (number_of z l) ≡ l
line_number z (of_head k) h = line_head z k h
line_number z (of_node i) h = line_node z i

-- ---- tables

pub head_not_node : {A : Type 0} (k i : ℕ) → of_head k ≡ of_node i → A
head_not_node k i e = let z : ◌≡◌ {A = ℕ} 0 1 = cc in absurd (omega arith)

pub line_eq : (a b : Line) → Dec (a ≡ b)
line_eq (of_head i) (of_head j) = by (ℕ_discrete i j)
  where
    by : Dec (i ≡ j) → Dec (of_head i ≡ of_head j)
    by (yes e) = yes (ap of_head e)
    by (no ne) = no (λ e. ne cc)
line_eq (of_head i) (of_node j) = no (λ e. head_not_node i j e)
line_eq (of_node i) (of_head j) = no (λ e. head_not_node j i (sym e))
line_eq (of_node i) (of_node j) = by (ℕ_discrete i j)
  where
    by : Dec (i ≡ j) → Dec (of_node i ≡ of_node j)
    by (yes e) = yes (ap of_node e)
    by (no ne) = no (λ e. ne cc)

pub same_line_lem : (a : Line) → same_line a a ≡ true
same_line_lem (of_head i) = eq-eqb i i refl
same_line_lem (of_node i) = eq-eqb i i refl

pub same_is : (a b : Line) → same_line a b ≡ true → a ≡ b
same_is (of_head i) (of_head j) e = ap of_head (eqb-true i j e)
same_is (of_head i) (of_node j) e = false_true e
same_is (of_node i) (of_head j) e = false_true e
same_is (of_node i) (of_node j) e = ap of_node (eqb-true i j e)

pub other_line : (a b : Line) → a ≢ b → same_line a b ≡ false
other_line (of_head i) (of_head j) ne = ne_eqb i j (λ e. ne (ap of_head e))
other_line (of_head i) (of_node j) ne = refl
other_line (of_node i) (of_head j) ne = refl
other_line (of_node i) (of_node j) ne = ne_eqb i j (λ e. ne (ap of_node e))

-- lines are one where their numbers are
pub same_number : (z : Shape) (i j : ℕ) → same_line (line_at z i) (line_at z j) ≡ eqb i j
same_number z i j = by (ℕ_discrete i j)
  where
    by : Dec (i ≡ j) → same_line (line_at z i) (line_at z j) ≡ eqb i j
    by (yes e) = rw e (same_line_lem (line_at z j)) ∙ sym (eq-eqb i j e)
    by (no ne) = other_line (line_at z i) (line_at z j) (λ e. ne (line_one z i j e)) ∙ sym (ne_eqb i j ne)

module _ {A : Type 0} (f : Line → A) (l : Line) (a : A) where
  pub put_same : put_line f l a l ≡ a
  unfolding put_line
  put_same = rw (same_line_lem l)

  pub put_at : (j : Line) → j ≡ l → put_line f l a j ≡ a
  put_at j e = rw e put_same

  pub put_other : (j : Line) → j ≢ l → put_line f l a j ≡ f j
  unfolding put_line
  put_other j ne = rw (other_line j l ne)

  pub put_ind : (P : Line → A → Type 0) (j : Line) → P l a → (j ≢ l → P j (f j)) → P j (put_line f l a j)
  put_ind P j pa pf = by (line_eq j l)
    where
      by : Dec (j ≡ l) → P j (put_line f l a j)
      by (yes e) = subst (λ k. P k (put_line f l a k)) (sym e) (subst (P l) (sym put_same) pa)
      by (no ne) = subst (P j) (sym (put_other j ne)) (pf ne)
