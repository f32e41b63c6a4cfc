-- Laws of tables over lines.
use mathlib.Core.Path.{◌≡◌, refl, sym, ap}
use mathlib.Core.Logic.{◌≢◌}
use Prim.Native.Nat.{ℕ}
use native.Mathlib.Omega.{arith}
use native.Mathlib.Decide.{ℕ_discrete}
use Rattle.model.specs.Lines.{Line, of_head, of_node, upd_l}
use Rattle.model.proofs.Basics.{upd_other, upd_same}

-- ---- a table over lines, changed at one

pub no_line : {A : Type 0} (i j : ℕ) → of_head i ≡ of_node j → A
no_line i j e = let z : ◌≡◌ {A = ℕ} 0 1 = cc in absurd (omega arith)

pub line_eq : (a b : Line) → Dec (a ≡ b)
line_eq (of_head i) (of_head j) = by (ℕ_discrete i j)
  where
    by : Dec (i ≡ j) → Dec (of_head i ≡ of_head j)
    by (yes e) = yes (ap of_head e)
    by (no ne) = no (λ e. ne cc)
line_eq (of_head i) (of_node j) = no (λ e. no_line i j e)
line_eq (of_node i) (of_head j) = no (λ e. no_line j i (sym e))
line_eq (of_node i) (of_node j) = by (ℕ_discrete i j)
  where
    by : Dec (i ≡ j) → Dec (of_node i ≡ of_node j)
    by (yes e) = yes (ap of_node e)
    by (no ne) = no (λ e. ne cc)

module _ {A : Type 0} (f : Line → A) where
  pub upd_l_same : (i : Line) (a : A) → upd_l f i a i ≡ a
  unfolding upd_l
  upd_l_same (of_head i) a = upd_same (λ k. f (of_head k)) i a
  upd_l_same (of_node i) a = upd_same (λ k. f (of_node k)) i a

  elsewhere : (i : Line) (a : A) (j : Line) → j ≢ i → upd_l f i a j ≡ f j
  unfolding upd_l
  elsewhere (of_head i) a (of_head j) ne = upd_other (λ k. f (of_head k)) i a (λ e. ne (ap of_head e))
  elsewhere (of_head i) a (of_node j) ne = refl
  elsewhere (of_node i) a (of_head j) ne = refl
  elsewhere (of_node i) a (of_node j) ne = upd_other (λ k. f (of_node k)) i a (λ e. ne (ap of_node e))

  pub upd_l_other : (i : Line) (a : A) {j : Line} → j ≢ i → upd_l f i a j ≡ f j
  upd_l_other i a {j} ne = elsewhere i a j ne

  pub upd_l_at : (i : Line) (a : A) {j : Line} → j ≡ i → upd_l f i a j ≡ a
  upd_l_at i a {j} e = rw e (upd_l_same i a)
