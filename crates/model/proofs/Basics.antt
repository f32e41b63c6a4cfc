-- Laws of tests that come out true or false, and of tables changed at one number.
use mathlib.Core.Path.{◌≡◌, refl, sym, subst, fun_ext}
use mathlib.Core.Bool.{Bool, true, false, not}
use mathlib.Core.Logic.{◌≢◌, ◌⊎◌, inl, inr}
use Prim.Native.Nat.{ℕ, ◌≤◌, ◌<◌}
use native.Mathlib.Omega.{arith}
use native.Mathlib.Decide.{ℕ_discrete}
use lib.Dec.{T, eqb, eqb→eq, eqb_refl, ltb, ltb→lt, lt→ltb, leb, leb→le, le→leb}
use Rattle.model.specs.Basics.{sel, bothb, upd}

-- ---- tests

pub yes_of : (b : Bool) → T b → b ≡ true
yes_of true t = refl
yes_of false t = absurd t

pub T_of : (b : Bool) → b ≡ true → T b
T_of b e = subst T (sym e) tt

pub dec_true : (b : Bool) → (b ≡ true) ⊎ (b ≡ false)
dec_true true = inl refl
dec_true false = inr refl

pub not_true : (b : Bool) → not b ≡ true → b ≡ false
not_true true e = let z : ◌≡◌ {A = ℕ} 0 1 = cc in absurd (omega arith)
not_true false e = refl

pub not_of : (b : Bool) → b ≡ false → not b ≡ true
not_of b e = rw e refl

pub both_of : (a b : Bool) → bothb a b ≡ true → (a ≡ true) × (b ≡ true)
both_of true b e = (refl, e)
both_of false b e = let z : ◌≡◌ {A = ℕ} 0 1 = cc in absurd (omega arith)

pub true→eq : (a b : ℕ) → eqb a b ≡ true → a ≡ b
true→eq a b e = eqb→eq a b (T_of _ e)

pub eq_no : (a b : ℕ) → a ≢ b → eqb a b ≡ false
eq_no a b ne = by (eqb a b) refl
  where
    by : (x : Bool) → eqb a b ≡ x → eqb a b ≡ false
    by true e = absurd (ne (true→eq a b e))
    by false e = e

pub lt_true : (a b : ℕ) → a < b → ltb a b ≡ true
lt_true a b h = yes_of _ (lt→ltb a b h)

pub lt_no : (a b : ℕ) → b ≤ a → ltb a b ≡ false
lt_no a b h = by (ltb a b) refl
  where
    by : (x : Bool) → ltb a b ≡ x → ltb a b ≡ false
    by true e = let z : a < b = ltb→lt a b (T_of _ e) in absurd (omega arith)
    by false e = e

pub le_true : (a b : ℕ) → a ≤ b → leb a b ≡ true
le_true a b h = yes_of _ (le→leb a b h)

pub not_le : (a b : ℕ) → b < a → leb a b ≡ false
not_le a b h = by (leb a b) refl
  where
    by : (x : Bool) → leb a b ≡ x → leb a b ≡ false
    by true e = let z : a ≤ b = leb→le a b (T_of _ e) in absurd (omega arith)
    by false e = e

-- ---- tables

module _ {ℓ} {A : Type ℓ} (f : ℕ → A) (i : ℕ) (a : A) where
  pub upd_same : upd f i a i ≡ a
  unfolding upd
  upd_same = rw (yes_of (eqb i i) (eqb_refl i)) refl

  pub upd_at : {j : ℕ} → j ≡ i → upd f i a j ≡ a
  upd_at {j} e = rw e upd_same

  pub upd_other : {j : ℕ} → j ≢ i → upd f i a j ≡ f j
  unfolding upd
  upd_other {j} ne = go (eqb j i) refl
    where
      go : (b : Bool) → eqb j i ≡ b → sel (eqb j i) a (f j) ≡ f j
      go true e = absurd (ne (eqb→eq j i (subst T (sym e) tt)))
      go false e = rw e refl

  -- a property of the changed function at j
  pub upd_ind {κ} : (P : ℕ → A → Type κ) (j : ℕ) → P i a → (j ≢ i → P j (f j)) → P j (upd f i a j)
  upd_ind P j pa pf = go (ℕ_discrete j i)
    where
      go : Dec (j ≡ i) → P j (upd f i a j)
      go (yes e) = subst (λ k. P k (upd f i a k)) (sym e) (subst (P i) (sym upd_same) pa)
      go (no ne) = subst (P j) (sym (upd_other ne)) (pf ne)

-- what a function F shows of a table, after a change at i that F does not show
pub facet {ℓ κ} : {A : Type ℓ} {B : Type κ} (F : A → B) (f : ℕ → A) (i : ℕ) (a : A) → F a ≡ F (f i) → ◌≡◌ {A = ℕ → B} (λ j. F (upd f i a j)) (λ j. F (f j))
facet F f i a e = fun_ext (λ j. upd_ind f i a (λ k x. F x ≡ F (f k)) j e (λ ne. refl))

pub upd_upd {ℓ} : {A : Type ℓ} (f : ℕ → A) (i : ℕ) (a b : A) → upd (upd f i a) i b ≡ upd f i b
upd_upd f i a b = fun_ext (λ j. go j (ℕ_discrete j i))
  where
    go : (j : ℕ) → Dec (j ≡ i) → upd (upd f i a) i b j ≡ upd f i b j
    go j (yes e) = rw (upd_at (upd f i a) i b e, upd_at f i b e) refl
    go j (no ne) = rw (upd_other (upd f i a) i b ne, upd_other f i a ne, upd_other f i b ne) refl

-- a table changed to what it holds is as it was
pub upd_own {ℓ} : {A : Type ℓ} (f : ℕ → A) (i : ℕ) (a : A) → f i ≡ a → upd f i a ≡ f
upd_own f i a e = fun_ext (λ j. upd_ind f i a (λ j x. x ≡ f j) j (sym e) (λ ne. refl))
