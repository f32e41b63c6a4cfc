-- What is so of a node by its place, carried along changes of the rest.
use mathlib.Core.Path.{◌≡◌, refl, sym, ap, ◌∙◌}
use mathlib.Core.Logic.{◌≢◌, ◌⊎◌, inl, inr, ◌↔◌}
use mathlib.Core.Option.{Option, some}
use Prim.Native.Nat.{ℕ, ◌≤◌, ◌<◌}
use native.Mathlib.Omega.{arith}
use native.Mathlib.Decide.{ℕ_discrete}
use Rattle.model.specs.Basics.{upd}
use Rattle.model.proofs.Basics.{upd_other, upd_at}
use Rattle.model.proofs.Layer1.Ghost.{lent_w, lent, poss, Place, queue, waiting, deqd, kept, enqd, spare, off, Holder, Spot, pos_of, Live}

-- what a changed table holds was put there or was there
pub upd_inv {ℓ} : {A : Type ℓ} (f : ℕ → A) (n : ℕ) (a : A) (k : ℕ) {x : A} → upd f n a k ≡ x → ((k ≡ n) × (a ≡ x)) ⊎ ((k ≢ n) × (f k ≡ x))
upd_inv f n a k {x} e = by (ℕ_discrete k n)
  where
    by : Dec (k ≡ n) → ((k ≡ n) × (a ≡ x)) ⊎ ((k ≢ n) × (f k ≡ x))
    by (yes h) = inl (h, sym (upd_at f n a h) ∙ e)
    by (no h) = inr (h, sym (upd_other f n a h) ∙ e)

pub holder_map : {held oe od held' oe' od' : ℕ → Option ℕ} {k : ℕ} (p : Place)
    → ((u q : ℕ) → p ≡ deqd u q → od u ≡ some k → od' u ≡ some k)
    → ((u q : ℕ) → p ≡ kept u q → held u ≡ some k → held' u ≡ some k)
    → ((u : ℕ) → p ≡ enqd u → oe u ≡ some k → oe' u ≡ some k)
    → Holder held oe od k p → Holder held' oe' od' k p
holder_map (queue q) fd fk fe h = tt
holder_map (waiting q) fd fk fe h = tt
holder_map (deqd t q) fd fk fe h = fd t q refl h
holder_map (kept t q) fd fk fe h = fk t q refl h
holder_map (enqd t) fd fk fe h = fe t refl h
holder_map spare fd fk fe h = tt
holder_map off fd fk fe h = tt
holder_map lent fd fk fe h = tt
holder_map lent_w fd fk fe h = tt

module _ (who who' : ℕ → ℕ) (hp hp' l l' k : ℕ) (wk : (p : ℕ) → p < l → who' p ≡ who p) (hps : hp ≤ hp') (ls : l ≤ l') where
  pub spot_map : (p : Place) → ((q : ℕ) → p ≡ queue q → who q ≡ k → hp ≤ q → q < l → hp' ≤ q) → Spot who hp l k p → Spot who' hp' l' k p
  spot_map (queue q) f s = (wk q s.2 ∙ s.0, f q refl s.0 s.1 s.2, omega (arith, s.2))
  spot_map (waiting q) f s = (wk q s.2 ∙ s.0, omega (arith, s.1), omega (arith, s.2))
  spot_map (deqd t q) f s = (wk q s.2 ∙ s.0, omega (arith, s.1), omega (arith, s.2))
  spot_map (kept t q) f s = (wk q s.2 ∙ s.0, omega (arith, s.1), omega (arith, s.2))
  spot_map (enqd t) f s = tt
  spot_map spare f s = tt
  spot_map off f s = tt
  spot_map lent f s = tt
  spot_map lent_w f s = tt

-- a node with a place in the log stands there
pub spot_pos : (who : ℕ → ℕ) (hp l n : ℕ) (p : Place) (q : ℕ) → Spot who hp l n p → pos_of p ≡ some q → (who q ≡ n) × (q < l)
spot_pos who hp l n (queue r) q s e = let f : r ≡ q = cc in rw (← f) (s.0, s.2)
spot_pos who hp l n (waiting r) q s e = let f : r ≡ q = cc in rw (← f) (s.0, s.2)
spot_pos who hp l n (deqd t r) q s e = let f : r ≡ q = cc in rw (← f) (s.0, s.2)
spot_pos who hp l n (kept t r) q s e = let f : r ≡ q = cc in rw (← f) (s.0, s.2)
spot_pos who hp l n (enqd t) q s e = let z : ◌≡◌ {A = ℕ} 0 1 = cc in absurd (omega arith)
spot_pos who hp l n spare q s e = let z : ◌≡◌ {A = ℕ} 0 1 = cc in absurd (omega arith)
spot_pos who hp l n off q s e = let z : ◌≡◌ {A = ℕ} 0 1 = cc in absurd (omega arith)
spot_pos who hp l n lent q s e = let z : ◌≡◌ {A = ℕ} 0 1 = cc in absurd (omega arith)
spot_pos who hp l n lent_w q s e = let z : ◌≡◌ {A = ℕ} 0 1 = cc in absurd (omega arith)

abbrev pub tag : Place → ℕ
tag (queue q) = 0
tag (waiting q) = 1
tag (deqd t q) = 2
tag (kept t q) = 3
tag (enqd t) = 4
tag spare = 5
tag off = 6
tag lent = 7
tag lent_w = 8

-- a place other than the one that changes is as it was
pub still : (own : ℕ → Place) (n : ℕ) (p : Place) {p₀ x : Place} (k : ℕ) → own n ≡ p₀ → p₀ ≢ x → own k ≡ x → upd own n p k ≡ x
still own n p k e ne h = upd_other own n p (λ f. ne (sym e ∙ ap own (sym f) ∙ h)) ∙ h

-- a place that is not the new one was there before
pub before : (own : ℕ → Place) (n : ℕ) (p : Place) {x : Place} (k : ℕ) → p ≢ x → upd own n p k ≡ x → (k ≢ n) × (own k ≡ x)
before own n p {x} k ne h = by (upd_inv own n p k h)
  where
    by : ((k ≡ n) × (p ≡ x)) ⊎ ((k ≢ n) × (own k ≡ x)) → (k ≢ n) × (own k ≡ x)
    by (inl a) = absurd (ne a.1)
    by (inr b) = b

-- a live place is inside the log
pub live_in : (who : ℕ → ℕ) (own : ℕ → Place) (hp l q : ℕ) → ((n : ℕ) → Spot who hp l n (own n)) → Live who (poss own) q → q < l
live_in who own hp l q s h = (spot_pos who hp l (who q) (own (who q)) q (s (who q)) h).1

-- what is beyond the table, or with another queue, is so before and after
abbrev pub Outside : Place → Place → Type 0
Outside o o' = ((o ≡ off) ↔ (o' ≡ off)) × ((o ≡ lent) ↔ (o' ≡ lent))

-- a node changes hands here
pub off_same : (own : ℕ → Place) (n : ℕ) (p : Place) {p₀ : Place} → own n ≡ p₀ → p₀ ≢ off → p₀ ≢ lent → p ≢ off → p ≢ lent → (k : ℕ) → Outside (own k) (upd own n p k)
off_same own n p e n₀ l₀ n₁ l₁ k = (
  (λ h. still own n p k e n₀ h, λ h. (before own n p k n₁ h).1),
  (λ h. still own n p k e l₀ h, λ h. (before own n p k l₁ h).1),
)
