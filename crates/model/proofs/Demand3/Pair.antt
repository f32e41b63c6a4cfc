-- Two queues over one table: whatever an ending leaves of both, two nodes are recovered by neither.
use mathlib.Core.Path.{◌≡◌, sym, ap, subst, ◌∙◌}
use mathlib.Core.Bool.{Bool, true, false, not}
use mathlib.Core.List.{List, []}
use mathlib.Core.Logic.{◌≢◌}
use Prim.Native.Nat.{ℕ, ◌<◌}
use native.Mathlib.Omega.{arith}
use Rattle.model.specs.Core.{Core}
use Rattle.model.specs.Recovery.{Image, head_of, recovered}
use Rattle.model.specs.Bench.{Book}
use Rattle.model.specs.Demand3.{Ending}
use Rattle.model.proofs.Times.{Hist}
use Rattle.model.proofs.Layer3.All.{All}
use Rattle.model.proofs.Layer3.Coupled.{Coupled, turned, lent_used}
use Rattle.model.proofs.Demand3.Endings.{spare_here, lent_passed}

module _ (N : ℕ) (free : ℕ → Bool) (wait : ℕ → List ℕ)
    (ls₀ : ℕ → Bool) (hs₀ : Hist) (m₀ : Core) (b₀ : Book) (q₀ : List ℕ) (now₀ : ℕ) (a₀ : All ls₀ hs₀ m₀ b₀ q₀ now₀) (e₀ : Image)
    (en₀ : Ending hs₀.is m₀.conf e₀) (f₀ : m₀.free ≡ free) (w₀ : m₀.wait ≡ wait) (n₀ : m₀.conf.nodes ≡ N)
    (ls₁ : ℕ → Bool) (hs₁ : Hist) (m₁ : Core) (b₁ : Book) (q₁ : List ℕ) (now₁ : ℕ) (a₁ : All ls₁ hs₁ m₁ b₁ q₁ now₁) (e₁ : Image)
    (en₁ : Ending hs₁.is m₁.conf e₁) (n₁ : m₁.conf.nodes ≡ N) (c : Coupled N free wait ls₀ ls₁) where
  -- a node with the first queue that neither recovers
  pub spare_of : (n : ℕ) × (n < N) × (ls₁ n ≡ true) × (recovered (head_of e₀) (e₀.at n) ≡ false) × (recovered (head_of e₁) (e₁.at n) ≡ false)
  spare_of =
      let s = spare_here ls₀ hs₀ m₀ b₀ q₀ now₀ a₀ e₀ en₀ in
      let l : ls₁ s.0 ≡ true = c.one s.0 (subst (λ k. s.0 < k) n₀ s.1) (ap (λ f. f s.0) (sym f₀) ∙ s.3) (ap (λ w. w s.0) (sym w₀) ∙ s.4)
      ∙ ap not s.2 in (
        s.0,
        subst (λ k. s.0 < k) n₀ s.1,
        l,
        s.5,
        lent_passed ls₁ hs₁ m₁ b₁ q₁ now₁ a₁ e₁ en₁ s.0 (subst (λ k. s.0 < k) (n₀ ∙ sym n₁) s.1) l,
      )

module _ (N : ℕ) (free : ℕ → Bool) (wait : ℕ → List ℕ)
    (ls₀ : ℕ → Bool) (hs₀ : Hist) (m₀ : Core) (b₀ : Book) (q₀ : List ℕ) (now₀ : ℕ) (a₀ : All ls₀ hs₀ m₀ b₀ q₀ now₀) (e₀ : Image)
    (en₀ : Ending hs₀.is m₀.conf e₀) (f₀ : m₀.free ≡ free) (w₀ : m₀.wait ≡ wait) (n₀ : m₀.conf.nodes ≡ N)
    (ls₁ : ℕ → Bool) (hs₁ : Hist) (m₁ : Core) (b₁ : Book) (q₁ : List ℕ) (now₁ : ℕ) (a₁ : All ls₁ hs₁ m₁ b₁ q₁ now₁) (e₁ : Image)
    (en₁ : Ending hs₁.is m₁.conf e₁) (f₁ : m₁.free ≡ free) (w₁ : m₁.wait ≡ wait) (n₁ : m₁.conf.nodes ≡ N)
    (c : Coupled N free wait ls₀ ls₁) where
  -- two of them, one with each queue: 8 never strikes
  pub two_spare : (n k : ℕ) × (n ≢ k) × ((n < N) × (recovered (head_of e₀) (e₀.at n) ≡ false) × (recovered (head_of e₁) (e₁.at n) ≡ false))
      × ((k < N) × (recovered (head_of e₀) (e₀.at k) ≡ false) × (recovered (head_of e₁) (e₁.at k) ≡ false))
  two_spare = (x.0, y.0, apart, (x.1, x.3, x.4), (y.1, y.4, y.3))
    where
      x : (n : ℕ) × (n < N) × (ls₁ n ≡ true) × (recovered (head_of e₀) (e₀.at n) ≡ false) × (recovered (head_of e₁) (e₁.at n) ≡ false)
      x = spare_of N free wait ls₀ hs₀ m₀ b₀ q₀ now₀ a₀ e₀ en₀ f₀ w₀ n₀ ls₁ hs₁ m₁ b₁ q₁ now₁ a₁ e₁ en₁ n₁ c

      y : (n : ℕ) × (n < N) × (ls₀ n ≡ true) × (recovered (head_of e₁) (e₁.at n) ≡ false) × (recovered (head_of e₀) (e₀.at n) ≡ false)
      y = spare_of N free wait ls₁ hs₁ m₁ b₁ q₁ now₁ a₁ e₁ en₁ f₁ w₁ n₁ ls₀ hs₀ m₀ b₀ q₀ now₀ a₀ e₀ en₀ n₀ (turned N free wait ls₀ ls₁ c)

      apart : x.0 ≢ y.0
      apart z = both (ap ls₁ (sym z) ∙ x.2)
        where
          both : ls₁ y.0 ≡ true → ⊥
          both h =
              let u = marks₀ in
              let v : ls₁ y.0 ≡ false = c.one y.0 y.1 u.0 u.1 ∙ ap not y.2 in
              let w : ◌≡◌ {A = ℕ} 0 1 = cc in
              omega arith
            where
              marks₀ : (free y.0 ≡ false) × (wait y.0 ≡ [])
              marks₀ = let s = lent_used ls₀ hs₀ m₀ b₀ q₀ now₀ a₀ y.0 y.2 in
                  (ap (λ f. f y.0) (sym f₀) ∙ s.0, ap (λ w. w y.0) (sym w₀) ∙ s.1)
