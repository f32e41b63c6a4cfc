-- Two queues over one table, each with its own invariant and its own view of which nodes are with the other: what is in use by one is lent to the
-- other's view, and a step on one queue keeps that.
use mathlib.Core.Path.{◌≡◌, refl, sym, ap, ◌∙◌}
use mathlib.Core.Bool.{Bool, true, false, not}
use mathlib.Core.List.{List, [], ◌∷◌, cons≢nil}
use mathlib.Core.Logic.{◌⊎◌, inl, inr}
use Prim.Native.Nat.{ℕ, ◌<◌}
use native.Mathlib.Omega.{arith}
use native.Mathlib.Decide.{ℕ_discrete}
use Rattle.model.specs.Basics.{upd}
use Rattle.model.specs.Core.{Core}
use Rattle.model.specs.Steps.{freed, remove, others}
use Rattle.model.specs.Bench.{Book}
use Rattle.model.proofs.Basics.{upd_at, upd_other, dec_true}
use Rattle.model.proofs.Times.{Hist}
use Rattle.model.proofs.Layer3.All.{All}
use Rattle.model.proofs.Layer3.Foreign.{Deed, begins, unseen, takes, puts, links, persists, flushing, fencing, answers, returns, retires}
use Rattle.model.proofs.Layer3.Foreign.{abroad, lent_after, Allowed}

-- a node of the table that neither is free nor waits is with one of the two: lent to the view of the other
pub record Coupled (N : ℕ) (free : ℕ → Bool) (wait : ℕ → List ℕ) (ls₀ ls₁ : ℕ → Bool) : Type 0 where
  pub one : (n : ℕ) → n < N → free n ≡ false → wait n ≡ [] → ls₁ n ≡ not (ls₀ n)

not_not : (b : Bool) → b ≡ not (not b)
not_not true = refl
not_not false = refl

-- either queue may be called the first
pub turned : (N : ℕ) (free : ℕ → Bool) (wait : ℕ → List ℕ) (ls₀ ls₁ : ℕ → Bool) → Coupled N free wait ls₀ ls₁ → Coupled N free wait ls₁ ls₀
turned N free wait ls₀ ls₁ c = record { one = λ n h f w. not_not (ls₀ n) ∙ ap not (sym (c.one n h f w)) }

-- what is lent is not free, and waits for nobody
pub lent_used : (ls : ℕ → Bool) (hs : Hist) (m : Core) (b : Book) (q₀ : List ℕ) (now : ℕ) → All ls hs m b q₀ now → (n : ℕ) → ls n ≡ true
    → (m.free n ≡ false) × (m.wait n ≡ [])
lent_used ls hs m b q₀ now a n h = rw ((a.lents n).1 h) at (a.inv.place.marks n)

-- a node that is not free after an answer, and waits for nobody, was so before
freed_was : (f : Bool) (w w' : List ℕ) → freed f w w' ≡ false → w' ≡ [] → (f ≡ false) × (w ≡ [])
freed_was true w w' e z = let y : ◌≡◌ {A = ℕ} 0 1 = cc in absurd (omega arith)
freed_was false [] w' e z = (refl, refl)
freed_was false (u ∷ w) [] e z = let y : ◌≡◌ {A = ℕ} 0 1 = cc in absurd (omega arith)
freed_was false (u ∷ w) (u' ∷ w') e z = absurd (cons≢nil z)

-- a step on the first queue, seen from the second, whose core is m
module _ (m : Core) (u : ℕ) (ls₀ ls₁ : ℕ → Bool) (used : (n : ℕ) → ls₀ n ≡ true → m.free n ≡ false)
    (c : Coupled m.conf.nodes m.free m.wait ls₀ ls₁) where
  leaves : (n : ℕ) → n < m.conf.nodes → freed (m.free n) (m.wait n) (remove u (m.wait n)) ≡ false → remove u (m.wait n) ≡ [] → ls₁ n ≡ not (ls₀ n)
  leaves n h f w = let b = freed_was (m.free n) (m.wait n) (remove u (m.wait n)) f w in c.one n h b.0 b.1

  pub coupled_on : (d : Deed) → Allowed d ls₁ m u
      → Coupled m.conf.nodes (abroad d m u).free (abroad d m u).wait ls₀ (lent_after d ls₁)
  coupled_on begins k = c
  coupled_on unseen k = c
  coupled_on (takes n) k = record { one = λ j h f w. by j h f w (ℕ_discrete j n) }
    where
      new : (ls₀ n ≡ true) ⊎ (ls₀ n ≡ false) → true ≡ not (ls₀ n)
      new (inl z) = let f = used n z in let y : ◌≡◌ {A = ℕ} 0 1 = cc in absurd (omega arith)
      new (inr z) = rw z refl

      by : (j : ℕ) → j < m.conf.nodes → upd m.free n false j ≡ false → m.wait j ≡ [] → Dec (j ≡ n) → upd ls₁ n true j ≡ not (ls₀ j)
      by j h f w (yes e) = upd_at ls₁ n true e ∙ new (dec_true (ls₀ n)) ∙ ap (λ y. not (ls₀ y)) (sym e)
      by j h f w (no ne) = upd_other ls₁ n true ne ∙ c.one j h (sym (upd_other m.free n false ne) ∙ f) w
  coupled_on (puts n a) k = c
  coupled_on (links n o) k = c
  coupled_on (persists l) k = c
  coupled_on flushing k = c
  coupled_on (fencing l) k = c
  coupled_on answers k = record { one = leaves }
  coupled_on (returns n) k = record { one = λ j h f w. by j h f w (ℕ_discrete j n) }
    where
      by : (j : ℕ) → j < m.conf.nodes → freed (upd m.free n true j) (m.wait j) (remove u (m.wait j)) ≡ false → remove u (m.wait j) ≡ [] → Dec (j ≡ n)
          → upd ls₁ n false j ≡ not (ls₀ j)
      by j h f w (yes e) =
          let b = (freed_was (upd m.free n true j) (m.wait j) (remove u (m.wait j)) f w).0 in
          let z = upd_at m.free n true e in
          let y : ◌≡◌ {A = ℕ} 0 1 = cc in
          absurd (omega arith)
      by j h f w (no ne) = upd_other ls₁ n false ne ∙ leaves j h (ap (λ x. freed x (m.wait j) (remove u (m.wait j))) (sym (upd_other m.free n true ne)) ∙ f) w
  coupled_on (retires n) k = record { one = λ j h f w. by j h f w (ℕ_discrete j n) }
    where
      by : (j : ℕ) → j < m.conf.nodes
          → freed (m.free j) (upd m.wait n (u ∷ others m.conf.threads u m.thr) j) (remove u (upd m.wait n (u ∷ others m.conf.threads u m.thr) j)) ≡ false
          → remove u (upd m.wait n (u ∷ others m.conf.threads u m.thr) j) ≡ [] → Dec (j ≡ n) → upd ls₁ n false j ≡ not (ls₀ j)
      by j h f w (yes e) =
          let b = (freed_was (m.free j) (upd m.wait n (u ∷ others m.conf.threads u m.thr) j) _ f w).1 in
          absurd (cons≢nil (sym (upd_at m.wait n (u ∷ others m.conf.threads u m.thr) e) ∙ b))
      by j h f w (no ne) =
          let z = upd_other m.wait n (u ∷ others m.conf.threads u m.thr) ne in
          upd_other ls₁ n false ne ∙ leaves j h (ap (λ x. freed (m.free j) x (remove u x)) (sym z) ∙ f) (ap (remove u) (sym z) ∙ w)
