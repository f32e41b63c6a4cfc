-- Bytes compared, one after the other.
use Prim.Native.Nat.{ℕ, ◌+◌, ◌*◌, ◌<◌}
use mathlib.Core.Path.{◌≡◌, refl, sym, ap, ◌∙◌}
use mathlib.Core.Bool.{true, false, not}
use mathlib.Core.List.{List}
use mathlib.Core.Logic.{◌≢◌}
use lib.ListN.{get_or}
use lib.Dec.{eqb}
use borrow.Author.Tests.{eq-eqb, ne_eqb}
use Rattle.lists.specs.Find.{any}
use Rattle.lists.proofs.FindLaws as find
use Rattle.plainway.specs.Noting.{differs, same_at, is_noted}

module _ (b : List ℕ) (at : ℕ) (x : List ℕ) where
  pub differs_none : differs b at x 0 ≡ false
  unfolding differs any
  differs_none = refl

  pub differs_more : (i : ℕ) → differs b at x i ≡ false → get_or b (at + i) 0 ≡ get_or x i 0 → differs b at x (i + 1) ≡ false
  unfolding differs
  differs_more i h e = find.any_more (λ k. not (eqb (get_or b (at + k) 0) (get_or x k 0))) i h (ap not (eq-eqb (get_or b (at + i) 0) (get_or x i 0) e))

  pub differs_here : (n i : ℕ) → i < n → get_or b (at + i) 0 ≢ get_or x i 0 → false ≡ same_at b at x n
  unfolding same_at differs
  differs_here n i h e = sym (ap not (find.any_hit (λ k. not (eqb (get_or b (at + k) 0) (get_or x k 0))) n i h (ap not (ne_eqb (get_or b (at + i) 0) (get_or x i 0) e))))

  pub same_end : (n i : ℕ) → i ≡ n → differs b at x i ≡ false → true ≡ same_at b at x n
  unfolding same_at
  same_end n i e h = sym (ap not (ap (differs b at x) (sym e) ∙ h))

module _ (b x : List ℕ) (n : ℕ) where
  pub noted_none : is_noted b 0 x n ≡ false
  unfolding is_noted any
  noted_none = refl

  pub noted_more : (i : ℕ) → is_noted b i x n ≡ false → same_at b (i * n) x n ≡ false → is_noted b (i + 1) x n ≡ false
  unfolding is_noted
  noted_more i h e = find.any_more (λ k. same_at b (k * n) x n) i h e

  pub noted_here : (c i : ℕ) → i < c → same_at b (i * n) x n ≡ true → true ≡ is_noted b c x n
  unfolding is_noted
  noted_here c i h e = sym (find.any_hit (λ k. same_at b (k * n) x n) c i h e)
