-- A schedule of which the first p bytes are there, and zeros behind them.
use Prim.Native.Nat.{ℕ, ◌+◌, ◌-◌, ◌≤◌}
use mathlib.Core.Path.{◌≡◌, sym, ap, ap₂, ◌∙◌}
use mathlib.Core.List.{List, ◌++◌, append_assoc}
use native.Mathlib.Omega.{arith}
use lib.ListN.{length, take, drop, replicate, length-append, length-drop, length-replicate, replicate-append-replicate}
use lib.Seq.{length-take-le, take_at, drop_at, drop-drop, take-add}
use Rattle.lists.specs.Tab.{over}
use Rattle.lists.proofs.TabLaws as tabs

abbrev pub zero : ℕ → List ℕ
zero n = replicate n 0

abbrev pub file : List ℕ → ℕ → List ℕ
file s p = take p s ++ zero (length s - p)

module _ (s : List ℕ) (p k : ℕ) (h : p + k ≤ length s) where
  zeros : zero (length s - p) ≡ zero k ++ zero (length s - (p + k))
  zeros =
      let e : length s - p ≡ k + (length s - (p + k)) = omega arith in
      ap zero e ∙ sym (replicate-append-replicate {A = ℕ} k (length s - (p + k)) 0)

  long : length (take k (drop p s)) ≡ k
  long = length-take-le k (drop p s) (omega (arith, length-drop p s))

  pub length_file : length (file s p) ≡ length s
  length_file =
      length-append (take p s) (zero (length s - p))
      ∙ omega (arith, length-take-le p s (omega arith), length-replicate {A = ℕ} (length s - p) 0)

  behind : drop (p + k) (file s p) ≡ zero (length s - (p + k))
  behind =
      sym (drop-drop k p (file s p))
      ∙ ap (drop k) (drop_at (take p s) (zero (length s - p)) p (length-take-le p s (omega arith)) ∙ zeros)
      ∙ drop_at (zero k) (zero (length s - (p + k))) k (length-replicate {A = ℕ} k 0)

  -- the next bytes are put behind those that are there
  pub put_next : over (file s p) p (take k (drop p s)) ≡ file s (p + k)
  put_next =
      tabs.over_is (file s p) p (take k (drop p s)) (omega (arith, long, length_file))
      ∙ ap₂ (λ a b. a ++ take k (drop p s) ++ b) (take_at (take p s) (zero (length s - p)) p (length-take-le p s (omega arith)))
      (ap (λ n. drop (p + n) (file s p)) long ∙ behind)
      ∙ ap (λ a. a ++ zero (length s - (p + k))) (sym (take-add p k s))

  -- they are zeros: nothing is put
  pub put_none : take k (drop p s) ≡ zero k → file s p ≡ file s (p + k)
  put_none e =
      ap (λ z. take p s ++ z) (zeros ∙ ap (λ z. z ++ zero (length s - (p + k))) (sym e))
      ∙ sym (append_assoc (take p s) (take k (drop p s)) (zero (length s - (p + k))))
      ∙ ap (λ a. a ++ zero (length s - (p + k))) (sym (take-add p k s))
