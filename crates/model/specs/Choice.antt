-- Which free node A1 takes: the lowest-numbered, as document 01 says; or the first after the one last handed out. Each with its two laws.
use Rattle.std.specs.Prelude.{◌≡◌, refl, Bool, true, false, ℕ, zero, suc, ◌+◌, ◌-◌, ◌≤◌, ◌<◌}
use Rattle.std.proofs.Common.{ap, ◌∙◌, arith}
use Rattle.std.proofs.Math.Option.{Option, none, some}
use Rattle.std.proofs.Math.Decide.{ℕ_discrete}
use Rattle.model.specs.Conf.{Chooser}

-- the lowest of k numbers from i on that is in the set
unfoldable pub lowest : ℕ → ℕ → (ℕ → Bool) → Option ℕ
lowest zero i f = none
lowest (suc k) i f = elim (f i) [ true ↦ some i | false ↦ lowest k (suc i) f ]

pub lowest_free : (k i : ℕ) (f : ℕ → Bool) (n : ℕ) → lowest k i f ≡ some n → f n ≡ true
unfolding lowest
lowest_free zero i f n e = let z : ◌≡◌ {A = ℕ} 0 1 = cc in absurd (omega arith)
lowest_free (suc k) i f n e = by (f i) refl (lowest_free k (suc i) f n) e
  where
    by : (b : Bool) → f i ≡ b → (lowest k (suc i) f ≡ some n → f n ≡ true)
        → elim b as (λ _. Option ℕ) [ true ↦ some i | false ↦ lowest k (suc i) f ] ≡ some n → f n ≡ true
    by true h r e' = let z : i ≡ n = cc in rw (← z) h
    by false h r e' = r e'

pub lowest_none : (k i : ℕ) (f : ℕ → Bool) → lowest k i f ≡ none → (n : ℕ) → i ≤ n → n < i + k → f n ≡ false
unfolding lowest
lowest_none zero i f e n a b = absurd (omega arith)
lowest_none (suc k) i f e n a b = by (f i) refl (λ x. lowest_none k (suc i) f x n) e
  where
    by : (t : Bool) → f i ≡ t → (lowest k (suc i) f ≡ none → suc i ≤ n → n < suc i + k → f n ≡ false)
        → ◌≡◌ {A = Option ℕ} (elim t as (λ _. Option ℕ) [ true ↦ some i | false ↦ lowest k (suc i) f ]) none → f n ≡ false
    by true h r e' = let z : ◌≡◌ {A = ℕ} 0 1 = cc in absurd (omega arith)
    by false h r e' = at (ℕ_discrete n i)
      where
        at : Dec (n ≡ i) → f n ≡ false
        at (yes w) = ap f w ∙ h
        at (no w) = r e' (omega arith) (omega arith)

-- document 01's choice
unfoldable pub lowest_first : Chooser
lowest_first = record {
  pick = λ N last f. lowest N 0 f;
  is_free = λ N last f n e. lowest_free N 0 f n e;
  none_free = λ N last f e n h. lowest_none N 0 f e n (omega arith) (omega arith);
}

-- ---- the first free node after the one last handed out, going round past the end

abbrev pub else_try : Option ℕ → Option ℕ → Option ℕ
else_try none o = o
else_try (some n) o = some n

unfoldable pub round_table : ℕ → ℕ → (ℕ → Bool) → Option ℕ
round_table N last f = else_try (lowest (N - suc last) (suc last) f) (lowest N 0 f)

pub round_free : (N last : ℕ) (f : ℕ → Bool) (n : ℕ) → round_table N last f ≡ some n → f n ≡ true
unfolding round_table
round_free N last f n e = by (lowest (N - suc last) (suc last) f) refl e
  where
    by : (o : Option ℕ) → lowest (N - suc last) (suc last) f ≡ o → else_try o (lowest N 0 f) ≡ some n → f n ≡ true
    by none h e' = lowest_free N 0 f n e'
    by (some k) h e' = lowest_free (N - suc last) (suc last) f n (h ∙ e')

pub round_none : (N last : ℕ) (f : ℕ → Bool) → round_table N last f ≡ none → (n : ℕ) → n < N → f n ≡ false
unfolding round_table
round_none N last f e n h = by (lowest (N - suc last) (suc last) f) e
  where
    by : (o : Option ℕ) → else_try o (lowest N 0 f) ≡ none → f n ≡ false
    by none e' = lowest_none N 0 f e' n (omega arith) (omega arith)
    by (some k) e' = let z : ◌≡◌ {A = ℕ} 0 1 = cc in absurd (omega arith)

unfoldable pub rotation : Chooser
rotation = record {
  pick = λ N last f. round_table N last f;
  is_free = λ N last f n e. round_free N last f n e;
  none_free = λ N last f e n h. round_none N last f e n h;
}
