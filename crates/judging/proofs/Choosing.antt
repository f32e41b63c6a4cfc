-- One step of the search at a place: which operation is eligible next, and what its taking tells. Assumes nothing.
use Prim.Native.Nat.{ℕ, ◌+◌, ◌-◌, ◌≤◌, ◌<◌}
use mathlib.Core.Path.{◌≡◌, refl, sym, ap, subst, ◌∙◌}
use mathlib.Core.Bool.{true}
use mathlib.Core.List.{List}
use mathlib.Core.Logic.{◌⊎◌, inl, inr}
use native.Mathlib.Omega.{arith}
use Rattle.std.specs.Prelude.{Option, Some, None}
use Rattle.lawful.specs.Demand3.{Bytes}
use Rattle.judging.specs.History.{count_in}
use Rattle.judging.specs.Search as S
use Rattle.judging.specs.Search.{Judged}
use Rattle.judging.specs.Place.{is_eligible, next_from, took, fresh, found, Whole, Clear, Ready}
use Rattle.judging.specs.Judged.{number_of, verdict_in, said_of, said_none, searched_at, asked_at}
use Rattle.judging.specs.declared.Judgement.{Judgement}
use Rattle.judging.specs.declared.Place.{Place}
use Rattle.judging.specs.declared.Verdict.{Verdict}
use Rattle.judging.specs.declared.Verdict.TheVariants.{Lawful, Unlawful, Undecided}
use Rattle.judging.proofs.Found.{found_some, found_none}
use Rattle.judging.proofs.Shown as shown
use Rattle.judging.proofs.Turns as turns

zero_of : (v : S.Verdict) → verdict_in v ≡ Unlawful → number_of v ≡ 0
zero_of S.unlawful e = refl
zero_of S.lawful e = cc
zero_of S.undecided e = cc

unlawful_of : (v : S.Verdict) → number_of v ≡ 0 → verdict_in v ≡ Unlawful
unlawful_of S.unlawful e = refl
unlawful_of S.lawful e = absurd (omega arith)
unlawful_of S.undecided e = absurd (omega arith)

told_apart : (v : Verdict) → (v ≡ Lawful) ⊎ (v ≡ Undecided) → v ≡ Unlawful → ⊥
told_apart v (inl h) e = cc
told_apart v (inr h) e = cc

-- the place before the first taking, and the place after one
pub ready_first : (s : List ℕ) (x : Place) → Bytes s → Whole s → Clear s → x ≡ fresh s → Ready s (count_in s) x
ready_first s x b w c e = subst (Ready s (count_in s)) (sym e) (shown.ready_fresh s b w c)

pub ready_next : (s : List ℕ) (left : ℕ) (x y : Place) (i : ℕ) → Ready s left x → i < count_in s → 0 < left → y ≡ took s x i → Ready s (left - 1) y
ready_next s left x y i r h z e = subst (Ready s (left - 1)) (sym e) (shown.ready_took s left x r i h z)

module _ (s : List ℕ) (left : ℕ) (x : Place) (r : Ready s left x) (i t : ℕ) (b : i ≤ count_in s) where
  abbrev Goal : Judgement
  Goal = said_of (asked_at s left (count_in s - i) x i t)

  -- nothing is left, or none is eligible
  pub none_left : left ≡ 0 → said_none Unlawful t ≡ Goal
  unfolding asked_at
  none_left e = rw e (sym (turns.said_none_lem t))

  module _ (z : 0 < left) (o : Option ℕ) (e : o ≡ found (count_in s) (next_from s x i)) where
    passed : said_of (asked_at s left (count_in s - next_from s x i) x (next_from s x i) t) ≡ Goal
    passed = sym (ap said_of (turns.passes_to s left x r (count_in s) i t refl z))

    pub none_eligible : o ≡ None → said_none Unlawful t ≡ Goal
    none_eligible w =
        let n : next_from s x i ≡ count_in s = omega (arith, found_none _ _ o e w, (turns.next_le s left x r i b).1) in
        turns.at_none s left x r (count_in s) (next_from s x i) t n ∙ passed

    -- operation j is the next
    module _ (j : ℕ) (w : o ≡ Some j) where
      same : next_from s x i ≡ j
      same = (found_some _ _ j o e w).0

      pub within : j < count_in s
      within = omega (arith, same, (found_some _ _ j o e w).1)

      pub after : i ≤ j
      after = omega (arith, same, (turns.next_le s left x r i b).0)

      pub eligible : is_eligible s x j ≡ true
      eligible = subst (λ (k : ℕ). is_eligible s x k ≡ true) same (turns.next_eligible s left x r i b (omega (arith, same, within)))

      to_next : said_of (asked_at s left (count_in s - j) x j t) ≡ Goal
      to_next = ap (λ (k : ℕ). said_of (asked_at s left (count_in s - k) x k t)) (sym same) ∙ passed

      pub stops : 1000000 ≤ t → said_none Undecided t ≡ Goal
      stops l = sym (turns.said_undecided t) ∙ sym (ap said_of (turns.stops s left x r (count_in s) j t refl within z eligible l)) ∙ to_next

      -- q is what its taking told
      module _ (l : t < 1000000) (q : Judgement) (d : q ≡ said_of (searched_at s (left - 1) (took s x j) (t + 1))) where
        pub hits : (q.verdict ≡ Lawful) ⊎ (q.verdict ≡ Undecided) → q ≡ Goal
        hits n =
            d ∙ sym (ap said_of (turns.hits s left x r (count_in s) j t refl within z eligible l (λ k. told_apart q.verdict n (ap (λ (u : Judgement). u.verdict) d ∙ unlawful_of _ k))))
            ∙ to_next

        pub misses : q.verdict ≡ Unlawful → (v : Judgement) → v ≡ said_of (asked_at s left (count_in s - (j + 1)) x (j + 1) q.tries) → v ≡ Goal
        misses n v f =
            f ∙ ap (λ (u : ℕ). said_of (asked_at s left (count_in s - (j + 1)) x (j + 1) u)) (ap (λ (u : Judgement). u.tries) d)
            ∙ sym (ap said_of (turns.misses s left x r (count_in s) j t refl within z eligible l (zero_of _ (sym (ap (λ (u : Judgement). u.verdict) d) ∙ n)))) ∙ to_next
