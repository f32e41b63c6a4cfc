-- When each verdict is said. Assumes nothing.
use Prim.Native.Nat.{ℕ, zero, suc, ◌≤◌, ◌<◌}
use mathlib.Core.Path.{◌≡◌, refl, sym, ap, subst, ◌∙◌}
use mathlib.Core.Bool.{Bool, true, false}
use mathlib.Core.List.{List, [], ◌∷◌, ◌++◌}
use mathlib.Core.Logic.{◌↔◌}
use mathlib.Core.Option.{Option, none, some}
use native.Mathlib.Omega.{arith}
use native.Mathlib.Decide.{dec_le}
use lib.ListN.{length}
use lib.Dec.{ltb}
use Rattle.lawful.specs.Operation.{Operation}
use Rattle.lawful.specs.Lawful.{Lawful}
use Rattle.judging.specs.Search.{Verdict, lawful, unlawful, undecided, Judged, judged, taking, finished, or_else, consider, scan, searched, judged_of, whole_search}
use Rattle.judgeproof.proofs.Limit.{cut_few, cut_many, always, search_cut}
use Rattle.judgeproof.proofs.Orders as laws

abbrev Decided : Judged → Type 0
Decided r = r.verdict ≡ undecided → ⊥

lawful_decided : ◌≡◌ {A = Verdict} lawful undecided → ⊥
lawful_decided e = let w : ◌≡◌ {A = ℕ} 0 1 = cc in omega arith

unlawful_decided : ◌≡◌ {A = Verdict} unlawful undecided → ⊥
unlawful_decided e = let w : ◌≡◌ {A = ℕ} 0 1 = cc in omega arith

or_decided : (v : Verdict) (r : Judged) → r.verdict ≡ v → Decided r → (go : ℕ → Judged) → ((t : ℕ) → Decided (go t)) → Decided (or_else v r go)
or_decided lawful r e d go h = d
or_decided unlawful r e d go h = h r.tries
or_decided undecided r e d go h = absurd (d e)

module _ (ops : List Operation) (last : List ℕ) where
  scan_decided : (f : List ℕ → List ℕ → ℕ → Judged) → ((o q : List ℕ) (t : ℕ) → Decided (f o q t)) → (k : ℕ) (o q : List ℕ) (i t : ℕ) → Decided (scan always ops f k o q i t)
  unfolding scan
  scan_decided f d zero o q i t = unlawful_decided
  scan_decided f d (suc k) o q i t = by (taking ops o q i) (λ u. scan_decided f d k o q (suc i) u)
    where
      by : (x : Option (List ℕ)) → ((u : ℕ) → Decided (scan always ops f k o q (suc i) u)) → Decided (consider always (f (o ++ (i ∷ []))) (scan always ops f k o q (suc i)) t x)
      by none h = h t
      by (some q') h = let r = f (o ++ (i ∷ [])) q' (suc t) in or_decided r.verdict r refl (d (o ++ (i ∷ [])) q' (suc t)) (scan always ops f k o q (suc i)) h

  whole_decided : (m : ℕ) (o q : List ℕ) (t : ℕ) → Decided (searched always ops last m o q t)
  unfolding searched
  whole_decided zero o q t = by (finished ops last o q)
    where
      by : (b : Bool) → Decided (elim b as (λ _. Judged) [ true ↦ judged lawful t o | false ↦ judged unlawful t [] ])
      by true = lawful_decided
      by false = unlawful_decided
  whole_decided (suc m) o q t = by (finished ops last o q) (scan_decided (searched always ops last m) (whole_decided m) (length ops) o q 0 t)
    where
      by : (b : Bool) → Decided (scan always ops (searched always ops last m) (length ops) o q 0 t)
          → Decided (elim b as (λ _. Judged) [ true ↦ judged lawful t o | false ↦ scan always ops (searched always ops last m) (length ops) o q 0 t ])
      by true h = lawful_decided
      by false h = h

  module _ (first : List ℕ) (sane : laws.Sane ops first last) where
    abbrev pub W : Judged
    W = whole_search ops first last

    abbrev pub J : Judged
    J = judged_of ops first last

    pub few : W.tries ≤ 1000000 → J ≡ W
    few h = search_cut ops last 1000000 (length ops) [] first 0 (omega arith) ∙ cut_few 1000000 W h

    pub many : 1000000 < W.tries → J ≡ judged undecided 1000000 []
    many h = search_cut ops last 1000000 (length ops) [] first 0 (omega arith) ∙ cut_many 1000000 W h

    -- "Unlawful is said exactly when no order exists and the search, carried to its end, tries fewer than 1,000,001 operations"
    pub unlawful_exactly : (J.verdict ≡ unlawful) ↔ ((Lawful ops first last → ⊥) × (W.tries < 1000001))
    unlawful_exactly = (there, back)
      where
        there : J.verdict ≡ unlawful → (Lawful ops first last → ⊥) × (W.tries < 1000001)
        there e = (λ w. laws.complete ops first last sane (λ t. ltb t 1000000) w e, by (dec_le W.tries 1000000))
          where
            by : Dec (W.tries ≤ 1000000) → W.tries < 1000001
            by (yes h) = omega arith
            by (no h) = absurd (unlawful_decided (sym e ∙ ap (λ (r : Judged). r.verdict) (many (omega arith))))

        back : (Lawful ops first last → ⊥) × (W.tries < 1000001) → J.verdict ≡ unlawful
        back p = ap (λ (r : Judged). r.verdict) (few (omega (arith, p.1))) ∙ by W.verdict refl
          where
            by : (v : Verdict) → W.verdict ≡ v → v ≡ unlawful
            by lawful e = absurd (p.0 (laws.sound ops first last always e))
            by unlawful e = refl
            by undecided e = absurd (whole_decided (length ops) [] first 0 e)

    -- "Undecided is said only when a further one would be needed"
    pub undecided_only : J.verdict ≡ undecided → (1000000 < W.tries) × (J.tries ≡ 1000000)
    undecided_only e = by (dec_le W.tries 1000000)
      where
        by : Dec (W.tries ≤ 1000000) → (1000000 < W.tries) × (J.tries ≡ 1000000)
        by (yes h) = absurd (whole_decided (length ops) [] first 0 (sym (ap (λ (r : Judged). r.verdict) (few h)) ∙ e))
        by (no h) = (omega arith, ap (λ (r : Judged). r.tries) (many (omega arith)))
