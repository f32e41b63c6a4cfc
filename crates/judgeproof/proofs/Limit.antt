-- The limit cuts the search off and changes nothing else. Assumes nothing.
use Prim.Native.Nat.{ℕ, zero, suc, ◌+◌, ◌≤◌, ◌<◌}
use mathlib.Core.Path.{◌≡◌, refl, sym, ap, subst, ◌∙◌}
use mathlib.Core.Bool.{Bool, true, false, not}
use mathlib.Core.List.{List, [], ◌∷◌, ◌++◌}
use mathlib.Core.Logic.{◌⊎◌, inl, inr}
use mathlib.Core.Option.{Option, none, some}
use native.Mathlib.Omega.{arith}
use native.Mathlib.Decide.{dec_lt, dec_le}
use lib.ListN.{length}
use lib.Dec.{ltb}
use borrow.Author.Tests.{lt-ltb, le-ltb}
use Rattle.lists.proofs.BoolLaws.{no_way}
use Rattle.lawful.specs.Operation.{Operation}
use Rattle.judging.specs.Search.{Verdict, lawful, unlawful, undecided, Judged, judged, taking, finished, or_else, consider, scan, searched}

-- ---- the limit

abbrev pub always : ℕ → Bool
always _ = true

abbrev pub below : ℕ → ℕ → Bool
below L t = ltb t L

-- what a search that may try L operations makes of one that may try all
abbrev pub cut : ℕ → Bool → Judged → Judged
cut L true r = r
cut L false r = judged undecided L []

abbrev pub cut_at : ℕ → Judged → Judged
cut_at L r = cut L (ltb r.tries (suc L)) r

pub cut_few : (L : ℕ) (r : Judged) → r.tries ≤ L → cut_at L r ≡ r
cut_few L r h = ap (λ (x : Bool). cut L x r) (lt-ltb r.tries (suc L) (omega arith))

pub cut_many : (L : ℕ) (r : Judged) → L < r.tries → cut_at L r ≡ judged undecided L []
cut_many L r h = ap (λ (x : Bool). cut L x r) (le-ltb r.tries (suc L) (omega arith))

abbrev Next : Type 0
Next = List ℕ → List ℕ → ℕ → Judged

abbrev Grows : Next → Type 0
Grows f = (o q : List ℕ) (t : ℕ) → t ≤ (f o q t).tries

or_grows : (v : Verdict) (r : Judged) (go : ℕ → Judged) → ((t : ℕ) → t ≤ (go t).tries) → r.tries ≤ (or_else v r go).tries
or_grows lawful r go h = omega arith
or_grows unlawful r go h = h r.tries
or_grows undecided r go h = omega arith

module _ (ops : List Operation) (f : Next) (gf : Grows f) where
  scan_grows : (k : ℕ) (o q : List ℕ) (i t : ℕ) → t ≤ (scan always ops f k o q i t).tries
  unfolding scan
  scan_grows zero o q i t = omega arith
  scan_grows (suc k) o q i t = by (taking ops o q i) (scan_grows k o q (suc i))
    where
      by : (x : Option (List ℕ)) → ((u : ℕ) → u ≤ (scan always ops f k o q (suc i) u).tries)
          → t ≤ (consider always (f (o ++ (i ∷ []))) (scan always ops f k o q (suc i)) t x).tries
      by none h = h t
      by (some q') h =
          let r = f (o ++ (i ∷ [])) q' (suc t) in
          omega (arith, gf (o ++ (i ∷ [])) q' (suc t), or_grows r.verdict r (scan always ops f k o q (suc i)) h)

module _ (ops : List Operation) (L : ℕ) (f g : Next) (gf : Grows f) (cg : (o q : List ℕ) (t : ℕ) → t ≤ L → g o q t ≡ cut_at L (f o q t)) where
  scan_cut : (k : ℕ) (o q : List ℕ) (i t : ℕ) → t ≤ L → scan (below L) ops g k o q i t ≡ cut_at L (scan always ops f k o q i t)
  unfolding scan
  scan_cut zero o q i t h = sym (cut_few L (judged unlawful t []) h)
  scan_cut (suc k) o q i t h = by (taking ops o q i) (scan_cut k o q (suc i)) (scan_grows ops f gf k o q (suc i))
    where
      by : (x : Option (List ℕ)) → ((u : ℕ) → u ≤ L → scan (below L) ops g k o q (suc i) u ≡ cut_at L (scan always ops f k o q (suc i) u))
          → ((u : ℕ) → u ≤ (scan always ops f k o q (suc i) u).tries)
          → consider (below L) (g (o ++ (i ∷ []))) (scan (below L) ops g k o q (suc i)) t x
          ≡ cut_at L (consider always (f (o ++ (i ∷ []))) (scan always ops f k o q (suc i)) t x)
      by none c s = c t h
      by (some q') c s = on (dec_lt t L)
        where
          r : Judged
          r = f (o ++ (i ∷ [])) q' (suc t)

          old : ℕ → Judged
          old = scan always ops f k o q (suc i)

          new : ℕ → Judged
          new = scan (below L) ops g k o q (suc i)

          few : (v : Verdict) → r.tries ≤ L → or_else v r new ≡ cut_at L (or_else v r old)
          few lawful z = sym (cut_few L r z)
          few unlawful z = c r.tries z
          few undecided z = sym (cut_few L r z)

          many : (v : Verdict) → L < r.tries → judged undecided L [] ≡ cut_at L (or_else v r old)
          many v z = sym (cut_many L (or_else v r old) (omega (arith, or_grows v r old s)))

          inner : Dec (r.tries ≤ L) → t < L → or_else (g (o ++ (i ∷ [])) q' (suc t)).verdict (g (o ++ (i ∷ [])) q' (suc t)) new ≡ cut_at L (or_else r.verdict r old)
          inner (yes z) l = rw (cg (o ++ (i ∷ [])) q' (suc t) (omega arith), cut_few L r z) (few r.verdict z)
          inner (no z) l = rw (cg (o ++ (i ∷ [])) q' (suc t) (omega arith), cut_many L r (omega arith)) (many r.verdict (omega arith))

          on : Dec (t < L) → consider (below L) (g (o ++ (i ∷ []))) new t (some q') ≡ cut_at L (or_else r.verdict r old)
          on (yes l) = ap (λ (b : Bool). elim b as (λ _. Judged) [ true ↦ (let z = g (o ++ (i ∷ [])) q' (suc t) in or_else z.verdict z new) | false ↦ judged undecided t [] ]) (lt-ltb t L l) ∙ inner (dec_le r.tries L) l
          on (no l) =
              ap (λ (b : Bool). elim b as (λ _. Judged) [ true ↦ (let z = g (o ++ (i ∷ [])) q' (suc t) in or_else z.verdict z new) | false ↦ judged undecided t [] ]) (le-ltb t L (omega arith))
              ∙ ap (λ (u : ℕ). judged undecided u []) (omega arith) ∙ many r.verdict (omega (arith, gf (o ++ (i ∷ [])) q' (suc t)))

module _ (ops : List Operation) (last : List ℕ) where
  pub search_grows : (m : ℕ) → Grows (searched always ops last m)
  unfolding searched
  search_grows zero o q t = by (finished ops last o q)
    where
      by : (b : Bool) → t ≤ (elim b as (λ _. Judged) [ true ↦ judged lawful t o | false ↦ judged unlawful t [] ]).tries
      by true = omega arith
      by false = omega arith
  search_grows (suc m) o q t = by (finished ops last o q) (scan_grows ops (searched always ops last m) (search_grows m) (length ops) o q 0 t)
    where
      by : (b : Bool) → t ≤ (scan always ops (searched always ops last m) (length ops) o q 0 t).tries
          → t ≤ (elim b as (λ _. Judged) [ true ↦ judged lawful t o | false ↦ scan always ops (searched always ops last m) (length ops) o q 0 t ]).tries
      by true h = omega arith
      by false h = h

  -- with a limit: the same where the whole search tries no more, undecided at the limit where it tries more
  pub search_cut : (L m : ℕ) (o q : List ℕ) (t : ℕ) → t ≤ L → searched (below L) ops last m o q t ≡ cut_at L (searched always ops last m o q t)
  unfolding searched
  search_cut L zero o q t h = by (finished ops last o q)
    where
      by : (b : Bool) → ◌≡◌ {A = Judged} (elim b as (λ _. Judged) [ true ↦ judged lawful t o | false ↦ judged unlawful t [] ])
          (cut_at L (elim b as (λ _. Judged) [ true ↦ judged lawful t o | false ↦ judged unlawful t [] ]))
      by true = sym (cut_few L (judged lawful t o) h)
      by false = sym (cut_few L (judged unlawful t []) h)
  search_cut L (suc m) o q t h =
      by (finished ops last o q) (scan_cut ops L (searched always ops last m) (searched (below L) ops last m) (search_grows m) (search_cut L m) (length ops) o q 0 t h)
    where
      by : (b : Bool) → scan (below L) ops (searched (below L) ops last m) (length ops) o q 0 t ≡ cut_at L (scan always ops (searched always ops last m) (length ops) o q 0 t)
          → ◌≡◌ {A = Judged} (elim b as (λ _. Judged) [ true ↦ judged lawful t o | false ↦ scan (below L) ops (searched (below L) ops last m) (length ops) o q 0 t ])
          (cut_at L (elim b as (λ _. Judged) [ true ↦ judged lawful t o | false ↦ scan always ops (searched always ops last m) (length ops) o q 0 t ]))
      by true e = sym (cut_few L (judged lawful t o) h)
      by false e = e
