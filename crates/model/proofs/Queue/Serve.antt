-- The effects in their order, those that an ending keeps, take the plain queue from the start queue to the ending's. Lists and numbers only.
use mathlib.Core.Path.{◌≡◌, refl, sym, ap, ◌∙◌}
use mathlib.Core.Bool.{Bool, true, false}
use mathlib.Core.List.{List, [], ◌∷◌, ◌++◌}
use mathlib.Core.Logic.{◌⊎◌, inl, inr}
use mathlib.Core.Option.{Option, none, some}
use Prim.Native.Nat.{ℕ, zero, suc, ◌≤◌, ◌<◌, min}
use native.Mathlib.Omega.{arith}
use native.Mathlib.Decide.{dec_le, ℕ_discrete}
use lib.Dec.{eqb, eqb_refl, ltb, leb}
use Rattle.model.specs.Basics.{bothb}
use Rattle.model.specs.Core.{Ans, nothing, done, full, worn, empty, item}
use Rattle.model.specs.Lawful.{Op, serve, serve_all, and_then, put_by, take_by}
use Rattle.model.proofs.Basics.{yes_of, lt_no, lt_true, le_true, not_le}
use Rattle.model.proofs.Layer3.Effects.{Lin, What, put, get, saw, nay, Sound, Effect, Fits, has_l, Okay}

-- x at the end of the list, if the test says so
abbrev pub add_if : Bool → ℕ → List ℕ → List ℕ
add_if true x l = l ++ x ∷ []
add_if false x l = l

module _ (it : ℕ → ℕ) (keep : ℕ → Bool) where
  -- the items at the places after a and before b that are kept
  unfoldable pub seg : ℕ → ℕ → List ℕ
  seg a zero = []
  seg a (suc b) = add_if (bothb (ltb a b) (keep b)) (it b) (seg a b)

  pub seg_none : (a b : ℕ) → b ≤ suc a → seg a b ≡ []
  unfolding seg
  seg_none a zero h = refl
  seg_none a (suc b) h = rw (lt_no a b (omega arith)) (seg_none a b (omega arith))

  seg_yes : (a b : ℕ) → a < b → keep b ≡ true → seg a (suc b) ≡ seg a b ++ it b ∷ []
  unfolding seg
  seg_yes a b h k = rw (lt_true a b h, k) refl

  seg_no : (a b : ℕ) → keep b ≡ false → seg a (suc b) ≡ seg a b
  unfolding seg
  seg_no a b k = rw k (off (ltb a b))
    where
      off : (x : Bool) → add_if (bothb x false) (it b) (seg a b) ≡ seg a b
      off true = refl
      off false = refl

  -- the first of them
  pub seg_first : (a b : ℕ) → suc a < b → keep (suc a) ≡ true → seg a b ≡ it (suc a) ∷ seg (suc a) b
  seg_first a zero h k = absurd (omega arith)
  seg_first a (suc b) h k = by (ℕ_discrete (suc a) b) (λ g. seg_first a b g k)
    where
      by : Dec (suc a ≡ b) → (suc a < b → seg a b ≡ it (suc a) ∷ seg (suc a) b) → seg a (suc b) ≡ it (suc a) ∷ seg (suc a) (suc b)
      by (yes e) r = seg_yes a b (omega arith) (rw (← e) k) ∙ ap (λ l. l ++ it b ∷ []) (seg_none a b (omega arith)) ∙ ap (λ x. it x ∷ []) (sym e)
          ∙ ap (λ l. it (suc a) ∷ l) (sym (seg_none (suc a) (suc b) (omega arith)))
      by (no ne) r = at (keep b) refl
        where
          at : (x : Bool) → keep b ≡ x → seg a (suc b) ≡ it (suc a) ∷ seg (suc a) (suc b)
          at true e = seg_yes a b (omega arith) e ∙ ap (λ l. l ++ it b ∷ []) (r (omega arith)) ∙ ap (λ l. it (suc a) ∷ l)
              (sym (seg_yes (suc a) b (omega arith) e))
          at false e = seg_no a b e ∙ r (omega arith) ∙ ap (λ l. it (suc a) ∷ l) (sym (seg_no (suc a) b e))

  module _ (op : ℕ → Op) (k : ℕ) where
    unfoldable pub answered : Ans → Bool
    answered nothing = false
    answered done = true
    answered full = true
    answered worn = true
    answered empty = true
    answered (item v) = true

    unfoldable pub stays : Lin → What → Bool
    stays e (put p) = keep p
    stays e (get p) = leb p k
    stays e (saw p) = answered (op e.by).said
    stays e nay = true

    -- oldest first
    unfoldable pub order : List Lin → List ℕ
    order [] = []
    order (e ∷ l) = add_if (stays e e.what) e.by (order l)

    serve_snoc : (xs : List ℕ) (o : ℕ) (q : List ℕ) → serve_all op (xs ++ o ∷ []) q ≡ and_then (serve_all op xs q) (λ q'. serve (op o).call (op o).said q')
    unfolding serve_all
    serve_snoc [] o q = by (serve (op o).call (op o).said q)
      where
        by : (x : Option (List ℕ)) → and_then x (λ q'. some q') ≡ x
        by none = refl
        by (some y) = refl
    serve_snoc (x ∷ xs) o q = by (serve (op x).call (op x).said q) (serve_snoc xs o)
      where
        by : (y : Option (List ℕ)) → ((q : List ℕ) → serve_all op (xs ++ o ∷ []) q ≡ and_then (serve_all op xs q) (λ q'. serve (op o).call (op o).said q'))
            → and_then y (λ q'. serve_all op (xs ++ o ∷ []) q') ≡ and_then (and_then y (λ q'. serve_all op xs q')) (λ q'. serve (op o).call (op o).said q')
        by none r = refl
        by (some z) r = r z

    module _ (first len pp : ℕ) (safe : ℕ → Bool) (pps : pp ≤ k)
        (low : (p : ℕ) → p ≤ k → keep p ≡ true) where
      one : (l : List Lin) (e : Lin) (a b : List ℕ) (q₀ : List ℕ) → serve_all op (order l) q₀ ≡ some a
          → serve (op e.by).call (op e.by).said a ≡ some b → stays e e.what ≡ true → serve_all op (order (e ∷ l)) q₀ ≡ some b
      unfolding order
      one l e a b q₀ h s t = rw t (serve_snoc (order l) e.by q₀ ∙ ap (λ y. and_then y (λ q'. serve (op e.by).call (op e.by).said q')) h ∙ s)

      skip : (l : List Lin) (e : Lin) (b : List ℕ) (q₀ : List ℕ) → serve_all op (order l) q₀ ≡ some b → stays e e.what ≡ false
          → serve_all op (order (e ∷ l)) q₀ ≡ some b
      unfolding order
      skip l e b q₀ h t = rw t h

      -- what an operation makes of the queue
      puts : (v : ℕ) (a : Ans) (X : Type 0) (q : List ℕ) → Okay a done X → put_by a v q ≡ some (q ++ v ∷ [])
      puts v a X q (inl e) = rw e refl
      puts v a X q (inr e) = rw e.0 refl

      gets : (v : ℕ) (a : Ans) (X : Type 0) (q : List ℕ) → Okay a (item v) X → take_by a (v ∷ q) ≡ some q
      gets v a X q (inl e) = rw e refl
      gets v a X q (inr e) = rw (e.0, yes_of (eqb v v) (eqb_refl v)) refl

      pub plays : (l : List Lin) (hp n : ℕ) → Sound first l hp n → ((e : Lin) → has_l e l → Fits (op e.by) len pp it safe e.what)
          → serve_all op (order l) (seg 0 first) ≡ some (seg (min hp k) n)
      unfolding order serve_all stays answered
      plays [] hp n s f = ap some (ap (seg 0) (sym s.1) ∙ ap (λ a. seg a n) (let z : 0 ≡ min hp k = omega (arith, s.0) in z))
      plays (e ∷ l) hp n s f = by e.what refl s (f e (inl refl)) (λ hp n s. plays l hp n s (λ d h. f d (inr h)))
        where
          by : (w : What) → e.what ≡ w → Effect w hp n (Sound first l) → Fits (op e.by) len pp it safe w
              → ((hp n : ℕ) → Sound first l hp n → serve_all op (order l) (seg 0 first) ≡ some (seg (min hp k) n))
              → serve_all op (order (e ∷ l)) (seg 0 first) ≡ some (seg (min hp k) n)
          by (put p) ew s f r = at (keep p) refl
            where
              at : (b : Bool) → keep p ≡ b → serve_all op (order (e ∷ l)) (seg 0 first) ≡ some (seg (min hp k) n)
              at true h = one l e (seg (min hp k) p) (seg (min hp k) n) (seg 0 first) (r hp p s.2)
                  (rw (f.1, s.0) (puts (it p) (op e.by).said (safe p ≡ true) (seg (min hp k) p) f.2
                  ∙ ap some (sym (seg_yes (min hp k) p (omega (arith, s.1)) h)))) (ap (stays e) ew ∙ h)
              at false h = skip l e (seg (min hp k) n) (seg 0 first) (r hp p s.2
                  ∙ ap some (sym (ap (seg (min hp k)) s.0 ∙ seg_no (min hp k) p h))) (ap (stays e) ew ∙ h)
          by (get p) ew s f r = at (dec_le p k)
            where
              at : Dec (p ≤ k) → serve_all op (order (e ∷ l)) (seg 0 first) ≡ some (seg (min hp k) n)
              at (yes h) =
                  let mh : min hp k ≡ suc s.0 = omega (arith, s.1, s.2) in
                  let m0 : min s.0 k ≡ s.0 = omega (arith, s.1, s.2) in
                  let ph : p ≡ suc s.0 = omega (arith, s.1, s.2) in
                  let q : seg (min s.0 k) n ≡ it p ∷ seg (min hp k) n =
                  rw (m0, mh, ph) (seg_first s.0 n (omega (arith, s.1, s.3)) (low (suc s.0) (omega (arith, s.1, s.2)))) in
                  one l e (it p ∷ seg (min hp k) n) (seg (min hp k) n) (seg 0 first) (r s.0 n s.4 ∙ ap some q)
                  (rw f.1 (gets (it p) (op e.by).said (p ≤ pp) (seg (min hp k) n) f.2)) (ap (stays e) ew ∙ le_true p k h)
              at (no h) = skip l e (seg (min hp k) n) (seg 0 first)
                  (r s.0 n s.4 ∙ ap some (ap (λ a. seg a n) (let z : min s.0 k ≡ min hp k = omega (arith, s.1, s.2) in z)))
                  (ap (stays e) ew ∙ not_le p k (omega arith))
          by (saw p) ew s f r = at f.2
            where
              at : Okay (op e.by).said empty (p ≤ pp) → serve_all op (order (e ∷ l)) (seg 0 first) ≡ some (seg (min hp k) n)
              at (inl h) = skip l e (seg (min hp k) n) (seg 0 first) (r hp n s.2) (ap (stays e) ew ∙ ap answered h)
              at (inr h) =
                  let z : seg (min hp k) n ≡ [] = seg_none (min hp k) n (omega (arith, s.0, s.1, h.1)) in
                  one l e [] (seg (min hp k) n) (seg 0 first) (r hp n s.2 ∙ ap some z) (rw (f.1, h.0, z) refl) (ap (stays e) ew ∙ ap answered h.0)
          by nay ew s f r = at f.2
            where
              at : ((op e.by).said ≡ full) ⊎ ((op e.by).said ≡ worn) → serve_all op (order (e ∷ l)) (seg 0 first) ≡ some (seg (min hp k) n)
              at (inl h) = one l e (seg (min hp k) n) (seg (min hp k) n) (seg 0 first) (r hp n s) (rw (f.1, h) refl) (ap (stays e) ew)
              at (inr h) = one l e (seg (min hp k) n) (seg (min hp k) n) (seg 0 first) (r hp n s) (rw (f.1, h) refl) (ap (stays e) ew)
