-- A list of nodes as a log: where a node stands in it, its links, its items; the lowest node of a set.
use mathlib.Core.Path.{◌≡◌, refl, sym, subst, ap, ◌∙◌}
use mathlib.Core.Bool.{Bool, true, false}
use mathlib.Core.List.{List, [], ◌∷◌, ◌++◌, map}
use mathlib.Core.Logic.{◌≢◌, ◌⊎◌, inl, inr}
use mathlib.Core.Option.{Option, none, some}
use Prim.Native.Nat.{ℕ, zero, suc, ◌+◌, ◌≤◌, ◌<◌}
use native.Mathlib.Omega.{arith}
use native.Mathlib.Decide.{dec_lt}
use lib.Dec.{T, eqb, eqb→eq, eqb_refl, ltb, lt→ltb}
use lib.ListN.{length, get_or, take}
use lib.Seq.{take-suc}
use Rattle.model.specs.Basics.{has}
use Rattle.model.specs.Choice.{lowest}
use Rattle.model.specs.Recovery.{link_up, last_of}
use Rattle.model.proofs.Basics.{upd_other, upd_same, yes_of, T_of}
use Rattle.model.proofs.Queue.Serve.{seg}
use Rattle.model.proofs.Queue.Sorted.{Up}

-- ---- a list as a log

abbrev found : Bool → Option ℕ → Option ℕ
found true o = some 0
found false none = none
found false (some p) = some (suc p)

unfoldable pub find : ℕ → List ℕ → Option ℕ
find n [] = none
find n (x ∷ l) = found (eqb x n) (find n l)

pub has_get_d : (l : List ℕ) (p : ℕ) → p < length l → has (get_or l p 0) l
has_get_d [] p h = absurd (omega arith)
has_get_d (x ∷ l) zero h = inl refl
has_get_d (x ∷ l) (suc p) h = inr (has_get_d l p (omega arith))

get_or_has : (l : List ℕ) (x : ℕ) → has x l → (p : ℕ) × (p < length l) × (get_or l p 0 ≡ x)
get_or_has [] x h = absurd h
get_or_has (y ∷ l) x (inl e) = (0, omega arith, sym e)
get_or_has (y ∷ l) x (inr h) = let r = get_or_has l x h in (suc r.0, omega (arith, r.1), r.2)

pub up_get_or : (f : ℕ → ℕ) (l : List ℕ) → Up f l → (p q : ℕ) → p < q → q < length l → f (get_or l p 0) < f (get_or l q 0)
up_get_or f [] u p q h k = absurd (omega arith)
up_get_or f (x ∷ l) u p zero h k = absurd (omega arith)
up_get_or f (x ∷ l) u zero (suc q) h k = u.0 (get_or l q 0) (has_get_d l q (omega arith))
up_get_or f (x ∷ l) u (suc p) (suc q) h k = up_get_or f l u.1 p q (omega arith) (omega arith)

pub find_is : (n : ℕ) (l : List ℕ) (p : ℕ) → find n l ≡ some p → (p < length l) × (get_or l p 0 ≡ n)
unfolding find
find_is n [] p e = let z : ◌≡◌ {A = ℕ} 0 1 = cc in absurd (omega arith)
find_is n (x ∷ l) p e = by (eqb x n) refl (find n l) refl e (find_is n l)
  where
    by : (t : Bool) → eqb x n ≡ t → (o : Option ℕ) → find n l ≡ o → found t o ≡ some p
        → ((p : ℕ) → find n l ≡ some p → (p < length l) × (get_or l p 0 ≡ n)) → (p < suc (length l)) × (get_or (x ∷ l) p 0 ≡ n)
    by true t o f e r = let z : 0 ≡ p = cc in rw (← z) (omega arith, eqb→eq x n (T_of _ t))
    by false t none f e r = let z : ◌≡◌ {A = ℕ} 0 1 = cc in absurd (omega arith)
    by false t (some k) f e r = let z : suc k ≡ p = cc in let w = r k f in rw (← z) (omega (arith, w.0), w.1)

pub find_no : (n : ℕ) (l : List ℕ) → find n l ≡ none → ¬ has n l
unfolding find
find_no n [] e h = h
find_no n (x ∷ l) e h = by (eqb x n) refl (find n l) refl e (find_no n l) h
  where
    by : (t : Bool) → eqb x n ≡ t → (o : Option ℕ) → find n l ≡ o → found t o ≡ none → (find n l ≡ none → ¬ has n l) → ¬ ((n ≡ x) ⊎ has n l)
    by true t o f e r h = let z : ◌≡◌ {A = ℕ} 0 1 = cc in omega arith
    by false t none f e r (inl h) = let z = eqb_refl n in absurd (subst T (ap (λ y. eqb y n) h ∙ t) z)
    by false t none f e r (inr h) = r f h
    by false t (some k) f e r h = let z : ◌≡◌ {A = ℕ} 0 1 = cc in omega arith

pub find_at : (f : ℕ → ℕ) (l : List ℕ) → Up f l → (p : ℕ) → p < length l → find (get_or l p 0) l ≡ some p
find_at f l u p h = by (find (get_or l p 0) l) refl
  where
    one : (a b : ℕ) → a < length l → b < length l → get_or l a 0 ≡ get_or l b 0 → a ≡ b
    one a b x y e = go (dec_lt a b) (dec_lt b a)
      where
        s : f (get_or l a 0) ≡ f (get_or l b 0)
        s = ap f e

        go : Dec (a < b) → Dec (b < a) → a ≡ b
        go (yes w) v = absurd (omega (arith, up_get_or f l u a b w y, s))
        go (no w) (yes v) = absurd (omega (arith, up_get_or f l u b a v x, s))
        go (no w) (no v) = omega arith

    by : (o : Option ℕ) → find (get_or l p 0) l ≡ o → find (get_or l p 0) l ≡ some p
    by none e = absurd (find_no (get_or l p 0) l e (has_get_d l p h))
    by (some k) e = let w = find_is (get_or l p 0) l k e in e ∙ ap some (one k p w.0 h w.1)

pub last_at : (d : ℕ) (l : List ℕ) → last_of d l ≡ get_or (d ∷ l) (length l) 0
unfolding last_of
last_at d [] = refl
last_at d (x ∷ l) = last_at x l

pub link_next : (f : ℕ → ℕ) (d : ℕ) (l : List ℕ) → Up f (d ∷ l) → (p : ℕ) → suc p < length (d ∷ l)
    → link_up d l (get_or (d ∷ l) p 0) ≡ some (get_or (d ∷ l) (suc p) 0)
unfolding link_up
link_next f d [] u p h = absurd (omega arith)
link_next f d (x ∷ l) u zero h = upd_same (link_up x l) d (some x)
link_next f d (x ∷ l) u (suc p) h =
    upd_other (link_up x l) d (some x) (λ e. let w = u.0 (get_or (x ∷ l) p 0) (has_get_d (x ∷ l) p (omega arith)) in
    let s : f (get_or (x ∷ l) p 0) ≡ f d = ap f e in omega arith) ∙ link_next f x l u.1 p (omega arith)

pub link_last : (f : ℕ → ℕ) (d : ℕ) (l : List ℕ) → Up f (d ∷ l) → (p : ℕ) → suc p ≡ length (d ∷ l) → link_up d l (get_or (d ∷ l) p 0) ≡ none
unfolding link_up
link_last f d [] u p h = refl
link_last f d (x ∷ l) u zero h = absurd (omega arith)
link_last f d (x ∷ l) u (suc p) h =
    upd_other (link_up x l) d (some x) (λ e. let w = u.0 (get_or (x ∷ l) p 0) (has_get_d (x ∷ l) p (omega arith)) in
    let s : f (get_or (x ∷ l) p 0) ≡ f d = ap f e in omega arith) ∙ link_last f x l u.1 p (omega arith)

pub up_ext : (f f' : ℕ → ℕ) (l : List ℕ) → ((x : ℕ) → has x l → f' x ≡ f x) → Up f l → Up f' l
up_ext f f' [] e u = tt
up_ext f f' (x ∷ l) e u = ((λ y h. rw (e x (inl refl), e y (inr h)) (u.0 y h)), up_ext f f' l (λ y h. e y (inr h)) u.1)

-- the items of a list are those of its places
map_add : (v : ℕ → ℕ) (l k : List ℕ) → map v (l ++ k) ≡ map v l ++ map v k
map_add v [] k = refl
map_add v (x ∷ l) k = ap (λ z. v x ∷ z) (map_add v l k)

pub seg_list : (v : ℕ → ℕ) (it : ℕ → ℕ) (l : List ℕ) → ((p : ℕ) → p < length l → it (suc p) ≡ v (get_or l p 0)) → (n : ℕ) → n ≤ length l
    → seg it (λ k. true) 0 (suc n) ≡ map v (take n l)
unfolding seg
seg_list v it l h zero k = refl
seg_list v it l h (suc n) k =
    rw (yes_of (ltb 0 (suc n)) (lt→ltb 0 (suc n) (omega arith)))
    (ap (λ z. z ++ it (suc n) ∷ []) (seg_list v it l h n (omega arith)) ∙ ap (λ z. map v (take n l) ++ z ∷ []) (h n (omega arith))
    ∙ sym (map_add v (take n l) (get_or l n 0 ∷ [])) ∙ ap (map v) (sym (take-suc l n 0 (omega arith))))

pub lowest_some : (k i : ℕ) (f : ℕ → Bool) (n : ℕ) → i ≤ n → n < i + k → f n ≡ true → (r : ℕ) × (lowest k i f ≡ some r) × (f r ≡ true) × (r < i + k)
unfolding lowest
lowest_some zero i f n a b c = absurd (omega arith)
lowest_some (suc k) i f n a b c = by (f i) refl (λ x y. lowest_some k (suc i) f n x y c)
  where
    by : (t : Bool) → f i ≡ t → (suc i ≤ n → n < suc i + k → (r : ℕ) × (lowest k (suc i) f ≡ some r) × (f r ≡ true) × (r < suc i + k))
        → (r : ℕ) × (elim t as (λ _. Option ℕ) [ true ↦ some i | false ↦ lowest k (suc i) f ] ≡ some r) × (f r ≡ true) × (r < i + suc k)
    by true e g = (i, refl, e, omega arith)
    by false e g =
        let ne : n ≢ i = λ z. (let w : f i ≡ true = rw (← z) c in let y : ◌≡◌ {A = ℕ} 0 1 = cc in omega arith) in
        let r = g (omega arith) (omega arith) in (r.0, r.1, r.2, omega (arith, r.3))
