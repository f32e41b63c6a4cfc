-- Lists that rise by a key: two with the same members are equal; recovery's list rises; so do the places kept.
use mathlib.Core.Path.{◌≡◌, refl, sym, subst, ap, ap₂, ◌∙◌}
use mathlib.Core.Bool.{Bool, true, false}
use mathlib.Core.List.{List, [], ◌∷◌, ◌++◌, map}
use mathlib.Core.Logic.{◌≢◌, ◌⊎◌, inl, inr}
use Prim.Native.Nat.{ℕ, zero, suc, ◌<◌}
use native.Mathlib.Omega.{arith}
use native.Mathlib.Decide.{dec_lt, ℕ_discrete}
use lib.Dec.{T, ltb, ltb→lt, lt→ltb}
use Rattle.model.specs.Basics.{bothb, has}
use Rattle.model.specs.Core.{Node}
use Rattle.model.specs.Recovery.{recovered, insert, queue_of}
use Rattle.model.proofs.Basics.{both_of}
use Rattle.model.proofs.Queue.Serve.{seg, add_if}

abbrev pub Up : (ℕ → ℕ) → List ℕ → Type 0
Up f [] = Unit {0}
Up f (x ∷ l) = ((y : ℕ) → has y l → f x < f y) × Up f l

pub up_unique : (f : ℕ → ℕ) (k l : List ℕ) → Up f k → Up f l → ((x : ℕ) → has x k → has x l) → ((x : ℕ) → has x l → has x k) → k ≡ l
up_unique f [] [] uk ul a b = refl
up_unique f [] (y ∷ l) uk ul a b = absurd (b y (inl refl))
up_unique f (x ∷ k) [] uk ul a b = absurd (a x (inl refl))
up_unique f (x ∷ k) (y ∷ l) uk ul a b = go (a x (inl refl)) (b y (inl refl)) (up_unique f k l uk.1 ul.1)
  where
    tails : x ≡ y → (((z : ℕ) → has z k → has z l) → ((z : ℕ) → has z l → has z k) → k ≡ l) → x ∷ k ≡ y ∷ l
    tails e r = ap₂ (λ u v. u ∷ v) e (r (λ z h. p z h (a z (inr h))) (λ z h. q z h (b z (inr h))))
      where
        p : (z : ℕ) → has z k → (z ≡ y) ⊎ has z l → has z l
        p z h (inl w) = let u = uk.0 z h in let zx : z ≡ x = w ∙ sym e in absurd (let s : f z ≡ f x = ap f zx in omega arith)
        p z h (inr w) = w

        q : (z : ℕ) → has z l → (z ≡ x) ⊎ has z k → has z k
        q z h (inl w) = let u = ul.0 z h in let zy : z ≡ y = w ∙ e in absurd (let s : f z ≡ f y = ap f zy in omega arith)
        q z h (inr w) = w

    go : (x ≡ y) ⊎ has x l → (y ≡ x) ⊎ has y k → (((z : ℕ) → has z k → has z l) → ((z : ℕ) → has z l → has z k) → k ≡ l) → x ∷ k ≡ y ∷ l
    go (inl e) h r = tails e r
    go (inr h) (inl e) r = tails (sym e) r
    go (inr h) (inr h') r = let u = ul.0 x h in let v = uk.0 y h' in absurd (omega arith)

-- ---- insertion

module _ (f : ℕ → Node) where
  abbrev key : ℕ → ℕ
  key n = (f n).index

  pub ins_old : (n : ℕ) (l : List ℕ) (x : ℕ) → has x (insert f n l) → (x ≡ n) ⊎ has x l
  unfolding insert
  ins_old n [] x h = h
  ins_old n (k ∷ l) x h = by (ltb (f n).index (f k).index) (ins_old n l x) h
    where
      by : (t : Bool) → (has x (insert f n l) → (x ≡ n) ⊎ has x l) → has x (elim t as (λ _. List ℕ) [ true ↦ n ∷ k ∷ l | false ↦ k ∷ insert f n l ])
          → (x ≡ n) ⊎ ((x ≡ k) ⊎ has x l)
      by true r h = h
      by false r (inl e) = inr (inl e)
      by false r (inr g) = on (r g)
        where
          on : (x ≡ n) ⊎ has x l → (x ≡ n) ⊎ ((x ≡ k) ⊎ has x l)
          on (inl e) = inl e
          on (inr z) = inr (inr z)

  pub ins_new : (n : ℕ) (l : List ℕ) (x : ℕ) → (x ≡ n) ⊎ has x l → has x (insert f n l)
  unfolding insert
  ins_new n [] x h = h
  ins_new n (k ∷ l) x h = by (ltb (f n).index (f k).index) (ins_new n l x) h
    where
      by : (t : Bool) → ((x ≡ n) ⊎ has x l → has x (insert f n l)) → (x ≡ n) ⊎ ((x ≡ k) ⊎ has x l)
          → has x (elim t as (λ _. List ℕ) [ true ↦ n ∷ k ∷ l | false ↦ k ∷ insert f n l ])
      by true r h = h
      by false r (inl e) = inr (r (inl e))
      by false r (inr (inl e)) = inl e
      by false r (inr (inr g)) = inr (r (inr g))

  pub ins_up : (n : ℕ) (l : List ℕ) → Up key l → ((x : ℕ) → has x l → key x ≢ key n) → Up key (insert f n l)
  unfolding insert
  ins_up n [] u d = ((λ y h. absurd h), tt)
  ins_up n (k ∷ l) u d = by (ltb (f n).index (f k).index) refl (ins_up n l u.1 (λ x h. d x (inr h)))
    where
      by : (t : Bool) → ltb (f n).index (f k).index ≡ t → Up key (insert f n l)
          → Up key (elim t as (λ _. List ℕ) [ true ↦ n ∷ k ∷ l | false ↦ k ∷ insert f n l ])
      by true e r = ((λ y h. lo y h), u)
        where
          lt : key n < key k
          lt = ltb→lt (f n).index (f k).index (rw e tt)

          lo : (y : ℕ) → (y ≡ k) ⊎ has y l → key n < key y
          lo y (inl z) = rw z lt
          lo y (inr z) = omega (arith, lt, u.0 y z)
      by false e r = ((λ y h. lo y (ins_old n l y h)), r)
        where
          le : key k < key n
          le = at (dec_lt (key n) (key k))
            where
              at : Dec (key n < key k) → key k < key n
              at (yes z) = let w = lt→ltb (f n).index (f k).index z in absurd (subst T e w)
              at (no z) = let w = d k (inl refl) in omega arith

          lo : (y : ℕ) → (y ≡ n) ⊎ has y l → key k < key y
          lo y (inl z) = rw z le
          lo y (inr z) = u.0 y z

  module _ (h : ℕ) where
    abbrev rec : ℕ → Bool
    rec n = recovered h (f n)

    pub q_in : (N n : ℕ) → has n (queue_of f h N) → (n < N) × (rec n ≡ true)
    unfolding queue_of
    q_in zero n k = absurd k
    q_in (suc N) n k = by (rec N) refl (q_in N n) k
      where
        up : (n < N) × (rec n ≡ true) → (n < suc N) × (rec n ≡ true)
        up r = (omega (arith, r.0), r.1)

        by : (t : Bool) → rec N ≡ t → (has n (queue_of f h N) → (n < N) × (rec n ≡ true))
            → has n (elim t as (λ _. List ℕ) [ true ↦ insert f N (queue_of f h N) | false ↦ queue_of f h N ]) → (n < suc N) × (rec n ≡ true)
        by true e r k = on (ins_old N (queue_of f h N) n k)
          where
            on : (n ≡ N) ⊎ has n (queue_of f h N) → (n < suc N) × (rec n ≡ true)
            on (inl z) = (omega arith, rw z e)
            on (inr z) = up (r z)
        by false e r k = up (r k)

    pub q_all : (N n : ℕ) → n < N → rec n ≡ true → has n (queue_of f h N)
    unfolding queue_of
    q_all zero n k r = absurd (omega arith)
    q_all (suc N) n k r = by (rec N) refl (λ z. q_all N n z r) (ℕ_discrete n N)
      where
        by : (t : Bool) → rec N ≡ t → (n < N → has n (queue_of f h N)) → Dec (n ≡ N)
            → has n (elim t as (λ _. List ℕ) [ true ↦ insert f N (queue_of f h N) | false ↦ queue_of f h N ])
        by true e g (yes z) = ins_new N (queue_of f h N) n (inl z)
        by true e g (no z) = ins_new N (queue_of f h N) n (inr (g (omega arith)))
        by false e g (yes z) = let w : rec N ≡ true = rw (← z) r in let y : ◌≡◌ {A = ℕ} 0 1 = cc in absurd (omega arith)
        by false e g (no z) = g (omega arith)

    pub q_up : (N : ℕ) → ((n k : ℕ) → n < N → k < n → rec n ≡ true → rec k ≡ true → key n ≢ key k) → Up key (queue_of f h N)
    unfolding queue_of
    q_up zero d = tt
    q_up (suc N) d = by (rec N) refl (q_up N (λ n k a. d n k (omega arith)))
      where
        by : (t : Bool) → rec N ≡ t → Up key (queue_of f h N) → Up key (elim t as (λ _. List ℕ) [ true ↦ insert f N (queue_of f h N) | false ↦ queue_of f h N ])
        by true e u = ins_up N (queue_of f h N) u (λ x z w. let r = q_in N x z in d N x (omega arith) r.0 e r.1 (sym w))
        by false e u = u

-- ---- the places that are kept

up_snoc : (f : ℕ → ℕ) (l : List ℕ) (x : ℕ) → Up f l → ((y : ℕ) → has y l → f y < f x) → Up f (l ++ x ∷ [])
up_snoc f [] x u h = ((λ y k. absurd k), tt)
up_snoc f (z ∷ l) x u h = ((λ y k. on y (has_snoc l x y k)), up_snoc f l x u.1 (λ y k. h y (inr k)))
  where
    has_snoc : (l : List ℕ) (x y : ℕ) → has y (l ++ x ∷ []) → has y l ⊎ (y ≡ x)
    has_snoc [] x y (inl e) = inr e
    has_snoc [] x y (inr e) = absurd e
    has_snoc (w ∷ l) x y (inl e) = inl (inl e)
    has_snoc (w ∷ l) x y (inr e) = go (has_snoc l x y e)
      where
        go : has y l ⊎ (y ≡ x) → ((y ≡ w) ⊎ has y l) ⊎ (y ≡ x)
        go (inl a) = inl (inr a)
        go (inr b) = inr b

    on : (y : ℕ) → has y l ⊎ (y ≡ x) → f z < f y
    on y (inl k) = u.0 y k
    on y (inr e) = rw e (h z (inl refl))

pub has_add : (t : Bool) (x : ℕ) (l : List ℕ) (y : ℕ) → has y (add_if t x l) → has y l ⊎ ((t ≡ true) × (y ≡ x))
has_add false x l y h = inl h
has_add true x [] y (inl e) = inr (refl, e)
has_add true x [] y (inr e) = absurd e
has_add true x (w ∷ l) y (inl e) = inl (inl e)
has_add true x (w ∷ l) y (inr e) = go (has_add true x l y e)
  where
    go : has y l ⊎ ((true ≡ true) × (y ≡ x)) → ((y ≡ w) ⊎ has y l) ⊎ ((true ≡ true) × (y ≡ x))
    go (inl a) = inl (inr a)
    go (inr b) = inr b

pub add_has : (t : Bool) (x : ℕ) (l : List ℕ) (y : ℕ) → has y l ⊎ ((t ≡ true) × (y ≡ x)) → has y (add_if t x l)
add_has false x l y (inl h) = h
add_has false x l y (inr h) = let z = h.0 in let w : ◌≡◌ {A = ℕ} 0 1 = cc in absurd (omega arith)
add_has true x [] y (inl h) = absurd h
add_has true x [] y (inr h) = inl h.1
add_has true x (w ∷ l) y (inl (inl e)) = inl e
add_has true x (w ∷ l) y (inl (inr e)) = inr (add_has true x l y (inl e))
add_has true x (w ∷ l) y (inr h) = inr (add_has true x l y (inr h))

module _ (who : ℕ → ℕ) (keep : ℕ → Bool) where
  pub seg_in : (a b n : ℕ) → has n (seg who keep a b) → (q : ℕ) × (a < q) × (q < b) × (keep q ≡ true) × (who q ≡ n)
  unfolding seg
  seg_in a zero n h = absurd h
  seg_in a (suc b) n h = by (has_add (bothb (ltb a b) (keep b)) (who b) (seg who keep a b) n h) (seg_in a b n)
    where
      by : has n (seg who keep a b) ⊎ ((bothb (ltb a b) (keep b) ≡ true) × (n ≡ who b))
          → (has n (seg who keep a b) → (q : ℕ) × (a < q) × (q < b) × (keep q ≡ true) × (who q ≡ n)) → (q : ℕ) × (a < q) × (q < suc b)
          × (keep q ≡ true) × (who q ≡ n)
      by (inl z) r = let w = r z in (w.0, w.1, omega (arith, w.2), w.3, w.4)
      by (inr z) r = let w = both_of (ltb a b) (keep b) z.0 in (b, ltb→lt a b (subst T (sym w.0) tt), omega arith, w.1, sym z.1)

  pub seg_all : (a b q : ℕ) → a < q → q < b → keep q ≡ true → has (who q) (seg who keep a b)
  unfolding seg
  seg_all a zero q x y k = absurd (omega arith)
  seg_all a (suc b) q x y k = by (ℕ_discrete q b) (λ z. seg_all a b q x z k)
    where
      tr : (u : Bool) → T u → u ≡ true
      tr true z = refl
      tr false z = absurd z

      by : Dec (q ≡ b) → (q < b → has (who q) (seg who keep a b)) → has (who q) (add_if (bothb (ltb a b) (keep b)) (who b) (seg who keep a b))
      by (yes e) r = add_has (bothb (ltb a b) (keep b)) (who b) (seg who keep a b) (who q)
          (inr (rw (tr (ltb a b) (lt→ltb a b (omega arith))) (rw (← e) k), ap who e))
      by (no e) r = add_has (bothb (ltb a b) (keep b)) (who b) (seg who keep a b) (who q) (inl (r (omega arith)))

  pub seg_up : (f : ℕ → ℕ) (a b : ℕ) → ((p q : ℕ) → a < p → p < q → q < b → keep p ≡ true → keep q ≡ true → f (who p) < f (who q)) → Up f (seg who keep a b)
  unfolding seg
  seg_up f a zero m = tt
  seg_up f a (suc b) m = by (bothb (ltb a b) (keep b)) refl (seg_up f a b (λ p q x y z. m p q x y (omega arith)))
    where
      by : (t : Bool) → bothb (ltb a b) (keep b) ≡ t → Up f (seg who keep a b) → Up f (add_if t (who b) (seg who keep a b))
      by true e u = let w = both_of (ltb a b) (keep b) e in
          up_snoc f (seg who keep a b) (who b) u (λ y h. let s = seg_in a b y h in
          subst (λ y. f y < f (who b)) s.4 (m s.0 b s.1 s.2 (omega arith) s.3 w.1))
      by false e u = u

map_snoc : (v : ℕ → ℕ) (t : Bool) (x : ℕ) (l : List ℕ) → map v (add_if t x l) ≡ add_if t (v x) (map v l)
map_snoc v false x l = refl
map_snoc v true x [] = refl
map_snoc v true x (y ∷ l) = ap (λ z. v y ∷ z) (map_snoc v true x l)

-- the items of the places kept
pub map_seg : (who it : ℕ → ℕ) (keep : ℕ → Bool) (v : ℕ → ℕ) (a b : ℕ) → ((q : ℕ) → a < q → q < b → keep q ≡ true → v (who q) ≡ it q)
    → map v (seg who keep a b) ≡ seg it keep a b
unfolding seg
map_seg who it keep v a zero h = refl
map_seg who it keep v a (suc b) h =
    map_snoc v (bothb (ltb a b) (keep b)) (who b) (seg who keep a b) ∙ ap (λ l. add_if (bothb (ltb a b) (keep b)) (v (who b)) l)
    (map_seg who it keep v a b (λ q x y. h q x (omega arith))) ∙ last (bothb (ltb a b) (keep b)) refl
  where
    last : (t : Bool) → bothb (ltb a b) (keep b) ≡ t → add_if (bothb (ltb a b) (keep b)) (v (who b)) (seg it keep a b) ≡ add_if
        (bothb (ltb a b) (keep b)) (it b) (seg it keep a b)
    last true e = let w = both_of (ltb a b) (keep b) e in ap (λ z. add_if (bothb (ltb a b) (keep b)) z (seg it keep a b))
        (h b (ltb→lt a b (subst T (sym w.0) tt)) (omega arith) w.1)
    last false e = rw e refl
