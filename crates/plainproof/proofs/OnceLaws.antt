-- Repeats after the first dropped: of choices, they are the choices of the lists without repeats.
use mathlib.Core.Path.{◌≡◌, refl, sym, ap, ap₂, subst, ◌∙◌}
use mathlib.Core.Bool.{Bool, true, false}
use mathlib.Core.List.{List, [], ◌∷◌, ◌++◌, map, append_assoc, map-append, append-nil}
use mathlib.Core.Logic.{◌⊎◌, inl, inr}
use Rattle.lists.proofs.BoolLaws.{no_way}
use Rattle.plainproof.specs.Once.{joins_by, gathered_by, once, each_of, choices_of, same_all}

abbrev pub In : {A : Type 0} → A → List A → Type 0
In c [] = ⊥
In c (d ∷ l) = (c ≡ d) ⊎ In c l

-- the test tells equal from different
pub record Tells {A : Type 0} (same : A → A → Bool) : Type 0 where
  pub equal : (a b : A) → same a b ≡ true → a ≡ b
  pub self : (a : A) → same a a ≡ true

pub in_left : {A : Type 0} (c : A) (l m : List A) → In c l → In c (l ++ m)
in_left c [] m k = absurd k
in_left c (d ∷ l) m (inl e) = inl e
in_left c (d ∷ l) m (inr k) = inr (in_left c l m k)

pub in_right : {A : Type 0} (c : A) (l m : List A) → In c m → In c (l ++ m)
in_right c [] m k = k
in_right c (d ∷ l) m k = inr (in_right c l m k)

pub in_either : {A : Type 0} (c : A) (l m : List A) → In c (l ++ m) → In c l ⊎ In c m
in_either c [] m k = inr k
in_either c (d ∷ l) m (inl e) = inl (inl e)
in_either c (d ∷ l) m (inr k) = by (in_either c l m k)
  where
    by : In c l ⊎ In c m → In c (d ∷ l) ⊎ In c m
    by (inl x) = inl (inr x)
    by (inr x) = inr x

pub in_map : {A B : Type 0} (f : A → B) (x : A) (l : List A) → In x l → In (f x) (map f l)
in_map f x [] k = absurd k
in_map f x (a ∷ l) (inl e) = inl (ap f e)
in_map f x (a ∷ l) (inr k) = inr (in_map f x l k)

pub map_in : {A B : Type 0} (f : A → B) (y : B) (l : List A) → In y (map f l) → (x : A) × (In x l) × (y ≡ f x)
map_in f y [] k = absurd k
map_in f y (a ∷ l) (inl e) = (a, inl refl, e)
map_in f y (a ∷ l) (inr k) = let r = map_in f y l k in (r.0, inr r.1, r.2)

module _ {A : Type 0} (same : A → A → Bool) (tells : Tells same) where
  -- it is there, or it is not
  pub there : (c : A) (l : List A) → In c l ⊎ (In c l → ⊥)
  there c [] = inr (λ k. k)
  there c (a ∷ l) = by (same a c) refl (there c l)
    where
      by : (x : Bool) → same a c ≡ x → In c l ⊎ (In c l → ⊥) → In c (a ∷ l) ⊎ (In c (a ∷ l) → ⊥)
      by true e r = inl (inl (sym (tells.equal a c e)))
      by false e (inl k) = inl (inr k)
      by false e (inr n) = inr not
        where
          not : (c ≡ a) ⊎ In c l → ⊥
          not (inl z) = no_way (sym (tells.self a) ∙ ap (same a) (sym z) ∙ e)
          not (inr k) = n k

  pub join_in : (c : A) (l : List A) → In c l → joins_by same l c ≡ l
  unfolding joins_by
  join_in c [] k = absurd k
  join_in c (a ∷ l) k = by (same a c) refl k (join_in c l)
    where
      by : (x : Bool) → same a c ≡ x → (c ≡ a) ⊎ In c l → (In c l → joins_by same l c ≡ l)
          → ◌≡◌ {A = List A} (elim x [ true ↦ a ∷ l | false ↦ a ∷ joins_by same l c ]) (a ∷ l)
      by true e k r = refl
      by false e (inl z) r = no_way (sym (tells.self a) ∙ ap (same a) (sym z) ∙ e)
      by false e (inr z) r = ap (λ (y : List A). a ∷ y) (r z)

  pub join_out : (c : A) (l : List A) → (In c l → ⊥) → joins_by same l c ≡ l ++ (c ∷ [])
  unfolding joins_by
  join_out c [] n = refl
  join_out c (a ∷ l) n = by (same a c) refl (join_out c l (λ k. n (inr k)))
    where
      by : (x : Bool) → same a c ≡ x → joins_by same l c ≡ l ++ (c ∷ [])
          → ◌≡◌ {A = List A} (elim x [ true ↦ a ∷ l | false ↦ a ∷ joins_by same l c ]) (a ∷ l ++ (c ∷ []))
      by true e r = absurd (n (inl (sym (tells.equal a c e))))
      by false e r = ap (λ (y : List A). a ∷ y) r

  pub gather_append : (s l m : List A) → gathered_by same s (l ++ m) ≡ gathered_by same (gathered_by same s l) m
  unfolding gathered_by
  gather_append s [] m = refl
  gather_append s (c ∷ l) m = gather_append (joins_by same s c) l m

  -- what is there already changes nothing
  pub gather_known : (s l : List A) → ((c : A) → In c l → In c s) → gathered_by same s l ≡ s
  unfolding gathered_by
  gather_known s [] h = refl
  gather_known s (c ∷ l) h = rw (join_in c s (h c (inl refl))) (gather_known s l (λ d k. h d (inr k)))

  in_join : (c x : A) (l : List A) → In c l → In c (joins_by same l x)
  in_join c x l k = by (there x l)
    where
      by : In x l ⊎ (In x l → ⊥) → In c (joins_by same l x)
      by (inl y) = rw (join_in x l y) k
      by (inr n) = rw (join_out x l n) (in_left c l (x ∷ []) k)

  new_join : (x : A) (l : List A) → In x (joins_by same l x)
  new_join x l = by (there x l)
    where
      by : In x l ⊎ (In x l → ⊥) → In x (joins_by same l x)
      by (inl y) = rw (join_in x l y) y
      by (inr n) = rw (join_out x l n) (in_right x l (x ∷ []) (inl refl))

  in_seen : (c : A) (s l : List A) → In c s → In c (gathered_by same s l)
  unfolding gathered_by
  in_seen c s [] k = k
  in_seen c s (x ∷ l) k = in_seen c (joins_by same s x) l (in_join c x s k)

  pub in_gathered : (c : A) (s l : List A) → In c l → In c (gathered_by same s l)
  unfolding gathered_by
  in_gathered c s [] k = absurd k
  in_gathered c s (x ∷ l) (inl e) = in_seen c (joins_by same s x) l (subst (λ (y : A). In y (joins_by same s x)) (sym e) (new_join x s))
  in_gathered c s (x ∷ l) (inr k) = in_gathered c (joins_by same s x) l k

-- a list mapped by a function that keeps different things different
module _ {A B : Type 0} (same : A → A → Bool) (tells : Tells same) (same' : B → B → Bool) (tells' : Tells same') (f : A → B) (one : (x y : A) → f x ≡ f y → x ≡ y) where
  pub gather_map : (s : List B) (t l : List A) → ((x : A) → In (f x) s → ⊥)
      → gathered_by same' (s ++ map f t) (map f l) ≡ s ++ map f (gathered_by same t l)
  unfolding gathered_by
  gather_map s t [] h = refl
  gather_map s t (x ∷ l) h = by (there same tells x t) (gather_map s t l h) (gather_map s (t ++ (x ∷ [])) l h)
    where
      by : In x t ⊎ (In x t → ⊥) → gathered_by same' (s ++ map f t) (map f l) ≡ s ++ map f (gathered_by same t l)
          → gathered_by same' (s ++ map f (t ++ (x ∷ []))) (map f l) ≡ s ++ map f (gathered_by same (t ++ (x ∷ [])) l)
          → gathered_by same' (joins_by same' (s ++ map f t) (f x)) (map f l) ≡ s ++ map f (gathered_by same (joins_by same t x) l)
      by (inl k) old new =
          rw (join_in same' tells' (f x) (s ++ map f t) (in_right (f x) s (map f t) (in_map f x t k)), join_in same tells x t k) old
      by (inr n) old new =
          rw (join_out same' tells' (f x) (s ++ map f t) not, join_out same tells x t n)
          (ap (λ (z : List B). gathered_by same' z (map f l)) moved ∙ new)
        where
          not : In (f x) (s ++ map f t) → ⊥
          not k = on (in_either (f x) s (map f t) k)
            where
              on : In (f x) s ⊎ In (f x) (map f t) → ⊥
              on (inl z) = h x z
              on (inr z) = let r = map_in f (f x) t z in n (subst (λ (y : A). In y t) (sym (one x r.0 r.2)) r.1)

          moved : (s ++ map f t) ++ (f x ∷ []) ≡ s ++ map f (t ++ (x ∷ []))
          moved = append_assoc s (map f t) (f x ∷ []) ∙ ap (λ (z : List B). s ++ z) (sym (map-append f t (x ∷ [])))

-- ---- choices

module _ {A : Type 0} (same : A → A → Bool) (tells : Tells same) where
  tuple_equal : (l m : List A) → same_all same l m ≡ true → l ≡ m
  unfolding same_all
  tuple_equal [] [] e = refl
  tuple_equal [] (b ∷ m) e = no_way (sym e)
  tuple_equal (a ∷ l) [] e = no_way (sym e)
  tuple_equal (a ∷ l) (b ∷ m) e = by (same a b) refl e (tuple_equal l m)
    where
      by : (x : Bool) → same a b ≡ x → ◌≡◌ {A = Bool} (elim x [ true ↦ same_all same l m | false ↦ false ]) true → (same_all same l m ≡ true → l ≡ m) → ◌≡◌ {A = List A} (a ∷ l) (b ∷ m)
      by true f h r = ap₂ (λ (y : A) (z : List A). y ∷ z) (tells.equal a b f) (r h)
      by false f h r = no_way (sym h)

  tuple_self : (l : List A) → same_all same l l ≡ true
  unfolding same_all
  tuple_self [] = refl
  tuple_self (a ∷ l) = rw (tells.self a, same_all) (tuple_self l)

  pub tuple_tells : Tells (same_all same)
  tuple_tells = record { equal = tuple_equal; self = tuple_self }

  abbrev once_t : List (List A) → List (List A)
  once_t l = gathered_by (same_all same) [] l

  pub each_append : (v : List A) (c : A) (r : List (List A)) → each_of (v ++ (c ∷ [])) r ≡ each_of v r ++ map (λ z. c ∷ z) r
  unfolding each_of
  each_append [] c r = append-nil (map (λ z. c ∷ z) r)
  each_append (a ∷ v) c r =
      ap (λ (y : List (List A)). map (λ z. a ∷ z) r ++ y) (each_append v c r) ∙ sym (append_assoc (map (λ z. a ∷ z) r) (each_of v r) (map (λ z. c ∷ z) r))

  in_each : (c : A) (z : List A) (v : List A) (r : List (List A)) → In c v → In z r → In (c ∷ z) (each_of v r)
  unfolding each_of
  in_each c z [] r k w = absurd k
  in_each c z (a ∷ v) r (inl e) w =
      in_left (c ∷ z) (map (λ y. a ∷ y) r) (each_of v r) (subst (λ (y : A). In (y ∷ z) (map (λ x. a ∷ x) r)) (sym e) (in_map (λ x. a ∷ x) z r w))
  in_each c z (a ∷ v) r (inr k) w = in_right (c ∷ z) (map (λ y. a ∷ y) r) (each_of v r) (in_each c z v r k w)

  first_of : (c a : A) (y z : List A) → c ∷ y ≡ a ∷ z → c ≡ a
  first_of c a y z e = cc

  each_in : (c : A) (z : List A) (v : List A) (r : List (List A)) → In (c ∷ z) (each_of v r) → In c v
  unfolding each_of
  each_in c z [] r k = absurd k
  each_in c z (a ∷ v) r k = by (in_either (c ∷ z) (map (λ y. a ∷ y) r) (each_of v r) k) (each_in c z v r)
    where
      by : In (c ∷ z) (map (λ y. a ∷ y) r) ⊎ In (c ∷ z) (each_of v r) → (In (c ∷ z) (each_of v r) → In c v) → In c (a ∷ v)
      by (inl w) f = let m = map_in (λ y. a ∷ y) (c ∷ z) r w in inl (first_of c a z m.0 m.2)
      by (inr w) f = inr (f w)

  -- one line in front: v has been seen, r is what the lines behind give
  each_once : (v l : List A) (r : List (List A)) → gathered_by (same_all same) (each_of v (once_t r)) (each_of l r) ≡ each_of (gathered_by same v l) (once_t r)
  unfolding gathered_by each_of
  each_once v [] r = refl
  each_once v (c ∷ l) r = by (there same tells c v) (each_once v l r) (each_once (v ++ (c ∷ [])) l r)
    where
      by : In c v ⊎ (In c v → ⊥)
          → gathered_by (same_all same) (each_of v (once_t r)) (each_of l r) ≡ each_of (gathered_by same v l) (once_t r)
          → gathered_by (same_all same) (each_of (v ++ (c ∷ [])) (once_t r)) (each_of l r) ≡ each_of (gathered_by same (v ++ (c ∷ [])) l) (once_t r)
          → gathered_by (same_all same) (each_of v (once_t r)) (map (λ z. c ∷ z) r ++ each_of l r) ≡ each_of (gathered_by same (joins_by same v c) l) (once_t r)
      by (inl k) old new =
          gather_append (same_all same) tuple_tells (each_of v (once_t r)) (map (λ z. c ∷ z) r) (each_of l r)
          ∙ ap (λ (z : List (List A)). gathered_by (same_all same) z (each_of l r)) (gather_known (same_all same) tuple_tells (each_of v (once_t r)) (map (λ z. c ∷ z) r) known)
          ∙ old ∙ ap (λ (z : List A). each_of (gathered_by same z l) (once_t r)) (sym (join_in same tells c v k))
        where
          known : (t : List A) → In t (map (λ z. c ∷ z) r) → In t (each_of v (once_t r))
          known t w =
              let m = map_in (λ z. c ∷ z) t r w in
              subst (λ (y : List A). In y (each_of v (once_t r))) (sym m.2) (in_each c m.0 v (once_t r) k (in_gathered (same_all same) tuple_tells m.0 [] r m.1))
      by (inr n) old new =
          gather_append (same_all same) tuple_tells (each_of v (once_t r)) (map (λ z. c ∷ z) r) (each_of l r)
          ∙ ap (λ (z : List (List A)). gathered_by (same_all same) z (each_of l r)) (added ∙ sym (each_append v c (once_t r)))
          ∙ new ∙ ap (λ (z : List A). each_of (gathered_by same z l) (once_t r)) (sym (join_out same tells c v n))
        where
          added : gathered_by (same_all same) (each_of v (once_t r)) (map (λ z. c ∷ z) r) ≡ (each_of v (once_t r)) ++ map (λ z. c ∷ z) (once_t r)
          added =
              ap (λ (y : List (List A)). gathered_by (same_all same) y (map (λ z. c ∷ z) r)) (sym (append-nil (each_of v (once_t r))))
              ∙ gather_map (same_all same) tuple_tells (same_all same) tuple_tells (λ z. c ∷ z) (λ x y e. cc) (each_of v (once_t r)) [] r (λ x k. n (each_in c x v (once_t r) k))

  -- the choices without repeats are the choices of the lists without repeats
  pub choices_once : (lists : List (List A)) → once_t (choices_of lists) ≡ choices_of (map (λ l. gathered_by same [] l) lists)
  unfolding choices_of gathered_by joins_by each_of
  choices_once [] = refl
  choices_once (line ∷ rest) = top ∙ ap (λ (z : List (List A)). each_of (gathered_by same [] line) z) (choices_once rest)
    where
      top : once_t (each_of line (choices_of rest)) ≡ each_of (gathered_by same [] line) (once_t (choices_of rest))
      top = each_once [] line (choices_of rest)
