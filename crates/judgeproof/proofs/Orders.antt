-- Lawful is said with an order that shows it; unlawful only where there is no order. Assumes nothing.
use Prim.Native.Nat.{ℕ, zero, suc, ◌+◌, ◌≤◌, ◌<◌}
use mathlib.Core.Path.{◌≡◌, refl, sym, ap, ap₂, subst, ◌∙◌}
use mathlib.Core.Bool.{Bool, true, false, not}
use mathlib.Core.List.{List, [], ◌∷◌, ◌++◌, map, append_assoc, append-nil, map-append}
use mathlib.Core.Logic.{◌⊎◌, inl, inr}
use mathlib.Core.Option.{Option, none, some}
use native.Mathlib.Omega.{arith}
use native.Mathlib.Decide.{dec_lt, dec_le, ℕ_discrete}
use lib.ListN.{length, get_or}
use Rattle.model.proofs.Always.Count.{pigeon}
use lib.Dec.{eqb, ltb}
use borrow.Author.Tests.{lt-ltb, le-ltb, ltb-true, ltb-false, eqb-true, eqb-false, eq-eqb, ne_eqb, not-true, not-false}
use Rattle.lists.specs.Find.{both, any}
use Rattle.lists.proofs.BoolLaws.{no_way, both_true, both_of}
use Rattle.lists.proofs.FindLaws as find
use Rattle.judging.proofs.Items.{same_items_lem, items_same}
use Rattle.lawful.specs.Operation.{Operation, says}
use Rattle.lawful.specs.Plain.{serve, onward, serve_all}
use Rattle.lawful.specs.Lawful.{at, Has, Once, Earlier, Timely, Lawful}
use Rattle.judging.specs.Search.{Verdict, lawful, unlawful, undecided, Judged, judged, is_in, same_items, owed, taking, finished, or_else, consider, scan, searched}

-- ---- members

in_has : (k : ℕ) (l : List ℕ) → is_in k l ≡ true → Has k l
unfolding is_in
in_has k [] e = no_way (sym e)
in_has k (j ∷ l) e = by (eqb k j) refl e (in_has k l)
  where
    by : (x : Bool) → eqb k j ≡ x → ◌≡◌ {A = Bool} (elim x [ true ↦ true | false ↦ is_in k l ]) true → (is_in k l ≡ true → Has k l) → Has k (j ∷ l)
    by true f h r = inl (eqb-true k j f)
    by false f h r = inr (r h)

out_has : (k : ℕ) (l : List ℕ) → is_in k l ≡ false → Has k l → ⊥
unfolding is_in
out_has k [] e w = w
out_has k (j ∷ l) e w = by (eqb k j) refl e w (out_has k l)
  where
    by : (x : Bool) → eqb k j ≡ x → ◌≡◌ {A = Bool} (elim x [ true ↦ true | false ↦ is_in k l ]) false → (k ≡ j) ⊎ Has k l → (is_in k l ≡ false → Has k l → ⊥) → ⊥
    by true f h w r = no_way h
    by false f h (inl z) r = eqb-false k j f z
    by false f h (inr z) r = r h z

has_in : (k : ℕ) (l : List ℕ) → Has k l → is_in k l ≡ true
has_in k l w = by (is_in k l) refl
  where
    by : (x : Bool) → is_in k l ≡ x → x ≡ true
    by true e = refl
    by false e = absurd (out_has k l e w)

no_in : (k : ℕ) (l : List ℕ) → (Has k l → ⊥) → is_in k l ≡ false
no_in k l n = by (is_in k l) refl
  where
    by : (x : Bool) → is_in k l ≡ x → x ≡ false
    by true e = absurd (n (in_has k l e))
    by false e = refl

has_left : (k : ℕ) (l m : List ℕ) → Has k l → Has k (l ++ m)
has_left k [] m w = absurd w
has_left k (j ∷ l) m (inl e) = inl e
has_left k (j ∷ l) m (inr w) = inr (has_left k l m w)

has_right : (k : ℕ) (l m : List ℕ) → Has k m → Has k (l ++ m)
has_right k [] m w = w
has_right k (j ∷ l) m w = inr (has_right k l m w)

has_either : (k : ℕ) (l m : List ℕ) → Has k (l ++ m) → Has k l ⊎ Has k m
has_either k [] m w = inr w
has_either k (j ∷ l) m (inl e) = inl (inl e)
has_either k (j ∷ l) m (inr w) = by (has_either k l m w)
  where
    by : Has k l ⊎ Has k m → Has k (j ∷ l) ⊎ Has k m
    by (inl x) = inl (inr x)
    by (inr x) = inr x

at_has : (l : List ℕ) (i : ℕ) → i < length l → Has (get_or l i 0) l
at_has [] i h = absurd (omega arith)
at_has (k ∷ l) zero h = inl refl
at_has (k ∷ l) (suc i) h = inr (at_has l i (omega arith))

once_left : (l m : List ℕ) → Once (l ++ m) → Once l
once_left [] m o = tt
once_left (j ∷ l) m o = (λ w. o.0 (has_left j l m w), once_left l m o.1)

once_apart : (k : ℕ) (l m : List ℕ) → Once (l ++ (k ∷ m)) → (Has k l → ⊥) × (Has k m → ⊥)
once_apart k [] m o = (λ w. w, o.0)
once_apart k (j ∷ l) m o = (not_l (once_apart k l m o.1).0, (once_apart k l m o.1).1)
  where
    not_l : (Has k l → ⊥) → (k ≡ j) ⊎ Has k l → ⊥
    not_l f (inl e) = o.0 (has_right j l (k ∷ m) (inl (sym e)))
    not_l f (inr w) = f w

once_snoc : (k : ℕ) (l : List ℕ) → Once l → (Has k l → ⊥) → Once (l ++ (k ∷ []))
once_snoc k [] o n = (λ w. w, tt)
once_snoc k (j ∷ l) o n = (apart, once_snoc k l o.1 (λ w. n (inr w)))
  where
    apart : Has j (l ++ (k ∷ [])) → ⊥
    apart w = by (has_either j l (k ∷ []) w)
      where
        by : Has j l ⊎ Has j (k ∷ []) → ⊥
        by (inl z) = o.0 z
        by (inr (inl z)) = n (inl (sym z))
        by (inr (inr z)) = z

serve_snoc : (l : List Operation) (o : Operation) (q : List ℕ) → serve_all (l ++ (o ∷ [])) q ≡ onward (serve_all l q) (λ r. serve_all (o ∷ []) r)
unfolding serve_all
serve_snoc [] o q = refl
serve_snoc (a ∷ l) o q = by (serve a.call a.reply q) (λ r. serve_snoc l o r)
  where
    by : (x : Option (List ℕ)) → ((r : List ℕ) → serve_all (l ++ (o ∷ [])) r ≡ onward (serve_all l r) (λ r. serve_all (o ∷ []) r)) → onward x (λ r. serve_all (l ++ (o ∷ [])) r) ≡ onward (onward x (λ r. serve_all l r)) (λ r. serve_all (o ∷ []) r)
    by none f = refl
    by (some r) f = f r

-- ---- a place of the search

module _ (ops : List Operation) (first : List ℕ) where
  -- the order o has been taken and has left the queue q
  pub record Stands (o q : List ℕ) : Type 0 where
    pub within : (k : ℕ) → Has k o → k < length ops
    pub once : Once o
    -- what was answered before one of them began is among them
    pub closed : (k : ℕ) → Has k o → (j : ℕ) → j < length ops → Earlier (at ops j) (at ops k) → Has j o
    pub timely : Timely ops o
    pub plays : serve_all (map (at ops) o) first ≡ some q

  pub nothing_taken : Stands [] first
  unfolding serve_all
  nothing_taken = record { within = λ k w. absurd w; once = tt; closed = λ k w j h e. w; timely = tt; plays = refl }

  timely_snoc : (i : ℕ) (l : List ℕ) → Timely ops l → ((k : ℕ) → Has k l → Earlier (at ops i) (at ops k) → ⊥) → Timely ops (l ++ (i ∷ []))
  timely_snoc i [] t n = (λ j w e. w, tt)
  timely_snoc i (k ∷ l) t n = (front, timely_snoc i l t.1 (λ j w. n j (inr w)))
    where
      front : (j : ℕ) → Has j (l ++ (i ∷ [])) → Earlier (at ops j) (at ops k) → ⊥
      front j w e = by (has_either j l (i ∷ []) w)
        where
          by : Has j l ⊎ Has j (i ∷ []) → ⊥
          by (inl z) = t.0 j z e
          by (inr (inl z)) = n k (inl refl) (subst (λ (x : ℕ). Earlier (at ops x) (at ops k)) z e)
          by (inr (inr z)) = z

  -- what an eligible operation is
  pub record Eligible (o q : List ℕ) (i : ℕ) (q' : List ℕ) : Type 0 where
    pub new : Has i o → ⊥
    pub paid : (j : ℕ) → j < length ops → Earlier (at ops j) (at ops i) → Has j o
    pub served : serve (at ops i).call (at ops i).reply q ≡ some q'

  paid_of : (o : List ℕ) (i : ℕ) → any (owed ops o i) (length ops) ≡ false → (j : ℕ) → j < length ops → Earlier (at ops j) (at ops i) → Has j o
  unfolding owed
  paid_of o i e j h w = by (is_in j o) refl
    where
      by : (x : Bool) → is_in j o ≡ x → Has j o
      by true f = in_has j o f
      by false f = no_way (sym (both_of (both (says (at ops j).reply) (ltb (at ops j).ended (at ops i).began)) (not (is_in j o))
          (both_of (says (at ops j).reply) (ltb (at ops j).ended (at ops i).began) w.0 (lt-ltb (at ops j).ended (at ops i).began w.1)) (rw f))
          ∙ find.any_clear (owed ops o i) (length ops) j e h)

  pub eligible_of : (o q : List ℕ) (i : ℕ) (q' : List ℕ) → taking ops o q i ≡ some q' → Eligible o q i q'
  unfolding taking
  eligible_of o q i q' e = by (is_in i o) refl (any (owed ops o i) (length ops)) refl e
    where
      by : (x : Bool) → is_in i o ≡ x → (y : Bool) → any (owed ops o i) (length ops) ≡ y
          → ◌≡◌ {A = Option (List ℕ)} (elim x as (λ _. Option (List ℕ)) [ true ↦ none | false ↦ elim y as (λ _. Option (List ℕ)) [ true ↦ none | false ↦ serve (at ops i).call (at ops i).reply q ] ]) (some q')
          → Eligible o q i q'
      by true a y b h = absurd (none_some h)
        where
          none_some : ◌≡◌ {A = Option (List ℕ)} none (some q') → ⊥
          none_some z = let w : ◌≡◌ {A = ℕ} 0 1 = cc in omega arith
      by false a true b h = absurd (none_some h)
        where
          none_some : ◌≡◌ {A = Option (List ℕ)} none (some q') → ⊥
          none_some z = let w : ◌≡◌ {A = ℕ} 0 1 = cc in omega arith
      by false a false b h = record { new = out_has i o a; paid = paid_of o i b; served = h }

  not_owed : (o : List ℕ) (i j : ℕ) → (Earlier (at ops j) (at ops i) → Has j o) → owed ops o i j ≡ false
  unfolding owed
  not_owed o i j f = by (both (both (says (at ops j).reply) (ltb (at ops j).ended (at ops i).began)) (not (is_in j o))) refl
    where
      by : (x : Bool) → both (both (says (at ops j).reply) (ltb (at ops j).ended (at ops i).began)) (not (is_in j o)) ≡ x → x ≡ false
      by false e = refl
      by true e =
          let t = both_true (both (says (at ops j).reply) (ltb (at ops j).ended (at ops i).began)) (not (is_in j o)) e in
          let u = both_true (says (at ops j).reply) (ltb (at ops j).ended (at ops i).began) t.0 in
          no_way (sym (has_in j o (f (u.0, ltb-true (at ops j).ended (at ops i).began u.1))) ∙ not-true (is_in j o) t.1)

  pub taking_of : (o q : List ℕ) (i : ℕ) (q' : List ℕ) → Eligible o q i q' → taking ops o q i ≡ some q'
  unfolding taking
  taking_of o q i q' g = rw (no_in i o g.new, taking, find.any_none (owed ops o i) (length ops) (λ j h. not_owed o i j (g.paid j h))) g.served

  -- taking it
  pub taken : (o q : List ℕ) (i : ℕ) (q' : List ℕ) → i < length ops → Stands o q → Eligible o q i q' → Stands (o ++ (i ∷ [])) q'
  unfolding serve_all
  taken o q i q' lt s g = record {
    within = λ k w. within k (has_either k o (i ∷ []) w);
    once = once_snoc i o s.once g.new;
    closed = λ k w j h e. has_left j o (i ∷ []) (closed k (has_either k o (i ∷ []) w) j h e);
    timely = timely_snoc i o s.timely (λ k w e. g.new (s.closed k w i lt e));
    plays =
        ap (λ (x : List Operation). serve_all x first) (map-append (at ops) o (i ∷ [])) ∙ serve_snoc (map (at ops) o) (at ops i) first
        ∙ ap (λ (x : Option (List ℕ)). onward x (λ r. serve_all (at ops i ∷ []) r)) s.plays ∙ ap (λ (x : Option (List ℕ)). onward x (λ r. serve_all [] r)) g.served;
  }
    where
      within : (k : ℕ) → Has k o ⊎ Has k (i ∷ []) → k < length ops
      within k (inl w) = s.within k w
      within k (inr (inl e)) = omega arith
      within k (inr (inr z)) = absurd z

      closed : (k : ℕ) → Has k o ⊎ Has k (i ∷ []) → (j : ℕ) → j < length ops → Earlier (at ops j) (at ops k) → Has j o
      closed k (inl w) j h e = s.closed k w j h e
      closed k (inr (inl z)) j h e = g.paid j h (subst (λ (x : ℕ). Earlier (at ops j) (at ops x)) z e)
      closed k (inr (inr z)) j h e = absurd z

  -- ---- lawful is said with an order that shows it

  module _ (last : List ℕ) where
    abbrev Shown : Judged → Type 0
    Shown r = r.verdict ≡ lawful → (q : List ℕ) × Stands r.order q × (finished ops last r.order q ≡ true)

    other : (v : Verdict) → (v ≡ lawful → ⊥) → (r : Judged) → r.verdict ≡ v → Shown r
    other v n r e h = absurd (n (sym e ∙ h))

    not_unlawful : ◌≡◌ {A = Verdict} unlawful lawful → ⊥
    not_unlawful e = let w : ◌≡◌ {A = ℕ} 0 1 = cc in omega arith

    not_undecided : ◌≡◌ {A = Verdict} undecided lawful → ⊥
    not_undecided e = let w : ◌≡◌ {A = ℕ} 0 1 = cc in omega arith

    module _ (more : ℕ → Bool) (f : List ℕ → List ℕ → ℕ → Judged) (sf : (o q : List ℕ) (t : ℕ) → Stands o q → Shown (f o q t)) where
      scan_shown : (k : ℕ) (o q : List ℕ) (i t : ℕ) → i + k ≡ length ops → Stands o q → Shown (scan more ops f k o q i t)
      unfolding scan
      scan_shown zero o q i t n s = other unlawful not_unlawful (judged unlawful t []) refl
      scan_shown (suc k) o q i t n s = by (taking ops o q i) refl (λ u. scan_shown k o q (suc i) u (omega arith) s)
        where
          by : (x : Option (List ℕ)) → taking ops o q i ≡ x → ((u : ℕ) → Shown (scan more ops f k o q (suc i) u))
              → Shown (consider more (f (o ++ (i ∷ []))) (scan more ops f k o q (suc i)) t x)
          by none e g = g t
          by (some q') e g = on (more t)
            where
              r : Judged
              r = f (o ++ (i ∷ [])) q' (suc t)

              good : Shown r
              good = sf (o ++ (i ∷ [])) q' (suc t) (taken o q i q' (omega arith) s (eligible_of o q i q' e))

              last_of : (v : Verdict) → r.verdict ≡ v → Shown (or_else v r (scan more ops f k o q (suc i)))
              last_of lawful z = good
              last_of unlawful z = g r.tries
              last_of undecided z = good

              on : (b : Bool) → Shown (elim b as (λ _. Judged) [ true ↦ (let z = f (o ++ (i ∷ [])) q' (suc t) in or_else z.verdict z (scan more ops f k o q (suc i))) | false ↦ judged undecided t [] ])
              on true = last_of r.verdict refl
              on false = other undecided not_undecided (judged undecided t []) refl

    pub search_shown : (more : ℕ → Bool) (m : ℕ) (o q : List ℕ) (t : ℕ) → Stands o q → Shown (searched more ops last m o q t)
    unfolding searched
    search_shown more zero o q t s = by (finished ops last o q) refl
      where
        by : (b : Bool) → finished ops last o q ≡ b → Shown (elim b as (λ _. Judged) [ true ↦ judged lawful t o | false ↦ judged unlawful t [] ])
        by true e = λ h. (q, s, e)
        by false e = other unlawful not_unlawful (judged unlawful t []) refl
    search_shown more (suc m) o q t s =
        by (finished ops last o q) refl (scan_shown more (searched more ops last m) (search_shown more m) (length ops) o q 0 t (omega arith) s)
      where
        by : (b : Bool) → finished ops last o q ≡ b → Shown (scan more ops (searched more ops last m) (length ops) o q 0 t)
            → Shown (elim b as (λ _. Judged) [ true ↦ judged lawful t o | false ↦ scan more ops (searched more ops last m) (length ops) o q 0 t ])
        by true e g = λ h. (q, s, e)
        by false e g = g

    whole_of : (o q : List ℕ) → finished ops last o q ≡ true → ((k : ℕ) → k < length ops → says (at ops k).reply ≡ true → Has k o) × (q ≡ last)
    unfolding finished
    whole_of o q e = (all, same_items_lem q last t.1)
      where
        t : (not (any (λ j. both (says (at ops j).reply) (not (is_in j o))) (length ops)) ≡ true) × (same_items q last ≡ true)
        t = both_true (not (any (λ j. both (says (at ops j).reply) (not (is_in j o))) (length ops))) (same_items q last) e

        all : (k : ℕ) → k < length ops → says (at ops k).reply ≡ true → Has k o
        all k h w = by (is_in k o) refl
          where
            by : (x : Bool) → is_in k o ≡ x → Has k o
            by true f = in_has k o f
            by false f = no_way (sym (both_of (says (at ops k).reply) (not (is_in k o)) w (rw f))
                ∙ find.any_clear (λ j. both (says (at ops j).reply) (not (is_in j o))) (length ops) k (not-true _ t.0) h)

    -- the order that comes with it is one that shows the history lawful
    pub sound : (more : ℕ → Bool) → (searched more ops last (length ops) [] first 0).verdict ≡ lawful → Lawful ops first last
    sound more h =
        let r = search_shown more (length ops) [] first 0 nothing_taken h in
        let w = whole_of (searched more ops last (length ops) [] first 0).order r.0 r.2 in
        record {
          order = (searched more ops last (length ops) [] first 0).order;
          within = r.1.within;
          once = r.1.once;
          whole = w.0;
          timely = r.1.timely;
          plays = r.1.plays ∙ ap (λ (x : List ℕ). some x) w.1;
        }

    pub sound_order : (more : ℕ → Bool) (h : (searched more ops last (length ops) [] first 0).verdict ≡ lawful)
        → (sound more h).order ≡ (searched more ops last (length ops) [] first 0).order
    unfolding sound
    sound_order more h = refl

    -- ---- unlawful is said only where there is no order

    abbrev Not : Judged → Type 0
    Not r = r.verdict ≡ unlawful → ⊥

    not_lawful : ◌≡◌ {A = Verdict} lawful unlawful → ⊥
    not_lawful e = let w : ◌≡◌ {A = ℕ} 0 1 = cc in omega arith

    not_undecided' : ◌≡◌ {A = Verdict} undecided unlawful → ⊥
    not_undecided' e = let w : ◌≡◌ {A = ℕ} 0 1 = cc in omega arith

    or_not : (v : Verdict) (r : Judged) → r.verdict ≡ v → (go : ℕ → Judged) → (v ≡ unlawful → Not (go r.tries)) → Not (or_else v r go)
    or_not lawful r e go h z = not_lawful (sym e ∙ z)
    or_not unlawful r e go h z = h refl z
    or_not undecided r e go h z = not_undecided' (sym e ∙ z)

    module _ (more : ℕ → Bool) (f : List ℕ → List ℕ → ℕ → Judged) (o q : List ℕ) (k : ℕ) (q' : List ℕ) (e : taking ops o q k ≡ some q') (nf : (t : ℕ) → Not (f (o ++ (k ∷ [])) q' t)) where
      scan_not : (c i t : ℕ) → i ≤ k → k < i + c → Not (scan more ops f c o q i t)
      unfolding scan
      scan_not zero i t a b = absurd (omega arith)
      scan_not (suc c) i t a b = by (ℕ_discrete i k)
          (λ ne u. scan_not c (suc i) u (omega arith) (omega arith))
        where
          hit : (x : Option (List ℕ)) → x ≡ some q' → (y : Bool) → i ≡ k
              → Not (consider more (f (o ++ (i ∷ []))) (scan more ops f c o q (suc i)) t x)
          hit none z y w = absurd (let v : ◌≡◌ {A = ℕ} 0 1 = cc in omega arith)
          hit (some p) z y w = on (more t)
            where
              same : p ≡ q'
              same = cc

              r : Judged
              r = f (o ++ (i ∷ [])) p (suc t)

              nr : Not r
              nr = subst (λ (x : List ℕ). Not (f (o ++ (i ∷ [])) x (suc t))) (sym same) (subst (λ (x : ℕ). Not (f (o ++ (x ∷ [])) q' (suc t))) (sym w) (nf (suc t)))

              on : (b : Bool) → Not (elim b as (λ _. Judged) [ true ↦ (let z = f (o ++ (i ∷ [])) p (suc t) in or_else z.verdict z (scan more ops f c o q (suc i))) | false ↦ judged undecided t [] ])
              on true = or_not r.verdict r refl (scan more ops f c o q (suc i)) (λ z. absurd (nr z))
              on false = not_undecided'

          miss : (x : Option (List ℕ)) → ((u : ℕ) → Not (scan more ops f c o q (suc i) u)) → Not (consider more (f (o ++ (i ∷ []))) (scan more ops f c o q (suc i)) t x)
          miss none g = g t
          miss (some p) g = on (more t)
            where
              r : Judged
              r = f (o ++ (i ∷ [])) p (suc t)

              on : (b : Bool) → Not (elim b as (λ _. Judged) [ true ↦ (let z = f (o ++ (i ∷ [])) p (suc t) in or_else z.verdict z (scan more ops f c o q (suc i))) | false ↦ judged undecided t [] ])
              on true = or_not r.verdict r refl (scan more ops f c o q (suc i)) (λ z. g r.tries)
              on false = not_undecided'

          by : Dec (i ≡ k) → ((i ≡ k → ⊥) → (u : ℕ) → Not (scan more ops f c o q (suc i) u))
              → Not (consider more (f (o ++ (i ∷ []))) (scan more ops f c o q (suc i)) t (taking ops o q i))
          by (yes w) g = hit (taking ops o q i) (ap (taking ops o q) w ∙ e) true w
          by (no w) g = miss (taking ops o q i) (g w)

    -- an order that shows it, o of it taken
    pub record Left (o q rest : List ℕ) : Type 0 where
      pub within : (k : ℕ) → Has k (o ++ rest) → k < length ops
      pub once : Once (o ++ rest)
      pub whole : (k : ℕ) → k < length ops → says (at ops k).reply ≡ true → Has k (o ++ rest)
      pub timely : Timely ops rest
      pub plays : serve_all (map (at ops) rest) q ≡ some last

    -- an answer is not before its own begin
    abbrev pub Sane : Type 0
    Sane = (k : ℕ) → k < length ops → Earlier (at ops k) (at ops k) → ⊥

    served_first : (k : ℕ) (l q : List ℕ) → serve_all (map (at ops) (k ∷ l)) q ≡ some last
        → (q' : List ℕ) × (serve (at ops k).call (at ops k).reply q ≡ some q') × (serve_all (map (at ops) l) q' ≡ some last)
    unfolding serve_all
    served_first k l q e = by (serve (at ops k).call (at ops k).reply q) refl e
      where
        by : (x : Option (List ℕ)) → serve (at ops k).call (at ops k).reply q ≡ x → onward x (λ r. serve_all (map (at ops) l) r) ≡ some last
            → (q' : List ℕ) × (serve (at ops k).call (at ops k).reply q ≡ some q') × (serve_all (map (at ops) l) q' ≡ some last)
        by none a b = absurd (let v : ◌≡◌ {A = ℕ} 0 1 = cc in omega arith)
        by (some r) a b = (r, a, b)

    done : (o q : List ℕ) → Left o q [] → finished ops last o q ≡ true
    unfolding finished serve_all
    done o q g = both_of (not (any (λ j. both (says (at ops j).reply) (not (is_in j o))) (length ops))) (same_items q last) (rw none_left) (subst (λ (x : List ℕ). same_items q x ≡ true) q_is (items_same q))
      where
        q_is : q ≡ last
        q_is = let e = g.plays in cc

        clear : (j : ℕ) → j < length ops → both (says (at ops j).reply) (not (is_in j o)) ≡ false
        clear j h = by (says (at ops j).reply) refl
          where
            by : (x : Bool) → says (at ops j).reply ≡ x → both x (not (is_in j o)) ≡ false
            by false e = refl
            by true e = rw (has_in j o (subst (λ (x : List ℕ). Has j x) (append-nil o) (g.whole j h e)))

        none_left : any (λ j. both (says (at ops j).reply) (not (is_in j o))) (length ops) ≡ false
        none_left = find.any_none (λ j. both (says (at ops j).reply) (not (is_in j o))) (length ops) clear

    module _ (sane : Sane) (more : ℕ → Bool) where
      first_eligible : (o q : List ℕ) (k : ℕ) (l q' : List ℕ) → Left o q (k ∷ l) → serve (at ops k).call (at ops k).reply q ≡ some q' → Eligible o q k q'
      first_eligible o q k l q' g e = record { new = (once_apart k o l g.once).0; paid = paid; served = e }
        where
          paid : (j : ℕ) → j < length ops → Earlier (at ops j) (at ops k) → Has j o
          paid j h w = by (has_either j o (k ∷ l) (g.whole j h w.0))
            where
              by : Has j o ⊎ Has j (k ∷ l) → Has j o
              by (inl z) = z
              by (inr (inl z)) = absurd (sane j h (subst (λ (x : ℕ). Earlier (at ops j) (at ops x)) (sym z) w))
              by (inr (inr z)) = absurd (g.timely.0 j z w)

      -- the rest begins with k: the search tries k at the latest
      on_rest : (m : ℕ) (o q : List ℕ) (k : ℕ) (l : List ℕ) → Left o q (k ∷ l)
          → ((q' : List ℕ) (t : ℕ) → Left (o ++ (k ∷ [])) q' l → Not (searched more ops last m (o ++ (k ∷ [])) q' t))
          → (t : ℕ) → Not (scan more ops (searched more ops last m) (length ops) o q 0 t)
      on_rest m o q k l g f t =
          let w = served_first k l q g.plays in
          scan_not more (searched more ops last m) o q k w.0 (taking_of o q k w.0 (first_eligible o q k l w.0 g w.1))
          (λ u. f w.0 u (record {
            within = λ j z. g.within j (subst (λ (x : List ℕ). Has j x) moved z);
            once = subst Once (sym moved) g.once;
            whole = λ j h z. subst (λ (x : List ℕ). Has j x) (sym moved) (g.whole j h z);
            timely = g.timely.1;
            plays = w.2;
          }))
          (length ops) 0 t (omega arith) (omega (arith, g.within k (has_right k o (k ∷ l) (inl refl))))
        where
          moved : (o ++ (k ∷ [])) ++ l ≡ o ++ (k ∷ l)
          moved = append_assoc o (k ∷ []) l

      pub search_not : (m : ℕ) (o q rest : List ℕ) (t : ℕ) → length rest ≤ m → Left o q rest → Not (searched more ops last m o q t)
      unfolding searched
      search_not zero o q [] t h g = rw (done o q g, searched) not_lawful
      search_not zero o q (k ∷ l) t h g = absurd (omega arith)
      search_not (suc m) o q [] t h g = rw (done o q g, searched) not_lawful
      search_not (suc m) o q (k ∷ l) t h g =
          by (finished ops last o q) (on_rest m o q k l g (λ q' u r. search_not m (o ++ (k ∷ [])) q' l u (omega arith) r) t)
        where
          by : (b : Bool) → Not (scan more ops (searched more ops last m) (length ops) o q 0 t)
              → Not (elim b as (λ _. Judged) [ true ↦ judged lawful t o | false ↦ scan more ops (searched more ops last m) (length ops) o q 0 t ])
          by true z = not_lawful
          by false z = z

    -- different numbers below n are at most n
    once_differ : (l : List ℕ) → Once l → (i j : ℕ) → i < length l → j < length l → get_or l i 0 ≡ get_or l j 0 → i ≡ j
    once_differ [] o i j a b e = absurd (omega arith)
    once_differ (k ∷ l) o zero zero a b e = refl
    once_differ (k ∷ l) o zero (suc j) a b e = absurd (o.0 (subst (λ (x : ℕ). Has x l) (sym e) (at_has l j (omega arith))))
    once_differ (k ∷ l) o (suc i) zero a b e = absurd (o.0 (subst (λ (x : ℕ). Has x l) e (at_has l i (omega arith))))
    once_differ (k ∷ l) o (suc i) (suc j) a b e = ap suc (once_differ l o.1 i j (omega arith) (omega arith) e)

    pub complete : Sane → (more : ℕ → Bool) → Lawful ops first last → Not (searched more ops last (length ops) [] first 0)
    complete sane more w =
        search_not sane more (length ops) [] first w.order 0
        (pigeon (length ops) (length w.order) (λ i. get_or w.order i 0) (λ i h. w.within (get_or w.order i 0) (at_has w.order i h)) (once_differ w.order w.once))
        (record { within = w.within; once = w.once; whole = w.whole; timely = w.timely; plays = w.plays })
