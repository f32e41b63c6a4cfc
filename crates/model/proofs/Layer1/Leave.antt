-- A thread answers: nodes stop waiting for it, and some become free.
use mathlib.Core.Path.{◌≡◌, refl, sym, subst₂, ap, ◌∙◌}
use mathlib.Core.Bool.{Bool, true, false}
use mathlib.Core.List.{List, [], ◌∷◌, cons≢nil}
use mathlib.Core.Logic.{◌≢◌, ◌⊎◌, inl, inr}
use mathlib.Core.Option.{Option, none, some}
use Prim.Native.Nat.{ℕ, ◌≤◌}
use native.Mathlib.Omega.{arith}
use lib.Dec.{eqb, eqb→eq}
use Rattle.model.specs.Basics.{upd, has}
use Rattle.model.specs.Core.{Core, busy, idle}
use Rattle.model.specs.Steps.{leave, freed, remove}
use Rattle.model.specs.Places.{owns_e, owns_d}
use Rattle.model.proofs.Basics.{upd_ind, facet}
use Rattle.model.proofs.Layer1.Ghost.{lent_w, lent, poss, Gh, Inv, PlaceI, Place, pos_of, queue, waiting, deqd, kept, enqd, spare, off, ixs, Refs, Mine, Live}
use Rattle.model.proofs.Layer1.Ghost.{Marks, Spot, Holder, Awaits}
use Rattle.model.proofs.Layer1.Places.{tag}

abbrev pub release : Place → List ℕ → Place
release (queue q) w = queue q
release (waiting q) [] = spare
release (waiting q) (u ∷ w) = waiting q
release (deqd t q) w = deqd t q
release (kept t q) w = kept t q
release (enqd t) w = enqd t
release spare w = spare
release off w = off
release lent w = lent
release lent_w [] = spare
release lent_w (u ∷ w) = lent_w

abbrev pub leave_g : Gh → (ℕ → List ℕ) → Gh
leave_g g w = record { len = g.len; hp = g.hp; tp = g.tp; who = g.who; idx = g.idx; own = λ n. release (g.own n) (w n); base = g.base }

remove_nil : (t : ℕ) → remove t [] ≡ []
unfolding remove
remove_nil t = refl

plain : (t : ℕ) (f : Bool) (w w' : List ℕ) → f ≡ false → w ≡ [] → remove t w ≡ w' → (freed f w w' ≡ false) × (w' ≡ [])
plain t f w w' a b e = (rw (a, b) refl, sym e ∙ ap (remove t) b ∙ remove_nil t)

rel_marks : (t : ℕ) (f : Bool) (w w' : List ℕ) (p : Place) → Marks f w p → remove t w ≡ w' → Marks (freed f w w') w' (release p w')
rel_marks t f w w' (queue q) k e = plain t f w w' k.0 k.1 e
rel_marks t f [] [] (waiting q) k e = absurd (k.1 refl)
rel_marks t f (u ∷ w) [] (waiting q) k e = (rw k.0 refl, refl)
rel_marks t f [] (u' ∷ w') (waiting q) k e = absurd (k.1 refl)
rel_marks t f (u ∷ w) (u' ∷ w') (waiting q) k e = (rw k.0 refl, λ z. cons≢nil z)
rel_marks t f w w' (deqd u q) k e = plain t f w w' k.0 k.1 e
rel_marks t f w w' (kept u q) k e = plain t f w w' k.0 k.1 e
rel_marks t f w w' (enqd u) k e = plain t f w w' k.0 k.1 e
rel_marks t f w w' spare k e = (rw k.0 refl, sym e ∙ ap (remove t) k.1 ∙ remove_nil t)
rel_marks t f w w' off k e = plain t f w w' k.0 k.1 e
rel_marks t f w w' lent k e = plain t f w w' k.0 k.1 e
rel_marks t f [] [] lent_w k e = absurd (k.1 refl)
rel_marks t f (u ∷ w) [] lent_w k e = (rw k.0 refl, refl)
rel_marks t f [] (u' ∷ w') lent_w k e = absurd (k.1 refl)
rel_marks t f (u ∷ w) (u' ∷ w') lent_w k e = (rw k.0 refl, λ z. cons≢nil z)

has_remove : (u t : ℕ) (l : List ℕ) → u ≢ t → has u l → has u (remove t l)
unfolding remove
has_remove u t [] ne h = h
has_remove u t (x ∷ l) ne h = by (eqb x t) refl (has_remove u t l ne) h
  where
    by : (b : Bool) → eqb x t ≡ b → (has u l → has u (remove t l)) → (u ≡ x) ⊎ has u l
        → has u (elim b as (λ _. List ℕ) [ true ↦ remove t l | false ↦ x ∷ remove t l ])
    by true e r (inl f) = absurd (ne (f ∙ eqb→eq x t (rw e tt)))
    by true e r (inr f) = r f
    by false e r (inl f) = inl f
    by false e r (inr f) = inr (r f)

rel_spot : (who : ℕ → ℕ) (hp l n : ℕ) (p : Place) (w : List ℕ) → Spot who hp l n p → Spot who hp l n (release p w)
rel_spot who hp l n (queue q) w s = s
rel_spot who hp l n (waiting q) [] s = tt
rel_spot who hp l n (waiting q) (u ∷ w) s = s
rel_spot who hp l n (deqd t q) w s = s
rel_spot who hp l n (kept t q) w s = s
rel_spot who hp l n (enqd t) w s = s
rel_spot who hp l n spare w s = s
rel_spot who hp l n off w s = s
rel_spot who hp l n lent w s = s
rel_spot who hp l n lent_w [] s = tt
rel_spot who hp l n lent_w (u ∷ w) s = s

rel_holder : (held oe od : ℕ → Option ℕ) (n : ℕ) (p : Place) (w : List ℕ) → Holder held oe od n p → Holder held oe od n (release p w)
rel_holder held oe od n (queue q) w s = s
rel_holder held oe od n (waiting q) [] s = tt
rel_holder held oe od n (waiting q) (u ∷ w) s = s
rel_holder held oe od n (deqd t q) w s = s
rel_holder held oe od n (kept t q) w s = s
rel_holder held oe od n (enqd t) w s = s
rel_holder held oe od n spare w s = s
rel_holder held oe od n off w s = s
rel_holder held oe od n lent w s = s
rel_holder held oe od n lent_w [] s = tt
rel_holder held oe od n lent_w (u ∷ w) s = s

-- what is not free after was so before
pub rel_inv : (p : Place) (w : List ℕ) {x : Place} → spare ≢ x → release p w ≡ x → p ≡ x
rel_inv (queue q) w ne e = e
rel_inv (waiting q) [] ne e = absurd (ne e)
rel_inv (waiting q) (u ∷ w) ne e = e
rel_inv (deqd t q) w ne e = e
rel_inv (kept t q) w ne e = e
rel_inv (enqd t) w ne e = e
rel_inv spare w ne e = e
rel_inv off w ne e = e
rel_inv lent w ne e = e
rel_inv lent_w [] ne e = absurd (ne e)
rel_inv lent_w (u ∷ w) ne e = e

pub rel_pos : (p : Place) (w : List ℕ) (q : ℕ) → pos_of (release p w) ≡ some q → pos_of p ≡ some q
rel_pos (queue r) w q e = e
rel_pos (waiting r) [] q e = let z : ◌≡◌ {A = ℕ} 0 1 = cc in absurd (omega arith)
rel_pos (waiting r) (u ∷ w) q e = e
rel_pos (deqd t r) w q e = e
rel_pos (kept t r) w q e = e
rel_pos (enqd t) w q e = e
rel_pos spare w q e = e
rel_pos off w q e = e
rel_pos lent w q e = e
rel_pos lent_w [] q e = e
rel_pos lent_w (u ∷ w) q e = e

rel_live : (p : Place) (w : List ℕ) (q : ℕ) → pos_of p ≡ some q → (p ≡ waiting q → w ≢ []) → pos_of (release p w) ≡ some q
rel_live (queue r) w q e f = e
rel_live (waiting r) [] q e f = absurd (f (let z : r ≡ q = cc in rw z refl) refl)
rel_live (waiting r) (u ∷ w) q e f = e
rel_live (deqd t r) w q e f = e
rel_live (kept t r) w q e f = e
rel_live (enqd t) w q e f = e
rel_live spare w q e f = e
rel_live off w q e f = e
rel_live lent w q e f = e
rel_live lent_w [] q e f = e
rel_live lent_w (u ∷ w) q e f = e

rel_awaits : (bz bz' : ℕ → Bool) (base : ℕ → ℕ) (w w' : List ℕ) (p : Place) → ((u : ℕ) → bz' u ≡ true → (bz u ≡ true) × (has u w → has u w'))
    → Awaits bz base w p → Awaits bz' base w' (release p w')
rel_awaits bz bz' base w w' (queue q) f a = tt
rel_awaits bz bz' base w [] (waiting q) f a = tt
rel_awaits bz bz' base w (x ∷ w') (waiting q) f a = λ u b lo. (f u b).1 (a u (f u b).0 lo)
rel_awaits bz bz' base w w' (deqd t q) f a = tt
rel_awaits bz bz' base w w' (kept t q) f a = tt
rel_awaits bz bz' base w w' (enqd t) f a = tt
rel_awaits bz bz' base w w' spare f a = tt
rel_awaits bz bz' base w w' off f a = tt
rel_awaits bz bz' base w w' lent f a = tt
rel_awaits bz bz' base w [] lent_w f a = tt
rel_awaits bz bz' base w (x ∷ w') lent_w f a = tt

module _ (m : Core) (g : Gh) (i : Inv m g) (t : ℕ) (oe : owns_e (m.thr t) ≡ none) (od : owns_d (m.thr t) ≡ none) where
  abbrev w' : ℕ → List ℕ
  w' n = remove t (m.wait n)

  -- a thread with an operation after is another, and had it before
  still_busy : (u : ℕ) → busy (upd m.thr t idle u) ≡ true → (u ≢ t) × (busy (m.thr u) ≡ true)
  still_busy u = upd_ind m.thr t idle (λ u s. busy s ≡ true → (u ≢ t) × (busy (m.thr u) ≡ true)) u
      (λ z. let z' : ◌≡◌ {A = ℕ} 0 1 = cc in absurd (omega arith)) (λ ne b. (ne, b))

  stays : (u q : ℕ) → u ≢ t → busy (m.thr u) ≡ true → g.base u ≤ q → (n : ℕ) → g.own n ≡ waiting q → w' n ≢ []
  stays u q ne b lo n o z =
      let a : Awaits (λ u. busy (m.thr u)) g.base (m.wait n) (waiting q) = rw o at (i.waits.awaits n) in
      rw z at (has_remove u t (m.wait n) ne (a u b lo))

  pub left : Inv (leave m t) (leave_g g w')
  left = record {
    log = i.log;
    place = subst₂ (PlaceI g.len g.hp g.who (λ n. release (g.own n) (w' n)) (λ n. freed (m.free n) (m.wait n) (w' n)) w' m.held)
        (sym (facet owns_e m.thr t idle (sym oe))) (sym (facet owns_d m.thr t idle (sym od)))
        record {
          queued = λ q lo hi. ap (λ p. release p (w' (g.who q))) (i.place.queued q lo hi);
          marks = λ n. rel_marks t (m.free n) (m.wait n) (w' n) (g.own n) (i.place.marks n) refl;
          spot = λ n. rel_spot g.who g.hp g.len n (g.own n) (w' n) (i.place.spot n);
          holder = λ n. rel_holder m.held (λ u. owns_e (m.thr u)) (λ u. owns_d (m.thr u)) n (g.own n) (w' n) (i.place.holder n);
          enq_own = λ u n o. ap (λ p. release p (w' n)) (i.place.enq_own u n o);
          deq_own = λ u n o. let d = i.place.deq_own u n o in (d.0, ap (λ p. release p (w' n)) d.1);
          held_own = λ u n o. let d = i.place.held_own u n o in (d.0, ap (λ p. release p (w' n)) d.1);
          apart = λ u n n' q q' a b. i.place.apart u n n' q q'
              (rel_inv (g.own n) (w' n) (λ f. omega (arith, ap tag f)) a) (rel_inv (g.own n') (w' n') (λ f. omega (arith, ap tag f)) b);
        };
    link = record {
      links = λ q l h. i.link.links q (was q l) h;
      last = λ q l h. i.link.last q (was q l) h;
      indices = λ q l. i.link.indices q (was q l);
    };
    alive = record {
      live = λ u b q lo hi. let s = still_busy u b in
          rel_live (g.own (g.who q)) (w' (g.who q)) q (i.alive.live u s.1 q lo hi) (λ o. stays u q s.0 s.1 lo (g.who q) o);
      base_lo = λ u b. i.alive.base_lo u (still_busy u b).1;
      range = λ u b. i.alive.range u (still_busy u b).1;
      prev = λ q f. rel_live (g.own (g.who q)) (w' (g.who q)) q (i.alive.prev q f)
          (λ o z. let s : Spot g.who g.hp g.len (g.who q) (waiting q) = rw o at (i.place.spot (g.who q)) in omega (arith, s.1));
    };
    waits = record {
      awaits = λ n. rel_awaits (λ u. busy (m.thr u)) (λ u. busy (upd m.thr t idle u)) g.base (m.wait n) (w' n) (g.own n)
          (λ u b. let s = still_busy u b in (s.1, has_remove u t (m.wait n) s.0)) (i.waits.awaits n);
    };
    threads = record {
      refs = λ u. upd_ind m.thr t idle (λ u s. Refs g.who g.idx (g.base u) g.hp g.tp g.len s) u tt (λ ne. i.threads.refs u);
      mine = λ u. upd_ind m.thr t idle (λ u s. Mine (ixs m.node) m.next s) u tt (λ ne. i.threads.mine u);
    };
  }
    where
      was : (q : ℕ) → Live g.who (poss (λ n. release (g.own n) (w' n))) q → Live g.who (poss g.own) q
      was q l = rel_pos (g.own (g.who q)) (w' (g.who q)) q l
