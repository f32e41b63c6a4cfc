-- Nodes that change hands outside the log: A1 takes one, Worn out gives it back.
use mathlib.Core.Path.{◌≡◌, refl, sym, subst, subst₂, ap, ◌∙◌}
use mathlib.Core.Bool.{Bool, true, false, not}
use mathlib.Core.List.{List, ◌∷◌}
use mathlib.Core.Logic.{◌≢◌, inl, inr}
use mathlib.Core.Option.{none, some}
use Prim.Native.Nat.{ℕ, zero, suc, ◌≤◌, ◌<◌}
use native.Mathlib.Omega.{arith}
use native.Mathlib.Decide.{ℕ_discrete}
use lib.Dec.{eqb, eqb→eq}
use Rattle.model.specs.Basics.{upd, bothb, has}
use Rattle.model.specs.Core.{Th, Core, busy, a1, a2, a7, d1}
use Rattle.model.specs.Changes.{set_th, set_free, set_last}
use Rattle.model.specs.Steps.{others}
use Rattle.model.specs.Places.{owns_e, owns_d}
use Rattle.model.proofs.Basics.{upd_ind, upd_other, upd_at, upd_same, facet}
use Rattle.model.proofs.Layer1.Ghost.{lent_w, lent, poss, WaitI, Gh, Inv, LinkI, LiveI, Place, pos_of, queue, waiting, deqd, kept, enqd, spare, off, ixs}
use Rattle.model.proofs.Layer1.Ghost.{Refs, Mine, Marks, Spot, Holder, Awaits}
use Rattle.model.proofs.Layer1.Places.{holder_map, still, before, tag}

abbrev pub own_g : Gh → ℕ → Place → Gh
own_g g n p = record { len = g.len; hp = g.hp; tp = g.tp; who = g.who; idx = g.idx; own = upd g.own n p; base = g.base }

-- a free node is nowhere else
pub marks_free : (f : Bool) (w : List ℕ) (p : Place) → f ≡ true → Marks f w p → p ≡ spare
marks_free f w (queue q) e k = let z = k.0 in let z : ◌≡◌ {A = ℕ} 0 1 = cc in absurd (omega arith)
marks_free f w (waiting q) e k = let z = k.0 in let z : ◌≡◌ {A = ℕ} 0 1 = cc in absurd (omega arith)
marks_free f w (deqd t q) e k = let z = k.0 in let z : ◌≡◌ {A = ℕ} 0 1 = cc in absurd (omega arith)
marks_free f w (kept t q) e k = let z = k.0 in let z : ◌≡◌ {A = ℕ} 0 1 = cc in absurd (omega arith)
marks_free f w (enqd t) e k = let z = k.0 in let z : ◌≡◌ {A = ℕ} 0 1 = cc in absurd (omega arith)
marks_free f w spare e k = refl
marks_free f w off e k = let z = k.0 in let z : ◌≡◌ {A = ℕ} 0 1 = cc in absurd (omega arith)
marks_free f w lent e k = let z = k.0 in let z : ◌≡◌ {A = ℕ} 0 1 = cc in absurd (omega arith)
marks_free f w lent_w e k = let z = k.0 in let z : ◌≡◌ {A = ℕ} 0 1 = cc in absurd (omega arith)

-- a change of hands at n, from p₀ to p, that leaves the log alone, seen from the other nodes
module _ (m : Core) (g : Gh) (i : Inv m g) (n : ℕ) (p₀ p : Place) (o : g.own n ≡ p₀) (po : pos_of p ≡ pos_of p₀) where
  pub same_pos : poss (upd g.own n p) ≡ poss g.own
  same_pos = facet pos_of g.own n p (rw o po)

  pub awaits_off : (bz : ℕ → Bool) (base : ℕ → ℕ) (wait' : ℕ → List ℕ) → ((k : ℕ) → k ≢ n → wait' k ≡ m.wait k) → Awaits bz base (wait' n) p
      → ((k : ℕ) → Awaits bz base (m.wait k) (g.own k)) → WaitI (upd g.own n p) base wait' bz
  awaits_off bz base wait' f a b = record { awaits = λ k. upd_ind g.own n p (λ k p. Awaits bz base (wait' k) p) k a (λ ne. rw (f k ne) (b k)) }

  pub marks_off : (free' : ℕ → Bool) (wait' : ℕ → List ℕ) → ((k : ℕ) → k ≢ n → free' k ≡ m.free k) → ((k : ℕ) → k ≢ n → wait' k ≡ m.wait k)
      → Marks (free' n) (wait' n) p → (k : ℕ) → Marks (free' k) (wait' k) (upd g.own n p k)
  marks_off free' wait' ff fw a k = upd_ind g.own n p (λ k p. Marks (free' k) (wait' k) p) k a (λ ne. rw (ff k ne, fw k ne) (i.place.marks k))

  pub spot_off : Spot g.who g.hp g.len n p → (k : ℕ) → Spot g.who g.hp g.len k (upd g.own n p k)
  spot_off a k = upd_ind g.own n p (λ k p. Spot g.who g.hp g.len k p) k a (λ ne. i.place.spot k)

  pub queued_off : ((q : ℕ) → p₀ ≢ queue q) → (q : ℕ) → g.hp ≤ q → q < g.len → upd g.own n p (g.who q) ≡ queue q
  queued_off nq q lo hi = still g.own n p (g.who q) o (nq q) (i.place.queued q lo hi)

module _ (m : Core) (g : Gh) (i : Inv m g) (t v n : ℕ) (e : m.thr t ≡ a1 v) (fr : m.free n ≡ true) where
  o : g.own n ≡ spare
  o = marks_free (m.free n) (m.wait n) (g.own n) fr (i.place.marks n)

  bz : ◌≡◌ {A = ℕ → Bool} (λ u. busy (upd m.thr t (a2 v n) u)) (λ u. busy (m.thr u))
  bz = facet busy m.thr t (a2 v n) (rw e)

  same_od : (u : ℕ) → owns_d (upd m.thr t (a2 v n) u) ≡ owns_d (m.thr u)
  same_od u = upd_ind m.thr t (a2 v n) (λ u s. owns_d s ≡ owns_d (m.thr u)) u (rw e) (λ ne. refl)

  pub A1yes : Inv (set_th (set_last (set_free m (upd m.free n false) m.wait) n) t (a2 v n)) (own_g g n (enqd t))
  A1yes = record {
    log = i.log;
    place = record {
      queued = queued_off m g i n spare (enqd t) o refl (λ q f. omega (arith, ap tag f));
      marks = marks_off m g i n spare (enqd t) o refl (upd m.free n false) m.wait (λ k ne. upd_other m.free n false ne) (λ k ne. refl)
          (upd_same m.free n false, (rw o at (i.place.marks n)).1);
      spot = spot_off m g i n spare (enqd t) o refl tt;
      holder = λ k. upd_ind g.own n (enqd t) (λ k p. Holder m.held (λ u. owns_e (upd m.thr t (a2 v n) u))
          (λ u. owns_d (upd m.thr t (a2 v n) u)) k p) k
          (ap owns_e (upd_same m.thr t (a2 v n)))
          (λ ne. holder_map (g.own k) (λ u q f h. same_od u ∙ h) (λ u q f h. h)
          (λ u f h. ap owns_e (upd_other m.thr t (a2 v n) (λ ut. let a : owns_e (m.thr t) ≡ none = rw e in
          let b : owns_e (m.thr t) ≡ some k = rw (← ut) h in let z : ◌≡◌ {A = ℕ} 0 1 = cc in omega arith)) ∙ h)
          (i.place.holder k));
      enq_own = λ u k. upd_ind m.thr t (a2 v n) (λ u s. owns_e s ≡ some k → upd g.own n (enqd t) k ≡ enqd u) u
          (λ h. upd_at g.own n (enqd t) (let z : n ≡ k = cc in sym z))
          (λ ne h. still g.own n (enqd t) k o (λ f. omega (arith, ap tag f)) (i.place.enq_own u k h));
      deq_own = λ u k h. let d = i.place.deq_own u k (sym (same_od u) ∙ h) in (d.0, still g.own n (enqd t) k o (λ f. omega (arith, ap tag f)) d.1);
      held_own = λ u k h. let d = i.place.held_own u k h in (d.0, still g.own n (enqd t) k o (λ f. omega (arith, ap tag f)) d.1);
      apart = λ u k k' q q' a b. i.place.apart u k k' q q'
          (before g.own n (enqd t) k (λ f. omega (arith, ap tag f)) a).1 (before g.own n (enqd t) k' (λ f. omega (arith, ap tag f)) b).1;
    };
    link = subst (λ p. LinkI g.len g.who g.idx p m.next (ixs m.node)) (sym (same_pos m g i n spare (enqd t) o refl)) i.link;
    alive = subst₂ (λ p b. LiveI g.len g.hp g.who p g.base m.conf.threads b) (sym (same_pos m g i n spare (enqd t) o refl)) (sym bz) i.alive;
    waits = awaits_off m g i n spare (enqd t) o refl (λ u. busy (upd m.thr t (a2 v n) u)) g.base m.wait (λ k ne. refl) tt
        (subst (λ b. (k : ℕ) → Awaits b g.base (m.wait k) (g.own k)) (sym bz) i.waits.awaits);
    threads = record {
      refs = λ u. upd_ind m.thr t (a2 v n) (λ u s. Refs g.who g.idx (g.base u) g.hp g.tp g.len s) u tt (λ ne. i.threads.refs u);
      mine = λ u. upd_ind m.thr t (a2 v n) (λ u s. Mine (ixs m.node) m.next s) u tt (λ ne. i.threads.mine u);
    };
  }

-- Worn out: the node goes back. The thread stands at d1, which owns nothing, until it leaves
module _ (m : Core) (g : Gh) (i : Inv m g) (t v n x : ℕ) (e : m.thr t ≡ a7 v n x) where
  ow : g.own n ≡ enqd t
  ow = i.place.enq_own t n (rw e)

  bzw : ◌≡◌ {A = ℕ → Bool} (λ u. busy (upd m.thr t d1 u)) (λ u. busy (m.thr u))
  bzw = facet busy m.thr t d1 (rw e)

  same_odw : (u : ℕ) → owns_d (upd m.thr t d1 u) ≡ owns_d (m.thr u)
  same_odw u = upd_ind m.thr t d1 (λ u s. owns_d s ≡ owns_d (m.thr u)) u (rw e) (λ ne. refl)

  pub given_back : Inv (set_th (set_free m (upd m.free n true) m.wait) t d1) (own_g g n spare)
  given_back = record {
    log = i.log;
    place = record {
      queued = queued_off m g i n (enqd t) spare ow refl (λ q f. omega (arith, ap tag f));
      marks = marks_off m g i n (enqd t) spare ow refl (upd m.free n true) m.wait (λ k ne. upd_other m.free n true ne) (λ k ne. refl)
          (upd_same m.free n true, (rw ow at (i.place.marks n)).1);
      spot = spot_off m g i n (enqd t) spare ow refl tt;
      holder = λ k. upd_ind g.own n spare (λ k p. Holder m.held (λ u. owns_e (upd m.thr t d1 u)) (λ u. owns_d (upd m.thr t d1 u)) k p) k tt
          (λ ne. holder_map (g.own k) (λ u q f h. same_odw u ∙ h) (λ u q f h. h)
          (λ u f h. ap owns_e
          (upd_other m.thr t d1 (λ ut. ne (let a : owns_e (m.thr t) ≡ some n = rw e in let b : owns_e (m.thr t) ≡ some k = rw (← ut) h in cc)))
          ∙ h)
          (i.place.holder k));
      enq_own = λ u k. upd_ind m.thr t d1 (λ u s. owns_e s ≡ some k → upd g.own n spare k ≡ enqd u) u
          (λ h. let z : ◌≡◌ {A = ℕ} 0 1 = cc in absurd (omega arith))
          (λ ne h. still g.own n spare k ow (λ f. ne (let z : t ≡ u = cc in sym z)) (i.place.enq_own u k h));
      deq_own = λ u k h. let d = i.place.deq_own u k (sym (same_odw u) ∙ h) in (d.0, still g.own n spare k ow (λ f. omega (arith, ap tag f)) d.1);
      held_own = λ u k h. let d = i.place.held_own u k h in (d.0, still g.own n spare k ow (λ f. omega (arith, ap tag f)) d.1);
      apart = λ u k k' q q' a b. i.place.apart u k k' q q'
          (before g.own n spare k (λ f. omega (arith, ap tag f)) a).1 (before g.own n spare k' (λ f. omega (arith, ap tag f)) b).1;
    };
    link = subst (λ p. LinkI g.len g.who g.idx p m.next (ixs m.node)) (sym (same_pos m g i n (enqd t) spare ow refl)) i.link;
    alive = subst₂ (λ p b. LiveI g.len g.hp g.who p g.base m.conf.threads b) (sym (same_pos m g i n (enqd t) spare ow refl)) (sym bzw)
        i.alive;
    waits = awaits_off m g i n (enqd t) spare ow refl (λ u. busy (upd m.thr t d1 u)) g.base m.wait (λ k ne. refl) tt
        (subst (λ b. (k : ℕ) → Awaits b g.base (m.wait k) (g.own k)) (sym bzw) i.waits.awaits);
    threads = record {
      refs = λ u. upd_ind m.thr t d1 (λ u s. Refs g.who g.idx (g.base u) g.hp g.tp g.len s) u tt (λ ne. i.threads.refs u);
      mine = λ u. upd_ind m.thr t d1 (λ u s. Mine (ixs m.node) m.next s) u tt (λ ne. i.threads.mine u);
    };
  }

-- D7, first half: the node held is retired
pub has_others : (k t : ℕ) (thr : ℕ → Th) (u : ℕ) → u < k → busy (thr u) ≡ true → u ≢ t → has u (others k t thr)
unfolding others
has_others zero t thr u h b ne = absurd (omega arith)
has_others (suc k) t thr u h b ne = by (ℕ_discrete u k) (has_others k t thr u)
  where
    eqf : (j : ℕ) → j ≢ t → eqb j t ≡ false
    eqf j nj = go (eqb j t) refl
      where
        go : (c : Bool) → eqb j t ≡ c → eqb j t ≡ false
        go true f = absurd (nj (eqb→eq j t (rw f tt)))
        go false f = f

    test : (c : Bool) → has u (others k t thr) → has u (elim c as (λ _. List ℕ) [ true ↦ k ∷ others k t thr | false ↦ others k t thr ])
    test true r = inr r
    test false r = r

    by : Dec (u ≡ k) → (u < k → busy (thr u) ≡ true → u ≢ t → has u (others k t thr))
        → has u (elim (bothb (busy (thr k)) (not (eqb k t))) as (λ _. List ℕ) [ true ↦ k ∷ others k t thr | false ↦ others k t thr ])
    by (yes f) r =
        let b' : busy (thr k) ≡ true = rw f at b in
        let c : eqb k t ≡ false = eqf k (λ z. ne (f ∙ z)) in
        rw (b', c) (inl f)
    by (no f) r = test (bothb (busy (thr k)) (not (eqb k t))) (r (omega arith) b ne)
