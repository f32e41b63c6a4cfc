-- D4 moves Head: the old dummy passes to the dequeue.
use mathlib.Core.Path.{◌≡◌, refl, sym, subst, subst₂, ap, ◌∙◌}
use mathlib.Core.Bool.{Bool}
use mathlib.Core.Logic.{◌≢◌, ◌⊎◌, inl, inr}
use mathlib.Core.Option.{none, some}
use Prim.Native.Nat.{ℕ, suc, ◌<◌}
use native.Mathlib.Omega.{arith}
use Rattle.model.specs.Basics.{upd}
use Rattle.model.specs.Core.{Core, busy, d4, d5}
use Rattle.model.specs.Changes.{set_th, set_head}
use Rattle.model.specs.Places.{owns_e, owns_d}
use Rattle.model.proofs.Basics.{upd_ind, upd_other, upd_at, upd_same, facet}
use Rattle.model.proofs.Layer1.Ghost.{poss, WaitI, Gh, Inv, PlaceI, LinkI, LiveI, pos_of, queue, deqd, kept, ixs, Hd2, Refs, Mine, Marks, Spot}
use Rattle.model.proofs.Layer1.Ghost.{Holder, Awaits}
use Rattle.model.proofs.Layer1.Places.{upd_inv, holder_map, spot_map, still, before, tag}
use Rattle.model.proofs.Layer1.Local.{same_place}
use Rattle.model.proofs.Layer1.Memory.{refs_map}

abbrev pub head_g : Gh → ℕ → ℕ → Gh
head_g g t h = record { len = g.len; hp = suc g.hp; tp = g.tp; who = g.who; idx = g.idx; own = upd g.own h (deqd t g.hp); base = g.base }

module _ (m : Core) (g : Gh) (i : Inv m g) (t h k x : ℕ) (e : m.thr t ≡ d4 h k x) (eh : m.hnode ≡ h) where
  pub r : Hd2 g.who g.idx (g.base t) g.hp g.len h k x
  r = rw e at (i.threads.refs t)

  -- the head read stands where Head is: both places are referred to, and have one node
  pub r_hp : r.at.pos ≡ g.hp
  r_hp = same_place m g i t (rw e) r.at.pos g.hp r.at.lo (omega (arith, r.at.hi, i.log.hp_in))
      (omega (arith, i.alive.base_lo t (rw e))) i.log.hp_in (r.at.is ∙ sym eh ∙ i.log.head_at)

  pub more : suc g.hp < g.len
  more = omega (arith, r.more, r_hp)

  pub x_is : g.who (suc g.hp) ≡ x
  x_is = ap (λ q. g.who (suc q)) (sym r_hp) ∙ r.then

  pub own_h : g.own h ≡ queue g.hp
  own_h = ap g.own (sym eh ∙ i.log.head_at) ∙ i.place.queued g.hp (omega arith) i.log.hp_in

  h_is : g.who g.hp ≡ h
  h_is = sym i.log.head_at ∙ eh

  pub x_ix : (m.node x).index ≡ g.idx (suc g.hp)
  x_ix = ap (ixs m.node) (sym x_is) ∙ i.link.indices (suc g.hp) (ap pos_of (i.place.queued (suc g.hp) (omega arith) more))

  pub same_pos : poss (upd g.own h (deqd t g.hp)) ≡ poss g.own
  same_pos = facet pos_of g.own h (deqd t g.hp) (rw own_h)

  bz : ◌≡◌ {A = ℕ → Bool} (λ u. busy (upd m.thr t (d5 h x) u)) (λ u. busy (m.thr u))
  bz = facet busy m.thr t (d5 h x) (rw e)

  place_i : PlaceI g.len (suc g.hp) g.who (upd g.own h (deqd t g.hp)) m.free m.wait m.held
      (λ u. owns_e (upd m.thr t (d5 h x) u)) (λ u. owns_d (upd m.thr t (d5 h x) u))
  place_i = record {
    queued = λ q lo hi. still g.own h (deqd t g.hp) (g.who q) own_h (λ f. let z : g.hp ≡ q = cc in omega arith) (i.place.queued q (omega arith) hi);
    marks = λ k. upd_ind g.own h (deqd t g.hp) (λ k p. Marks (m.free k) (m.wait k) p) k (rw own_h at (i.place.marks h)) (λ ne. i.place.marks k);
    spot = λ k. upd_ind g.own h (deqd t g.hp) (λ k p. Spot g.who (suc g.hp) g.len k p) k
        (h_is, omega arith, i.log.hp_in)
        (λ ne. spot_map g.who g.who g.hp (suc g.hp) g.len g.len k (λ p l. refl) (omega arith) (omega arith) (g.own k)
        (λ q f w lo hi. let d : q ≢ g.hp = λ z. ne (sym w ∙ ap g.who z ∙ h_is) in omega arith) (i.place.spot k));
    holder = λ k. upd_ind g.own h (deqd t g.hp) (λ k p. Holder m.held (λ u. owns_e (upd m.thr t (d5 h x) u))
        (λ u. owns_d (upd m.thr t (d5 h x) u)) k p) k
        (ap owns_d (upd_same m.thr t (d5 h x)))
        (λ ne. holder_map (g.own k)
        (λ u q f o. ap owns_d (upd_other m.thr t (d5 h x) (λ ut. let a : owns_d (m.thr t) ≡ none = rw e in
        let b : owns_d (m.thr t) ≡ some k = rw (← ut) o in let z : ◌≡◌ {A = ℕ} 0 1 = cc in omega arith)) ∙ o)
        (λ u q f o. o) (λ u f o. same_oe u ∙ o) (i.place.holder k));
    enq_own = λ u k o. still g.own h (deqd t g.hp) k own_h (λ f. omega (arith, ap tag f)) (i.place.enq_own u k (sym (same_oe u) ∙ o));
    deq_own = λ u k. upd_ind m.thr t (d5 h x) (λ u s. owns_d s ≡ some k → (q : ℕ) × (upd g.own h (deqd t g.hp) k ≡ deqd u q)) u
        (λ o. (g.hp, upd_at g.own h (deqd t g.hp) (let z : h ≡ k = cc in sym z)))
        (λ ne o. let d = i.place.deq_own u k o in (d.0, still g.own h (deqd t g.hp) k own_h (λ f. omega (arith, ap tag f)) d.1));
    held_own = λ u k o. let d = i.place.held_own u k o in (d.0, still g.own h (deqd t g.hp) k own_h (λ f. omega (arith, ap tag f)) d.1);
    apart = λ u k k' q q' a b. ap_art u k k' q q' (before g.own h (deqd t g.hp) k (λ f. omega (arith, ap tag f)) a).1
        (upd_inv g.own h (deqd t g.hp) k' b);
  }
    where
      same_oe : (u : ℕ) → owns_e (upd m.thr t (d5 h x) u) ≡ owns_e (m.thr u)
      same_oe u = upd_ind m.thr t (d5 h x) (λ u s. owns_e s ≡ owns_e (m.thr u)) u (rw e) (λ ne. refl)

      ap_art : (u k k' q q' : ℕ) → g.own k ≡ kept u q → ((k' ≡ h) × (deqd t g.hp ≡ deqd u q')) ⊎ ((k' ≢ h) × (g.own k' ≡ deqd u q')) → q < q'
      ap_art u k k' q q' a (inl b) =
          let s : Spot g.who g.hp g.len k (kept u q) = rw a at (i.place.spot k) in
          let z : g.hp ≡ q' = (let b1 = b.1 in cc) in omega (arith, s.1)
      ap_art u k k' q q' a (inr b) = i.place.apart u k k' q q' a b.1

  pub D4yes : Inv (set_th (set_head m x (m.node x).index) t (d5 h x)) (head_g g t h)
  D4yes = record {
    log = record {
      rising = i.log.rising;
      hp_in = more;
      head_at = sym x_is;
      head_ix = x_ix;
      tail_at = i.log.tail_at;
      tail_in = i.log.tail_in;
      tail_near = i.log.tail_near;
    };
    place = place_i;
    link = subst (λ p. LinkI g.len g.who g.idx p m.next (ixs m.node)) (sym same_pos) i.link;
    alive = subst₂ (λ p b. LiveI g.len (suc g.hp) g.who p g.base m.conf.threads b) (sym same_pos) (sym bz)
        record {
          live = i.alive.live;
          base_lo = λ u b. omega (arith, i.alive.base_lo u b);
          range = i.alive.range;
          prev = λ q f. let z : q ≡ g.hp = omega arith in rw z (rw (h_is, own_h) refl);
        };
    waits = subst (WaitI (upd g.own h (deqd t g.hp)) g.base m.wait) (sym bz)
        record {
          awaits = λ k. upd_ind g.own h (deqd t g.hp) (λ k p. Awaits (λ u. busy (m.thr u)) g.base (m.wait k) p) k tt
              (λ ne. i.waits.awaits k);
        };
    threads = record {
      refs = λ u. upd_ind m.thr t (d5 h x) (λ u s. Refs g.who g.idx (g.base u) (suc g.hp) g.tp g.len s) u tt
          (λ ne. refs_map g.who g.idx g.who g.idx g.hp g.tp g.len (suc g.hp) g.tp g.len
          (λ p l. refl) (λ p l. refl) i.log.hp_in (omega arith) (omega arith) (omega arith) (g.base u) (m.thr u) (i.threads.refs u));
      mine = λ u. upd_ind m.thr t (d5 h x) (λ u s. Mine (ixs m.node) m.next s) u tt (λ ne. i.threads.mine u);
    };
  }
