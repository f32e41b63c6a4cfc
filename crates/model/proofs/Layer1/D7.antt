-- D7 retires the node held and holds the old dummy; and an operation begins.
use mathlib.Core.Path.{◌≡◌, refl, sym, subst, subst₂, ap, ◌∙◌}
use mathlib.Core.Bool.{Bool, true}
use mathlib.Core.List.{List, ◌∷◌, cons≢nil}
use mathlib.Core.Logic.{◌≢◌, ◌⊎◌, inl, inr}
use mathlib.Core.Option.{none, some}
use Prim.Native.Nat.{ℕ, pred, ◌≤◌, ◌<◌}
use native.Mathlib.Omega.{arith}
use native.Mathlib.Decide.{dec_lt, ℕ_discrete}
use Rattle.model.specs.Basics.{upd, has}
use Rattle.model.specs.Core.{Th, Core, busy, idle, a1, d1, d7}
use Rattle.model.specs.Changes.{set_th, set_held}
use Rattle.model.specs.Steps.{retire_held, others}
use Rattle.model.specs.Places.{owns_e, owns_d}
use Rattle.model.proofs.Basics.{upd_ind, upd_other, upd_at, upd_same, facet}
use Rattle.model.proofs.Layer1.Ghost.{lent_w, lent, poss, Gh, Inv, PlaceI, LinkI, LiveI, Place, pos_of, queue, waiting, deqd, kept, enqd, spare, off, ixs}
use Rattle.model.proofs.Layer1.Ghost.{Refs, Mine, Live, Spot, Holder, Awaits}
use Rattle.model.proofs.Layer1.Places.{upd_inv, holder_map, still, before, tag}
use Rattle.model.proofs.Layer1.Hands.{own_g, same_pos, awaits_off, marks_off, spot_off, queued_off, has_others}

abbrev pub drop_held : Core → ℕ → Core
drop_held m t = record {
  conf = m.conf;
  node = m.node;
  next = m.next;
  hnode = m.hnode;
  hidx = m.hidx;
  tail = m.tail;
  marks = m.marks;
  last = m.last;
  free = m.free;
  wait = m.wait;
  held = upd m.held t none;
  thr = m.thr;
}

module _ (m : Core) (g : Gh) (i : Inv m g) (t h v n : ℕ) (e : m.thr t ≡ d7 h v) (he : m.held t ≡ some n) where
  dq : (q : ℕ) × (g.own h ≡ deqd t q)
  dq = i.place.deq_own t h (rw e)

  pub kp : (q : ℕ) × (g.own n ≡ kept t q)
  kp = i.place.held_own t n he

  q₀ : ℕ
  q₀ = kp.0

  o : g.own n ≡ kept t kp.0
  o = kp.1

  sp : Spot g.who g.hp g.len n (kept t kp.0)
  sp = rw o at (i.place.spot n)

  sph : Spot g.who g.hp g.len h (deqd t dq.0)
  sph = rw dq.1 at (i.place.spot h)

  abbrev m₁ : Core
  m₁ = drop_held (retire_held m t (some n)) t

  pub retired : Inv m₁ (own_g g n (waiting kp.0))
  retired = record {
    log = i.log;
    place = record {
      queued = queued_off m g i n (kept t kp.0) (waiting kp.0) o refl (λ q f. omega (arith, ap tag f));
      marks = marks_off m g i n (kept t kp.0) (waiting kp.0) o refl m.free (upd m.wait n (t ∷ others m.conf.threads t m.thr))
          (λ k ne. refl) (λ k ne. upd_other m.wait n _ ne)
          ((rw o at (i.place.marks n)).0, λ z. cons≢nil (sym (upd_same m.wait n (t ∷ others m.conf.threads t m.thr)) ∙ z));
      spot = spot_off m g i n (kept t kp.0) (waiting kp.0) o refl (sp.0, omega (arith, i.place.apart t n h kp.0 dq.0 o dq.1, sph.1), sp.2);
      holder = λ k. upd_ind g.own n (waiting kp.0) (λ k p. Holder (upd m.held t none) (λ u. owns_e (m.thr u)) (λ u. owns_d (m.thr u)) k p) k tt
          (λ ne. holder_map (g.own k) (λ u q f w. w)
          (λ u q f w. upd_other m.held t none (λ ut. ne (let b : m.held t ≡ some k = rw (← ut) w in cc)) ∙ w) (λ u f w. w) (i.place.holder k));
      enq_own = λ u k w. still g.own n (waiting kp.0) k o (λ f. omega (arith, ap tag f)) (i.place.enq_own u k w);
      deq_own = λ u k w. let d = i.place.deq_own u k w in (d.0, still g.own n (waiting kp.0) k o (λ f. omega (arith, ap tag f)) d.1);
      held_own = λ u k. upd_ind m.held t none (λ u x. x ≡ some k → (q : ℕ) × (upd g.own n (waiting kp.0) k ≡ kept u q)) u
          (λ w. let z : ◌≡◌ {A = ℕ} 0 1 = cc in absurd (omega arith))
          (λ ne w. let d = i.place.held_own u k w in (d.0, still g.own n (waiting kp.0) k o (λ f. ne (let z : t ≡ u = cc in sym z)) d.1));
      apart = λ u k k' q q' a b. i.place.apart u k k' q q'
          (before g.own n (waiting kp.0) k (λ f. omega (arith, ap tag f)) a).1
          (before g.own n (waiting kp.0) k' (λ f. omega (arith, ap tag f)) b).1;
    };
    link = subst (λ p. LinkI g.len g.who g.idx p m.next (ixs m.node))
        (sym (same_pos m g i n (kept t kp.0) (waiting kp.0) o refl)) i.link;
    alive = subst (λ p. LiveI g.len g.hp g.who p g.base m.conf.threads (λ u. busy (m.thr u)))
        (sym (same_pos m g i n (kept t kp.0) (waiting kp.0) o refl)) i.alive;
    waits = awaits_off m g i n (kept t kp.0) (waiting kp.0) o refl (λ u. busy (m.thr u)) g.base
        (upd m.wait n (t ∷ others m.conf.threads t m.thr)) (λ k ne. upd_other m.wait n _ ne)
        (λ u b lo. rw (upd_same m.wait n (t ∷ others m.conf.threads t m.thr)) (all u b (ℕ_discrete u t))) i.waits.awaits;
    threads = i.threads;
  }
    where
      all : (u : ℕ) → busy (m.thr u) ≡ true → Dec (u ≡ t) → (u ≡ t) ⊎ has u (others m.conf.threads t m.thr)
      all u b (yes f) = inl f
      all u b (no f) = inr (has_others m.conf.threads t m.thr u (i.alive.range u b) b f)

module _ (m : Core) (g : Gh) (i : Inv m g) (t h v : ℕ) (e : m.thr t ≡ d7 h v) (he : m.held t ≡ none) where
  pub dq₂ : (q : ℕ) × (g.own h ≡ deqd t q)
  dq₂ = i.place.deq_own t h (rw e)

  o₂ : g.own h ≡ deqd t dq₂.0
  o₂ = dq₂.1

  sp₂ : Spot g.who g.hp g.len h (deqd t dq₂.0)
  sp₂ = rw o₂ at (i.place.spot h)

  bz₂ : ◌≡◌ {A = ℕ → Bool} (λ u. busy (upd m.thr t d1 u)) (λ u. busy (m.thr u))
  bz₂ = facet busy m.thr t d1 (rw e)

  same_oe : (u : ℕ) → owns_e (upd m.thr t d1 u) ≡ owns_e (m.thr u)
  same_oe u = upd_ind m.thr t d1 (λ u s. owns_e s ≡ owns_e (m.thr u)) u (rw e) (λ ne. refl)

  pub holding : Inv (set_th (set_held m t h) t d1) (own_g g h (kept t dq₂.0))
  holding = record {
    log = i.log;
    place = record {
      queued = queued_off m g i h (deqd t dq₂.0) (kept t dq₂.0) o₂ refl (λ q f. omega (arith, ap tag f));
      marks = marks_off m g i h (deqd t dq₂.0) (kept t dq₂.0) o₂ refl m.free m.wait (λ k ne. refl) (λ k ne. refl) (rw o₂ at (i.place.marks h));
      spot = spot_off m g i h (deqd t dq₂.0) (kept t dq₂.0) o₂ refl sp₂;
      holder = λ k. upd_ind g.own h (kept t dq₂.0) (λ k p. Holder (upd m.held t (some h)) (λ u. owns_e (upd m.thr t d1 u))
          (λ u. owns_d (upd m.thr t d1 u)) k p) k
          (upd_same m.held t (some h))
          (λ ne. holder_map (g.own k)
          (λ u q f w. ap owns_d
          (upd_other m.thr t d1 (λ ut. ne (let a : owns_d (m.thr t) ≡ some h = rw e in let b : owns_d (m.thr t) ≡ some k = rw (← ut) w in cc)))
          ∙ w)
          (λ u q f w. upd_other m.held t (some h) (λ ut. let b : m.held t ≡ some k = rw (← ut) w in let z : ◌≡◌ {A = ℕ} 0 1 = cc in omega arith) ∙ w)
          (λ u f w. same_oe u ∙ w) (i.place.holder k));
      enq_own = λ u k w. still g.own h (kept t dq₂.0) k o₂ (λ f. omega (arith, ap tag f)) (i.place.enq_own u k (sym (same_oe u) ∙ w));
      deq_own = λ u k. upd_ind m.thr t d1 (λ u s. owns_d s ≡ some k → (q : ℕ) × (upd g.own h (kept t dq₂.0) k ≡ deqd u q)) u
          (λ w. let z : ◌≡◌ {A = ℕ} 0 1 = cc in absurd (omega arith))
          (λ ne w. let d = i.place.deq_own u k w in (d.0, still g.own h (kept t dq₂.0) k o₂ (λ f. ne (let z : t ≡ u = cc in sym z)) d.1));
      held_own = λ u k. upd_ind m.held t (some h) (λ u x. x ≡ some k → (q : ℕ) × (upd g.own h (kept t dq₂.0) k ≡ kept u q)) u
          (λ w. (dq₂.0, upd_at g.own h (kept t dq₂.0) (let z : h ≡ k = cc in sym z)))
          (λ ne w. let d = i.place.held_own u k w in (d.0, still g.own h (kept t dq₂.0) k o₂ (λ f. omega (arith, ap tag f)) d.1));
      apart = λ u k k' q q' a b. ap_art u k k' q q' (upd_inv g.own h (kept t dq₂.0) k a)
          (before g.own h (kept t dq₂.0) k' (λ f. omega (arith, ap tag f)) b);
    };
    link = subst (λ p. LinkI g.len g.who g.idx p m.next (ixs m.node))
        (sym (same_pos m g i h (deqd t dq₂.0) (kept t dq₂.0) o₂ refl)) i.link;
    alive = subst₂ (λ p b. LiveI g.len g.hp g.who p g.base m.conf.threads b)
        (sym (same_pos m g i h (deqd t dq₂.0) (kept t dq₂.0) o₂ refl)) (sym bz₂) i.alive;
    waits = awaits_off m g i h (deqd t dq₂.0) (kept t dq₂.0) o₂ refl (λ u. busy (upd m.thr t d1 u)) g.base m.wait (λ k ne. refl) tt
        (subst (λ b. (k : ℕ) → Awaits b g.base (m.wait k) (g.own k)) (sym bz₂) i.waits.awaits);
    threads = record {
      refs = λ u. upd_ind m.thr t d1 (λ u s. Refs g.who g.idx (g.base u) g.hp g.tp g.len s) u tt (λ ne. i.threads.refs u);
      mine = λ u. upd_ind m.thr t d1 (λ u s. Mine (ixs m.node) m.next s) u tt (λ ne. i.threads.mine u);
    };
  }
    where
      ap_art : (u k k' q q' : ℕ) → ((k ≡ h) × (kept t dq₂.0 ≡ kept u q)) ⊎ ((k ≢ h) × (g.own k ≡ kept u q)) → (k' ≢ h) × (g.own k' ≡ deqd u q') → q < q'
      ap_art u k k' q q' (inl a) b = absurd (b.0 (
          let tu : t ≡ u = (let a1 = a.1 in cc) in
          let w : owns_d (m.thr u) ≡ some k' = rw b.1 at (i.place.holder k') in
          let w' : owns_d (m.thr t) ≡ some k' = rw tu w in
          let w'' : owns_d (m.thr t) ≡ some h = rw e in cc))
      ap_art u k k' q q' (inr a) b = i.place.apart u k k' q q' a.1 b.1

-- the beginning of an operation
abbrev pub begin_g : Gh → ℕ → Gh
begin_g g t = record { len = g.len; hp = g.hp; tp = g.tp; who = g.who; idx = g.idx; own = g.own; base = upd g.base t (pred g.hp) }

module _ (m : Core) (g : Gh) (i : Inv m g) (t : ℕ) (s : Th) (e : m.thr t ≡ idle) (rg : t < m.conf.threads) (oe : owns_e s ≡ none) (od : owns_d s ≡ none)
    (rf : (b : ℕ) → Refs g.who g.idx b g.hp g.tp g.len s) (mn : Mine (ixs m.node) m.next s) where
  was_busy : (u : ℕ) → u ≢ t → busy (upd m.thr t s u) ≡ true → busy (m.thr u) ≡ true
  was_busy u ne b = rw (upd_other m.thr t s ne) at b

  pub begun : Inv (set_th m t s) (begin_g g t)
  begun = record {
    log = i.log;
    place = subst₂ (PlaceI g.len g.hp g.who g.own m.free m.wait m.held) (sym (facet owns_e m.thr t s (rw (oe, e))))
        (sym (facet owns_d m.thr t s (rw (od, e)))) i.place;
    link = i.link;
    alive = record {
      live = λ u b q lo hi. lv u b q lo hi (ℕ_discrete u t);
      base_lo = λ u b. bl u b (ℕ_discrete u t);
      range = λ u b. rn u b (ℕ_discrete u t);
      prev = i.alive.prev;
    };
    waits = record { awaits = λ n. aw n (g.own n) (i.waits.awaits n) (i.place.spot n) };
    threads = record {
      refs = λ u. rs u (ℕ_discrete u t);
      mine = λ u. upd_ind m.thr t s (λ u s. Mine (ixs m.node) m.next s) u mn (λ ne. i.threads.mine u);
    };
  }
    where
      lv : (u : ℕ) → busy (upd m.thr t s u) ≡ true → (q : ℕ) → upd g.base t (pred g.hp) u ≤ q → q < g.len → Dec (u ≡ t)
          → Live g.who (poss g.own) q
      lv u b q lo hi (yes f) = at (dec_lt q g.hp)
        where
          lo' : pred g.hp ≤ q
          lo' = rw (upd_at g.base t (pred g.hp) f) at lo

          at : Dec (q < g.hp) → Live g.who (poss g.own) q
          at (yes k) = i.alive.prev q (omega (arith, lo'))
          at (no k) = ap pos_of (i.place.queued q (omega arith) hi)
      lv u b q lo hi (no f) = i.alive.live u (was_busy u f b) q (rw (upd_other g.base t (pred g.hp) f) at lo) hi

      bl : (u : ℕ) → busy (upd m.thr t s u) ≡ true → Dec (u ≡ t) → upd g.base t (pred g.hp) u ≤ pred g.hp
      bl u b (yes f) = rw (upd_at g.base t (pred g.hp) f) (omega arith)
      bl u b (no f) = rw (upd_other g.base t (pred g.hp) f) (i.alive.base_lo u (was_busy u f b))

      rn : (u : ℕ) → busy (upd m.thr t s u) ≡ true → Dec (u ≡ t) → u < m.conf.threads
      rn u b (yes f) = rw f rg
      rn u b (no f) = i.alive.range u (was_busy u f b)

      rs : (u : ℕ) → Dec (u ≡ t) → Refs g.who g.idx (upd g.base t (pred g.hp) u) g.hp g.tp g.len (upd m.thr t s u)
      rs u (yes f) = rw (upd_at m.thr t s f) (rf (upd g.base t (pred g.hp) u))
      rs u (no f) = rw (upd_other m.thr t s f, upd_other g.base t (pred g.hp) f) (i.threads.refs u)

      aw : (n : ℕ) (p : Place) → Awaits (λ u. busy (m.thr u)) g.base (m.wait n) p → Spot g.who g.hp g.len n p
          → Awaits (λ u. busy (upd m.thr t s u)) (upd g.base t (pred g.hp)) (m.wait n) p
      aw n (queue q) a w = tt
      aw n (waiting q) a w = λ u b lo. wt u b lo (ℕ_discrete u t)
        where
          wt : (u : ℕ) → busy (upd m.thr t s u) ≡ true → upd g.base t (pred g.hp) u ≤ q → Dec (u ≡ t) → has u (m.wait n)
          wt u b lo (yes f) = let lo' : pred g.hp ≤ q = rw (upd_at g.base t (pred g.hp) f) at lo in absurd (omega (arith, w.1))
          wt u b lo (no f) = a u (was_busy u f b) (rw (upd_other g.base t (pred g.hp) f) at lo)
      aw n (deqd t q) a w = tt
      aw n (kept t q) a w = tt
      aw n (enqd t) a w = tt
      aw n spare a w = tt
      aw n off a w = tt
      aw n lent a w = tt
      aw n lent_w a w = tt
