-- A8 links the new node: the log grows by one place.
use mathlib.Core.Path.{◌≡◌, refl, sym, subst, ap, ◌∙◌}
use mathlib.Core.Bool.{true}
use mathlib.Core.Logic.{◌≢◌}
use mathlib.Core.Option.{none, some}
use Prim.Native.Nat.{ℕ, suc, ◌≤◌, ◌<◌}
use native.Mathlib.Omega.{arith}
use native.Mathlib.Decide.{dec_lt, ℕ_discrete}
use Rattle.model.specs.Basics.{upd}
use Rattle.model.specs.Core.{Core, busy, a8, a9}
use Rattle.model.specs.Changes.{set_th, set_next}
use Rattle.model.specs.Places.{owns_e, owns_d}
use Rattle.model.proofs.Basics.{upd_ind, upd_other, upd_at, upd_same, facet}
use Rattle.model.proofs.Layer1.Ghost.{poss, WaitI, Gh, Inv, LogI, PlaceI, LinkI, LiveI, pos_of, queue, enqd, ixs, Ref, Refs, Mine, Live, Marks}
use Rattle.model.proofs.Layer1.Ghost.{Spot, Holder, Awaits}
use Rattle.model.proofs.Layer1.Places.{holder_map, spot_map, still, before, tag, live_in}
use Rattle.model.proofs.Layer1.Local.{pos_last}
use Rattle.model.proofs.Layer1.Memory.{refs_map, mine_map, not_live}

abbrev pub link_g : Gh → ℕ → ℕ → Gh
link_g g n i = record {
  len = suc g.len;
  hp = g.hp;
  tp = g.tp;
  who = upd g.who g.len n;
  idx = upd g.idx g.len i;
  own = upd g.own n (queue g.len);
  base = g.base;
}

module _ (m : Core) (g : Gh) (i : Inv m g) (t v n x : ℕ) (e : m.thr t ≡ a8 v n x) (nx : m.next x ≡ none) where
  pub own_n : g.own n ≡ enqd t
  own_n = i.place.enq_own t n (rw e)

  r : Ref g.who (g.base t) g.tp g.len x
  r = rw e at (i.threads.refs t)

  at_end : suc r.pos ≡ g.len
  at_end = pos_last m g i t (rw e) r.pos r.lo r.hi (rw r.is nx)

  live_r : Live g.who (poss g.own) r.pos
  live_r = i.alive.live t (rw e) r.pos r.lo r.hi

  new_ix : ixs m.node n ≡ suc (g.idx r.pos)
  new_ix =
      let mn : Mine (ixs m.node) m.next (a8 v n x) = rw e at (i.threads.mine t) in
      mn.1 ∙ ap suc ((ap (ixs m.node) (sym r.is)) ∙ i.link.indices r.pos live_r)

  pub who_old : (p : ℕ) → p < g.len → upd g.who g.len n p ≡ g.who p
  who_old p h = upd_other g.who g.len n (λ f. omega arith)

  pub idx_old : (p : ℕ) → p < g.len → upd g.idx g.len (ixs m.node n) p ≡ g.idx p
  idx_old p h = upd_other g.idx g.len (ixs m.node n) (λ f. omega arith)

  idx_new : upd g.idx g.len (ixs m.node n) g.len ≡ suc (g.idx r.pos)
  idx_new = upd_same g.idx g.len (ixs m.node n) ∙ new_ix

  idx_top : (p : ℕ) → p < g.len → g.idx p ≤ g.idx r.pos
  idx_top p h = by (dec_lt p r.pos)
    where
      by : Dec (p < r.pos) → g.idx p ≤ g.idx r.pos
      by (yes k) = omega (arith, i.log.rising p r.pos k r.hi)
      by (no k) = let f : p ≡ r.pos = omega (arith, at_end) in rw f (omega arith)

  log_i : LogI (suc g.len) g.hp g.tp (upd g.who g.len n) (upd g.idx g.len (ixs m.node n)) m.hnode m.hidx m.tail
  log_i = record {
    rising = λ p q h k. rise p q h k (ℕ_discrete q g.len);
    hp_in = omega (arith, i.log.hp_in);
    head_at = i.log.head_at ∙ sym (who_old g.hp i.log.hp_in);
    head_ix = i.log.head_ix ∙ sym (idx_old g.hp i.log.hp_in);
    tail_at = i.log.tail_at ∙ sym (who_old g.tp i.log.tail_in);
    tail_in = omega (arith, i.log.tail_in);
    tail_near = omega (arith, at_end, r.old);
  }
    where
      rise : (p q : ℕ) → p < q → q < suc g.len → Dec (q ≡ g.len) → upd g.idx g.len (ixs m.node n) p < upd g.idx g.len (ixs m.node n) q
      rise p q h k (yes f) = rw (f, idx_new, idx_old p (omega arith)) (omega (arith, idx_top p (omega arith)))
      rise p q h k (no f) = rw (idx_old p (omega arith), idx_old q (omega arith)) (i.log.rising p q h (omega arith))

  own_off : (k : ℕ) → k ≢ n → upd g.own n (queue g.len) k ≡ g.own k
  own_off k h = upd_other g.own n (queue g.len) h

  place_i : PlaceI (suc g.len) g.hp (upd g.who g.len n) (upd g.own n (queue g.len)) m.free m.wait m.held
      (λ u. owns_e (upd m.thr t (a9 v n x) u)) (λ u. owns_d (upd m.thr t (a9 v n x) u))
  place_i = record {
    queued = λ q lo hi. inq q lo hi (ℕ_discrete q g.len);
    marks = λ k. upd_ind g.own n (queue g.len) (λ k p. Marks (m.free k) (m.wait k) p) k (rw own_n at (i.place.marks n)) (λ ne. i.place.marks k);
    spot = λ k. upd_ind g.own n (queue g.len) (λ k p. Spot (upd g.who g.len n) g.hp (suc g.len) k p) k
        (upd_same g.who g.len n, omega (arith, i.log.hp_in), omega arith)
        (λ ne. spot_map g.who (upd g.who g.len n) g.hp g.hp g.len (suc g.len) k who_old (omega arith) (omega arith) (g.own k)
        (λ q f w lo hi. lo) (i.place.spot k));
    holder = λ k. upd_ind g.own n (queue g.len) (λ k p. Holder m.held (λ u. owns_e (upd m.thr t (a9 v n x) u))
        (λ u. owns_d (upd m.thr t (a9 v n x) u)) k p) k tt
        (λ ne. holder_map (g.own k) (λ u q f h. same_od u ∙ h) (λ u q f h. h)
        (λ u f h. ap owns_e
        (upd_other m.thr t (a9 v n x) (λ ut. ne (let en : owns_e (m.thr t) ≡ some n = rw e in let h' : owns_e (m.thr t) ≡ some k = rw (← ut) h in
        cc))) ∙ h)
        (i.place.holder k));
    enq_own = λ u k. upd_ind m.thr t (a9 v n x) (λ u s. owns_e s ≡ some k → upd g.own n (queue g.len) k ≡ enqd u) u
        (λ h. let z : ◌≡◌ {A = ℕ} 0 1 = cc in absurd (omega arith))
        (λ ne h. still g.own n (queue g.len) k own_n (λ f. ne (let tu : t ≡ u = cc in sym tu)) (i.place.enq_own u k h));
    deq_own = λ u k h. let d = i.place.deq_own u k (sym (same_od u) ∙ h) in
        (d.0, still g.own n (queue g.len) k own_n (λ f. omega (arith, ap tag f)) d.1);
    held_own = λ u k h. let d = i.place.held_own u k h in (d.0, still g.own n (queue g.len) k own_n (λ f. omega (arith, ap tag f)) d.1);
    apart = λ u k k' q q' a b. i.place.apart u k k' q q'
        (before g.own n (queue g.len) k (λ f. omega (arith, ap tag f)) a).1 (before g.own n (queue g.len) k' (λ f. omega (arith, ap tag f)) b).1;
  }
    where
      same_od : (u : ℕ) → owns_d (upd m.thr t (a9 v n x) u) ≡ owns_d (m.thr u)
      same_od u = upd_ind m.thr t (a9 v n x) (λ u s. owns_d s ≡ owns_d (m.thr u)) u (rw e) (λ ne. refl)

      inq : (q : ℕ) → g.hp ≤ q → q < suc g.len → Dec (q ≡ g.len) → upd g.own n (queue g.len) (upd g.who g.len n q) ≡ queue q
      inq q lo hi (yes f) = ap (upd g.own n (queue g.len)) (upd_at g.who g.len n f) ∙ upd_same g.own n (queue g.len) ∙ ap queue (sym f)
      inq q lo hi (no f) = ap (upd g.own n (queue g.len)) (who_old q (omega arith))
          ∙ still g.own n (queue g.len) (g.who q) own_n (λ f. omega (arith, ap tag f)) (i.place.queued q lo (omega arith))

  n≢x : x ≢ n
  n≢x f = not_live m g i t n r.pos own_n live_r (r.is ∙ f)

  -- what is live after was live before, or is new
  pub was_live : (q : ℕ) → q < g.len → Live (upd g.who g.len n) (poss (upd g.own n (queue g.len))) q → Live g.who (poss g.own) q
  was_live q h l = by (ℕ_discrete (g.who q) n)
    where
      l' : pos_of (upd g.own n (queue g.len) (g.who q)) ≡ some q
      l' = rw (who_old q h) at l

      by : Dec (g.who q ≡ n) → Live g.who (poss g.own) q
      by (yes f) = let k = sym (ap pos_of (upd_at g.own n (queue g.len) f)) ∙ l' in let z : g.len ≡ q = cc in absurd (omega arith)
      by (no f) = rw (own_off (g.who q) f) at l'

  now_live : (q : ℕ) → q < g.len → Live g.who (poss g.own) q → Live (upd g.who g.len n) (poss (upd g.own n (queue g.len))) q
  now_live q h l = rw (who_old q h, own_off (g.who q) (not_live m g i t n q own_n l)) l

  link_i : LinkI (suc g.len) (upd g.who g.len n) (upd g.idx g.len (ixs m.node n)) (poss (upd g.own n (queue g.len)))
      (upd m.next x (some n)) (ixs m.node)
  link_i = record {
    links = λ q l h. lk q (was_live q (omega arith) l) (omega arith) (ℕ_discrete (suc q) g.len);
    last = λ q l h. let f : q ≡ g.len = omega arith in
        ap (upd m.next x (some n)) (upd_at g.who g.len n f) ∙ upd_other m.next x (some n) (λ k. n≢x (sym k)) ∙ next_n;
    indices = λ q l. ind q l (ℕ_discrete q g.len);
  }
    where
      next_n : m.next n ≡ none
      next_n = (rw e at (i.threads.mine t)).0

      lk : (q : ℕ) → Live g.who (poss g.own) q → q < g.len → Dec (suc q ≡ g.len) → upd m.next x (some n) (upd g.who g.len n q) ≡ some
          (upd g.who g.len n (suc q))
      lk q l h (yes f) =
          let qr : q ≡ r.pos = omega (arith, at_end) in
          ap (upd m.next x (some n)) (who_old q h) ∙ upd_at m.next x (some n) (ap g.who qr ∙ r.is) ∙ ap some (sym (upd_at g.who g.len n f))
      lk q l h (no f) =
          ap (upd m.next x (some n)) (who_old q h) ∙ upd_other m.next x (some n)
          (λ k. f (let qr : q ≡ r.pos = (let a = live_r in let b = r.is in cc) in omega (arith, at_end)))
          ∙ i.link.links q l (omega arith) ∙ ap some (sym (who_old (suc q) (omega arith)))

      ind : (q : ℕ) → Live (upd g.who g.len n) (poss (upd g.own n (queue g.len))) q → Dec (q ≡ g.len)
          → ixs m.node (upd g.who g.len n q) ≡ upd g.idx g.len (ixs m.node n) q
      ind q l (yes f) = ap (ixs m.node) (upd_at g.who g.len n f) ∙ sym (upd_at g.idx g.len (ixs m.node n) f)
      ind q l (no f) =
          let h : q < suc g.len = live_in (upd g.who g.len n) (upd g.own n (queue g.len)) g.hp (suc g.len) q place_i.spot l in
          let h' : q < g.len = omega arith in
          ap (ixs m.node) (who_old q h') ∙ i.link.indices q (was_live q h' l) ∙ sym (idx_old q h')

  live_i : LiveI (suc g.len) g.hp (upd g.who g.len n) (poss (upd g.own n (queue g.len))) g.base m.conf.threads
      (λ u. busy (upd m.thr t (a9 v n x) u))
  live_i = subst (LiveI (suc g.len) g.hp (upd g.who g.len n) (poss (upd g.own n (queue g.len))) g.base m.conf.threads)
      (sym (facet busy m.thr t (a9 v n x) (rw e)))
      record {
        live = λ u b q lo hi. lv u b q lo hi (ℕ_discrete q g.len);
        base_lo = i.alive.base_lo;
        range = i.alive.range;
        prev = λ q f. now_live q (omega (arith, i.log.hp_in)) (i.alive.prev q f);
      }
    where
      lv : (u : ℕ) → busy (m.thr u) ≡ true → (q : ℕ) → g.base u ≤ q → q < suc g.len → Dec (q ≡ g.len)
          → Live (upd g.who g.len n) (poss (upd g.own n (queue g.len))) q
      lv u b q lo hi (yes f) = ap pos_of (place_i.queued q (omega (arith, i.log.hp_in)) hi)
      lv u b q lo hi (no f) = now_live q (omega arith) (i.alive.live u b q lo (omega arith))

  wait_i : WaitI (upd g.own n (queue g.len)) g.base m.wait (λ u. busy (upd m.thr t (a9 v n x) u))
  wait_i = subst (WaitI (upd g.own n (queue g.len)) g.base m.wait) (sym (facet busy m.thr t (a9 v n x) (rw e)))
      record {
        awaits = λ k. upd_ind g.own n (queue g.len) (λ k p. Awaits (λ u. busy (m.thr u)) g.base (m.wait k) p) k tt
            (λ ne. i.waits.awaits k);
      }

  pub A8yes : Inv (set_th (set_next m x (some n)) t (a9 v n x)) (link_g g n (m.node n).index)
  A8yes = record {
    log = log_i;
    place = place_i;
    link = link_i;
    alive = live_i;
    waits = wait_i;
    threads = record {
      refs = λ u. upd_ind m.thr t (a9 v n x) (λ u s. Refs (upd g.who g.len n) (upd g.idx g.len (ixs m.node n)) (g.base u) g.hp
          g.tp (suc g.len) s) u
          record { pos = r.pos; is = who_old r.pos r.hi ∙ r.is; lo = r.lo; hi = omega (arith, r.hi); then = upd_at g.who g.len n at_end }
          (λ ne. refs_map g.who g.idx (upd g.who g.len n) (upd g.idx g.len (ixs m.node n)) g.hp g.tp g.len g.hp
          g.tp (suc g.len)
          who_old idx_old i.log.hp_in (omega arith) (omega arith) (omega arith) (g.base u) (m.thr u) (i.threads.refs u));
      mine = λ u. upd_ind m.thr t (a9 v n x) (λ u s. Mine (ixs m.node) (upd m.next x (some n)) s) u tt
          (λ ne. mine_map (m.thr u) (λ k o h. upd_other m.next x (some n)
          (λ f. not_live m g i u k r.pos (i.place.enq_own u k o) live_r (r.is ∙ sym f)) ∙ h) (λ v k y f h. h) (i.threads.mine u));
    };
  }
