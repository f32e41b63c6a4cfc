-- Changes of memory while the thread stays where it is: a node's content, a link cleared, Tail.
use mathlib.Core.Path.{◌≡◌, refl, sym, subst, ap, ◌∙◌}
use mathlib.Core.Logic.{◌≢◌}
use mathlib.Core.Option.{Option, none, some}
use Prim.Native.Nat.{ℕ, suc, ◌≤◌, ◌<◌}
use native.Mathlib.Omega.{arith}
use Rattle.model.specs.Basics.{upd}
use Rattle.model.specs.Core.{elsewhere, a10f, d3f, d6f}
use Rattle.model.specs.Core.{Th, Core, Node, idle, a1, a2, a3, a4, a5, a6, a7, a8, a9, a10, a11, a12, d1, d2, d3, d4, d5, d6, d7, s3, s6}
use Rattle.model.specs.Changes.{set_tail, store, set_next}
use Rattle.model.specs.Places.{owns_e}
use Rattle.model.proofs.Basics.{upd_ind, upd_other, facet}
use Rattle.model.proofs.Layer1.Ghost.{poss, Gh, Inv, LinkI, ThI, pos_of, ixs, Ref, Lnk, Hd, Refs, Mine, Live, enqd}

-- references hold on when the log grows at its end, and Head and Tail move forward
module _ (who idx who' idx' : ℕ → ℕ) (hp tp l hp' tp' l' : ℕ)
    (wk : (p : ℕ) → p < l → who' p ≡ who p) (ik : (p : ℕ) → p < l → idx' p ≡ idx p)
    (inside : hp < l) (hps : hp ≤ hp') (tps : tp ≤ tp') (ls : l ≤ l') (b : ℕ) where
  ref_map : {x : ℕ} → Ref who b tp l x → Ref who' b tp' l' x
  ref_map r = record { pos = r.pos; is = wk r.pos r.hi ∙ r.is; lo = r.lo; hi = omega (arith, r.hi); old = omega (arith, r.old) }

  lnk_map : {x y : ℕ} → Lnk who b l x y → Lnk who' b l' x y
  lnk_map r = record {
    pos = r.pos;
    is = wk r.pos (omega (arith, r.hi)) ∙ r.is;
    lo = r.lo;
    hi = omega (arith, r.hi);
    then = wk (suc r.pos) r.hi ∙ r.then;
  }

  abbrev hd_map : {h i : ℕ} → Hd who idx b hp h i → Hd who' idx' b hp' h i
  hd_map r = record {
    pos = r.pos;
    is = wk r.pos (omega (arith, r.hi)) ∙ r.is;
    ix = ik r.pos (omega (arith, r.hi)) ∙ r.ix;
    lo = r.lo;
    hi = omega (arith, r.hi);
  }

  pub refs_map : (s : Th) → Refs who idx b hp tp l s → Refs who' idx' b hp' tp' l' s
  refs_map idle r = tt
  refs_map (a1 v) r = tt
  refs_map (a2 v n) r = tt
  refs_map (a3 v n) r = tt
  refs_map (a4 v n) r = tt
  refs_map (a5 v n) r = tt
  refs_map (a6 v n x) r = ref_map r
  refs_map (a7 v n x) r = ref_map r
  refs_map (a8 v n x) r = ref_map r
  refs_map (a9 v n x) r = lnk_map r
  refs_map (a10 v n x) r = lnk_map r
  refs_map (a10f v n x) r = lnk_map r
  refs_map (a11 v n x) r = lnk_map r
  refs_map (a12 v n x) r = (r.0, lnk_map r.1)
  refs_map d1 r = tt
  refs_map elsewhere r = tt
  refs_map (d2 h i) r = hd_map r
  refs_map (d3 h i) r = hd_map r
  refs_map (d3f h i) r = hd_map r
  refs_map (s3 h i) r = hd_map r
  refs_map (d4 h i x) r = record { at = hd_map r.at; more = omega (arith, r.more); then = wk (suc r.at.pos) r.more ∙ r.then }
  refs_map (d5 h x) r = tt
  refs_map (d6 h v) r = tt
  refs_map (d6f h v) r = tt
  refs_map (s6 h x v) r = tt
  refs_map (d7 h v) r = tt

pub mine_map : {ix ix' : ℕ → ℕ} {next next' : ℕ → Option ℕ} (s : Th)
    → ((n : ℕ) → owns_e s ≡ some n → next n ≡ none → next' n ≡ none)
    → ((v n x : ℕ) → s ≡ a8 v n x → ix n ≡ suc (ix x) → ix' n ≡ suc (ix' x)) → Mine ix next s → Mine ix' next' s
mine_map idle f h k = tt
mine_map (a1 v) f h k = tt
mine_map (a2 v n) f h k = tt
mine_map (a3 v n) f h k = tt
mine_map (a4 v n) f h k = f n refl k
mine_map (a5 v n) f h k = f n refl k
mine_map (a6 v n x) f h k = f n refl k
mine_map (a7 v n x) f h k = f n refl k
mine_map (a8 v n x) f h k = (f n refl k.0, h v n x refl k.1)
mine_map (a9 v n x) f h k = tt
mine_map (a10 v n x) f h k = tt
mine_map (a10f v n x) f h k = tt
mine_map (a11 v n x) f h k = tt
mine_map (a12 v n x) f h k = f n refl k
mine_map d1 f h k = tt
mine_map elsewhere f h k = tt
mine_map (d2 h' i) f h k = tt
mine_map (d3 h' i) f h k = tt
mine_map (d3f h' i) f h k = tt
mine_map (s3 h' i) f h k = tt
mine_map (d4 h' i x) f h k = tt
mine_map (d5 h' x) f h k = tt
mine_map (d6 h' v) f h k = tt
mine_map (d6f h' v) f h k = tt
mine_map (s6 h' x v) f h k = tt
mine_map (d7 h' v) f h k = tt

module _ (m : Core) (g : Gh) (i : Inv m g) where
  -- a store that keeps the index
  pub stored : (n : ℕ) (c : Node) → c.index ≡ (m.node n).index → Inv (store m n c) g
  stored n c e = record {
    log = i.log;
    place = i.place;
    alive = i.alive;
    waits = i.waits;
    link = subst (LinkI g.len g.who g.idx (poss g.own) m.next) (sym p) i.link;
    threads = subst (λ ix. ThI g.len g.hp g.tp g.who g.idx g.base ix m.next m.thr) (sym p) i.threads;
  }
    where
      p : ixs (upd m.node n c) ≡ ixs m.node
      p = facet (λ x. x.index) m.node n c e

  -- Tail moves to a place that is near enough
  pub tailed : (q y : ℕ) → y ≡ g.who q → g.tp ≤ q → q < g.len → Inv (set_tail m y)
      (record { len = g.len; hp = g.hp; tp = q; who = g.who; idx = g.idx; own = g.own; base = g.base })
  tailed q y e lo hi = record {
    log = record {
      rising = i.log.rising;
      hp_in = i.log.hp_in;
      head_at = i.log.head_at;
      head_ix = i.log.head_ix;
      tail_at = e;
      tail_in = hi;
      tail_near = omega (arith, i.log.tail_near);
    };
    place = i.place;
    link = i.link;
    alive = i.alive;
    waits = i.waits;
    threads = record {
      refs = λ u. refs_map g.who g.idx g.who g.idx g.hp g.tp g.len g.hp q g.len (λ p h. refl) (λ p h. refl)
          i.log.hp_in (omega arith) lo (omega arith) (g.base u) (m.thr u) (i.threads.refs u);
      mine = i.threads.mine;
    };
  }

  -- a node that an enqueue owns is at no place of the log
  pub not_live : (t n q : ℕ) → g.own n ≡ enqd t → Live g.who (poss g.own) q → g.who q ≢ n
  not_live t n q e l f =
      let e' : g.own (g.who q) ≡ enqd t = rw f e in
      let z : none ≡ some q = rw (sym (ap pos_of e')) l in
      let z' : ◌≡◌ {A = ℕ} 0 1 = cc in omega arith

  -- a store to a node that an enqueue owns, not yet before its A8
  pub stored_own : (t n : ℕ) (c : Node) → g.own n ≡ enqd t → ((v k x : ℕ) → m.thr t ≢ a8 v k x) → Inv (store m n c) g
  stored_own t n c o na = record {
    log = i.log;
    place = i.place;
    alive = i.alive;
    waits = i.waits;
    link = record {
      links = i.link.links;
      last = i.link.last;
      indices = λ q l. (ap (λ x. x.index) (upd_other m.node n c (not_live t n q o l))) ∙ i.link.indices q l;
    };
    threads = record {
      refs = i.threads.refs;
      mine = λ u. mine_map (m.thr u) (λ k e h. h) (λ v k x e h. other u v k x e h) (i.threads.mine u);
    };
  }
    where
      other : (u v k x : ℕ) → m.thr u ≡ a8 v k x → ixs m.node k ≡ suc (ixs m.node x) → ixs (upd m.node n c) k ≡ suc (ixs (upd m.node n c) x)
      other u v k x e h =
          let r : Refs g.who g.idx (g.base u) g.hp g.tp g.len (a8 v k x) = rw e at (i.threads.refs u) in
          let ok : g.own k ≡ enqd u = i.place.enq_own u k (rw e) in
          let kn : k ≢ n = λ f. na v k x (let tu : t ≡ u = (let on : g.own n ≡ enqd u = rw (sym f) ok in cc) in rw tu e) in
          let xn : x ≢ n = λ f. not_live t n r.pos o (i.alive.live u (rw e) r.pos r.lo r.hi) (r.is ∙ f) in
          ap (λ z. z.index) (upd_other m.node n c kn) ∙ h ∙ ap (λ z. suc z.index) (sym (upd_other m.node n c xn))

  -- the own node's link cleared
  pub cleared : (t n : ℕ) → g.own n ≡ enqd t → Inv (set_next m n none) g
  cleared t n o = record {
    log = i.log;
    place = i.place;
    alive = i.alive;
    waits = i.waits;
    link = record {
      links = λ q l h. upd_other m.next n none (not_live t n q o l) ∙ i.link.links q l h;
      last = λ q l h. upd_other m.next n none (not_live t n q o l) ∙ i.link.last q l h;
      indices = i.link.indices;
    };
    threads = record {
      refs = i.threads.refs;
      mine = λ u. mine_map (m.thr u) (λ k e h. upd_ind m.next n none (λ j x. x ≡ none) k refl (λ ne. h)) (λ v k x e h. h) (i.threads.mine u);
    };
  }
