-- Another queue over the same table: what a step of an operation on it does here, and that it keeps the whole invariant of this queue. This
-- queue knows which nodes are with the other (lent), and that a thread is busy there (elsewhere); a content of the other counts as not linked.
use mathlib.Core.Path.{◌≡◌, refl, sym, subst, ap, ◌∙◌}
use mathlib.Core.Bool.{Bool, true, false}
use mathlib.Core.List.{List, [], ◌∷◌, cons≢nil}
use mathlib.Core.Logic.{◌≢◌, inl, inr, ◌↔◌}
use mathlib.Core.Option.{Option, none, some}
use Prim.Native.Nat.{ℕ, suc, pred, ◌≤◌, ◌<◌}
use native.Mathlib.Omega.{arith}
use native.Mathlib.Decide.{ℕ_discrete}
use Rattle.model.specs.Basics.{upd}
use Rattle.model.specs.Lines.{Line, of_head, of_node, Touch, nowhere, stores, flushes, issues, fences}
use Rattle.model.specs.Core.{Core, Node, Th, content, busy, acts, idle, elsewhere, a8}
use Rattle.model.specs.Changes.{set_th, set_next, store, set_free, set_last}
use Rattle.model.specs.Steps.{leave, remove, others, retire_held}
use Rattle.model.specs.Bench.{Book}
use Rattle.model.specs.Places.{owns_e, owns_d}
use Rattle.model.proofs.Basics.{upd_ind, upd_same, upd_at, upd_other}
use Rattle.model.proofs.Times.{Hist, Grown}
use Rattle.model.proofs.Layer1.Ghost.{Gh, Inv, LinkI, LiveI, Place, pos_of, deqd, spare, off, lent, lent_w, poss, Live, ixs, Refs}
use Rattle.model.proofs.Layer1.Ghost.{Marks, Spot, Holder, Awaits}
use Rattle.model.proofs.Layer1.Places.{still, before, tag}
use Rattle.model.proofs.Layer1.Memory.{mine_map}
use Rattle.model.proofs.Layer1.Hands.{own_g, same_pos, marks_off, spot_off, queued_off, awaits_off, marks_free}
use Rattle.model.proofs.Layer1.D7.{begun}
use Rattle.model.proofs.Layer1.Leave.{left, release, rel_inv}
use Rattle.model.proofs.Layer2.Contents.{Pg, Quiet, Gone, stored_p, fewer_n}
use Rattle.model.proofs.Layer2.Heads.{fewer_h}
use Rattle.model.proofs.Layer2.Invariant.{PInv, FactsOf, same_facts, fewer_p}
use Rattle.model.proofs.Layer2.Stores.{node_more, head_rest, kept_facts, linked_live, leave_p}
use Rattle.model.proofs.Layer2.Hands.{hands_p, hands_facts, begin_p}
use Rattle.model.proofs.Layer3.Invariant.{CurOf, cur_map}
use Rattle.model.proofs.Layer3.Changes.{tick_l}
use Rattle.model.proofs.Layer3.All.{All, at_once_lem, at_fence}

-- ---- what a step on the other queue does here

-- an operation begins; a step that this queue does not see (A5, A6, A11, A12, D1, D2, D4, D5, and a step that turns back); A1; A2, A4, the queue
-- byte, A7, A9; A3, A8; a line persisted at once, a flush, a fence; an answer; Worn out; D7 of a thread that held a node
pub data Deed : Type 0 where
  begins : Deed
  unseen : Deed
  takes : (n : ℕ) → Deed
  puts : (n : ℕ) (c : Node) → Deed
  links : (n : ℕ) (o : Option ℕ) → Deed
  persists : (l : Line) → Deed
  flushing : Deed
  fencing : (l : Line) → Deed
  answers : Deed
  returns : (n : ℕ) → Deed
  retires : (n : ℕ) → Deed

-- the core after it, u being the thread
abbrev pub abroad : Deed → Core → ℕ → Core
abroad begins m u = set_th m u elsewhere
abroad unseen m u = m
abroad (takes n) m u = set_last (set_free m (upd m.free n false) m.wait) n
abroad (puts n c) m u = store m n c
abroad (links n o) m u = set_next m n o
abroad (persists l) m u = m
abroad flushing m u = m
abroad (fencing l) m u = m
abroad answers m u = leave m u
abroad (returns n) m u = leave (set_free m (upd m.free n true) m.wait) u
abroad (retires n) m u = leave (retire_held m u (some n)) u

-- which nodes are lent after it
abbrev pub lent_after : Deed → (ℕ → Bool) → ℕ → Bool
lent_after begins ls = ls
lent_after unseen ls = ls
lent_after (takes n) ls = upd ls n true
lent_after (puts n c) ls = ls
lent_after (links n o) ls = ls
lent_after (persists l) ls = ls
lent_after flushing ls = ls
lent_after (fencing l) ls = ls
lent_after answers ls = ls
lent_after (returns n) ls = upd ls n false
lent_after (retires n) ls = upd ls n false

abbrev pub deed_touch : Deed → ℕ → Touch
deed_touch begins u = nowhere
deed_touch unseen u = nowhere
deed_touch (takes n) u = nowhere
deed_touch (puts n c) u = stores (of_node n)
deed_touch (links n o) u = nowhere
deed_touch (persists l) u = flushes l
deed_touch flushing u = issues u
deed_touch (fencing l) u = fences u l
deed_touch answers u = nowhere
deed_touch (returns n) u = nowhere
deed_touch (retires n) u = nowhere

-- when it may come: a node taken is free; one stored to, linked, given back or retired is lent; and no store there links a node here
abbrev pub Allowed : Deed → (ℕ → Bool) → Core → ℕ → Type 0
Allowed begins ls m u = (u < m.conf.threads) × (m.thr u ≡ idle)
Allowed unseen ls m u = Unit {0}
Allowed (takes n) ls m u = m.free n ≡ true
Allowed (puts n c) ls m u = (ls n ≡ true) × (c.linked ≡ true → ((m.node n).linked ≡ true) × (c.index ≡ (m.node n).index))
Allowed (links n o) ls m u = ls n ≡ true
Allowed (persists l) ls m u = Unit {0}
Allowed flushing ls m u = m.thr u ≡ elsewhere
Allowed (fencing l) ls m u = Unit {0}
Allowed answers ls m u = m.thr u ≡ elsewhere
Allowed (returns n) ls m u = (m.thr u ≡ elsewhere) × (ls n ≡ true)
Allowed (retires n) ls m u = (m.thr u ≡ elsewhere) × (ls n ≡ true)

-- ---- a node that has no place in this queue's log

module _ (m : Core) (g : Gh) (i : Inv m g) (n : ℕ) (p₀ : Place) (o : g.own n ≡ p₀) (no : pos_of p₀ ≡ none) (t₀ : 5 ≤ tag p₀) where
  off_log : (q : ℕ) → Live g.who (poss g.own) q → g.who q ≢ n
  off_log q l w = let a : pos_of (g.own n) ≡ some q = rw (← w) l in let b : pos_of (g.own n) ≡ none = ap pos_of o ∙ no in
      let z : ◌≡◌ {A = ℕ} 0 1 = cc in omega arith

  not_own : (u k : ℕ) → owns_e (m.thr u) ≡ some k → k ≢ n
  not_own u k e w = omega (arith, ap tag (sym (i.place.enq_own u k e) ∙ ap g.own w ∙ o))

  -- it changes hands
  handed : (p : Place) (free' : ℕ → Bool) (wait' : ℕ → List ℕ) → pos_of p ≡ none → 5 ≤ tag p
      → ((k : ℕ) → k ≢ n → free' k ≡ m.free k) → ((k : ℕ) → k ≢ n → wait' k ≡ m.wait k) → Marks (free' n) (wait' n) p
      → Spot g.who g.hp g.len n p → Holder m.held (λ u. owns_e (m.thr u)) (λ u. owns_d (m.thr u)) n p
      → Awaits (λ u. busy (m.thr u)) g.base (wait' n) p → Inv (set_free m free' wait') (own_g g n p)
  handed p free' wait' po t₁ ff fw mk sp hd aw = record {
    log = i.log;
    place = record {
      queued = queued_off m g i n p₀ p o pos (λ q f. omega (arith, ap tag f));
      marks = marks_off m g i n p₀ p o pos free' wait' ff fw mk;
      spot = spot_off m g i n p₀ p o pos sp;
      holder = λ k. upd_ind g.own n p (λ k p. Holder m.held (λ u. owns_e (m.thr u)) (λ u. owns_d (m.thr u)) k p) k hd (λ ne. i.place.holder k);
      enq_own = λ u k h. still g.own n p k o (λ f. omega (arith, ap tag f)) (i.place.enq_own u k h);
      deq_own = λ u k h. let d = i.place.deq_own u k h in (d.0, still g.own n p k o (λ f. omega (arith, ap tag f)) d.1);
      held_own = λ u k h. let d = i.place.held_own u k h in (d.0, still g.own n p k o (λ f. omega (arith, ap tag f)) d.1);
      apart = λ u k k' q q' a b. i.place.apart u k k' q q' (before g.own n p k (λ f. omega (arith, ap tag f)) a).1
          (before g.own n p k' (λ f. omega (arith, ap tag f)) b).1;
    };
    link = subst (λ p. LinkI g.len g.who g.idx p m.next (ixs m.node)) (sym (same_pos m g i n p₀ p o pos)) i.link;
    alive = subst (λ p. LiveI g.len g.hp g.who p g.base m.conf.threads (λ u. busy (m.thr u))) (sym (same_pos m g i n p₀ p o pos)) i.alive;
    waits = awaits_off m g i n p₀ p o pos (λ u. busy (m.thr u)) g.base wait' fw aw i.waits.awaits;
    threads = i.threads;
  }
    where
      pos : pos_of p ≡ pos_of p₀
      pos = po ∙ sym no

  -- its link changes
  linked_f : (x : Option ℕ) → Inv (set_next m n x) g
  linked_f x = record {
    log = i.log;
    place = i.place;
    alive = i.alive;
    waits = i.waits;
    link = record {
      links = λ q l h. upd_other m.next n x (off_log q l) ∙ i.link.links q l h;
      last = λ q l h. upd_other m.next n x (off_log q l) ∙ i.link.last q l h;
      indices = i.link.indices;
    };
    threads = record {
      refs = i.threads.refs;
      mine = λ u. mine_map (m.thr u) (λ k e h. upd_other m.next n x (not_own u k e) ∙ h) (λ v k x e h. h) (i.threads.mine u);
    };
  }

  -- its content changes
  stored_f : (c : Node) → Inv (store m n c) g
  stored_f c = record {
    log = i.log;
    place = i.place;
    alive = i.alive;
    waits = i.waits;
    link = record {
      links = i.link.links;
      last = i.link.last;
      indices = λ q l. ap (λ x. x.index) (upd_other m.node n c (off_log q l)) ∙ i.link.indices q l;
    };
    threads = record {
      refs = i.threads.refs;
      mine = λ u. mine_map (m.thr u) (λ k e h. h) (λ v k x e h. other u v k x e h) (i.threads.mine u);
    };
  }
    where
      other : (u v k x : ℕ) → m.thr u ≡ a8 v k x → ixs m.node k ≡ suc (ixs m.node x) → ixs (upd m.node n c) k ≡ suc (ixs (upd m.node n c) x)
      other u v k x e h =
          let r : Refs g.who g.idx (g.base u) g.hp g.tp g.len (a8 v k x) = rw e at (i.threads.refs u) in
          let xn : x ≢ n = λ f. off_log r.pos (i.alive.live u (rw e) r.pos r.lo r.hi) (r.is ∙ f) in
          ap (λ z. z.index) (upd_other m.node n c (not_own u k (rw e))) ∙ h ∙ ap (λ z. suc z.index) (sym (upd_other m.node n c xn))

  module _ (hs : Hist) (pg : Pg) (j : PInv hs m g pg) where
    handed_p : (p : Place) (free' : ℕ → Bool) (wait' : ℕ → List ℕ) → pos_of p ≡ none → 5 ≤ tag p
        → ((c : Node) → Quiet (g.idx pg.pp) c p₀ → Quiet (g.idx pg.pp) c p) → ((q : ℕ) → Gone pg.pp q p₀ → Gone pg.pp q p)
        → PInv hs (set_free m free' wait') (own_g g n p) pg
    handed_p p free' wait' po t₁ qs gs = record {
      head = j.head;
      nodes = hands_p hs m g pg j n p (po ∙ sym (ap pos_of o ∙ no)) qt gn;
      facts = λ u. hands_facts hs m g pg j n p (po ∙ sym (ap pos_of o ∙ no)) qt gn (hs.since u) u _ (λ c z. inl z) (λ n c z. z) (omega arith)
          (λ q f. omega (arith, ap tag f));
    }
      where
        qt : (c : Node) → hs.is (of_node n) c → Quiet (g.idx pg.pp) c p
        qt c h = qs c (rw o at (j.nodes.quiet n c h))

        gn : (q : ℕ) → q < g.len → g.who q ≡ n → Gone pg.pp q p
        gn q h w = gs q (rw (w, o) at (j.nodes.gone q h))

    -- a store: what it shows of this queue is no newer than what is persisted
    stored_fP : (hs' : Hist) (c : Node) → Grown (stores (of_node n)) (content (store m n c)) hs hs' → (c.linked ≡ true → c.index ≤ g.idx pg.pp)
        → Quiet (g.idx pg.pp) c p₀ → ((q : ℕ) → Gone pg.pp q p₀ → q ≤ pg.pp) → PInv hs' (store m n c) g pg
    stored_fP hs' c w ok q gs = record {
      head = fewer_h _ _ _ g.len _ _ _ i.log.rising i.log.hp_in j.head (λ k. hs'.is (of_head k)) (head_rest hs hs' _ n w) (λ k. w.here (of_head k));
      nodes = stored_p g.len pg.pp g.who g.idx pg.item g.own m.node (λ n. hs.is (of_node n)) (λ n. hs'.is (of_node n)) pg.safe
          j.nodes n c (node_more hs hs' _ n c (upd_same m.node n c) w) (λ k. w.here (of_node k))
          (λ l. inl (ok l)) (rw o q) (λ r l e. absurd (off_log r l e)) (λ r h e s. inl (gs r (rw (e, o) at (j.nodes.gone r h))));
      facts = λ u. kept_facts hs m g pg i j hs' n c w u (λ k e. upd_other m.node n c (not_own u k e))
          (λ v k x e l. ap (λ z. z.linked) (far (linked_live hs m g pg i j u k x (rw e) (rw e at (i.threads.refs u)))) ∙ l)
          (λ v k x e l. far (linked_live hs m g pg i j u k x (rw e) (rw e at (i.threads.refs u))));
    }
      where
        far : {k : ℕ} → (q : ℕ) × (g.who q ≡ k) × Live g.who (poss g.own) q → upd m.node n c k ≡ m.node k
        far {k} w = upd_other m.node n c (λ z. off_log w.0 w.2 (w.1 ∙ z))

-- ---- nothing of this queue takes effect

-- time goes on
pub ticks : (ls : ℕ → Bool) (hs : Hist) (m : Core) (b : Book) (q₀ : List ℕ) (now : ℕ) → All ls hs m b q₀ now → All ls hs m b q₀ (suc now)
ticks ls hs m b q₀ now a = record {
  g = a.g;
  p = a.p;
  first = a.first;
  lin = a.lin;
  inv = a.inv;
  pinv = a.pinv;
  lins = tick_l _ _ _ _ _ _ _ _ _ _ a.lins;
  curs = a.curs;
  roots = a.roots;
  table = a.table;
  lents = a.lents;
}

-- the nodes lent, where one changes
lents_upd : (own : ℕ → Place) (ls : ℕ → Bool) (n : ℕ) (p : Place) (v : Bool) → (p ≡ lent) ↔ (v ≡ true) → ((k : ℕ) → (own k ≡ lent) ↔ (ls k ≡ true))
    → (k : ℕ) → (upd own n p k ≡ lent) ↔ (upd ls n v k ≡ true)
lents_upd own ls n p v pv f k = by (ℕ_discrete k n)
  where
    by : Dec (k ≡ n) → (upd own n p k ≡ lent) ↔ (upd ls n v k ≡ true)
    by (yes e) = (λ o. upd_at ls n v e ∙ pv.0 (sym (upd_at own n p e) ∙ o), λ h. upd_at own n p e ∙ pv.1 (sym (upd_at ls n v e) ∙ h))
    by (no ne) = (λ o. upd_other ls n v ne ∙ (f k).0 (sym (upd_other own n p ne) ∙ o), λ h. upd_other own n p ne ∙ (f k).1 (sym (upd_other ls n v ne) ∙ h))

module _ (ls : ℕ → Bool) (hs : Hist) (m : Core) (b : Book) (q₀ : List ℕ) (now : ℕ) (a : All ls hs m b q₀ now) where
  seen : (ls' : ℕ → Bool) (hs' : Hist) (m' : Core) (own' : ℕ → Place) (base' : ℕ → ℕ)
      → Inv m' (record { len = a.g.len; hp = a.g.hp; tp = a.g.tp; who = a.g.who; idx = a.g.idx; own = own'; base = base' })
      → PInv hs' m' (record { len = a.g.len; hp = a.g.hp; tp = a.g.tp; who = a.g.who; idx = a.g.idx; own = own'; base = base' }) a.p
      → m'.conf ≡ m.conf → ((n : ℕ) → (a.g.own n ≡ off) ↔ (own' n ≡ off)) → ((n : ℕ) → (own' n ≡ lent) ↔ (ls' n ≡ true))
      → ((t : ℕ) → acts (m'.thr t) ≡ true → (m'.thr t ≡ m.thr t) × (base' t ≡ a.g.base t))
      → ((u h q : ℕ) → owns_d (m.thr u) ≡ some h → own' h ≡ deqd u q → a.g.own h ≡ deqd u q)
      → All ls' hs' m' b q₀ now
  seen ls' hs' m' own' base' i j cf tb lt st ob = record {
    g = _;
    p = a.p;
    first = a.first;
    lin = a.lin;
    inv = i;
    pinv = j;
    lins = a.lins;
    curs = record {
      lt = λ t w. a.curs.lt t (was t w);
      pending = λ t w. a.curs.pending t (was t w);
      apart = λ t u w v e. a.curs.apart t u (was t w) (was u v) e;
      state = λ t w. subst (λ s. CurOf (b.op (b.cur t)).call a.lin a.g.hp a.g.who own' (base' t) a.g.len t (b.cur t) s) (sym (st t w).0)
          (subst (λ y. CurOf (b.op (b.cur t)).call a.lin a.g.hp a.g.who own' y a.g.len t (b.cur t) (m.thr t)) (sym (st t w).1)
          (cur_map (b.op (b.cur t)).call a.lin a.lin a.g.hp a.g.hp a.g.who a.g.who a.g.own own' (a.g.base t) a.g.len
          a.g.len t (b.cur t)
          (λ e h. h) (λ f. f) (λ q h. refl) (omega arith) (omega arith) (m.thr t) (λ h q o e. ob t h q o e) (a.curs.state t (was t w))));
    };
    roots = a.roots;
    table = λ n. (λ h. (tb n).0 ((a.table n).0 (subst (λ c. c.nodes ≤ n) cf h)), λ o. subst (λ c. c.nodes ≤ n) (sym cf) ((a.table n).1 ((tb n).1 o)));
    lents = lt;
  }
    where
      was : (t : ℕ) → acts (m'.thr t) ≡ true → acts (m.thr t) ≡ true
      was t w = subst (λ s. acts s ≡ true) (st t w).0 w

  -- there are no more contents than there were
  waits : (hs' : Hist) → Grown nowhere (content m) hs hs' → All ls hs' m b q₀ now
  waits hs' w = seen ls hs' m a.g.own a.g.base a.inv (fewer_p hs hs' m a.g a.p a.inv w a.pinv) refl (λ n. (λ z. z, λ z. z)) a.lents
      (λ t w. (refl, refl)) (λ u h q o z. z)

  -- the other thread's flush
  flushes_f : (hs' : Hist) (u : ℕ) → m.thr u ≡ elsewhere → Grown (issues u) (content m) hs hs' → All ls hs' m b q₀ now
  flushes_f hs' u e w = seen ls hs' m a.g.own a.g.base a.inv record {
    head = fewer_h _ _ _ a.g.len _ _ _ a.inv.log.rising a.inv.log.hp_in a.pinv.head (λ k. hs'.is (of_head k)) (λ k c. w.made (of_head k) c)
        (λ k. w.here (of_head k));
    nodes = fewer_n _ _ _ _ _ _ _ _ (λ n. hs'.is (of_node n)) _ a.pinv.nodes (λ n c. w.made (of_node n) c) (λ n. w.here (of_node n));
    facts = λ t. by t (ℕ_discrete t u);
  } refl (λ n. (λ z. z, λ z. z)) a.lents (λ t w. (refl, refl)) (λ u h q o z. z)
    where
      by : (t : ℕ) → Dec (t ≡ u) → FactsOf hs' m a.g a.p t (m.thr t)
      by t (yes f) = rw (f, e) tt
      by t (no ne) = same_facts hs hs' m a.g a.p t (w.later.0 t ne) (a.pinv.facts t)

  -- an operation on the other queue begins, and answers
  begins_f : (u : ℕ) → u < m.conf.threads → m.thr u ≡ idle → All ls hs (set_th m u elsewhere) b q₀ now
  begins_f u lt e = seen ls hs (set_th m u elsewhere) a.g.own (upd a.g.base u (pred a.g.hp))
      (begun m a.g a.inv u elsewhere e lt refl refl (λ k. tt) tt) (begin_p hs m a.g a.p a.inv a.pinv u elsewhere (λ k. tt)) refl
      (λ n. (λ z. z, λ z. z)) a.lents
      (λ t w. upd_ind m.thr u elsewhere (λ t s. acts s ≡ true → (s ≡ m.thr t) × (upd a.g.base u (pred a.g.hp) t ≡ a.g.base t)) t
      (λ z. let y : ◌≡◌ {A = ℕ} 0 1 = cc in absurd (omega arith)) (λ ne z. (refl, upd_other a.g.base u (pred a.g.hp) ne)) w) (λ t h q o z. z)

  leaves_f : (u : ℕ) → m.thr u ≡ elsewhere → All ls hs (leave m u) b q₀ now
  leaves_f u e = seen ls hs (leave m u) (λ n. release (a.g.own n) (remove u (m.wait n))) a.g.base
      (left m a.g a.inv u (rw e) (rw e)) (leave_p hs m a.g a.p a.inv a.pinv u) refl
      (λ n. (
        λ z. ap (λ o. release o (remove u (m.wait n))) z,
        λ z. rel_inv (a.g.own n) (remove u (m.wait n)) (λ f. omega (arith, ap tag f)) z,
      ))
      (λ n. (
        λ o. (a.lents n).0 (rel_inv (a.g.own n) (remove u (m.wait n)) (λ f. omega (arith, ap tag f)) o),
        λ h. ap (λ o. release o (remove u (m.wait n))) ((a.lents n).1 h),
      ))
      (λ t w. upd_ind m.thr u idle (λ t s. acts s ≡ true → (s ≡ m.thr t) × (a.g.base t ≡ a.g.base t)) t
      (λ z. let y : ◌≡◌ {A = ℕ} 0 1 = cc in absurd (omega arith)) (λ ne z. (refl, refl)) w)
      (λ t h q o z. rel_inv (a.g.own h) (remove u (m.wait h)) (λ f. omega (arith, ap tag f)) z)

  -- a node changes hands there
  module _ (n : ℕ) (p₀ p : Place) (v : Bool) (o : a.g.own n ≡ p₀) (no : pos_of p₀ ≡ none) (t₀ : 5 ≤ tag p₀) (noff : p₀ ≢ off) (po : pos_of p ≡ none)
      (t₁ : 5 ≤ tag p) (poff : p ≢ off) (pv : (p ≡ lent) ↔ (v ≡ true)) where
    handed_f : (free' : ℕ → Bool) (wait' : ℕ → List ℕ) → ((k : ℕ) → k ≢ n → free' k ≡ m.free k) → ((k : ℕ) → k ≢ n → wait' k ≡ m.wait k)
        → Marks (free' n) (wait' n) p
        → Spot a.g.who a.g.hp a.g.len n p → Holder m.held (λ u. owns_e (m.thr u)) (λ u. owns_d (m.thr u)) n p
        → Awaits (λ u. busy (m.thr u)) a.g.base (wait' n) p
        → ((c : Node) → Quiet (a.g.idx a.p.pp) c p₀ → Quiet (a.g.idx a.p.pp) c p) → ((q : ℕ) → Gone a.p.pp q p₀ → Gone a.p.pp q p)
        → All (upd ls n v) hs (set_free m free' wait') b q₀ now
    handed_f free' wait' ff fw mk sp hd aw qs gs = seen (upd ls n v) hs (set_free m free' wait') (upd a.g.own n p) a.g.base
        (handed m a.g a.inv n p₀ o no t₀ p free' wait' po t₁ ff fw mk sp hd aw)
        (handed_p m a.g a.inv n p₀ o no t₀ hs a.p a.pinv p free' wait' po t₁ qs gs) refl
        (λ k. (λ z. still a.g.own n p k o noff z, λ z. (before a.g.own n p k poff z).1)) (lents_upd a.g.own ls n p v pv a.lents)
        (λ t w. (refl, refl)) (λ u h q ow z. (before a.g.own n p h (λ f. omega (arith, ap tag f)) z).1)

  -- a free node is taken
  takes_f : (n : ℕ) → m.free n ≡ true → All (upd ls n true) hs (set_free m (upd m.free n false) m.wait) b q₀ now
  takes_f n fr = handed_f n spare lent true o refl (omega arith) (λ f. omega (arith, ap tag f)) refl (omega arith) (λ f. omega (arith, ap tag f))
      (λ z. refl, λ z. refl)
      (upd m.free n false) m.wait (λ k ne. upd_other m.free n false ne) (λ k ne. refl)
      (upd_same m.free n false, (rw o at (a.inv.place.marks n)).1) tt tt tt (λ c q. q) (λ q z. z)
    where
      o : a.g.own n ≡ spare
      o = marks_free (m.free n) (m.wait n) (a.g.own n) fr (a.inv.place.marks n)

  -- a node is given back, or retired
  returns_f : (n : ℕ) → ls n ≡ true → All (upd ls n false) hs (set_free m (upd m.free n true) m.wait) b q₀ now
  returns_f n h = handed_f n lent spare false ((a.lents n).1 h) refl (omega arith) (λ f. omega (arith, ap tag f)) refl (omega arith)
      (λ f. omega (arith, ap tag f)) (λ z. cc, λ z. cc)
      (upd m.free n true) m.wait (λ k ne. upd_other m.free n true ne) (λ k ne. refl)
      (upd_same m.free n true, (rw ((a.lents n).1 h) at (a.inv.place.marks n)).1) tt tt tt (λ c q. q) (λ q z. z)

  retires_f : (n u : ℕ) → ls n ≡ true → All (upd ls n false) hs (retire_held m u (some n)) b q₀ now
  retires_f n u h = handed_f n lent lent_w false ((a.lents n).1 h) refl (omega arith) (λ f. omega (arith, ap tag f)) refl (omega arith)
      (λ f. omega (arith, ap tag f)) (λ z. cc, λ z. cc)
      m.free (upd m.wait n (u ∷ others m.conf.threads u m.thr)) (λ k ne. refl)
      (λ k ne. upd_other m.wait n (u ∷ others m.conf.threads u m.thr) ne) (
        (rw ((a.lents n).1 h) at (a.inv.place.marks n)).0,
        λ z. cons≢nil (sym (upd_same m.wait n (u ∷ others m.conf.threads u m.thr)) ∙ z),
      ) tt tt tt (λ c q. q) (λ q z. z)

  -- its link, its content
  links_f : (n : ℕ) (x : Option ℕ) → ls n ≡ true → All ls hs (set_next m n x) b q₀ now
  links_f n x h = seen ls hs (set_next m n x) a.g.own a.g.base (linked_f m a.g a.inv n lent ((a.lents n).1 h) refl (omega arith) x)
      (record { head = a.pinv.head; nodes = a.pinv.nodes; facts = a.pinv.facts }) refl (λ k. (λ z. z, λ z. z)) a.lents (λ t w. (refl, refl))
      (λ u h q ow z. z)

  puts_f : (hs' : Hist) (n : ℕ) (c : Node) → ls n ≡ true → (c.linked ≡ true → ((m.node n).linked ≡ true) × (c.index ≡ (m.node n).index))
      → Grown (stores (of_node n)) (content (store m n c)) hs hs' → All ls hs' (store m n c) b q₀ now
  puts_f hs' n c h ok w = seen ls hs' (store m n c) a.g.own a.g.base (stored_f m a.g a.inv n lent o refl (omega arith) c)
      (stored_fP m a.g a.inv n lent o refl (omega arith) hs a.p a.pinv hs' c w low low (λ q z. omega arith)) refl (λ k. (λ z. z, λ z. z))
      a.lents (λ t w. (refl, refl)) (λ u h q ow z. z)
    where
      o : a.g.own n ≡ lent
      o = (a.lents n).1 h

      old : Quiet (a.g.idx a.p.pp) (m.node n) lent
      old = rw o at (a.pinv.nodes.quiet n (m.node n) (a.pinv.nodes.cached n))

      low : c.linked ≡ true → c.index ≤ a.g.idx a.p.pp
      low l = let z = ok l in omega (arith, z.1, old z.0)

  -- which node was handed out last says nothing
  last_f : (n : ℕ) → All ls hs (set_last m n) b q₀ now
  last_f n = seen ls hs (set_last m n) a.g.own a.g.base
      (record { log = a.inv.log; place = a.inv.place; link = a.inv.link; alive = a.inv.alive; waits = a.inv.waits; threads = a.inv.threads })
      (record { head = a.pinv.head; nodes = a.pinv.nodes; facts = a.pinv.facts }) refl (λ k. (λ z. z, λ z. z)) a.lents (λ t w. (refl, refl))
      (λ u h q ow z. z)

-- ---- each step on the other queue keeps the invariant of this one

pub foreign_all : (ls : ℕ → Bool) (hs hs' : Hist) (m : Core) (b : Book) (q₀ : List ℕ) (now : ℕ) → All ls hs m b q₀ now → (u : ℕ) (d : Deed) → Allowed d ls m u
    → Grown (deed_touch d u) (content (abroad d m u)) hs hs' → All (lent_after d ls) hs' (abroad d m u) b q₀ (suc now)
foreign_all ls hs hs' m b q₀ now a u begins k w = ticks _ _ _ _ _ _ (begins_f ls hs' m b q₀ now (waits ls hs m b q₀ now a hs' w) u k.0 k.1)
foreign_all ls hs hs' m b q₀ now a u unseen k w = ticks _ _ _ _ _ _ (waits ls hs m b q₀ now a hs' w)
foreign_all ls hs hs' m b q₀ now a u (takes n) k w = ticks _ _ _ _ _ _ (last_f (upd ls n true) hs' (set_free m (upd m.free n false) m.wait) b q₀ now
    (takes_f ls hs' m b q₀ now (waits ls hs m b q₀ now a hs' w) n k) n)
foreign_all ls hs hs' m b q₀ now a u (puts n c) k w = ticks _ _ _ _ _ _ (puts_f ls hs m b q₀ now a hs' n c k.0 k.1 w)
foreign_all ls hs hs' m b q₀ now a u (links n o) k w = ticks _ _ _ _ _ _ (links_f ls hs' m b q₀ now (waits ls hs m b q₀ now a hs' w) n o k)
foreign_all ls hs hs' m b q₀ now a u (persists l) k w = ticks _ _ _ _ _ _ (waits ls hs m b q₀ now a hs' (at_once_lem l (content m) hs hs' w))
foreign_all ls hs hs' m b q₀ now a u flushing k w = ticks _ _ _ _ _ _ (flushes_f ls hs m b q₀ now a hs' u k w)
foreign_all ls hs hs' m b q₀ now a u (fencing l) k w = ticks _ _ _ _ _ _ (waits ls hs m b q₀ now a hs' (at_fence u l (content m) hs hs' w))
foreign_all ls hs hs' m b q₀ now a u answers k w = ticks _ _ _ _ _ _ (leaves_f ls hs' m b q₀ now (waits ls hs m b q₀ now a hs' w) u k)
foreign_all ls hs hs' m b q₀ now a u (returns n) k w = ticks _ _ _ _ _ _ (leaves_f (upd ls n false) hs' (set_free m (upd m.free n true) m.wait) b q₀ now
    (returns_f ls hs' m b q₀ now (waits ls hs m b q₀ now a hs' w) n k.1) u k.0)
foreign_all ls hs hs' m b q₀ now a u (retires n) k w = ticks _ _ _ _ _ _ (leaves_f (upd ls n false) hs' (retire_held m u (some n)) b q₀ now
    (retires_f ls hs' m b q₀ now (waits ls hs m b q₀ now a hs' w) n u k.1) u k.0)
