-- From the invariant: every node number that a thread, Head, Tail, a hold or a mark names is below N.
use mathlib.Core.Path.{◌≡◌, refl, sym, subst, ap, ◌∙◌}
use mathlib.Core.Bool.{Bool, true, false}
use mathlib.Core.List.{List, []}
use mathlib.Core.Logic.{◌≢◌}
use mathlib.Core.Option.{some}
use Prim.Native.Nat.{ℕ, suc, ◌≤◌, ◌<◌}
use native.Mathlib.Omega.{arith}
use native.Mathlib.Decide.{dec_lt, dec_le}
use Rattle.model.specs.Basics.{has}
use Rattle.model.specs.Core.{elsewhere, a10f, d3f, d6f}
use Rattle.model.specs.Core.{Core, Th, busy, idle, a1, a2, a3, a4, a5, a6, a7, a8, a9, a10, a11, a12, d1, d2, d3, d4, d5, d6, d7, s3, s6}
use Rattle.model.specs.Bench.{Book}
use Rattle.model.specs.Places.{owns_e, owns_d}
use Rattle.model.specs.Always.{ThIn, InRange}
use Rattle.model.proofs.Times.{Hist}
use Rattle.model.proofs.Layer1.Ghost.{off, pos_of, poss, Live, Ref, Lnk, Hd, Hd2}
use Rattle.model.proofs.Layer1.Places.{tag}
use Rattle.model.proofs.Layer2.Invariant.{FactsOf}
use Rattle.model.proofs.Layer3.All.{All}
use Rattle.model.proofs.Always.Plain.{Plain}

module _ (ls : ℕ → Bool) (hs : Hist) (m : Core) (b : Book) (q₀ : List ℕ) (now : ℕ) (a : All ls hs m b q₀ now) where
  -- a node that is somewhere is one of the N
  pub below : (n : ℕ) → a.g.own n ≢ off → n < m.conf.nodes
  below n ne = by (dec_lt n m.conf.nodes)
    where
      by : Dec (n < m.conf.nodes) → n < m.conf.nodes
      by (yes h) = h
      by (no h) = absurd (ne ((a.table n).0 (omega arith)))

  -- so is one at a place of the log that is its last
  live_below : (q : ℕ) → Live a.g.who (poss a.g.own) q → a.g.who q < m.conf.nodes
  live_below q l = below (a.g.who q) (λ e. let w = sym l ∙ ap pos_of e in let z : ◌≡◌ {A = ℕ} 0 1 = cc in omega arith)

  -- and one that a thread refers to
  ref_below : (t q x : ℕ) → busy (m.thr t) ≡ true → a.g.who q ≡ x → a.g.base t ≤ q → q < a.g.len → x < m.conf.nodes
  ref_below t q x bz is lo hi = subst (λ y. y < m.conf.nodes) is (live_below q (a.inv.alive.live t bz q lo hi))

  pub own_e : (t n : ℕ) → owns_e (m.thr t) ≡ some n → n < m.conf.nodes
  own_e t n e = below n (λ f. omega (arith, ap tag (sym (a.inv.place.enq_own t n e) ∙ f)))

  own_d : (t n : ℕ) → owns_d (m.thr t) ≡ some n → n < m.conf.nodes
  own_d t n e = below n (λ f. omega (arith, ap tag (sym (a.inv.place.deq_own t n e).1 ∙ f)))

  -- the node at Head's place or behind it
  pub at_head : (q : ℕ) → a.g.hp ≤ q → q < a.g.len → a.g.who q < m.conf.nodes
  at_head q lo hi = live_below q (ap pos_of (a.inv.place.queued q lo hi))

  linked : (t n x : ℕ) → busy (m.thr t) ≡ true → Lnk a.g.who (a.g.base t) a.g.len x n → (n < m.conf.nodes) × (x < m.conf.nodes)
  linked t n x bz l = (
    ref_below t (suc l.pos) n bz l.then (omega (arith, l.lo)) l.hi,
    ref_below t l.pos x bz l.is l.lo
        (omega (arith, l.hi)),
  )

  headed : (t h i : ℕ) → busy (m.thr t) ≡ true → Hd a.g.who a.g.idx (a.g.base t) a.g.hp h i → h < m.conf.nodes
  headed t h i bz r = ref_below t r.pos h bz r.is r.lo (omega (arith, r.hi, a.inv.log.hp_in))

  -- what a thread's next steps use
  th_in : (t : ℕ) (s : Th) → m.thr t ≡ s → ThIn m.conf.nodes m.next s
  th_in t idle e = tt
  th_in t (a1 v) e = tt
  th_in t (a2 v n) e = own_e t n (rw e)
  th_in t (a3 v n) e = own_e t n (rw e)
  th_in t (a4 v n) e = own_e t n (rw e)
  th_in t (a5 v n) e = own_e t n (rw e)
  th_in t (a6 v n x) e =
      let r : Ref a.g.who (a.g.base t) a.g.tp a.g.len x = rw e at (a.inv.threads.refs t) in
      (own_e t n (rw e), ref_below t r.pos x (rw e) r.is r.lo r.hi)
  th_in t (a7 v n x) e =
      let r : Ref a.g.who (a.g.base t) a.g.tp a.g.len x = rw e at (a.inv.threads.refs t) in
      (own_e t n (rw e), ref_below t r.pos x (rw e) r.is r.lo r.hi)
  th_in t (a8 v n x) e =
      let r : Ref a.g.who (a.g.base t) a.g.tp a.g.len x = rw e at (a.inv.threads.refs t) in
      (own_e t n (rw e), ref_below t r.pos x (rw e) r.is r.lo r.hi)
  th_in t (a9 v n x) e = linked t n x (rw e) (rw e at (a.inv.threads.refs t))
  th_in t (a10 v n x) e = linked t n x (rw e) (rw e at (a.inv.threads.refs t))
  th_in t (a10f v n x) e = linked t n x (rw e) (rw e at (a.inv.threads.refs t))
  th_in t (a11 v n x) e = linked t n x (rw e) (rw e at (a.inv.threads.refs t))
  th_in t (a12 v n x) e =
      let yl : (y : ℕ) × Lnk a.g.who (a.g.base t) a.g.len x y = rw e at (a.inv.threads.refs t) in
      let l = yl.1 in
      let hi : l.pos < a.g.len = omega (arith, l.hi) in
      let nx = a.inv.link.links l.pos (a.inv.alive.live t (rw e) l.pos l.lo hi) l.hi in
      let xs = l.is in
      (own_e t n (rw e), ref_below t l.pos x (rw e) l.is l.lo hi, λ f. let z : ◌≡◌ {A = ℕ} 0 1 = cc in omega arith)
  th_in t d1 e = tt
  th_in t elsewhere e = tt
  th_in t (d2 h i) e = headed t h i (rw e) (rw e at (a.inv.threads.refs t))
  th_in t (d3 h i) e = headed t h i (rw e) (rw e at (a.inv.threads.refs t))
  th_in t (d3f h i) e = headed t h i (rw e) (rw e at (a.inv.threads.refs t))
  th_in t (s3 h i) e = headed t h i (rw e) (rw e at (a.inv.threads.refs t))
  th_in t (d4 h i x) e =
      let r : Hd2 a.g.who a.g.idx (a.g.base t) a.g.hp a.g.len h i x = rw e at (a.inv.threads.refs t) in
      (headed t h i (rw e) r.at, ref_below t (suc r.at.pos) x (rw e) r.then (omega (arith, r.at.lo)) r.more)
  th_in t (d5 h x) e =
      let d = a.inv.place.deq_own t h (rw e) in
      let fc : FactsOf hs m a.g a.p t (d5 h x) = rw e at (a.pinv.facts t) in
      let r = fc d.0 d.1 in
      (own_d t h (rw e), ref_below t (suc d.0) x (rw e) r.2 (omega (arith, r.0)) r.1)
  th_in t (d6 h v) e = own_d t h (rw e)
  th_in t (d6f h v) e = own_d t h (rw e)
  th_in t (s6 h x v) e =
      let d = a.inv.place.deq_own t h (rw e) in
      let fc : FactsOf hs m a.g a.p t (s6 h x v) = rw e at (a.pinv.facts t) in
      let r = fc.1 d.0 d.1 in
      (own_d t h (rw e), ref_below t (suc d.0) x (rw e) r.1 (omega (arith, r.0)) r.3.inside)
  th_in t (d7 h v) e = own_d t h (rw e)

  -- Tail is at Head's place, behind it, or one before it
  tail_below : m.tail < m.conf.nodes
  tail_below = subst (λ y. y < m.conf.nodes) (sym a.inv.log.tail_at) (by (dec_le a.g.hp a.g.tp))
    where
      by : Dec (a.g.hp ≤ a.g.tp) → a.g.who a.g.tp < m.conf.nodes
      by (yes h) = at_head a.g.tp h a.inv.log.tail_in
      by (no h) = live_below a.g.tp (a.inv.alive.prev a.g.tp (omega (arith, a.inv.log.hp_in, a.inv.log.tail_near)))

  -- beyond the table nothing is free and nothing waits
  beyond : (n : ℕ) → m.conf.nodes ≤ n → (m.free n ≡ false) × (m.wait n ≡ [])
  beyond n h = rw ((a.table n).0 h) at (a.inv.place.marks n)

  pub free_below : (n : ℕ) → m.free n ≡ true → n < m.conf.nodes
  free_below n e = by (dec_lt n m.conf.nodes)
    where
      by : Dec (n < m.conf.nodes) → n < m.conf.nodes
      by (yes h) = h
      by (no h) = let f = (beyond n (omega arith)).0 in let z : ◌≡◌ {A = ℕ} 0 1 = cc in absurd (omega arith)

  wait_below : (n t : ℕ) → has t (m.wait n) → n < m.conf.nodes
  wait_below n t e = by (dec_lt n m.conf.nodes)
    where
      by : Dec (n < m.conf.nodes) → n < m.conf.nodes
      by (yes h) = h
      by (no h) = absurd (subst (λ l. has t l) (beyond n (omega arith)).1 e)

  pub ranged : Plain m → InRange m
  ranged p = record {
    head = subst (λ y. y < m.conf.nodes) (sym a.inv.log.head_at) (at_head a.g.hp (omega arith) a.inv.log.hp_in);
    tail = tail_below;
    last = p.last;
    links = p.links;
    free = free_below;
    waits = λ n t e. (wait_below n t e, p.waits n t e);
    holds = λ t n e. (p.holds t n e, below n (λ f. omega (arith, ap tag (sym (a.inv.place.held_own t n e).1 ∙ f))));
    works = a.inv.alive.range;
    threads = λ t. th_in t (m.thr t) refl;
  }
