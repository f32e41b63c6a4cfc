-- The steps of a dequeue that has taken a node, and the steps of others meanwhile: what it has of the node's index stays, and in the end a head line with it is persisted.
use Prim.Native.Nat.{ℕ, suc, ◌≤◌, ◌<◌}
use mathlib.Core.Path.{◌≡◌, refl, sym, ap, subst, ◌∙◌}
use mathlib.Core.Bool.{true, false}
use mathlib.Core.List.{List}
use mathlib.Core.Option.{some}
use native.Mathlib.Omega.{arith}
use Rattle.answer.specs.declared.Reply.{Reply}
use Rattle.answer.specs.declared.Reply.TheVariants as reply
use Rattle.model.specs.Basics.{upd}
use Rattle.model.specs.Lines.{of_head, flushes, issues}
use Rattle.model.specs.Conf.{Engine, shared, split, Mode, at_once, fenced, line_of, line_ix, line_count}
use Rattle.model.specs.Core.{Core, Th, Node, content, idle, a1, a2, a3, a4, a5, a6, a7, a8, a9, a10, a10f, a11, a12, d1, d2, d3, d3f, d4, d5, d6, d6f, d7, s3, s6, elsewhere}
use Rattle.model.specs.Core.{Ans, nothing, done, full, worn, empty, item, busy}
use Rattle.model.specs.Places.{owns_e}
use Rattle.model.specs.Steps.{Out, step, does, move, step_d6, item_to}
use Rattle.model.specs.Machine.{M, goes_on}
use Rattle.model.specs.Bench.{Book}
use Rattle.model.proofs.Basics.{upd_same}
use Rattle.model.proofs.Times.{hist_of, Grown, Timed, on_grown}
use Rattle.model.proofs.Layer1.Ghost.{deqd, pos_of, poss, Live, Spot, ixs}
use Rattle.model.proofs.Layer2.Contents.{idx_mono}
use Rattle.model.proofs.Layer2.Invariant.{FactsOf}
use Rattle.model.proofs.Layer3.All.{All}
use Rattle.model.proofs.Page.Frame.{frame}
use Rattle.parcelproof.proofs.Taking.{AllSince, Covered, Taking}

abbrev pub heard : Ans → Reply
heard nothing = reply.Taken
heard done = reply.Done
heard full = reply.Full
heard worn = reply.WornOut
heard (item v) = reply.Item v
heard empty = reply.Empty

own_in : (E : Engine) (T t : ℕ) → t < T → line_of E t < line_count E T
own_in shared T t h = omega arith
own_in split T t h = h

module _ (m : M) (b : Book) (q₀ : List ℕ) (now : ℕ) (i : Timed m) (a : All (λ n. false) (hist_of m) m.core b q₀ now) (t : ℕ) where
  abbrev c : Core
  c = m.core

  abbrev E : Engine
  E = c.conf.engine

  abbrev after : Out → M
  after o = goes_on m o.core o.touch

  -- the node that a thread has taken, at the place behind its old dummy's
  pub record Behind (y : ℕ) : Type 0 where
    pub pos : ℕ
    pub live : Live a.g.who (poss a.g.own) pos
    pub is : a.g.who pos ≡ y
    pub ix : (c.node y).index ≡ a.g.idx pos
    pub low : pos ≤ a.g.hp

  behind : (h y q : ℕ) → busy (c.thr t) ≡ true → a.g.own h ≡ deqd t q → a.g.base t ≤ q → suc q < a.g.len → a.g.who (suc q) ≡ y → Behind y
  behind h y q bt o lo lt is = record {
    pos = suc q;
    live = live;
    is = is;
    ix = ap (ixs c.node) (sym is) ∙ a.inv.link.indices (suc q) live;
    low = let z : Spot a.g.who a.g.hp a.g.len h (deqd t q) = subst (Spot a.g.who a.g.hp a.g.len h) o (a.inv.place.spot h) in omega (arith, z.1);
  }
    where
      live : Live a.g.who (poss a.g.own) (suc q)
      live = a.inv.alive.live t bt (suc q) (omega arith) lt

  pub at_d5 : (h y : ℕ) → c.thr t ≡ d5 h y → Behind y
  at_d5 h y e =
      let fc : FactsOf (hist_of m) c a.g a.p t (d5 h y) = rw e at (a.pinv.facts t) in
      let d = a.inv.place.deq_own t h (rw e) in
      let r = fc d.0 d.1 in
      behind h y d.0 (rw e) d.1 r.0 r.1 r.2

  pub at_s6 : (h y v : ℕ) → c.thr t ≡ s6 h y v → Behind y
  at_s6 h y v e =
      let fc : FactsOf (hist_of m) c a.g a.p t (s6 h y v) = rw e at (a.pinv.facts t) in
      let d = a.inv.place.deq_own t h (rw e) in
      let r = fc.1 d.0 d.1 in
      behind h y d.0 (rw e) d.1 r.0 r.3.inside r.1

  -- it is no enqueue's own
  pub not_own : (y u : ℕ) → Behind y → owns_e (c.thr u) ≡ some y → ⊥
  not_own y u w e =
      let o = a.inv.place.enq_own u y e in
      let z = sym (ap pos_of o) ∙ ap (poss a.g.own) (sym w.is) ∙ w.live in
      let q : ◌≡◌ {A = ℕ} 0 1 = cc in omega arith

  -- ---- its own steps; x is the index

  module _ (x : ℕ) where
    own5 : (h y : ℕ) → c.thr t ≡ d5 h y → (c.node y).index ≡ x → (F : Engine) → E ≡ F → Taking E (after (step c t (d5 h y))) t x (item_to F h y (c.node y).item)
    own5 h y e z shared f =
        let w = at_d5 h y e in
        let u = idx_mono a.g.idx a.g.len a.inv.log.rising w.pos a.g.hp w.low a.inv.log.hp_in in
        let k : line_ix E c.hidx c.marks (line_of E t) ≡ c.hidx = ap (λ (F : Engine). line_ix F c.hidx c.marks (line_of F t)) f in
        omega (arith, u, k, w.ix, a.inv.log.head_ix)
    own5 h y e z split f = z

    own6 : (h y v : ℕ) → c.thr t ≡ s6 h y v → (c.node y).index ≡ x → Taking E (after (step c t (s6 h y v))) t x (d6 h v)
    own6 h y v e z =
        let fc : FactsOf (hist_of m) c a.g a.p t (s6 h y v) = rw e at (a.pinv.facts t) in
        let k : line_ix E c.hidx (upd c.marks t (c.node y).index) (line_of E t) ≡ (c.node y).index =
        ap (λ (F : Engine). line_ix F c.hidx (upd c.marks t (c.node y).index) (line_of F t)) fc.0 ∙ upd_same c.marks t (c.node y).index in
        omega (arith, k)

    grown : (s : Th) → c.thr t ≡ s → Grown (step c t s).touch (content (step c t s).core) (hist_of m) (hist_of (after (step c t s)))
    grown s e = subst (λ (s : Th). Grown (step c t s).touch (content (step c t s).core) (hist_of m) (hist_of (after (step c t s)))) e
        (on_grown m (does c (move t)).core i (does c (move t)).touch (frame c (move t)))

    abbrev low : ℕ
    low = (content c (of_head (line_of E t))).index

    own_d6 : (h v : ℕ) → c.thr t ≡ d6 h v → x ≤ low → (d : Mode) → c.conf.mode ≡ d → Taking E (after (step_d6 c t h v d)) t x ((step_d6 c t h v d).core.thr t)
    own_d6 h v e z at_once f = subst (Taking E (after (step_d6 c t h v at_once)) t x) (sym (upd_same c.thr t (d7 h v)))
        (λ n k. let q = ap (λ (n : Node). n.index) (g.made.1 n k) in omega arith)
      where
        g : Grown (flushes (of_head (line_of E t))) (content c) (hist_of m) (hist_of (after (step_d6 c t h v at_once)))
        g = subst (λ (d : Mode). Grown (step_d6 c t h v d).touch (content (step_d6 c t h v d).core) (hist_of m) (hist_of (after (step_d6 c t h v d)))) f (grown (d6 h v) e)
    own_d6 h v e z fenced f = subst (Taking E (after (step_d6 c t h v fenced)) t x) (sym (upd_same c.thr t (d6f h v)))
        (z, λ n k. let q = ap (λ (n : Node). n.index) (g.later.1 (of_head (line_of E t)) n k) in omega arith)
      where
        g : Grown (issues t) (content c) (hist_of m) (hist_of (after (step_d6 c t h v fenced)))
        g = subst (λ (d : Mode). Grown (step_d6 c t h v d).touch (content (step_d6 c t h v d).core) (hist_of m) (hist_of (after (step_d6 c t h v d)))) f (grown (d6 h v) e)

    own_d6f : (h v : ℕ) → c.thr t ≡ d6f h v → (x ≤ low) × AllSince m t (line_of E t) x → Taking E (after (step c t (d6f h v))) t x (d7 h v)
    own_d6f h v e z = λ n k. z.1 n ((grown (d6f h v) e).made.1 n k)

    pub own_step : (s : Th) → c.thr t ≡ s → (step c t s).ans ≡ nothing → Taking E m t x s → Taking E (after (step c t s)) t x ((step c t s).core.thr t)
    own_step idle e f z = absurd z
    own_step (a1 v) e f z = absurd z
    own_step (a2 v n) e f z = absurd z
    own_step (a3 v n) e f z = absurd z
    own_step (a4 v n) e f z = absurd z
    own_step (a5 v n) e f z = absurd z
    own_step (a6 v n q) e f z = absurd z
    own_step (a7 v n q) e f z = absurd z
    own_step (a8 v n q) e f z = absurd z
    own_step (a9 v n q) e f z = absurd z
    own_step (a10 v n q) e f z = absurd z
    own_step (a10f v n q) e f z = absurd z
    own_step (a11 v n q) e f z = absurd z
    own_step (a12 v n q) e f z = absurd z
    own_step d1 e f z = absurd z
    own_step elsewhere e f z = absurd z
    own_step (d2 h i) e f z = absurd z
    own_step (d3 h i) e f z = absurd z
    own_step (d3f h i) e f z = absurd z
    own_step (s3 h i) e f z = absurd z
    own_step (d4 h i q) e f z = absurd z
    own_step (d5 h y) e f z = subst (Taking E (after (step c t (d5 h y))) t x) (sym (upd_same c.thr t (item_to E h y (c.node y).item))) (own5 h y e z E refl)
    own_step (d6 h v) e f z = own_d6 h v e z c.conf.mode refl
    own_step (d6f h v) e f z = subst (Taking E (after (step c t (d6f h v))) t x) (sym (upd_same c.thr t (d7 h v))) (own_d6f h v e z)
    own_step (s6 h y v) e f z = subst (Taking E (after (step c t (s6 h y v))) t x) (sym (upd_same c.thr t (d6 h v))) (own6 h y v e z)
    own_step (d7 h v) e f z = absurd (cc)

    -- at D7 it is persisted
    pub at_d7 : (h v : ℕ) → c.thr t ≡ d7 h v → Taking E m t x (d7 h v) → Covered m x
    at_d7 h v e z = record { line = line_of E t; there = own_in E c.conf.threads t (a.inv.alive.range t (rw e)); above = z }
