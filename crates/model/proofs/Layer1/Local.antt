-- The steps that only read: A5, A6, A8 and A12 that change nothing, D1, D2, D4 that fails, D5; and the stores to index lines.
use mathlib.Core.Path.{◌≡◌, sym}
use mathlib.Core.Bool.{true}
use mathlib.Core.Option.{Option, none, some}
use Prim.Native.Nat.{ℕ, suc, ◌≤◌, ◌<◌}
use native.Mathlib.Omega.{arith}
use native.Mathlib.Decide.{dec_lt}
use Rattle.model.specs.Conf.{Engine, shared, split}
use Rattle.model.specs.Core.{Core, busy, a5, a6, a7, a8, a12, d1, d2, d3, d4, d5, d6, s3, s6}
use Rattle.model.specs.Changes.{set_mark, set_th}
use Rattle.model.specs.Steps.{empty_to, item_to, step_a6, step_d2}
use Rattle.model.proofs.Layer1.Ghost.{poss, Gh, Inv, Ref, Lnk, Hd, Live}
use Rattle.model.proofs.Layer1.Goto.{goto}

module _ (m : Core) (g : Gh) (i : Inv m g) (t : ℕ) (bz : busy (m.thr t) ≡ true) where
  -- behind a place that is referred to stands what its link says
  pub pos_link : (q y : ℕ) → g.base t ≤ q → q < g.len → m.next (g.who q) ≡ some y → (suc q < g.len) × (g.who (suc q) ≡ y)
  pos_link q y lo hi e = by (dec_lt (suc q) g.len)
    where
      lv : Live g.who (poss g.own) q
      lv = i.alive.live t bz q lo hi

      by : Dec (suc q < g.len) → (suc q < g.len) × (g.who (suc q) ≡ y)
      by (yes h) = let lk = i.link.links q lv h in (h, cc)
      by (no h) =
          let ls = i.link.last q lv (omega arith) in
          let z : ◌≡◌ {A = ℕ} 0 1 = cc in absurd (omega arith)

  pub pos_last : (q : ℕ) → g.base t ≤ q → q < g.len → m.next (g.who q) ≡ none → suc q ≡ g.len
  pos_last q lo hi e = by (dec_lt (suc q) g.len)
    where
      by : Dec (suc q < g.len) → suc q ≡ g.len
      by (yes h) =
          let lk = i.link.links q (i.alive.live t bz q lo hi) h in
          let z : ◌≡◌ {A = ℕ} 0 1 = cc in absurd (omega arith)
      by (no h) = omega arith

  pub ref_link : {x : ℕ} (r : Ref g.who (g.base t) g.tp g.len x) (y : ℕ) → m.next x ≡ some y → Lnk g.who (g.base t) g.len x y
  ref_link {x} r y e =
      let l = pos_link r.pos y r.lo r.hi (rw r.is e) in
      record { pos = r.pos; is = r.is; lo = r.lo; hi = l.0; then = l.1 }

  -- two places that are referred to and have one node are one
  pub same_place : (p q : ℕ) → g.base t ≤ p → p < g.len → g.base t ≤ q → q < g.len → g.who p ≡ g.who q → p ≡ q
  same_place p q a b c d e =
      let lp = i.alive.live t bz p a b in
      let lq = i.alive.live t bz q c d in cc

module _ (m : Core) (g : Gh) (i : Inv m g) (t : ℕ) where
  pub A5 : (v n : ℕ) → m.thr t ≡ a5 v n → Inv (set_th m t (a6 v n m.tail)) g
  A5 v n e = goto m g i t (a6 v n m.tail) (rw e) (rw e) (rw e)
      record {
        pos = g.tp;
        is = sym i.log.tail_at;
        lo = omega (arith, i.alive.base_lo t (rw e), i.log.hp_in, i.log.tail_near);
        hi = i.log.tail_in;
        old = omega arith;
      }
      (rw e at (i.threads.mine t))

  pub A6 : (v n x : ℕ) → m.thr t ≡ a6 v n x → (o : Option ℕ) → m.next x ≡ o → Inv (step_a6 m t v n x o).core g
  A6 v n x e none f = goto m g i t (a7 v n x) (rw e) (rw e) (rw e) (rw e at (i.threads.refs t)) (rw e at (i.threads.mine t))
  A6 v n x e (some y) f = goto m g i t (a12 v n x) (rw e) (rw e) (rw e)
      (y, ref_link m g i t (rw e) (rw e at (i.threads.refs t)) y f) (rw e at (i.threads.mine t))

  pub A8no : (v n x y : ℕ) → m.thr t ≡ a8 v n x → m.next x ≡ some y → Inv (set_th m t (a12 v n x)) g
  A8no v n x y e f = goto m g i t (a12 v n x) (rw e) (rw e) (rw e)
      (y, ref_link m g i t (rw e) (rw e at (i.threads.refs t)) y f)
      (rw e at (i.threads.mine t)).0

  pub A12no : (v n x : ℕ) → m.thr t ≡ a12 v n x → Inv (set_th m t (a5 v n)) g
  A12no v n x e = goto m g i t (a5 v n) (rw e) (rw e) (rw e) tt (rw e at (i.threads.mine t))

  pub D1 : m.thr t ≡ d1 → Inv (set_th m t (d2 m.hnode m.hidx)) g
  D1 e = goto m g i t (d2 m.hnode m.hidx) (rw e) (rw e) (rw e)
      record { pos = g.hp; is = sym i.log.head_at; ix = sym i.log.head_ix; lo = omega (arith, i.alive.base_lo t (rw e)); hi = omega arith } tt

  pub to_empty : (E : Engine) (h k : ℕ) → m.thr t ≡ d2 h k → Inv (set_th m t (empty_to E h k)) g
  to_empty shared h k e = goto m g i t (d3 h k) (rw e) (rw e) (rw e) (rw e at (i.threads.refs t)) tt
  to_empty split h k e = goto m g i t (s3 h k) (rw e) (rw e) (rw e) (rw e at (i.threads.refs t)) tt

  pub D2 : (h k : ℕ) → m.thr t ≡ d2 h k → (o : Option ℕ) → m.next h ≡ o → Inv (step_d2 m t h k o).core g
  D2 h k e none f = to_empty m.conf.engine h k e
  D2 h k e (some x) f =
      let r : Hd g.who g.idx (g.base t) g.hp h k = rw e at (i.threads.refs t) in
      let l = pos_link m g i t (rw e) r.pos x r.lo (omega (arith, r.hi, i.log.hp_in)) (rw r.is f) in
      goto m g i t (d4 h k x) (rw e) (rw e) (rw e) record { at = r; more = l.0; then = l.1 } tt

  pub D4no : (h k x : ℕ) → m.thr t ≡ d4 h k x → Inv (set_th m t d1) g
  D4no h k x e = goto m g i t d1 (rw e) (rw e) (rw e) tt tt

  pub D5 : (E : Engine) (h x v : ℕ) → m.thr t ≡ d5 h x → Inv (set_th m t (item_to E h x v)) g
  D5 shared h x v e = goto m g i t (d6 h v) (rw e) (rw e) (rw e) tt tt
  D5 split h x v e = goto m g i t (s6 h x v) (rw e) (rw e) (rw e) tt tt

  -- a thread stores to its index line
  pub marked : (k : ℕ) → Inv (set_mark m t k) g
  marked k = record { log = i.log; place = i.place; link = i.link; alive = i.alive; waits = i.waits; threads = i.threads }

  pub S3 : (h k a : ℕ) → m.thr t ≡ s3 h k → Inv (set_th (set_mark m t a) t (d3 h k)) g
  S3 h k a e = goto (set_mark m t a) g (marked a) t (d3 h k) (rw e) (rw e) (rw e) (rw e at (i.threads.refs t)) tt

  pub S6 : (h x v a : ℕ) → m.thr t ≡ s6 h x v → Inv (set_th (set_mark m t a) t (d6 h v)) g
  S6 h x v a e = goto (set_mark m t a) g (marked a) t (d6 h v) (rw e) (rw e) (rw e) tt tt
