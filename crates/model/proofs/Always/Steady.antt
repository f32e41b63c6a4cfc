-- Head lines never fall; from its flush to its fence the line of an enqueue's node does not change.
use mathlib.Core.Path.{◌≡◌, refl, sym, ap, subst, ◌∙◌}
use mathlib.Core.Bool.{Bool, true, false}
use mathlib.Core.List.{List, [], ◌∷◌}
use mathlib.Core.Option.{Option, none, some}
use Prim.Native.Nat.{ℕ, zero, suc, ◌≤◌, ◌<◌}
use native.Mathlib.Omega.{arith}
use native.Mathlib.Decide.{ℕ_discrete}
use lib.Dec.{eqb, leb}
use Rattle.model.specs.Basics.{upd}
use Rattle.model.specs.Lines.{of_head, of_node, Touch, flushes, act, back}
use Rattle.model.specs.Conf.{Engine, shared, split, Mode, at_once, fenced, same_head, line_ix, line_count, thread_ix, head_lines}
use Rattle.model.specs.Core.{elsewhere, Core, Th, content, idle, a1, a2, a3, a4, a5, a6, a7, a8, a9, a10, a11, a12, d1, d2, d3, d4, d5, d6, d7, s3, s6}
use Rattle.model.specs.Core.{a10f, d3f, d6f}
use Rattle.model.specs.Changes.{set_held}
use Rattle.model.specs.Steps.{Act, enq, deq, move, does, step, step_a1, step_a6, step_a7, step_a8, step_a10, step_a11, step_a12, step_d2, step_d3, step_d4}
use Rattle.model.specs.Steps.{step_d6, leave, retire_held}
use Rattle.model.specs.Recovery.{Image, head_of, largest, start'}
use Rattle.model.specs.Machine.{M, Event, ev, crash, event, starts, persisted, goes_on}
use Rattle.model.specs.Bench.{Book, Bench, turn, bench, opening}
use Rattle.model.specs.Demand3.{TakesAll}
use Rattle.model.specs.Always.{Steady, AlwaysSteady}
use Rattle.model.proofs.Basics.{upd_ind, upd_other, upd_at, true→eq}
use Rattle.model.proofs.Times.{Hist, hist_of, Timed}
use Rattle.model.proofs.Layer1.Ghost.{Hd, deqd, ixs}
use Rattle.model.proofs.Layer1.Stops.{same_number}
use Rattle.model.proofs.Layer2.Heads.{largest_le}
use Rattle.model.proofs.Layer2.Invariant.{FactsOf, mark_of, Got}
use Rattle.model.proofs.Layer2.D4.{low_up, up_ix}
use Rattle.model.proofs.Layer3.All.{All}
use Rattle.model.proofs.Always.Runs.{Kept, open_kept, turn_kept, bench_run, conf_event}

-- ---- no act lowers a head line

-- a store to a thread's line
mark_up : (E : Engine) (i : ℕ) (f : ℕ → ℕ) (t a k : ℕ) → E ≡ split → thread_ix E f t ≤ a → line_ix E i f k ≤ line_ix E i (upd f t a) k
mark_up shared i f t a k s h = let z : ◌≡◌ {A = ℕ} 0 1 = cc in absurd (omega arith)
mark_up split i f t a k s h = upd_ind f t a (λ k x. f k ≤ x) k h (λ ne. omega arith)

module _ (ls : ℕ → Bool) (hs : Hist) (m : Core) (b : Book) (q₀ : List ℕ) (now : ℕ) (a : All ls hs m b q₀ now) (t k : ℕ) where
  abbrev Up : Core → Type 0
  Up c = line_ix m.conf.engine m.hidx m.marks k ≤ line_ix m.conf.engine c.hidx c.marks k

  u_a1 : (v : ℕ) (o : Option ℕ) → Up (step_a1 m t v o).core
  u_a1 v none = omega arith
  u_a1 v (some n) = omega arith

  u_a6 : (v n x : ℕ) (o : Option ℕ) → Up (step_a6 m t v n x o).core
  u_a6 v n x none = omega arith
  u_a6 v n x (some y) = omega arith

  u_a7 : (v n x : ℕ) (c : Bool) → Up (step_a7 m t v n x c).core
  u_a7 v n x true = omega arith
  u_a7 v n x false = omega arith

  u_a8 : (v n x : ℕ) (o : Option ℕ) → Up (step_a8 m t v n x o).core
  u_a8 v n x none = omega arith
  u_a8 v n x (some y) = omega arith

  u_a10 : (v n x : ℕ) (c : Mode) → Up (step_a10 m t v n x c).core
  u_a10 v n x at_once = omega arith
  u_a10 v n x fenced = omega arith

  u_a11 : (n : ℕ) (c : Bool) → Up (step_a11 m t n c).core
  u_a11 n true = omega arith
  u_a11 n false = omega arith

  u_a12 : (v n : ℕ) (c : Bool) (o : Option ℕ) → Up (step_a12 m t v n c o).core
  u_a12 v n true none = omega arith
  u_a12 v n true (some y) = omega arith
  u_a12 v n false o = omega arith

  u_d2 : (h i : ℕ) (o : Option ℕ) → Up (step_d2 m t h i o).core
  u_d2 h i none = omega arith
  u_d2 h i (some x) = omega arith

  u_d3 : (h i : ℕ) (c : Mode) → Up (step_d3 m t h i c).core
  u_d3 h i at_once = omega arith
  u_d3 h i fenced = omega arith

  u_d4 : (h i x : ℕ) → m.thr t ≡ d4 h i x → (c : Bool) → same_head m.conf.engine (eqb m.hnode h) (eqb m.hidx i) ≡ c → Up (step_d4 m t h x c).core
  u_d4 h i x e true f = low_up m.conf.engine m.hidx (m.node x).index m.marks k (up_ix hs m a.g a.p a.inv a.pinv t h i x e
      (true→eq m.hnode h (same_number m.conf.engine (eqb m.hnode h) (eqb m.hidx i) f)))
  u_d4 h i x e false f = omega arith

  u_d6 : (h v : ℕ) (c : Mode) → Up (step_d6 m t h v c).core
  u_d6 h v at_once = omega arith
  u_d6 h v fenced = omega arith

  u_d7 : (h : ℕ) (o : Option ℕ) → Up (leave (set_held (retire_held m t o) t h) t)
  u_d7 h none = omega arith
  u_d7 h (some n) = omega arith

  u_s3 : (h i : ℕ) → m.thr t ≡ s3 h i → Up (step m t (s3 h i)).core
  u_s3 h i e = mark_up m.conf.engine m.hidx m.marks t (m.node h).index k fc.0 (omega (arith, fc.1, ix, r.ix))
    where
      fc : (m.conf.engine ≡ split) × (mark_of m t ≤ i)
      fc = rw e at (a.pinv.facts t)

      r : Hd a.g.who a.g.idx (a.g.base t) a.g.hp h i
      r = rw e at (a.inv.threads.refs t)

      ix : (m.node h).index ≡ a.g.idx r.pos
      ix = ap (ixs m.node) (sym r.is) ∙ a.inv.link.indices r.pos
          (a.inv.alive.live t (rw e) r.pos r.lo (omega (arith, r.hi, a.inv.log.hp_in)))

  u_s6 : (h x v : ℕ) → m.thr t ≡ s6 h x v → Up (step m t (s6 h x v)).core
  u_s6 h x v e = mark_up m.conf.engine m.hidx m.marks t (m.node x).index k fc.0 (omega (arith, r.2, ix))
    where
      fc : FactsOf hs m a.g a.p t (s6 h x v)
      fc = rw e at (a.pinv.facts t)

      d : (q : ℕ) × (a.g.own h ≡ deqd t q)
      d = a.inv.place.deq_own t h (rw e)

      r : (a.g.base t ≤ d.0) × (a.g.who (suc d.0) ≡ x) × (mark_of m t ≤ a.g.idx (suc d.0)) × Got a.g.who a.p.item a.g.len v d.0
      r = fc.1 d.0 d.1

      ix : (m.node x).index ≡ a.g.idx (suc d.0)
      ix = ap (ixs m.node) (sym r.1) ∙ a.inv.link.indices (suc d.0) (a.inv.alive.live t (rw e) (suc d.0) (omega (arith, r.0)) r.3.inside)

  u_step : (s : Th) → m.thr t ≡ s → Up (step m t s).core
  u_step idle e = omega arith
  u_step (a1 v) e = u_a1 v (m.conf.chooser.pick m.conf.nodes m.last m.free)
  u_step (a2 v n) e = omega arith
  u_step (a3 v n) e = omega arith
  u_step (a4 v n) e = omega arith
  u_step (a5 v n) e = omega arith
  u_step (a6 v n x) e = u_a6 v n x (m.next x)
  u_step (a7 v n x) e = u_a7 v n x (leb m.conf.top (m.node x).index)
  u_step (a8 v n x) e = u_a8 v n x (m.next x)
  u_step (a9 v n x) e = omega arith
  u_step (a10 v n x) e = u_a10 v n x m.conf.mode
  u_step (a10f v n x) e = omega arith
  u_step (a11 v n x) e = u_a11 n (eqb m.tail x)
  u_step (a12 v n x) e = u_a12 v n (eqb m.tail x) (m.next x)
  u_step d1 e = omega arith
  u_step elsewhere e = omega arith
  u_step (d2 h i) e = u_d2 h i (m.next h)
  u_step (d3 h i) e = u_d3 h i m.conf.mode
  u_step (d3f h i) e = omega arith
  u_step (d4 h i x) e = u_d4 h i x e _ refl
  u_step (d5 h x) e = omega arith
  u_step (d6 h v) e = u_d6 h v m.conf.mode
  u_step (d6f h v) e = omega arith
  u_step (s3 h i) e = u_s3 h i e
  u_step (s6 h x v) e = u_s6 h x v e
  u_step (d7 h v) e = u_d7 h (m.held t)

pub heads_up : (ls : ℕ → Bool) (hs : Hist) (m : Core) (b : Book) (q₀ : List ℕ) (now : ℕ) → All ls hs m b q₀ now → (x : Act) (k : ℕ)
    → line_ix m.conf.engine m.hidx m.marks k ≤ line_ix m.conf.engine (does m x).core.hidx (does m x).core.marks k
heads_up ls hs m b q₀ now a (enq t v) k = omega arith
heads_up ls hs m b q₀ now a (deq t) k = omega arith
heads_up ls hs m b q₀ now a (move t) k = u_step ls hs m b q₀ now a t k (m.thr t) refl

-- ---- so none falls in the course of time

abbrev Rising : M → Type 0
Rising m = (k : ℕ) → k < head_lines m.core.conf → (i j : ℕ) → i ≤ j → j ≤ m.now → (m.past (of_head k) i).index ≤ (m.past (of_head k) j).index

start_up : (g : Image) (E : Engine) (T k : ℕ) → k < line_count E T → head_of g ≡ largest (line_count E T) g.heads → g.heads k ≤ line_ix E (head_of g) g.heads k
start_up g shared T zero h e = omega (arith, e, largest_le 1 g.heads 0 (omega arith))
start_up g shared T (suc k) h e = omega arith
start_up g split T k h e = omega arith

start_rising : (g : Image) → Rising (starts g)
unfolding start' head_of
start_rising g k h zero zero le top = omega arith
start_rising g k h zero (suc zero) le top = start_up g g.conf.engine g.conf.threads k h refl
start_rising g k h (suc zero) zero le top = absurd (omega arith)
start_rising g k h (suc zero) (suc zero) le top = omega arith
start_rising g k h i (suc (suc j)) le top = absurd (omega arith)
start_rising g k h (suc (suc i)) zero le top = absurd (omega arith)
start_rising g k h (suc (suc i)) (suc zero) le top = absurd (omega arith)

on_rising : (m : M) (c : Core) (w : Touch) → Timed m → Rising m → c.conf ≡ m.core.conf
    → ((k : ℕ) → (content m.core (of_head k)).index ≤ (content c (of_head k)).index) → Rising (goes_on m c w)
on_rising m c w i r e up k h = at
  where
    old : (j : ℕ) → j ≤ m.now → (upd (m.past (of_head k)) (suc m.now) (content c (of_head k)) j).index ≡ (m.past (of_head k) j).index
    old j l = ap (λ y. y.index) (upd_other (m.past (of_head k)) (suc m.now) (content c (of_head k)) (λ z. omega arith))

    new : (j : ℕ) → j ≡ suc m.now → (upd (m.past (of_head k)) (suc m.now) (content c (of_head k)) j).index ≡ (content c (of_head k)).index
    new j z = ap (λ y. y.index) (upd_at (m.past (of_head k)) (suc m.now) (content c (of_head k)) z)

    kh : k < head_lines m.core.conf
    kh = subst (λ c. k < head_lines c) e h

    at : (x j : ℕ) → x ≤ j → j ≤ suc m.now → (upd (m.past (of_head k)) (suc m.now) (content c (of_head k)) x).index
        ≤ (upd (m.past (of_head k)) (suc m.now) (content c (of_head k)) j).index
    at x j le top = by (ℕ_discrete x (suc m.now)) (ℕ_discrete j (suc m.now))
      where
        by : Dec (x ≡ suc m.now) → Dec (j ≡ suc m.now) → (upd (m.past (of_head k)) (suc m.now) (content c (of_head k)) x).index
            ≤ (upd (m.past (of_head k)) (suc m.now) (content c (of_head k)) j).index
        by (yes y) z = omega (arith, new x y, new j (omega arith))
        by (no y) (yes z) = omega (
          arith,
          old x (omega arith),
          new j z,
          r k kh x m.now (omega arith) (omega arith),
          ap (λ y. y.index) (i.present (of_head k)),
          up k,
        )
        by (no y) (no z) = omega (arith, old x (omega arith), old j (omega arith), r k kh x j le (omega arith))

turn_rising : (b : Bench) (e : Event) → Kept b → Rising b.mach → Rising (event b.mach e)
turn_rising b (ev (act x)) k r = on_rising b.mach (does b.mach.core x).core (does b.mach.core x).touch k.timed r (conf_event b.mach (ev (act x)))
    (λ j. subst (λ c. (content b.mach.core (of_head j)).index ≤ line_ix c.engine (does b.mach.core x).core.hidx (does b.mach.core x).core.marks j)
    (sym (conf_event b.mach (ev (act x)))) (heads_up _ _ _ _ _ _ k.all x j))
turn_rising b (ev (back l)) k r = on_rising b.mach b.mach.core (flushes l) k.timed r refl (λ j. omega arith)
turn_rising b crash k r = start_rising (persisted b.mach)

bench_steady : (l : List Event) (b : Bench) → Kept b → Rising b.mach → TakesAll b.mach l → Steady (bench b l).mach
unfolding bench
bench_steady [] b k r t = record { heads = r; nodes = still }
  where
    still : (t v n x : ℕ) → b.mach.core.thr t ≡ a10f v n x → (i : ℕ) → b.mach.mark t ≤ i → i ≤ b.mach.now → b.mach.past (of_node n) i ≡ b.mach.core.node n
    still t v n x e i lo hi =
        let fc : FactsOf (hist_of b.mach) b.mach.core k.all.g k.all.p t (a10f v n x) = rw e at (k.all.pinv.facts t) in
        fc.1 _ (record { time = i; since = lo; until = hi; is = refl })
bench_steady (e ∷ l) b k r t = bench_steady l (turn b e) (turn_kept b e k t.0) (turn_rising b e k r) t.1

pub always_steady : AlwaysSteady
always_steady g f t l k = subst Steady (bench_run l (opening g)) (bench_steady l (opening g) (open_kept g f t) (start_rising g) k)
