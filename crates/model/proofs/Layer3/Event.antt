-- Each event but a crash keeps the whole invariant.
use mathlib.Core.Path.{◌≡◌, refl, sym, subst, ap}
use mathlib.Core.Bool.{Bool, true, false}
use mathlib.Core.List.{List}
use mathlib.Core.Logic.{◌⊎◌}
use mathlib.Core.Option.{none}
use Prim.Native.Nat.{ℕ, suc, pred, ◌≤◌, ◌<◌}
use native.Mathlib.Omega.{arith}
use lib.Dec.{leb}
use Rattle.model.specs.Lines.{Line, of_head, of_node, nowhere, flushes}
use Rattle.model.specs.Conf.{Within, line_ix}
use Rattle.model.specs.Core.{elsewhere, acts, a10f, d3f, d6f}
use Rattle.model.specs.Core.{Th, Core, Node, content, nothing, busy, idle, a1, a2, a3, a4, a5, a6, a7, a8, a9, a10, a11, a12, d1, d2, d3}
use Rattle.model.specs.Core.{d4, d5, d6, d7, s3, s6}
use Rattle.model.specs.Changes.{set_th}
use Rattle.model.specs.Steps.{move, does, Out, step}
use Rattle.model.specs.Lawful.{Call, putting, taking}
use Rattle.model.specs.Bench.{Book, note_move, opens}
use Rattle.model.specs.Places.{owns_e, owns_d}
use Rattle.model.proofs.Basics.{upd_own}
use Rattle.model.proofs.Times.{Hist, Grown}
use Rattle.model.proofs.Layer1.Ghost.{Refs, Mine, ixs}
use Rattle.model.proofs.Layer1.D7.{begun, begin_g}
use Rattle.model.proofs.Layer1.Stops.{idle_of}
use Rattle.model.proofs.Layer2.Invariant.{Facts, low_of, mark_of, fewer_p}
use Rattle.model.proofs.Layer2.Stores.{kept_p, to_head, head_p}
use Rattle.model.proofs.Layer2.Hands.{begin_p}
use Rattle.model.proofs.Layer3.Effects.{Fresh}
use Rattle.model.proofs.Layer3.Invariant.{CurOf}
use Rattle.model.proofs.Layer3.Changes.{quiet_l, tick_l, begin_l, begin_c}
use Rattle.model.proofs.Layer3.All.{All, AfterStep, quiet, at_once_lem}
use Rattle.model.proofs.Layer3.Enqueue.{s_a1, s_a7, s_a8, s_a11, s_a12, s_a2, s_a3, s_a4, s_a5, s_a6, s_a9, s_a10, s_a10f}
use Rattle.model.proofs.Layer3.Dequeue.{s_d2, s_d3, s_d4, s_d5, s_s3, s_s6, s_d6, s_d7, s_d1, s_d3f, s_d6f}

module _ (ls : ℕ → Bool) (hs hs' : Hist) (m : Core) (b : Book) (q₀ : List ℕ) (now : ℕ) (a : All ls hs m b q₀ now) (t : ℕ) where
  abbrev After : Out → Type 0
  After = AfterStep ls hs hs' b q₀ now t

  -- nothing of this queue changes
  waits : Grown nowhere (content m) hs hs' → All ls hs' m b q₀ (suc now)
  waits w = record {
    g = a.g;
    p = a.p;
    first = a.first;
    lin = a.lin;
    inv = a.inv;
    pinv = quiet ls hs m b q₀ now a t hs' w;
    lins = tick_l _ _ _ _ _ _ _ _ _ _ a.lins;
    curs = a.curs;
    roots = a.roots;
    table = a.table;
    lents = a.lents;
  }

  again : {s : Th} → m.thr t ≡ s → set_th m t s ≡ m
  again {s} e = ap (λ f. record {
    conf = m.conf;
    node = m.node;
    next = m.next;
    hnode = m.hnode;
    hidx = m.hidx;
    tail = m.tail;
    marks = m.marks;
    last = m.last;
    free = m.free;
    wait = m.wait;
    held = m.held;
    thr = f;
  }) (upd_own m.thr t s e)

  s_step : (s : Th) → m.thr t ≡ s → After (step m t s)
  s_step idle e = λ w. waits w
  s_step (a1 v) e = s_a1 ls hs hs' m b q₀ now a t v e _ refl
  s_step (a2 v n) e = s_a2 ls hs hs' m b q₀ now a t v n e
  s_step (a3 v n) e = s_a3 ls hs hs' m b q₀ now a t v n e
  s_step (a4 v n) e = s_a4 ls hs hs' m b q₀ now a t v n e
  s_step (a5 v n) e = s_a5 ls hs hs' m b q₀ now a t v n e
  s_step (a6 v n x) e = s_a6 ls hs hs' m b q₀ now a t v n x e
  s_step (a7 v n x) e = s_a7 ls hs hs' m b q₀ now a t v n x e (leb m.conf.top (m.node x).index)
  s_step (a8 v n x) e = s_a8 ls hs hs' m b q₀ now a t v n x e _ refl
  s_step (a9 v n x) e = s_a9 ls hs hs' m b q₀ now a t v n x e
  s_step (a10 v n x) e = s_a10 ls hs hs' m b q₀ now a t v n x e m.conf.mode
  s_step (a10f v n x) e = s_a10f ls hs hs' m b q₀ now a t v n x e
  s_step (a11 v n x) e = s_a11 ls hs hs' m b q₀ now a t v n x e _ refl
  s_step (a12 v n x) e = s_a12 ls hs hs' m b q₀ now a t v n x e _ refl _ refl
  s_step d1 e = s_d1 ls hs hs' m b q₀ now a t e
  s_step elsewhere e = λ w. subst (λ c. All ls hs' c b q₀ (suc now)) (sym (again e)) (waits w)
  s_step (d2 h k) e = s_d2 ls hs hs' m b q₀ now a t h k e _ refl
  s_step (d3 h k) e = s_d3 ls hs hs' m b q₀ now a t h k e m.conf.mode
  s_step (d3f h k) e = s_d3f ls hs hs' m b q₀ now a t h k e
  s_step (d4 h k x) e = s_d4 ls hs hs' m b q₀ now a t h k x e _ refl
  s_step (d5 h x) e = s_d5 ls hs hs' m b q₀ now a t h x e
  s_step (d6 h v) e = s_d6 ls hs hs' m b q₀ now a t h v e m.conf.mode
  s_step (d6f h v) e = s_d6f ls hs hs' m b q₀ now a t h v e
  s_step (s3 h k) e = s_s3 ls hs hs' m b q₀ now a t h k e
  s_step (s6 h x v) e = s_s6 ls hs hs' m b q₀ now a t h x v e
  s_step (d7 h v) e = s_d7 ls hs hs' m b q₀ now a t h v e _ refl

  pub step_all : Grown (does m (move t)).touch (content (does m (move t)).core) hs hs' → All ls hs' (does m (move t)).core
      (note_move b now t (does m (move t)).ans) q₀ (suc now)
  step_all = s_step (m.thr t) refl

  -- an operation begins
  fresh : Fresh b.count a.lin
  fresh e h z = omega (arith, (a.lins.entries e h).numbered)

  pub begin_all : Grown nowhere (content m) hs hs' → (s : Th) (c : Call) → t < m.conf.threads → busy (m.thr t) ≡ false → acts s ≡ true → owns_e s ≡ none → owns_d s ≡ none
      → ((k : ℕ) → Refs a.g.who a.g.idx k a.g.hp a.g.tp a.g.len s) → Mine (ixs m.node) m.next s
      → ((k : ℕ) → Facts (hs'.since t) m.node a.g.who a.g.idx a.g.own k a.g.len a.p.item a.p.pp a.p.safe (low_of m t) (mark_of m t)
      m.conf.engine t s)
      → CurOf c a.lin a.g.hp a.g.who a.g.own (pred a.g.hp) a.g.len t b.count s
      → All ls hs' (set_th m t s) (opens b now t c) q₀ (suc now)
  begin_all w s c h nb bs oe od rf mn fc k = record {
    g = begin_g a.g t;
    p = a.p;
    first = a.first;
    lin = a.lin;
    inv = begun m a.g a.inv t s (idle_of (m.thr t) nb) h oe od rf mn;
    pinv = begin_p hs' m a.g a.p a.inv (quiet ls hs m b q₀ now a t hs' w) t s fc;
    lins = tick_l _ _ _ _ _ _ _ _ _ _ (begin_l _ _ _ _ _ _ _ _ _ _ a.lins c);
    curs = begin_c _ _ _ _ _ _ _ _ _ _ a.curs t s (record { call = c; began = now; said = nothing; ended = 0 }) (pred a.g.hp) (ap acts (idle_of (m.thr t) nb)) bs refl k;
    roots = a.roots;
    table = a.table;
    lents = a.lents;
  }

  pub begin_enq : Grown nowhere (content m) hs hs' → (v : ℕ) → t < m.conf.threads → busy (m.thr t) ≡ false → All ls hs' (set_th m t (a1 v)) (opens b now t (putting v)) q₀ (suc now)
  begin_enq w v h nb = begin_all w (a1 v) (putting v) h nb refl refl refl (λ k. tt) tt (λ k. tt) (refl, fresh)

  pub begin_deq : Grown nowhere (content m) hs hs' → t < m.conf.threads → busy (m.thr t) ≡ false → All ls hs' (set_th m t d1) (opens b now t taking) q₀ (suc now)
  begin_deq w h nb = begin_all w d1 taking h nb refl refl refl (λ k. tt) tt (λ k. tt) (refl, fresh)

-- write-backs
pub back_all : (ls : ℕ → Bool) (hs hs' : Hist) (m : Core) (b : Book) (q₀ : List ℕ) (now : ℕ) → All ls hs m b q₀ now → (l : Line) → Within m.conf l
    → Grown (flushes l) (content m) hs hs' → All ls hs' m b q₀ (suc now)
back_all ls hs hs' m b q₀ now a (of_head k) kh w = record {
  g = a.g;
  p = to_head hs m a.g a.p a.inv a.pinv hs' w₀ k (line_ix m.conf.engine m.hidx m.marks k) kh fp low;
  first = a.first;
  lin = a.lin;
  inv = a.inv;
  pinv = head_p hs m a.g a.p a.inv a.pinv hs' w₀ k (line_ix m.conf.engine m.hidx m.marks k) kh fp low;
  lins = tick_l _ _ _ _ _ _ _ _ _ _ (quiet_l _ _ _ _ _ _ _ _ _ _ a.lins _ a.p.safe (kept_p hs m a.g a.p a.inv a.pinv hs' w₀ k (line_ix m.conf.engine m.hidx m.marks k) kh fp low).up
      (λ q z. z));
  curs = a.curs;
  roots = a.roots;
  table = a.table;
  lents = a.lents;
}
  where
    w₀ : Grown nowhere (content m) hs hs'
    w₀ = at_once_lem (of_head k) (content m) hs hs' w

    fp : (line_ix m.conf.engine m.hidx m.marks k ≤ a.g.idx 0)
        ⊎ ((q : ℕ) × (q ≤ a.g.hp) × (line_ix m.conf.engine m.hidx m.marks k ≡ a.g.idx q))
    fp = a.pinv.head.heads k kh _ (a.pinv.head.present k kh)

    low : (c : Node) → hs'.is (of_head k) c → line_ix m.conf.engine m.hidx m.marks k ≤ c.index
    low c z = omega (arith, ap (λ y. y.index) (w.made.1 c z))
back_all ls hs hs' m b q₀ now a (of_node n) kh w = record {
  g = a.g;
  p = a.p;
  first = a.first;
  lin = a.lin;
  inv = a.inv;
  pinv = fewer_p hs hs' m a.g a.p a.inv (at_once_lem (of_node n) (content m) hs hs' w) a.pinv;
  lins = tick_l _ _ _ _ _ _ _ _ _ _ a.lins;
  curs = a.curs;
  roots = a.roots;
  table = a.table;
  lents = a.lents;
}
