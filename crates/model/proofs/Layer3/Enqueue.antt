-- The steps of an enqueue keep the whole invariant.
use mathlib.Core.Path.{◌≡◌, refl, sym, subst, ap, ◌∙◌}
use mathlib.Core.Bool.{Bool, true, false}
use mathlib.Core.List.{List, ◌∷◌}
use mathlib.Core.Logic.{◌≢◌, inl, inr}
use mathlib.Core.Option.{Option, none, some}
use Prim.Native.Nat.{ℕ, suc, ◌≤◌, ◌<◌}
use native.Mathlib.Omega.{arith}
use lib.Dec.{eqb}
use Rattle.model.specs.Basics.{upd}
use Rattle.model.specs.Core.{a10f, busy, acts, Node, Core, content, done, full, worn, with_index, idle, a1, a2, a5, a7, a8, a9, a11, a12, d1, with_item, with_linked, a3, a4, a6}
use Rattle.model.specs.Core.{a10}
use Rattle.model.specs.Lines.{nowhere, of_node}
use Rattle.model.specs.Conf.{Mode, at_once, fenced}
use Rattle.model.specs.Changes.{store, set_tail, set_free, set_th, set_next}
use Rattle.model.specs.Steps.{Out, step_a1, step_a7, step_a8, step_a10, step_a11, step_a12, step, step_a6}
use Rattle.model.specs.Lawful.{putting}
use Rattle.model.specs.Bench.{Book, closes}
use Rattle.model.specs.Places.{owns_e, owns_d}
use Rattle.model.proofs.Basics.{upd_same, upd_other, upd_upd, true→eq, upd_ind}
use Rattle.model.proofs.Times.{Hist, Grown}
use Rattle.model.proofs.Layer1.Ghost.{queue, enqd, spare, Ref, Lnk}
use Rattle.model.proofs.Layer1.Places.{before, tag, off_same}
use Rattle.model.proofs.Layer1.Goto.{goto}
use Rattle.model.proofs.Layer1.Local.{A8no, A12no, same_place, pos_link, A5, A6}
use Rattle.model.proofs.Layer1.Memory.{stored_own, tailed, not_live, stored, cleared}
use Rattle.model.proofs.Layer1.A8.{A8yes}
use Rattle.model.proofs.Layer1.Hands.{A1yes, given_back, marks_free}
use Rattle.model.proofs.Layer1.Stops.{leave_again, at_tail}
use Rattle.model.proofs.Layer2.Invariant.{PInv, FactsOf, SafeAt, goto_p}
use Rattle.model.proofs.Layer2.Stores.{store_p, A9P, A10P, issued_p}
use Rattle.model.proofs.Layer2.Hands.{A1P, worn_p}
use Rattle.model.proofs.Layer2.A8.{A8P}
use Rattle.model.proofs.Layer3.Effects.{put, Fresh, Fits}
use Rattle.model.proofs.Layer3.Invariant.{Mark, CurOf}
use Rattle.model.proofs.Layer3.Changes.{tick_l, add_l, move_c}
use Rattle.model.proofs.Layer3.All.{All, sound_len, moved, went, answered, refused, other, seg_ext, AfterStep, cu, quiet, at_once_lem, at_fence}

module _ (ls : ℕ → Bool) (hs hs' : Hist) (m : Core) (b : Book) (q₀ : List ℕ) (now : ℕ) (a : All ls hs m b q₀ now) (t : ℕ) where
  abbrev After : Out → Type 0
  After = AfterStep ls hs hs' b q₀ now t

  pv : Grown nowhere (content m) hs hs' → PInv hs' m a.g a.p
  pv w = quiet ls hs m b q₀ now a t hs' w

  pub s_a1 : (v : ℕ) → m.thr t ≡ a1 v → (o : Option ℕ) → m.conf.chooser.pick m.conf.nodes m.last m.free ≡ o → After (step_a1 m t v o)
  s_a1 v e none f w = let c = cu ls hs m b q₀ now a t (a1 v) e refl in
      refused ls hs m b q₀ now a t (rw e) hs' m a.g.own a.g.tp a.p.pp a.p.safe a.inv (pv w) (rw e) (rw e) refl refl
      (λ k. ((λ z. z, λ z. z), (λ z. z, λ z. z))) (omega arith) (λ q z. z) (λ u h q ne o z. z) full c.1 (v, c.0, inl refl)
  s_a1 v e (some n) f w =
      let fr = m.conf.chooser.is_free m.conf.nodes m.last m.free n f in
      let sp = marks_free (m.free n) (m.wait n) (a.g.own n) fr (a.inv.place.marks n) in
      moved ls hs m b q₀ now a t (a2 v n) (rw e) _ _ (upd a.g.own n (enqd t)) a.g.tp a.p.pp a.p.safe
      (A1yes m a.g a.inv t v n e fr) (A1P hs' m a.g a.p a.inv (pv w) t v n (upd m.free n false) sp) refl
      (off_same a.g.own n (enqd t) sp (λ y. omega (arith, ap tag y)) (λ y. omega (arith, ap tag y)) (λ y. omega (arith, ap tag y)) (λ y. omega (arith, ap tag y))) refl (omega arith) (λ q z. z)
      (λ u h q ne o z. (before a.g.own n (enqd t) h (λ y. omega (arith, ap tag y)) z).1) (cu ls hs m b q₀ now a t (a1 v) e refl)

  pub s_a2 : (v n : ℕ) → m.thr t ≡ a2 v n → After (step m t (a2 v n))
  s_a2 v n e w =
      let on = a.inv.place.enq_own t n (rw e) in
      let c = with_item (m.node n) v in
      went ls hs m b q₀ now a t (a3 v n) (rw e) _ _ (goto (store m n c) a.g (stored m a.g a.inv n c refl) t (a3 v n) (rw e) (rw e) (rw e) tt tt)
      (store_p hs m a.g a.p a.inv a.pinv hs' t n c (a3 v n) w on (rw on at (a.pinv.nodes.quiet n (m.node n) (a.pinv.nodes.cached n)))
      (ap (λ z. z.item) (upd_same m.node n c)))
      refl refl (cu ls hs m b q₀ now a t (a2 v n) e refl)

  pub s_a3 : (v n : ℕ) → m.thr t ≡ a3 v n → After (step m t (a3 v n))
  s_a3 v n e w = went ls hs m b q₀ now a t (a4 v n) (rw e) _ _ (goto (set_next m n none) a.g
      (cleared m a.g a.inv t n (a.inv.place.enq_own t n (rw e))) t (a4 v n) (rw e) (rw e) (rw e) tt (upd_same m.next n none))
      (goto_p hs' (set_next m n none) a.g a.p (record { head = (pv w).head; nodes = (pv w).nodes; facts = (pv w).facts }) t (a4 v n)
      (rw e at (a.pinv.facts t))) refl refl (cu ls hs m b q₀ now a t (a3 v n) e refl)

  pub s_a4 : (v n : ℕ) → m.thr t ≡ a4 v n → After (step m t (a4 v n))
  s_a4 v n e w =
      let on = a.inv.place.enq_own t n (rw e) in
      let c = with_linked (m.node n) false in
      let fc : FactsOf hs m a.g a.p t (a4 v n) = rw e at (a.pinv.facts t) in
      went ls hs m b q₀ now a t (a5 v n) (rw e) _ _ (goto (store m n c) a.g (stored m a.g a.inv n c refl) t (a5 v n) (rw e) (rw e) (rw e) tt
      (rw e at (a.inv.threads.mine t)))
      (store_p hs m a.g a.p a.inv a.pinv hs' t n c (a5 v n) w on (λ l. let z : ◌≡◌ {A = ℕ} 0 1 = cc in absurd (omega arith))
      (ap (λ z. z.linked) (upd_same m.node n c), ap (λ z. z.item) (upd_same m.node n c) ∙ fc))
      refl refl (cu ls hs m b q₀ now a t (a4 v n) e refl)

  pub s_a5 : (v n : ℕ) → m.thr t ≡ a5 v n → After (step m t (a5 v n))
  s_a5 v n e w = went ls hs m b q₀ now a t (a6 v n m.tail) (rw e) _ _ (A5 m a.g a.inv t v n e)
      (goto_p hs' m a.g a.p (pv w) t (a6 v n m.tail) (rw e at (a.pinv.facts t))) refl refl (cu ls hs m b q₀ now a t (a5 v n) e refl)

  pub s_a6 : (v n x : ℕ) → m.thr t ≡ a6 v n x → After (step m t (a6 v n x))
  s_a6 v n x e = by (m.next x) refl
    where
      by : (o : Option ℕ) → m.next x ≡ o → After (step_a6 m t v n x o)
      by none f w = went ls hs m b q₀ now a t (a7 v n x) (rw e) _ _ (A6 m a.g a.inv t v n x e none f)
          (goto_p hs' m a.g a.p (pv w) t (a7 v n x) (rw e at (a.pinv.facts t))) refl refl (cu ls hs m b q₀ now a t (a6 v n x) e refl)
      by (some y) f w = went ls hs m b q₀ now a t (a12 v n x) (rw e) _ _ (A6 m a.g a.inv t v n x e (some y) f)
          (goto_p hs' m a.g a.p (pv w) t (a12 v n x) (rw e at (a.pinv.facts t))) refl refl (cu ls hs m b q₀ now a t (a6 v n x) e refl)

  pub s_a7 : (v n x : ℕ) → m.thr t ≡ a7 v n x → (c : Bool) → After (step_a7 m t v n x c)
  s_a7 v n x e true w = let c = cu ls hs m b q₀ now a t (a7 v n x) e refl in
      subst (λ z. All ls hs' z (closes b now t worn) q₀ (suc now)) (leave_again (set_free m (upd m.free n true) m.wait) t d1)
      (refused ls hs m b q₀ now a t (rw e) hs' (set_th (set_free m (upd m.free n true) m.wait) t d1) (upd a.g.own n spare) a.g.tp a.p.pp
      a.p.safe
      (given_back m a.g a.inv t v n x e) (worn_p hs' m a.g a.p a.inv (pv w) t n (upd m.free n true) (a.inv.place.enq_own t n (rw e)))
      (ap owns_e (upd_same m.thr t d1)) (ap owns_d (upd_same m.thr t d1)) (upd_upd m.thr t d1 idle) refl
      (off_same a.g.own n spare (a.inv.place.enq_own t n (rw e)) (λ y. omega (arith, ap tag y)) (λ y. omega (arith, ap tag y)) (λ y. omega (arith, ap tag y)) (λ y. omega (arith, ap tag y))) (omega arith)
      (λ q z. z)
      (λ u h q ne o z. (before a.g.own n spare h (λ y. omega (arith, ap tag y)) z).1) worn c.1 (v, c.0, inr refl))
  s_a7 v n x e false w =
      let k = with_index (m.node n) (suc (m.node x).index) in
      let on = a.inv.place.enq_own t n (rw e) in
      let r : Ref a.g.who (a.g.base t) a.g.tp a.g.len x = rw e at (a.inv.threads.refs t) in
      let xn : x ≢ n = λ f. not_live m a.g a.inv t n r.pos on (a.inv.alive.live t (rw e) r.pos r.lo r.hi) (r.is ∙ f) in
      let fc : FactsOf hs m a.g a.p t (a7 v n x) = rw e at (a.pinv.facts t) in
      went ls hs m b q₀ now a t (a8 v n x) (rw e) _ _
      (goto (store m n k) a.g (stored_own m a.g a.inv t n k on (λ v k x f. let z : ◌≡◌ {A = ℕ} 0 1 = cc in omega arith)) t (a8 v n x) (rw e)
      (rw e) (rw e) r
      (rw e at (a.inv.threads.mine t), ap (λ z. z.index) (upd_same m.node n k) ∙ ap (λ z. suc z.index) (sym (upd_other m.node n k xn))))
      (store_p hs m a.g a.p a.inv a.pinv hs' t n k (a8 v n x) w on (λ l. let fl = fc.0 in let z : ◌≡◌ {A = ℕ} 0 1 = cc in absurd (omega arith))
      (ap (λ z. z.linked) (upd_same m.node n k) ∙ fc.0, ap (λ z. z.item) (upd_same m.node n k) ∙ fc.1))
      refl refl (cu ls hs m b q₀ now a t (a7 v n x) e refl)

  pub s_a8 : (v n x : ℕ) → m.thr t ≡ a8 v n x → (o : Option ℕ) → m.next x ≡ o → After (step_a8 m t v n x o)
  s_a8 v n x e none f w = record {
    g = _;
    p = _;
    first = a.first;
    lin = record { by = b.cur t; at = now; what = put a.g.len } ∷ a.lin;
    inv = A8yes m a.g a.inv t v n x e f;
    pinv = A8P hs' m a.g a.p a.inv (pv w) t v n x e f;
    lins = tick_l _ _ _ _ _ _ _ _ _ _ (add_l _ _ _ _ _ _ _ _ _ _ a.lins (b.cur t) (put a.g.len) (suc a.g.len) a.g.hp
        (upd a.p.item a.g.len v) (upd a.p.safe a.g.len false)
        (refl, a.inv.log.hp_in, a.lins.sound) (a.curs.lt t (rw e)) (a.curs.pending t (rw e)) c.1 (omega arith)
        (λ q h. upd_other a.p.item a.g.len v (λ z. omega arith)) (λ q h z. upd_other a.p.safe a.g.len false (λ y. omega arith) ∙ z)
        (sound_len a.first a.lin a.g.hp a.g.len a.lins.sound)
        (omega arith, c.0 ∙ ap putting (sym (upd_same a.p.item a.g.len v)), inl (a.curs.pending t (rw e))));
    curs = move_c _ _ _ _ _ _ _ _ _ _ a.curs t (a9 v n x) a.g.hp (suc a.g.len) (upd a.g.who a.g.len n)
        (upd a.g.own n (queue a.g.len)) _ (rw e) (λ d h. inr h)
        (λ u ne fr. other a.lin (b.cur t) (b.cur u) now (put a.g.len) ne fr) (λ q h. upd_other a.g.who a.g.len n (λ z. omega arith))
        (omega arith) (omega arith)
        (λ u h q ne o z. (before a.g.own n (queue a.g.len) h (λ y. omega (arith, ap tag y)) z).1) (
          a.g.len,
          omega (arith, a.inv.alive.base_lo t (rw e), a.inv.log.hp_in),
          omega arith,
          upd_same a.g.who
              a.g.len n,
          record { entry = _; there = inl refl; its = refl; kind = refl },
        );
    roots = a.roots ∙ seg_ext a.p.item (upd a.p.item a.g.len v) a.first
        (λ q h. upd_other a.p.item a.g.len v (λ z. omega (arith, sound_len a.first a.lin a.g.hp a.g.len a.lins.sound)));
    table = λ k. let s = off_same a.g.own n (queue a.g.len) (a.inv.place.enq_own t n (rw e)) (λ y. omega (arith, ap tag y))
        (λ y. omega (arith, ap tag y)) (λ y. omega (arith, ap tag y)) (λ y. omega (arith, ap tag y)) k in
        (λ h. s.0.0 ((a.table k).0 h), λ o. (a.table k).1 (s.0.1 o));
    lents = λ k. let s = off_same a.g.own n (queue a.g.len) (a.inv.place.enq_own t n (rw e)) (λ y. omega (arith, ap tag y))
        (λ y. omega (arith, ap tag y)) (λ y. omega (arith, ap tag y)) (λ y. omega (arith, ap tag y)) k in
        (λ o. (a.lents k).0 (s.1.1 o), λ h. s.1.0 ((a.lents k).1 h));
  }
    where
      c : ((b.op (b.cur t)).call ≡ putting v) × Fresh (b.cur t) a.lin
      c = cu ls hs m b q₀ now a t (a8 v n x) e refl
  s_a8 v n x e (some y) f w = went ls hs m b q₀ now a t (a12 v n x) (rw e) _ _ (A8no m a.g a.inv t v n x y e f)
      (goto_p hs' m a.g a.p (pv w) t (a12 v n x) (rw e at (a.pinv.facts t))) refl refl (cu ls hs m b q₀ now a t (a8 v n x) e refl)

  pub s_a9 : (v n x : ℕ) → m.thr t ≡ a9 v n x → After (step m t (a9 v n x))
  s_a9 v n x e w =
      let c = with_linked (m.node n) true in
      went ls hs m b q₀ now a t (a10 v n x) (rw e) _ _ (goto (store m n c) a.g (stored m a.g a.inv n c refl) t (a10 v n x) (rw e) (rw e) (rw e)
      (rw e at (a.inv.threads.refs t)) tt)
      (A9P hs m a.g a.p a.inv a.pinv hs' t v n x c w e refl refl refl) refl refl (cu ls hs m b q₀ now a t (a9 v n x) e refl)

  -- the line is persisted, and the place is safe
  module _ (v n x : ℕ) (e : busy (m.thr t) ≡ true) (ac : acts (m.thr t) ≡ true) (oe : owns_e (m.thr t) ≡ none) (od : owns_d (m.thr t) ≡ none) (lk : (m.node n).linked ≡ true)
      (l : Lnk a.g.who (a.g.base t) a.g.len x n) where
    safe_at : Grown nowhere (content m) hs hs' → ((c : Node) → hs'.is (of_node n) c → c ≡ m.node n)
        → CurOf (b.op (b.cur t)).call a.lin a.g.hp a.g.who a.g.own (a.g.base t) a.g.len t (b.cur t) (a11 v n x)
        → All ls hs' (set_th m t (a11 v n x)) b q₀ (suc now)
    safe_at w only k =
        moved ls hs m b q₀ now a t (a11 v n x) ac hs' (set_th m t (a11 v n x)) a.g.own a.g.tp a.p.pp (upd a.p.safe (suc l.pos) true)
        (goto m a.g a.inv t (a11 v n x) (sym e) (sym oe) (sym od) l tt)
        (A10P hs m a.g a.p a.inv a.pinv hs' t v n x w only e lk l) refl (λ k. ((λ z. z, λ z. z), (λ z. z, λ z. z))) refl (omega arith)
        (λ q z. upd_ind a.p.safe (suc l.pos) true (λ q y. a.p.safe q ≡ true → y ≡ true) q (λ w. refl) (λ ne w. w) z) (λ u h q ne o z. z) k

  pub s_a10 : (v n x : ℕ) → m.thr t ≡ a10 v n x → (c : Mode) → After (step_a10 m t v n x c)
  s_a10 v n x e at_once w = safe_at v n x (rw e) (rw e) (rw e) (rw e) (rw e at (a.pinv.facts t)) (rw e at (a.inv.threads.refs t))
      (at_once_lem (of_node n) (content m) hs hs' w) w.made.1 (cu ls hs m b q₀ now a t (a10 v n x) e refl)
  s_a10 v n x e fenced w = went ls hs m b q₀ now a t (a10f v n x) (rw e) _ _
      (goto m a.g a.inv t (a10f v n x) (rw e) (rw e) (rw e) (rw e at (a.inv.threads.refs t)) tt)
      (issued_p hs m a.g a.p a.inv a.pinv hs' t (a10f v n x) w (rw e at (a.pinv.facts t), w.later.1 (of_node n))) refl refl
      (cu ls hs m b q₀ now a t (a10 v n x) e refl)

  pub s_a10f : (v n x : ℕ) → m.thr t ≡ a10f v n x → After (step m t (a10f v n x))
  s_a10f v n x e w =
      let fc : FactsOf hs m a.g a.p t (a10f v n x) = rw e at (a.pinv.facts t) in
      safe_at v n x (rw e) (rw e) (rw e) (rw e) fc.0 (rw e at (a.inv.threads.refs t))
      (at_fence t (of_node n) (content m) hs hs' w) (λ c h. fc.1 c (w.made.1 c h)) (cu ls hs m b q₀ now a t (a10f v n x) e refl)

  pub s_a11 : (v n x : ℕ) → m.thr t ≡ a11 v n x → (c : Bool) → eqb m.tail x ≡ c → After (step_a11 m t n c)
  s_a11 v n x e c f = by c f
    where
      k : (q : ℕ) × (a.g.base t ≤ q) × (q < a.g.len) × (a.g.who q ≡ n) × Mark a.lin (b.cur t) (put q)
      k = cu ls hs m b q₀ now a t (a11 v n x) e refl

      sa : SafeAt a.g.who (a.g.base t) a.g.len a.p.safe n
      sa = rw e at (a.pinv.facts t)

      one : sa.pos ≡ k.0
      one = same_place m a.g a.inv t (rw e) sa.pos k.0 sa.lo sa.inside k.1 k.2 (sa.is ∙ sym k.3)

      call : (b.op (b.cur t)).call ≡ putting (a.p.item k.0)
      call = (let r = (a.lins.entries k.4.entry k.4.there).fits in
          let r' : Fits (b.op k.4.entry.by) a.g.len a.p.pp a.p.item a.p.safe (put k.0) = rw k.4.kind at r in
          ap (λ y. (b.op y).call) (sym k.4.its) ∙ r'.1)

      by : (c : Bool) → eqb m.tail x ≡ c → After (step_a11 m t n c)
      by true f w =
          let l : Lnk a.g.who (a.g.base t) a.g.len x n = rw e at (a.inv.threads.refs t) in
          let at : a.g.tp ≡ l.pos = at_tail m a.g a.inv t l.pos x (rw e) l.is l.lo (omega (arith, l.hi)) (true→eq m.tail x f) in
          answered ls hs m b q₀ now a t (rw e) hs' (set_tail m n) a.g.own (suc l.pos) a.p.pp a.p.safe
          (tailed m a.g a.inv (suc l.pos) n (sym l.then) (omega arith) l.hi)
          (record { head = (pv w).head; nodes = (pv w).nodes; facts = (pv w).facts }) (rw e) (rw e) refl refl (λ k. ((λ z. z, λ z. z), (λ z. z, λ z. z)))
          (omega arith) (λ q z. z) (λ u h q ne o z. z)
          (put k.0) done k.4 (k.2, call, inr (refl, rw (← one) sa.sure))
      by false f w = answered ls hs m b q₀ now a t (rw e) hs' m a.g.own a.g.tp a.p.pp a.p.safe a.inv (pv w) (rw e) (rw e) refl refl
          (λ k. ((λ z. z, λ z. z), (λ z. z, λ z. z))) (omega arith) (λ q z. z) (λ u h q ne o z. z)
          (put k.0) done k.4 (k.2, call, inr (refl, rw (← one) sa.sure))

  pub s_a12 : (v n x : ℕ) → m.thr t ≡ a12 v n x → (c : Bool) → eqb m.tail x ≡ c → (o : Option ℕ) → m.next x ≡ o → After (step_a12 m t v n c o)
  s_a12 v n x e true f none k w = went ls hs m b q₀ now a t (a5 v n) (rw e) _ _ (A12no m a.g a.inv t v n x e)
      (goto_p hs' m a.g a.p (pv w) t (a5 v n) (rw e at (a.pinv.facts t))) refl refl (cu ls hs m b q₀ now a t (a12 v n x) e refl)
  s_a12 v n x e true f (some y) k w =
      let yl : (y : ℕ) × Lnk a.g.who (a.g.base t) a.g.len x y = rw e at (a.inv.threads.refs t) in
      let l = yl.1 in
      let at : a.g.tp ≡ l.pos = at_tail m a.g a.inv t l.pos x (rw e) l.is l.lo (omega (arith, l.hi)) (true→eq m.tail x f) in
      let nx = pos_link m a.g a.inv t (rw e) l.pos y l.lo (omega (arith, l.hi)) (rw l.is k) in
      moved ls hs m b q₀ now a t (a5 v n) (rw e) hs' (set_th (set_tail m y) t (a5 v n)) a.g.own (suc l.pos) a.p.pp a.p.safe
      (A12no (set_tail m y) _ (tailed m a.g a.inv (suc l.pos) y (sym nx.1) (omega arith) nx.0) t v n x e)
      (goto_p hs' (set_tail m y) _ a.p (record { head = (pv w).head; nodes = (pv w).nodes; facts = (pv w).facts }) t (a5 v n)
      (rw e at (a.pinv.facts t)))
      refl (λ k. ((λ z. z, λ z. z), (λ z. z, λ z. z))) refl (omega arith) (λ q z. z) (λ u h q ne o z. z) (cu ls hs m b q₀ now a t (a12 v n x) e refl)
  s_a12 v n x e false f o k w = went ls hs m b q₀ now a t (a5 v n) (rw e) _ _ (A12no m a.g a.inv t v n x e)
      (goto_p hs' m a.g a.p (pv w) t (a5 v n) (rw e at (a.pinv.facts t))) refl refl (cu ls hs m b q₀ now a t (a12 v n x) e refl)
