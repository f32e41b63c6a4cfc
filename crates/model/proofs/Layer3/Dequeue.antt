-- The steps of a dequeue keep the whole invariant.
use mathlib.Core.Path.{◌≡◌, refl, sym, subst, ap, ◌∙◌}
use mathlib.Core.Bool.{Bool, true, false}
use mathlib.Core.List.{List, ◌∷◌}
use mathlib.Core.Logic.{◌⊎◌, inl, inr, ◌↔◌}
use mathlib.Core.Option.{Option, none, some}
use Prim.Native.Nat.{ℕ, suc, ◌≤◌, ◌<◌}
use native.Mathlib.Omega.{arith}
use native.Mathlib.Decide.{dec_lt}
use lib.Dec.{eqb}
use Rattle.model.specs.Basics.{upd}
use Rattle.model.specs.Conf.{Mode, at_once, fenced, same_head, Engine, shared, split, line_ix, line_of, line_count, thread_ix, head_lines}
use Rattle.model.specs.Core.{acts, d3f, d6f, Node, content, Th, Core, empty, item, busy, idle, d1, d2, d3, d4, d5, d6, d7, s3, s6}
use Rattle.model.specs.Lines.{nowhere, of_head}
use Rattle.model.specs.Changes.{set_held, set_th}
use Rattle.model.specs.Steps.{leave, step_d3, step_d6, reply, empty_to, item_to, Out, step, step_d2, step_d4, retire_held}
use Rattle.model.specs.Lawful.{taking}
use Rattle.model.specs.Bench.{Book, closes}
use Rattle.model.specs.Places.{owns_e, owns_d}
use Rattle.model.proofs.Basics.{upd_same, upd_upd, true→eq}
use Rattle.model.proofs.Times.{Hist, Grown}
use Rattle.model.proofs.Layer1.Ghost.{off, Inv, waiting, kept, deqd, Hd, Spot, ixs}
use Rattle.model.proofs.Layer1.Places.{Outside, before, tag, off_same}
use Rattle.model.proofs.Layer1.Goto.{goto}
use Rattle.model.proofs.Layer1.Local.{D2, D4no, D5, S3, S6, to_empty, same_place, pos_last, D1}
use Rattle.model.proofs.Layer1.D4.{D4yes, more, own_h}
use Rattle.model.proofs.Layer1.Hands.{own_g}
use Rattle.model.proofs.Layer1.D7.{retired, holding, kp, dq₂, drop_held}
use Rattle.model.proofs.Layer1.Stops.{leave_again, hold_again, same_number}
use Rattle.model.proofs.Layer2.Contents.{idx_mono}
use Rattle.model.proofs.Layer2.Invariant.{PInv, FactsOf, low_of, mark_of, Got, goto_p}
use Rattle.model.proofs.Layer2.Stores.{issued_p, kept_p, to_head, head_p}
use Rattle.model.proofs.Layer2.Hands.{retired_p, holding_p}
use Rattle.model.proofs.Layer2.D4.{D4P, mark_p}
use Rattle.model.proofs.Layer3.Effects.{Lin, get, saw, Fresh, Fits}
use Rattle.model.proofs.Layer3.Invariant.{Mark, CurOf}
use Rattle.model.proofs.Layer3.Changes.{tick_l, add_l, move_c}
use Rattle.model.proofs.Layer3.All.{All, sound_len, moved, went, answered, other, AfterStep, cu, quiet, at_once_lem, at_fence}
use Rattle.model.proofs.Layer2.Heads.{low_cur, Kept}

-- ---- what the engine must give: a thread's line is one of the head lines; what a thread has stored is no newer than Head

line_in : (E : Engine) (d t : ℕ) → t < d → line_of E t < line_count E d
line_in shared d t h = omega arith
line_in split d t h = h

pub thread_low : (E : Engine) (d t top i : ℕ) (f : ℕ → ℕ) → t < d → ((k : ℕ) → k < line_count E d → line_ix E i f k ≤ top) → thread_ix E f t ≤ top
thread_low shared d t top i f h c = omega arith
thread_low split d t top i f h c = c t h

-- what a thread persists: Head's index where it is shared, what the thread has just stored where it is not
low_shared : (E : Engine) (i t k : ℕ) (f : ℕ → ℕ) → E ≡ shared → k ≤ i → k ≤ line_ix E i f (line_of E t)
low_shared shared i t k f e h = h
low_shared split i t k f e h = let z : ◌≡◌ {A = ℕ} 0 1 = cc in absurd (omega arith)

low_split : (E : Engine) (i t a k : ℕ) (f : ℕ → ℕ) → E ≡ split → k ≤ a → k ≤ line_ix E i (upd f t a) (line_of E t)
low_split shared i t a k f e h = let z : ◌≡◌ {A = ℕ} 0 1 = cc in absurd (omega arith)
low_split split i t a k f e h = rw (upd_same f t a) h

module _ (ls : ℕ → Bool) (hs hs' : Hist) (m : Core) (b : Book) (q₀ : List ℕ) (now : ℕ) (a : All ls hs m b q₀ now) (t : ℕ) where
  abbrev After : Out → Type 0
  After = AfterStep ls hs hs' b q₀ now t

  pv : Grown nowhere (content m) hs hs' → PInv hs' m a.g a.p
  pv w = quiet ls hs m b q₀ now a t hs' w

  pub s_d1 : m.thr t ≡ d1 → After (step m t d1)
  s_d1 e w = went ls hs m b q₀ now a t (d2 m.hnode m.hidx) (rw e) _ _ (D1 m a.g a.inv t e) (goto_p hs' m a.g a.p (pv w) t (d2 m.hnode m.hidx)
      (rw a.inv.log.head_ix (thread_low m.conf.engine m.conf.threads t (a.g.idx a.g.hp) m.hidx m.marks (a.inv.alive.range t (rw e))
      (low_cur _ _ _ a.g.len _ _ _ a.inv.log.rising a.inv.log.hp_in a.pinv.head)))) refl refl (cu ls hs m b q₀ now a t d1 e refl)

  -- D2 finds nothing behind the head it read, which is Head
  module _ (h k : ℕ) (e : m.thr t ≡ d2 h k) (f : m.next h ≡ none) where
    r₂ : Hd a.g.who a.g.idx (a.g.base t) a.g.hp h k
    r₂ = rw e at (a.inv.threads.refs t)

    at_end : suc r₂.pos ≡ a.g.len
    at_end = pos_last m a.g a.inv t (rw e) r₂.pos r₂.lo (omega (arith, r₂.hi, a.inv.log.hp_in)) (rw r₂.is f)

    at_head : r₂.pos ≡ a.g.hp
    at_head = omega (arith, at_end, r₂.hi, a.inv.log.hp_in)

    abbrev saw_it : List Lin
    saw_it = record { by = b.cur t; at = now; what = saw a.g.hp } ∷ a.lin

    s_d2to : (s : Th) → Grown nowhere (content m) hs hs' → Inv (set_th m t s) a.g → FactsOf hs' m a.g a.p t s
        → ((p : ℕ) × (a.g.base t ≤ p) × (p < a.g.len) × (a.g.who p ≡ h) × Mark saw_it (b.cur t) (saw p)
        → CurOf (b.op (b.cur t)).call saw_it a.g.hp a.g.who a.g.own (a.g.base t) a.g.len t (b.cur t) s)
        → All ls hs' (set_th m t s) b q₀ (suc now)
    s_d2to s w iv fs cs = record {
      g = a.g;
      p = a.p;
      first = a.first;
      lin = saw_it;
      inv = iv;
      pinv = goto_p hs' m a.g a.p (pv w) t s fs;
      lins = tick_l _ _ _ _ _ _ _ _ _ _ (add_l _ _ _ _ _ _ _ _ _ _ a.lins (b.cur t) (saw a.g.hp) a.g.len a.g.hp a.p.item a.p.safe
          (refl, omega (arith, at_end, r₂.hi, a.inv.log.hp_in), a.lins.sound) (a.curs.lt t (rw e)) (a.curs.pending t (rw e)) c.1
          (omega arith) (λ q h. refl) (λ q h z. z)
          (sound_len a.first a.lin a.g.hp a.g.len a.lins.sound) (a.inv.log.hp_in, c.0, inl (a.curs.pending t (rw e))));
      curs = move_c _ _ _ _ _ _ _ _ _ _ a.curs t s a.g.hp a.g.len a.g.who a.g.own _ (rw e) (λ d h. inr h)
          (λ u ne fr. other a.lin (b.cur t) (b.cur u) now (saw a.g.hp) ne fr) (λ q h. refl) (omega arith) (omega arith) (λ u h q ne o z. z)
          (cs (
            a.g.hp,
            omega (arith, a.inv.alive.base_lo t (rw e)),
            a.inv.log.hp_in,
            ap a.g.who (sym at_head)
                ∙ r₂.is,
            record { entry = _; there = inl refl; its = refl; kind = refl },
          ));
      roots = a.roots;
      table = a.table;
      lents = a.lents;
    }
      where
        c : ((b.op (b.cur t)).call ≡ taking) × Fresh (b.cur t) a.lin
        c = cu ls hs m b q₀ now a t (d2 h k) e refl

    s_d2none : Grown nowhere (content m) hs hs' → (E : Engine) → m.conf.engine ≡ E → All ls hs' (set_th m t (empty_to E h k)) b q₀ (suc now)
    s_d2none w shared en = s_d2to (d3 h k) w (to_empty m a.g a.inv t shared h k e)
        (low_shared m.conf.engine m.hidx t k m.marks en (omega (arith, a.inv.log.head_ix, r₂.ix, ap a.g.idx at_head))) (λ z. z)
    s_d2none w split en = s_d2to (s3 h k) w (to_empty m a.g a.inv t split h k e) (en, rw e at (a.pinv.facts t)) (λ z. z)

  pub s_d2 : (h k : ℕ) → m.thr t ≡ d2 h k → (o : Option ℕ) → m.next h ≡ o → After (step_d2 m t h k o)
  s_d2 h k e none f w = s_d2none h k e f w m.conf.engine refl
  s_d2 h k e (some x) f w = went ls hs m b q₀ now a t (d4 h k x) (rw e) _ _ (D2 m a.g a.inv t h k e (some x) f)
      (goto_p hs' m a.g a.p (pv w) t (d4 h k x) (rw e at (a.pinv.facts t))) refl refl (cu ls hs m b q₀ now a t (d2 h k) e refl)

  -- of the thread's head line nothing older than f is left: a place whose index is no newer is persisted
  module _ (bt : busy (m.thr t) ≡ true) (w : Grown nowhere (content m) hs hs') (f : ℕ)
      (fp : (f ≤ a.g.idx 0) ⊎ ((q : ℕ) × (q ≤ a.g.hp) × (f ≡ a.g.idx q)))
      (low : (c : Node) → hs'.is (of_head (line_of m.conf.engine t)) c → f ≤ c.index) where
    abbrev my : line_of m.conf.engine t < head_lines m.conf
    my = line_in m.conf.engine m.conf.threads t (a.inv.alive.range t bt)

    abbrev kp_d : Kept (head_lines m.conf) a.g.hp a.p.pp a.g.len a.g.idx (line_ix m.conf.engine m.hidx m.marks)
        (λ k. hs.is (of_head k)) a.inv.log.rising a.inv.log.hp_in a.pinv.head (λ k. hs'.is (of_head k)) f
    kp_d = kept_p hs m a.g a.p a.inv a.pinv hs' w (line_of m.conf.engine t) f my fp low

    abbrev pp_d : ℕ
    pp_d = kp_d.pp'

    pv_d : PInv hs' m a.g (to_head hs m a.g a.p a.inv a.pinv hs' w (line_of m.conf.engine t) f my fp low)
    pv_d = head_p hs m a.g a.p a.inv a.pinv hs' w (line_of m.conf.engine t) f my fp low

    reached : (q : ℕ) → q < a.g.len → a.g.idx q ≤ f → q ≤ pp_d
    reached q h le = by (dec_lt pp_d q)
      where
        by : Dec (pp_d < q) → q ≤ pp_d
        by (yes z) = absurd (omega (arith, kp_d.reach, a.inv.log.rising pp_d q z h))
        by (no z) = omega arith

  -- the thread answers Empty: what it found last is persisted
  module _ (h k : ℕ) (bt : busy (m.thr t) ≡ true) (ac : acts (m.thr t) ≡ true) (oe : owns_e (m.thr t) ≡ none) (od : owns_d (m.thr t) ≡ none) (w : Grown nowhere (content m) hs hs')
      (low : (c : Node) → hs'.is (of_head (line_of m.conf.engine t)) c → k ≤ c.index) (r : Hd a.g.who a.g.idx (a.g.base t) a.g.hp h k)
      (c : (p : ℕ) × (a.g.base t ≤ p) × (p < a.g.len) × (a.g.who p ≡ h) × Mark a.lin (b.cur t) (saw p)) where
    fp_e : (k ≤ a.g.idx 0) ⊎ ((q : ℕ) × (q ≤ a.g.hp) × (k ≡ a.g.idx q))
    fp_e = inr (r.pos, r.hi, sym r.ix)

    f : Fits (b.op c.4.entry.by) a.g.len a.p.pp a.p.item a.p.safe (saw c.0)
    f = rw c.4.kind at (a.lins.entries c.4.entry c.4.there).fits

    one : c.0 ≡ r.pos
    one = same_place m a.g a.inv t bt c.0 r.pos c.1 c.2 r.lo (omega (arith, r.hi, a.inv.log.hp_in)) (c.3 ∙ sym r.is)

    empties : All ls hs' (leave m t) (closes b now t empty) q₀ (suc now)
    empties = answered ls hs m b q₀ now a t ac hs' m a.g.own a.g.tp (pp_d bt w k fp_e low) a.p.safe a.inv (pv_d bt w k fp_e low) oe od refl refl
        (λ k. ((λ z. z, λ z. z), (λ z. z, λ z. z))) (kp_d bt w k fp_e low).up (λ q z. z) (λ u h q ne o z. z) (saw c.0) empty c.4 (
          f.0,
          ap (λ y. (b.op y).call) (sym c.4.its) ∙ f.1,
          inr (refl, reached bt w k fp_e low c.0 c.2 (omega (arith, r.ix, ap a.g.idx one))),
        )

  pub s_d3 : (h k : ℕ) → m.thr t ≡ d3 h k → (c : Mode) → After (step_d3 m t h k c)
  s_d3 h k e at_once w =
      let fc : FactsOf hs m a.g a.p t (d3 h k) = rw e at (a.pinv.facts t) in
      empties h k (rw e) (rw e) (rw e) (rw e) (at_once_lem _ (content m) hs hs' w) (λ c z. omega (arith, fc, ap (λ y. y.index) (w.made.1 c z)))
      (rw e at (a.inv.threads.refs t)) (cu ls hs m b q₀ now a t (d3 h k) e refl)
  s_d3 h k e fenced w =
      let fc : FactsOf hs m a.g a.p t (d3 h k) = rw e at (a.pinv.facts t) in
      went ls hs m b q₀ now a t (d3f h k) (rw e) _ _ (goto m a.g a.inv t (d3f h k) (rw e) (rw e) (rw e) (rw e at (a.inv.threads.refs t)) tt)
      (issued_p hs m a.g a.p a.inv a.pinv hs' t (d3f h k) w (fc, λ c z. omega (arith, fc, ap (λ y. y.index) (w.later.1 _ c z)))) refl refl
      (cu ls hs m b q₀ now a t (d3 h k) e refl)

  pub s_d3f : (h k : ℕ) → m.thr t ≡ d3f h k → After (step m t (d3f h k))
  s_d3f h k e w =
      let fc : FactsOf hs m a.g a.p t (d3f h k) = rw e at (a.pinv.facts t) in
      empties h k (rw e) (rw e) (rw e) (rw e) (at_fence t _ (content m) hs hs' w) (λ c z. fc.1 c (w.made.1 c z))
      (rw e at (a.inv.threads.refs t)) (cu ls hs m b q₀ now a t (d3f h k) e refl)

  pub s_d4 : (h k x : ℕ) → m.thr t ≡ d4 h k x → (c : Bool) → same_head m.conf.engine (eqb m.hnode h) (eqb m.hidx k) ≡ c → After (step_d4 m t h x c)
  s_d4 h k x e true f w = record {
    g = _;
    p = a.p;
    first = a.first;
    lin = record { by = b.cur t; at = now; what = get (suc a.g.hp) } ∷ a.lin;
    inv = D4yes m a.g a.inv t h k x e eh;
    pinv = D4P hs m a.g a.p a.inv a.pinv t h k x e eh hs' w;
    lins = tick_l _ _ _ _ _ _ _ _ _ _ (add_l _ _ _ _ _ _ _ _ _ _ a.lins (b.cur t) (get (suc a.g.hp)) a.g.len (suc a.g.hp) a.p.item
        a.p.safe
        (a.g.hp, refl, refl, mo, a.lins.sound) (a.curs.lt t (rw e)) (a.curs.pending t (rw e)) c.1 (omega arith) (λ q h. refl) (λ q h z. z)
        (sound_len a.first a.lin a.g.hp a.g.len a.lins.sound) (mo, c.0, inl (a.curs.pending t (rw e))));
    curs = move_c _ _ _ _ _ _ _ _ _ _ a.curs t (d5 h x) (suc a.g.hp) a.g.len a.g.who (upd a.g.own h (deqd t a.g.hp)) _ (rw e)
        (λ d h. inr h)
        (λ u ne fr. other a.lin (b.cur t) (b.cur u) now (get (suc a.g.hp)) ne fr) (λ q h. refl) (omega arith) (omega arith)
        (λ u h' q ne o z. (before a.g.own h (deqd t a.g.hp) h' (λ y. ne (let w : t ≡ u = cc in sym w)) z).1)
        (λ q o. let w = sym (upd_same a.g.own h (deqd t a.g.hp)) ∙ o in let z : a.g.hp ≡ q = cc in
        record { entry = _; there = inl refl; its = refl; kind = ap (λ y. get (suc y)) z });
    roots = a.roots;
    table = λ y. let s = off_same a.g.own h (deqd t a.g.hp) (own_h m a.g a.inv t h k x e eh) (λ w. omega (arith, ap tag w))
        (λ w. omega (arith, ap tag w)) (λ w. omega (arith, ap tag w)) (λ w. omega (arith, ap tag w)) y in
        (λ l. s.0.0 ((a.table y).0 l), λ o. (a.table y).1 (s.0.1 o));
    lents = λ y. let s = off_same a.g.own h (deqd t a.g.hp) (own_h m a.g a.inv t h k x e eh) (λ w. omega (arith, ap tag w))
        (λ w. omega (arith, ap tag w)) (λ w. omega (arith, ap tag w)) (λ w. omega (arith, ap tag w)) y in
        (λ o. (a.lents y).0 (s.1.1 o), λ h. s.1.0 ((a.lents y).1 h));
  }
    where
      c : ((b.op (b.cur t)).call ≡ taking) × Fresh (b.cur t) a.lin
      c = cu ls hs m b q₀ now a t (d4 h k x) e refl

      eh : m.hnode ≡ h
      eh = true→eq m.hnode h (same_number m.conf.engine (eqb m.hnode h) (eqb m.hidx k) f)

      mo : suc a.g.hp < a.g.len
      mo = more m a.g a.inv t h k x e eh
  s_d4 h k x e false f w = went ls hs m b q₀ now a t d1 (rw e) _ _ (D4no m a.g a.inv t h k x e) (goto_p hs' m a.g a.p (pv w) t d1 tt) refl refl
      (cu ls hs m b q₀ now a t (d4 h k x) e refl)

  pub s_d5 : (h x : ℕ) → m.thr t ≡ d5 h x → After (step m t (d5 h x))
  s_d5 h x e w = by m.conf.engine refl
    where
      v : ℕ
      v = (m.node x).item

      fc : FactsOf hs m a.g a.p t (d5 h x)
      fc = rw e at (a.pinv.facts t)

      got : (q : ℕ) → a.g.own h ≡ deqd t q → Got a.g.who a.p.item a.g.len v q
      got q o = let r = fc q o in
          record {
            inside = r.1;
            val = ap (λ y. (m.node y).item) (sym r.2) ∙ a.pinv.nodes.values (suc q)
                (a.inv.alive.live t (rw e) (suc q) (omega (arith, r.0)) r.1);
          }

      low : (q : ℕ) → a.g.own h ≡ deqd t q → a.g.idx (suc q) ≤ m.hidx
      low q o = let s : Spot a.g.who a.g.hp a.g.len h (deqd t q) = rw o at (a.inv.place.spot h) in
          omega (arith, a.inv.log.head_ix, idx_mono a.g.idx a.g.len a.inv.log.rising (suc q) a.g.hp s.1 a.inv.log.hp_in)

      by : (E : Engine) → m.conf.engine ≡ E → All ls hs' (set_th m t (item_to E h x v)) b q₀ (suc now)
      by shared en = went ls hs m b q₀ now a t (d6 h v) (rw e) hs' (set_th m t (d6 h v)) (D5 m a.g a.inv t shared h x v e)
          (goto_p hs' m a.g a.p (pv w) t (d6 h v)
          (λ q o. (got q o, low_shared m.conf.engine m.hidx t (a.g.idx (suc q)) m.marks en (low q o)))) refl refl
          (cu ls hs m b q₀ now a t (d5 h x) e refl)
      by split en = went ls hs m b q₀ now a t (s6 h x v) (rw e) hs' (set_th m t (s6 h x v)) (D5 m a.g a.inv t split h x v e)
          (goto_p hs' m a.g a.p (pv w) t (s6 h x v) (en, λ q o. let r = fc q o in (r.0, r.2, r.3, got q o))) refl refl
          (cu ls hs m b q₀ now a t (d5 h x) e refl)

  -- the two stores of an engine with an index line for each thread
  pub s_s3 : (h k : ℕ) → m.thr t ≡ s3 h k → After (step m t (s3 h k))
  s_s3 h k e w = went ls hs m b q₀ now a t (d3 h k) (rw e) _ _ (S3 m a.g a.inv t h k (m.node h).index e)
      (mark_p hs m a.g a.p a.inv a.pinv t (m.node h).index r.pos (d3 h k) fc.0 (a.inv.alive.range t (rw e)) r.hi ix
      (omega (arith, fc.1, ix, r.ix)) hs' w
      (low_split m.conf.engine m.hidx t (m.node h).index k m.marks fc.0 (omega (arith, ix, r.ix)))) refl refl
      (cu ls hs m b q₀ now a t (s3 h k) e refl)
    where
      fc : (m.conf.engine ≡ split) × (mark_of m t ≤ k)
      fc = rw e at (a.pinv.facts t)

      r : Hd a.g.who a.g.idx (a.g.base t) a.g.hp h k
      r = rw e at (a.inv.threads.refs t)

      ix : (m.node h).index ≡ a.g.idx r.pos
      ix = ap (ixs m.node) (sym r.is) ∙ a.inv.link.indices r.pos
          (a.inv.alive.live t (rw e) r.pos r.lo (omega (arith, r.hi, a.inv.log.hp_in)))

  pub s_s6 : (h x v : ℕ) → m.thr t ≡ s6 h x v → After (step m t (s6 h x v))
  s_s6 h x v e w = went ls hs m b q₀ now a t (d6 h v) (rw e) _ _ (S6 m a.g a.inv t h x v (m.node x).index e)
      (mark_p hs m a.g a.p a.inv a.pinv t (m.node x).index (suc d.0) (d6 h v) fc.0 (a.inv.alive.range t (rw e)) sp.1 ix
      (omega (arith, r.2, ix)) hs' w
      (λ q o. (
        (fc.1 q o).3,
        low_split m.conf.engine m.hidx t (m.node x).index (a.g.idx (suc q)) m.marks fc.0
            (omega (arith, ix, ap (λ y. a.g.idx (suc y)) (one q o))),
      ))) refl refl (cu ls hs m b q₀ now a t (s6 h x v) e refl)
    where
      fc : FactsOf hs m a.g a.p t (s6 h x v)
      fc = rw e at (a.pinv.facts t)

      d : (q : ℕ) × (a.g.own h ≡ deqd t q)
      d = a.inv.place.deq_own t h (rw e)

      r : (a.g.base t ≤ d.0) × (a.g.who (suc d.0) ≡ x) × (mark_of m t ≤ a.g.idx (suc d.0)) × Got a.g.who a.p.item a.g.len v d.0
      r = fc.1 d.0 d.1

      sp : Spot a.g.who a.g.hp a.g.len h (deqd t d.0)
      sp = rw d.1 at (a.inv.place.spot h)

      ix : (m.node x).index ≡ a.g.idx (suc d.0)
      ix = ap (ixs m.node) (sym r.1) ∙ a.inv.link.indices (suc d.0) (a.inv.alive.live t (rw e) (suc d.0) (omega (arith, r.0)) r.3.inside)

      one : (q : ℕ) → a.g.own h ≡ deqd t q → q ≡ d.0
      one q o = let w = sym o ∙ d.1 in cc

  -- the place taken is persisted
  module _ (h v : ℕ) (bt : busy (m.thr t) ≡ true) (ac : acts (m.thr t) ≡ true) (oe : owns_e (m.thr t) ≡ none) (od : owns_d (m.thr t) ≡ some h) (w : Grown nowhere (content m) hs hs')
      (fc : (q : ℕ) → a.g.own h ≡ deqd t q → Got a.g.who a.p.item a.g.len v q
      × ((c : Node) → hs'.is (of_head (line_of m.conf.engine t)) c → a.g.idx (suc q) ≤ c.index))
      (k : (q : ℕ) → a.g.own h ≡ deqd t q → Mark a.lin (b.cur t) (get (suc q))) where
    d : (q : ℕ) × (a.g.own h ≡ deqd t q)
    d = a.inv.place.deq_own t h od

    sp : Spot a.g.who a.g.hp a.g.len h (deqd t d.0)
    sp = rw d.1 at (a.inv.place.spot h)

    fp_t : (a.g.idx (suc d.0) ≤ a.g.idx 0) ⊎ ((q : ℕ) × (q ≤ a.g.hp) × (a.g.idx (suc d.0) ≡ a.g.idx q))
    fp_t = inr (suc d.0, sp.1, refl)

    low_t : (c : Node) → hs'.is (of_head (line_of m.conf.engine t)) c → a.g.idx (suc d.0) ≤ c.index
    low_t = (fc d.0 d.1).1

    same_q : (q : ℕ) → a.g.own h ≡ deqd t q → q ≡ d.0
    same_q q o = let w = sym o ∙ d.1 in cc

    takes : All ls hs' (set_th m t (d7 h v)) b q₀ (suc now)
    takes = moved ls hs m b q₀ now a t (d7 h v) ac hs' (set_th m t (d7 h v)) a.g.own a.g.tp (pp_d bt w _ fp_t low_t) a.p.safe
        (goto m a.g a.inv t (d7 h v) (sym bt) (sym oe) (sym od) tt tt)
        (goto_p hs' m a.g _ (pv_d bt w _ fp_t low_t) t (d7 h v)
        (λ q o. let r = fc q o in
        (r.0, (let z = reached bt w _ fp_t low_t (suc q) r.0.inside (omega (arith, ap (λ y. a.g.idx (suc y)) (same_q q o))) in omega arith))))
        refl (λ k. ((λ z. z, λ z. z), (λ z. z, λ z. z))) refl (kp_d bt w _ fp_t low_t).up (λ q z. z) (λ u h q ne o z. z) k

  pub s_d6 : (h v : ℕ) → m.thr t ≡ d6 h v → (c : Mode) → After (step_d6 m t h v c)
  s_d6 h v e at_once w =
      let fc : FactsOf hs m a.g a.p t (d6 h v) = rw e at (a.pinv.facts t) in
      takes h v (rw e) (rw e) (rw e) (rw e) (at_once_lem _ (content m) hs hs' w)
      (λ q o. let r = fc q o in (r.0, λ c z. omega (arith, r.1, ap (λ y. y.index) (w.made.1 c z)))) (cu ls hs m b q₀ now a t (d6 h v) e refl)
  s_d6 h v e fenced w =
      let fc : FactsOf hs m a.g a.p t (d6 h v) = rw e at (a.pinv.facts t) in
      went ls hs m b q₀ now a t (d6f h v) (rw e) _ _ (goto m a.g a.inv t (d6f h v) (rw e) (rw e) (rw e) tt tt)
      (issued_p hs m a.g a.p a.inv a.pinv hs' t (d6f h v) w
      (λ q o. let r = fc q o in (r.0, r.1, λ c z. omega (arith, r.1, ap (λ y. y.index) (w.later.1 _ c z))))) refl refl
      (cu ls hs m b q₀ now a t (d6 h v) e refl)

  pub s_d6f : (h v : ℕ) → m.thr t ≡ d6f h v → After (step m t (d6f h v))
  s_d6f h v e w =
      let fc : FactsOf hs m a.g a.p t (d6f h v) = rw e at (a.pinv.facts t) in
      takes h v (rw e) (rw e) (rw e) (rw e) (at_fence t _ (content m) hs hs' w) (λ q o. let r = fc q o in (r.0, λ c z. r.2 c (w.made.1 c z)))
      (cu ls hs m b q₀ now a t (d6f h v) e refl)

  -- what a dequeue that answers knows
  module _ (h v q : ℕ) (e : m.thr t ≡ d7 h v) (o : a.g.own h ≡ deqd t q) where
    pub mk : Mark a.lin (b.cur t) (get (suc q))
    mk = cu ls hs m b q₀ now a t (d7 h v) e refl q o

    fit : Fits (record { call = (b.op (b.cur t)).call; began = (b.op (b.cur t)).began; said = item v; ended = now }) a.g.len a.p.pp
        a.p.item a.p.safe (get (suc q))
    fit =
        let r : Fits (b.op mk.entry.by) a.g.len a.p.pp a.p.item a.p.safe
        (get (suc q)) = rw mk.kind at (a.lins.entries mk.entry mk.there).fits in
        let fc : FactsOf hs m a.g a.p t (d7 h v) = rw e at (a.pinv.facts t) in
        let k = fc q o in
        (r.0, ap (λ y. (b.op y).call) (sym mk.its) ∙ r.1, inr (ap item k.0.val, k.1))

  pub s_d7 : (h v : ℕ) → m.thr t ≡ d7 h v → (o : Option ℕ) → m.held t ≡ o → After (reply (set_held (retire_held m t o) t h) t (item v))
  s_d7 h v e none f w =
      let d = dq₂ m a.g a.inv t h v e f in
      subst (λ z. All ls hs' z (closes b now t (item v)) q₀ (suc now)) (leave_again (set_held m t h) t d1)
      (answered ls hs m b q₀ now a t (rw e) hs' (set_th (set_held m t h) t d1) (upd a.g.own h (kept t d.0)) a.g.tp a.p.pp a.p.safe
      (holding m a.g a.inv t h v e f) (holding_p hs' m a.g a.p a.inv (pv w) t h v d.0 e d.1)
      (ap owns_e (upd_same m.thr t d1)) (ap owns_d (upd_same m.thr t d1)) (upd_upd m.thr t d1 idle) refl
      (off_same a.g.own h (kept t d.0) d.1 (λ w. omega (arith, ap tag w)) (λ w. omega (arith, ap tag w)) (λ w. omega (arith, ap tag w)) (λ w. omega (arith, ap tag w))) (omega arith) (λ q z. z)
      (λ u h' q ne o z. (before a.g.own h (kept t d.0) h' (λ y. omega (arith, ap tag y)) z).1)
      (get (suc d.0)) (item v) (mk h v d.0 e d.1) (fit h v d.0 e d.1))
  s_d7 h v e (some n) f w =
      let m₁ = drop_held (retire_held m t (some n)) t in
      let k = kp m a.g a.inv t h v n e f in
      let g₁ = own_g a.g n (waiting k.0) in
      let i₁ = retired m a.g a.inv t h v n e f in
      let j₁ = retired_p hs' m a.g a.p a.inv (pv w) t n k.0 m₁ k.1 in
      let d = dq₂ m₁ g₁ i₁ t h v e (upd_same m.held t none) in
      let d₀ = (before a.g.own n (waiting k.0) h (λ y. omega (arith, ap tag y)) d.1).1 in
      let hands : (y : ℕ) → Outside (a.g.own y) (upd (upd a.g.own n (waiting k.0)) h (kept t d.0) y) = λ y.
      let s₁ = off_same a.g.own n (waiting k.0) k.1 (λ w. omega (arith, ap tag w)) (λ w. omega (arith, ap tag w)) (λ w. omega (arith, ap tag w)) (λ w. omega (arith, ap tag w)) y in
      let s₂ = off_same (upd a.g.own n (waiting k.0)) h (kept t d.0) d.1 (λ w. omega (arith, ap tag w)) (λ w. omega (arith, ap tag w)) (λ w. omega (arith, ap tag w)) (λ w. omega (arith, ap tag w)) y in
      ((λ z. s₂.0.0 (s₁.0.0 z), λ z. s₁.0.1 (s₂.0.1 z)), (λ z. s₂.1.0 (s₁.1.0 z), λ z. s₁.1.1 (s₂.1.1 z))) in
      subst (λ z. All ls hs' z (closes b now t (item v)) q₀ (suc now)) (leave_again (set_held m₁ t h) t d1 ∙ hold_again (retire_held m t (some n)) t h)
      (answered ls hs m b q₀ now a t (rw e) hs' (set_th (set_held m₁ t h) t d1) (upd (upd a.g.own n (waiting k.0)) h (kept t d.0)) a.g.tp
      a.p.pp a.p.safe
      (holding m₁ g₁ i₁ t h v e (upd_same m.held t none)) (holding_p hs' m₁ g₁ a.p i₁ j₁ t h v d.0 e d.1)
      (ap owns_e (upd_same m.thr t d1)) (ap owns_d (upd_same m.thr t d1)) (upd_upd m.thr t d1 idle) refl hands (omega arith) (λ q z. z)
      (λ u h' q ne o z. (before a.g.own n (waiting k.0) h' (λ y. omega (arith, ap tag y))
      (before (upd a.g.own n (waiting k.0)) h (kept t d.0) h' (λ y. omega (arith, ap tag y)) z).1).1)
      (get (suc d.0)) (item v) (mk h v d.0 e d₀) (fit h v d.0 e d₀))
