-- The whole invariant of a bench, and how it is kept when a thread moves on, answers, or is refused.
use mathlib.Core.Path.{◌≡◌, refl, sym, subst, ap, ◌∙◌}
use mathlib.Core.Bool.{Bool, true}
use mathlib.Core.List.{List, [], ◌∷◌}
use mathlib.Core.Logic.{◌≢◌, ◌⊎◌, inl, inr, ◌↔◌}
use mathlib.Core.Option.{none, some}
use Prim.Native.Nat.{ℕ, zero, suc, ◌≤◌, ◌<◌}
use native.Mathlib.Omega.{arith}
use Rattle.model.specs.Basics.{upd}
use Rattle.model.specs.Lines.{Line, nowhere, flushes, fences}
use Rattle.model.specs.Core.{Th, Core, Node, content, Ans, item, acts, idle}
use Rattle.model.specs.Steps.{Out, remove, leave}
use Rattle.model.specs.Bench.{Book, note_move, closes}
use Rattle.model.specs.Places.{owns_e, owns_d}
use Rattle.model.proofs.Times.{Hist, Grown}
use Rattle.model.proofs.Layer1.Ghost.{lent, Gh, Inv, Place, deqd, off}
use Rattle.model.proofs.Layer1.Places.{tag, Outside}
use Rattle.model.proofs.Layer1.Leave.{left, rel_inv, release}
use Rattle.model.proofs.Layer2.Contents.{Pg}
use Rattle.model.proofs.Layer2.Invariant.{PInv, fewer_p}
use Rattle.model.proofs.Layer2.Stores.{leave_p}
use Rattle.model.proofs.Layer3.Effects.{Lin, What, put, get, saw, nay, has_l, Fresh, Sound, Effect, Fits}
use Rattle.model.proofs.Layer3.Invariant.{Mark, CurOf, LinI, CurI}
use Rattle.model.proofs.Layer3.Changes.{quiet_l, tick_l, refuse_l, answer_l, move_c, leave_c}
use Rattle.model.proofs.Queue.Serve.{seg}

-- ls: the nodes that are with another queue over the same table
pub record All (ls : ℕ → Bool) (hs : Hist) (m : Core) (b : Book) (q₀ : List ℕ) (now : ℕ) : Type 0 where
  pub g : Gh
  pub p : Pg
  pub first : ℕ
  pub lin : List Lin
  pub inv : Inv m g
  pub pinv : PInv hs m g p
  pub lins : LinI first g.len g.hp p.pp p.item p.safe b.count b.op lin now
  pub curs : CurI g.hp g.len g.who g.own g.base b.count b.op b.cur lin m.thr
  pub roots : q₀ ≡ seg p.item (λ k. true) 0 first
  pub table : (n : ℕ) → (m.conf.nodes ≤ n) ↔ (g.own n ≡ off)
  pub lents : (n : ℕ) → (g.own n ≡ lent) ↔ (ls n ≡ true)

-- the log never gets shorter
pub sound_len : (first : ℕ) (l : List Lin) (hp len : ℕ) → Sound first l hp len → first ≤ len
sound_len first [] hp len s = omega (arith, s.1)
sound_len first (e ∷ l) hp len s = by e.what s (sound_len first l)
  where
    by : (w : What) → Effect w hp len (Sound first l) → ((hp len : ℕ) → Sound first l hp len → first ≤ len) → first ≤ len
    by (put p) s r = omega (arith, r hp p s.2, s.0)
    by (get p) s r = r s.0 len s.4
    by (saw p) s r = r hp len s.2
    by nay s r = r hp len s

-- another operation is as fresh as it was
pub other : (l : List Lin) (o w now : ℕ) (k : What) → w ≢ o → Fresh w l → (e : Lin) → (e ≡ record { by = o; at = now; what = k }) ⊎ has_l e l → e.by ≢ w
other l o w now k ne f e (inl z) y = ne (sym y ∙ ap (λ y. y.by) z)
other l o w now k ne f e (inr z) y = f e z y

pub seg_ext : (it it' : ℕ → ℕ) (b : ℕ) → ((p : ℕ) → p < b → it' p ≡ it p) → seg it (λ k. true) 0 b ≡ seg it' (λ k. true) 0 b
unfolding seg
seg_ext it it' zero h = refl
seg_ext it it' (suc b) h = rw (seg_ext it it' b (λ p l. h p (omega arith)), h b (omega arith)) refl

-- a line persisted at once, or at a fence: there is nothing new
pub at_once_lem : (l : Line) (con : Line → Node) (hs hs' : Hist) → Grown (flushes l) con hs hs' → Grown nowhere con hs hs'
at_once_lem l con hs hs' w = record { here = w.here; made = w.made.0; later = w.later }

pub at_fence : (t : ℕ) (l : Line) (con : Line → Node) (hs hs' : Hist) → Grown (fences t l) con hs hs' → Grown nowhere con hs hs'
at_fence t l con hs hs' w = record { here = w.here; made = w.made.0; later = w.later }

-- what is to be shown of a step of thread t
abbrev pub AfterStep : (ℕ → Bool) → Hist → Hist → Book → List ℕ → ℕ → ℕ → Out → Type 0
AfterStep ls hs hs' b q₀ now t o = Grown o.touch (content o.core) hs hs' → All ls hs' o.core (note_move b now t o.ans) q₀ (suc now)

module _ (ls : ℕ → Bool) (hs : Hist) (m : Core) (b : Book) (q₀ : List ℕ) (now : ℕ) (a : All ls hs m b q₀ now) (t : ℕ) where
  -- what the operation of thread t has done so far
  pub cu : (s : Th) → m.thr t ≡ s → acts s ≡ true
      → CurOf (b.op (b.cur t)).call a.lin a.g.hp a.g.who a.g.own (a.g.base t) a.g.len t (b.cur t) s
  cu s e bs = subst (λ s. CurOf (b.op (b.cur t)).call a.lin a.g.hp a.g.who a.g.own (a.g.base t) a.g.len t (b.cur t) s) e
      (a.curs.state t (rw e bs))

  -- the second layer, where no line is touched
  pub quiet : (hs' : Hist) → Grown nowhere (content m) hs hs' → PInv hs' m a.g a.p
  quiet hs' w = fewer_p hs hs' m a.g a.p a.inv w a.pinv

  -- a thread moves on: nothing takes effect
  module _ (s : Th) (bt : acts (m.thr t) ≡ true) where
    pub moved : (hs' : Hist) (m' : Core) (own' : ℕ → Place) (tp' : ℕ) (pp' : ℕ) (safe' : ℕ → Bool)
        → Inv m' (record { len = a.g.len; hp = a.g.hp; tp = tp'; who = a.g.who; idx = a.g.idx; own = own'; base = a.g.base })
        → PInv hs' m' (record { len = a.g.len; hp = a.g.hp; tp = tp'; who = a.g.who; idx = a.g.idx; own = own'; base = a.g.base })
        (record { item = a.p.item; pp = pp'; safe = safe' })
        → m'.conf ≡ m.conf → ((n : ℕ) → Outside (a.g.own n) (own' n)) → m'.thr ≡ upd m.thr t s → a.p.pp ≤ pp'
        → ((q : ℕ) → a.p.safe q ≡ true → safe' q ≡ true)
        → ((u h q : ℕ) → u ≢ t → owns_d (m.thr u) ≡ some h → own' h ≡ deqd u q → a.g.own h ≡ deqd u q)
        → CurOf (b.op (b.cur t)).call a.lin a.g.hp a.g.who own' (a.g.base t) a.g.len t (b.cur t) s
        → All ls hs' m' b q₀ (suc now)
    moved hs' m' own' tp' pp' safe' i j cf tb th pps sks ob k = record {
      g = _;
      p = _;
      first = a.first;
      lin = a.lin;
      inv = i;
      pinv = j;
      lins = tick_l _ _ _ _ _ _ _ _ _ _ (quiet_l _ _ _ _ _ _ _ _ _ _ a.lins pp' safe' pps sks);
      curs = subst (CurI a.g.hp a.g.len a.g.who own' a.g.base b.count b.op b.cur a.lin) (sym th)
          (move_c _ _ _ _ _ _ _ _ _ _ a.curs t s a.g.hp a.g.len a.g.who own' a.lin bt (λ e h. h) (λ u ne f. f) (λ q h. refl)
          (omega arith) (omega arith) ob k);
      roots = a.roots;
      table = λ n. (λ h. (tb n).0.0 ((a.table n).0 (subst (λ c. c.nodes ≤ n) cf h)), λ o. subst (λ c. c.nodes ≤ n) (sym cf) ((a.table n).1 ((tb n).0.1 o)));
      lents = λ n. (λ o. (a.lents n).0 ((tb n).1.1 o), λ h. (tb n).1.0 ((a.lents n).1 h));
    }

    -- and no hands change
    pub went : (hs' : Hist) (m' : Core) → Inv m' a.g → PInv hs' m' a.g a.p → m'.conf ≡ m.conf → m'.thr ≡ upd m.thr t s
        → CurOf (b.op (b.cur t)).call a.lin a.g.hp a.g.who a.g.own (a.g.base t) a.g.len t (b.cur t) s → All ls hs' m' b q₀ (suc now)
    went hs' m' i j cf th k = moved hs' m' a.g.own a.g.tp a.p.pp a.p.safe i j cf (λ n. ((λ z. z, λ z. z), (λ z. z, λ z. z))) th (omega arith) (λ q z. z)
        (λ u h q ne o z. z) k

  -- a thread answers: its effect is there
  module _ (bt : acts (m.thr t) ≡ true) (hs₁ : Hist) (m₁ : Core) (own₁ : ℕ → Place) (tp₁ pp₁ : ℕ) (safe₁ : ℕ → Bool)
      (i : Inv m₁ (record { len = a.g.len; hp = a.g.hp; tp = tp₁; who = a.g.who; idx = a.g.idx; own = own₁; base = a.g.base }))
      (j : PInv hs₁ m₁ (record { len = a.g.len; hp = a.g.hp; tp = tp₁; who = a.g.who; idx = a.g.idx; own = own₁; base = a.g.base })
      (record { item = a.p.item; pp = pp₁; safe = safe₁ }))
      (oe : owns_e (m₁.thr t) ≡ none) (od : owns_d (m₁.thr t) ≡ none) (th : upd m₁.thr t idle ≡ upd m.thr t idle)
      (cf : m₁.conf ≡ m.conf) (tb : (n : ℕ) → Outside (a.g.own n) (own₁ n))
      (pps : a.p.pp ≤ pp₁) (sks : (q : ℕ) → a.p.safe q ≡ true → safe₁ q ≡ true)
      (ob : (u h q : ℕ) → u ≢ t → owns_d (m.thr u) ≡ some h → own₁ h ≡ deqd u q → a.g.own h ≡ deqd u q) where
    still_table : (n : ℕ) → (m₁.conf.nodes ≤ n) ↔ (release (own₁ n) (remove t (m₁.wait n)) ≡ off)
    still_table n = (
      λ h. ap (λ o. release o (remove t (m₁.wait n))) ((tb n).0.0 ((a.table n).0 (subst (λ c. c.nodes ≤ n) cf h))),
      λ o. subst (λ c. c.nodes ≤ n) (sym cf) ((a.table n).1 ((tb n).0.1 (rel_inv (own₁ n) (remove t (m₁.wait n)) (λ f. omega (arith, ap tag f)) o))),
    )

    still_lents : (n : ℕ) → (release (own₁ n) (remove t (m₁.wait n)) ≡ lent) ↔ (ls n ≡ true)
    still_lents n = (
      λ o. (a.lents n).0 ((tb n).1.1 (rel_inv (own₁ n) (remove t (m₁.wait n)) (λ f. omega (arith, ap tag f)) o)),
      λ h. ap (λ o. release o (remove t (m₁.wait n))) ((tb n).1.0 ((a.lents n).1 h)),
    )

    pub answered : (w : What) (x : Ans) → Mark a.lin (b.cur t) w
        → Fits (record { call = (b.op (b.cur t)).call; began = (b.op (b.cur t)).began; said = x; ended = now }) a.g.len pp₁ a.p.item safe₁ w
        → All ls hs₁ (leave m₁ t) (closes b now t x) q₀ (suc now)
    answered w x mk f = record {
      g = _;
      p = _;
      first = a.first;
      lin = a.lin;
      inv = left m₁ _ i t oe od;
      pinv = leave_p hs₁ m₁ _ _ i j t;
      lins = tick_l _ _ _ _ _ _ _ _ _ _ (answer_l _ _ _ _ _ _ _ _ _ _ (quiet_l _ _ _ _ _ _ _ _ _ _ a.lins pp₁ safe₁ pps sks) (b.cur t) w x mk f);
      curs = subst (CurI a.g.hp a.g.len a.g.who (λ n. release (own₁ n) (remove t (m₁.wait n))) a.g.base b.count
          (closes b now t x).op b.cur a.lin) (sym th)
          (leave_c _ _ _ _ _ _ _ _ _ _ a.curs t _ (λ n. release (own₁ n) (remove t (m₁.wait n))) a.lin bt (λ e h. h) (λ u ne f. f)
          (λ u h q ne o z. ob u h q ne o (rel_inv (own₁ h) (remove t (m₁.wait h)) (λ f. omega (arith, ap tag f)) z)));
      roots = a.roots;
      table = still_table;
      lents = still_lents;
    }

    pub refused : (x : Ans) → Fresh (b.cur t) a.lin
        → Fits (record { call = (b.op (b.cur t)).call; began = (b.op (b.cur t)).began; said = x; ended = now }) a.g.len pp₁ a.p.item safe₁ nay
        → All ls hs₁ (leave m₁ t) (closes b now t x) q₀ (suc now)
    refused x fr f = record {
      g = _;
      p = _;
      first = a.first;
      lin = record { by = b.cur t; at = now; what = nay } ∷ a.lin;
      inv = left m₁ _ i t oe od;
      pinv = leave_p hs₁ m₁ _ _ i j t;
      lins = tick_l _ _ _ _ _ _ _ _ _ _ (refuse_l _ _ _ _ _ _ _ _ _ _ (quiet_l _ _ _ _ _ _ _ _ _ _ a.lins pp₁ safe₁ pps sks) (b.cur t) x
          (a.curs.lt t bt) fr f);
      curs = subst (CurI a.g.hp a.g.len a.g.who (λ n. release (own₁ n) (remove t (m₁.wait n))) a.g.base b.count
          (closes b now t x).op b.cur (record { by = b.cur t; at = now; what = nay } ∷ a.lin)) (sym th)
          (leave_c _ _ _ _ _ _ _ _ _ _ a.curs t _ (λ n. release (own₁ n) (remove t (m₁.wait n)))
          (record { by = b.cur t; at = now; what = nay } ∷ a.lin) bt (λ e h. inr h) (λ u ne f. other u ne f)
          (λ u h q ne o z. ob u h q ne o (rel_inv (own₁ h) (remove t (m₁.wait h)) (λ f. omega (arith, ap tag f)) z)));
      roots = a.roots;
      table = still_table;
      lents = still_lents;
    }
      where
        other : (u : ℕ) → b.cur u ≢ b.cur t → Fresh (b.cur u) a.lin → (e : Lin) → (e ≡ record { by = b.cur t; at = now; what = nay })
            ⊎ has_l e a.lin → e.by ≢ b.cur u
        other u ne f e (inl z) w = ne (sym w ∙ ap (λ y. y.by) z)
        other u ne f e (inr z) w = f e z w
