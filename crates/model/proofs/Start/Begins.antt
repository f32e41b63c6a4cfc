-- A start establishes the whole invariant.
use mathlib.Core.Path.{◌≡◌, refl, sym, subst, ap, ◌∙◌}
use mathlib.Core.Bool.{Bool, true, false, not}
use mathlib.Core.List.{List, [], ◌∷◌, map}
use mathlib.Core.Logic.{◌≢◌, ◌⊎◌, inl, inr, ◌↔◌}
use mathlib.Core.Option.{Option, none, some}
use Prim.Native.Nat.{ℕ, zero, suc, ◌+◌, ◌≤◌, ◌<◌}
use native.Mathlib.Omega.{arith}
use native.Mathlib.Decide.{dec_lt}
use lib.Dec.{eqb, eqb_refl, ltb, ltb→lt}
use lib.ListN.{length, get_or}
use lib.Seq.{take-length}
use Rattle.model.specs.Basics.{sel, bothb, has}
use Rattle.model.specs.Lines.{Line, of_head, of_node}
use Rattle.model.specs.Conf.{head_lines}
use Rattle.model.specs.Core.{idle, Core, content, Node, with_index}
use Rattle.model.specs.Choice.{lowest}
use Rattle.model.specs.Recovery.{link_up, last_of, Image, head_of, image_has, recovered, queue_of, or_zero, start, start', items_of}
use Rattle.model.specs.Machine.{starts}
use Rattle.model.specs.Bench.{new_book}
use Rattle.model.specs.Demand3.{Fit}
use Rattle.model.proofs.Basics.{upd_ind, upd_other, upd_same, yes_of, T_of, eq_no, lt_no, lt_true, both_of, not_true, not_of}
use Rattle.model.proofs.Times.{Hist, hist_of, start_has, start_here}
use Rattle.model.proofs.Layer1.Ghost.{lent, Gh, Inv, Place, queue, spare, off, Marks, Spot}
use Rattle.model.proofs.Layer2.Contents.{Pg, Known, Quiet}
use Rattle.model.proofs.Layer2.Invariant.{PInv}
use Rattle.model.proofs.Queue.Serve.{seg}
use Rattle.model.proofs.Queue.Sorted.{Up, q_in, q_all, q_up}
use Rattle.model.proofs.Layer3.All.{All}
use Rattle.model.proofs.Start.Lists.{find, has_get_d, up_get_or, find_is, find_no, find_at, last_at, link_next, link_last, up_ext, seg_list}
use Rattle.model.proofs.Start.Lists.{lowest_some}
use Rattle.model.proofs.Start.Parts.{not_rec, place_of, idle_not, none_not, holders, waitss, not_kept, is_lent, inside₀, heads₀}

-- a start of this queue: d is the dummy, nd what the nodes hold at its end, free which are free, ls which are with another queue
pub record Opens (g : Image) (ls : ℕ → Bool) (d : ℕ) (nd : ℕ → Node) (free : ℕ → Bool) : Type 0 where
  pub lined : 0 < head_lines g.conf
  pub twins : (n k : ℕ) → n < g.conf.nodes → k < n → recovered (head_of g) (g.at n) ≡ true → recovered (head_of g) (g.at k) ≡ true
      → (g.at n).index ≢ (g.at k).index
  pub tidy : (n : ℕ) → g.conf.nodes ≤ n → recovered (head_of g) (g.at n) ≡ false
  pub inside : d < g.conf.nodes
  pub dummy : recovered (head_of g) (g.at d) ≡ false
  pub index : (nd d).index ≡ head_of g
  pub kept : (n : ℕ) → recovered (head_of g) (g.at n) ≡ true → nd n ≡ g.at n
  pub low : (n : ℕ) → recovered (head_of g) (g.at n) ≡ false → (nd n).linked ≡ true → (nd n).index ≤ head_of g
  pub away : (n : ℕ) → ls n ≡ true → (n < g.conf.nodes) × (n ≢ d) × (recovered (head_of g) (g.at n) ≡ false)
  pub frees : (n : ℕ) → free n ≡ bothb (ltb n g.conf.nodes) (bothb (not (eqb n d)) (bothb (not (recovered (head_of g) (g.at n))) (not (ls n))))

-- the core then
abbrev pub opened : Image → (d last : ℕ) (nd : ℕ → Node) (free : ℕ → Bool) → Core
opened g d last nd free = record {
  conf = g.conf;
  node = nd;
  next = link_up d (queue_of g.at (head_of g) g.conf.nodes);
  hnode = d;
  hidx = head_of g;
  tail = last_of d (queue_of g.at (head_of g) g.conf.nodes);
  marks = g.heads;
  last = last;
  free = free;
  wait = λ n. [];
  held = λ t. none;
  thr = λ t. idle;
}

module _ (g : Image) (ls : ℕ → Bool) (d last : ℕ) (nd : ℕ → Node) (free : ℕ → Bool) (op : Opens g ls d nd free) where
  abbrev mk : Core
  mk = opened g d last nd free

  abbrev L : List ℕ
  L = d ∷ queue_of g.at (head_of g) g.conf.nodes

  abbrev key : ℕ → ℕ
  key n = (nd n).index

  in_q : (n : ℕ) → has n (queue_of g.at (head_of g) g.conf.nodes) → (n < g.conf.nodes) × (recovered (head_of g) (g.at n) ≡ true)
  in_q n h = q_in g.at (head_of g) g.conf.nodes n h

  rec_ne : (n : ℕ) → recovered (head_of g) (g.at n) ≡ true → n ≢ d
  rec_ne n r z = let w : recovered (head_of g) (g.at d) ≡ true = rw (← z) r in let v = op.dummy in let y : ◌≡◌ {A = ℕ} 0 1 = cc in omega arith

  up : Up key L
  up = (
    (λ y h. let r = in_q y h in
        let lt : head_of g < (g.at y).index = ltb→lt (head_of g) (g.at y).index (T_of _ (both_of (g.at y).linked _ r.1).1) in
        let b : key y ≡ (g.at y).index = ap (λ z. z.index) (op.kept y r.1) in
        omega (arith, op.index)),
    up_ext (λ n. (g.at n).index) key (queue_of g.at (head_of g) g.conf.nodes) (λ x h. ap (λ z. z.index) (op.kept x (in_q x h).1))
        (q_up g.at (head_of g) g.conf.nodes (λ n k a b. op.twins n k a b)),
  )

  abbrev who₀ : ℕ → ℕ
  who₀ p = get_or L p 0

  abbrev own₀ : ℕ → Place
  own₀ n = place_of g.conf.nodes ls n (find n L)

  abbrev gh : Gh
  gh = record {
    len = suc (length (queue_of g.at (head_of g) g.conf.nodes));
    hp = 0;
    tp = length (queue_of g.at (head_of g) g.conf.nodes);
    who = who₀;
    idx = λ p. key (who₀ p);
    own = own₀;
    base = λ t. 0;
  }

  abbrev pg : Pg
  pg = record { item = λ p. (nd (who₀ p)).item; pp = 0; safe = λ p. true }

  own_at : (p : ℕ) → p < length L → own₀ (who₀ p) ≡ queue p
  own_at p h = ap (place_of g.conf.nodes ls (who₀ p)) (find_at key L up p h)

  -- a node outside the queue
  out : (n : ℕ) → find n L ≡ none → recovered (head_of g) (g.at n) ≡ false
  out n e = by (dec_lt n g.conf.nodes) (recovered (head_of g) (g.at n)) refl
    where
      by : Dec (n < g.conf.nodes) → (b : Bool) → recovered (head_of g) (g.at n) ≡ b → recovered (head_of g) (g.at n) ≡ false
      by (yes h) true r = absurd (find_no n L e (inr (q_all g.at (head_of g) g.conf.nodes n h r)))
      by (yes h) false r = r
      by (no h) b r = op.tidy n (omega arith)

  -- what is to be shown of each node, by where it is found
  spots : (n : ℕ) (o : Option ℕ) → find n L ≡ o → Spot who₀ 0 (length L) n (place_of g.conf.nodes ls n o)
  spots n none e = by (ltb n g.conf.nodes) (ls n)
    where
      by : (b c : Bool) → Spot who₀ 0 (length L) n (sel b (sel c lent spare) off)
      by true true = tt
      by true false = tt
      by false c = tt
  spots n (some p) e = let w = find_is n L p e in (w.1, omega arith, w.0)

  markss : (n : ℕ) (o : Option ℕ) → find n L ≡ o → Marks (free n) [] (place_of g.conf.nodes ls n o)
  markss n none e = by (ltb n g.conf.nodes) refl (ls n) refl
    where
      ne : n ≢ d
      ne z = find_no n L e (inl z)

      by : (b : Bool) → ltb n g.conf.nodes ≡ b → (c : Bool) → ls n ≡ c → Marks (free n) [] (sel b (sel c lent spare) off)
      by true b true c = (op.frees n ∙ rw (b, eq_no n d ne, out n e, c) refl, refl)
      by true b false c = (op.frees n ∙ rw (b, eq_no n d ne, out n e, c) refl, refl)
      by false b c f = (op.frees n ∙ rw b refl, refl)
  markss n (some p) e = (op.frees n ∙ inl_or (find_is n L p e), refl)
    where
      never : (n : ℕ) → (n ≡ d) ⊎ has n (queue_of g.at (head_of g) g.conf.nodes)
          → bothb (ltb n g.conf.nodes) (bothb (not (eqb n d)) (bothb (not (recovered (head_of g) (g.at n))) (not (ls n)))) ≡ false
      never n (inl z) = by (ltb n g.conf.nodes)
        where
          by : (b : Bool) → bothb b (bothb (not (eqb n d)) (bothb (not (recovered (head_of g) (g.at n))) (not (ls n)))) ≡ false
          by true = rw (z, yes_of (eqb d d) (eqb_refl d)) refl
          by false = refl
      never n (inr z) = by (ltb n g.conf.nodes) (eqb n d)
        where
          by : (b c : Bool) → bothb b (bothb (not c) (bothb (not (recovered (head_of g) (g.at n))) (not (ls n)))) ≡ false
          by true true = refl
          by true false = rw (in_q n z).1 refl
          by false c = refl

      inl_or : (p < length L) × (get_or L p 0 ≡ n)
          → bothb (ltb n g.conf.nodes) (bothb (not (eqb n d)) (bothb (not (recovered (head_of g) (g.at n))) (not (ls n)))) ≡ false
      inl_or w = never n (subst (λ y. has y L) w.1 (has_get_d L p w.0))

  inv₀ : Inv mk gh
  inv₀ = record {
    log = record {
      rising = λ p r h k. up_get_or key L up p r h k;
      hp_in = omega arith;
      head_at = refl;
      head_ix = sym op.index;
      tail_at = last_at d (queue_of g.at (head_of g) g.conf.nodes);
      tail_in = omega arith;
      tail_near = omega arith;
    };
    place = record {
      queued = λ r a b. own_at r b;
      marks = λ n. markss n (find n L) refl;
      spot = λ n. spots n (find n L) refl;
      holder = λ n. holders g.conf.nodes ls _ _ _ n (find n L);
      enq_own = λ t n e. none_not n e;
      deq_own = λ t n e. none_not n e;
      held_own = λ t n e. none_not n e;
      apart = λ t n n' r r' a b. absurd (not_kept g.conf.nodes ls n (find n L) a);
    };
    link = record {
      links = λ r l h. link_next key d (queue_of g.at (head_of g) g.conf.nodes) up r h;
      last = λ r l h. link_last key d (queue_of g.at (head_of g) g.conf.nodes) up r h;
      indices = λ r l. refl;
    };
    alive = record { live = λ t b r x y. idle_not b; base_lo = λ t b. idle_not b; range = λ t b. idle_not b; prev = λ r e. absurd (omega arith) };
    waits = record { awaits = λ n. waitss g.conf.nodes ls _ _ (mk.wait n) n (find n L) };
    threads = record { refs = λ t. tt; mine = λ t. tt };
  }

  key₀ : key d ≡ head_of g
  key₀ = op.index

  -- a content that is linked is dead, or that of a recovered node
  linked₀ : (n : ℕ) (c : Node) → (c ≡ g.at n) ⊎ (c ≡ nd n) → c.linked ≡ true
      → (c.index ≤ key d) ⊎ Known who₀ (λ p. key (who₀ p)) (λ p. (nd (who₀ p)).item) (length L) n c
  linked₀ n c e l = by (find n L) refl (recovered (head_of g) (g.at n)) refl e
    where
      same : recovered (head_of g) (g.at n) ≡ true → (c ≡ g.at n) ⊎ (c ≡ nd n) → c ≡ nd n
      same r (inl z) = z ∙ sym (op.kept n r)
      same r (inr z) = z

      by : (o : Option ℕ) → find n L ≡ o → (b : Bool) → recovered (head_of g) (g.at n) ≡ b → (c ≡ g.at n) ⊎ (c ≡ nd n)
          → (c.index ≤ key d) ⊎ Known who₀ (λ p. key (who₀ p)) (λ p. (nd (who₀ p)).item) (length L) n c
      by o f false r (inl e) = inl (omega (arith, key₀, not_rec (head_of g) (g.at n) r (sym (ap (λ z. z.linked) e) ∙ l), ap (λ z. z.index) e))
      by o f false r (inr e) = inl (omega (arith, key₀, op.low n r (sym (ap (λ z. z.linked) e) ∙ l), ap (λ z. z.index) e))
      by none f true r e = let z = out n f in let y : ◌≡◌ {A = ℕ} 0 1 = cc in absurd (omega arith)
      by (some p) f true r e = let w = find_is n L p f in let s = same r e in
          inr (record {
            at = p;
            inside = w.0;
            is = w.1;
            ix = ap key w.1 ∙ sym (ap (λ z. z.index) s);
            val = ap (λ y. (nd y).item) w.1 ∙ sym (ap (λ z. z.item) s);
          })

  quiet₀ : (n : ℕ) (c : Node) (o : Option ℕ) → find n L ≡ o → (c ≡ g.at n) ⊎ (c ≡ nd n) → Quiet (key d) c (place_of g.conf.nodes ls n o)
  quiet₀ n c (some p) f h = tt
  quiet₀ n c none f h = by (ltb n g.conf.nodes) (ls n)
    where
      small : (c ≡ g.at n) ⊎ (c ≡ nd n) → c.linked ≡ true → c.index ≤ key d
      small (inl e) l = omega (arith, key₀, not_rec (head_of g) (g.at n) (out n f) (sym (ap (λ z. z.linked) e) ∙ l), ap (λ z. z.index) e)
      small (inr e) l = omega (arith, key₀, op.low n (out n f) (sym (ap (λ z. z.linked) e) ∙ l), ap (λ z. z.index) e)

      by : (b c' : Bool) → Quiet (key d) c (sel b (sel c' lent spare) off)
      by true true = small h
      by true false = small h
      by false c' = small h

  safe₀ : (p : ℕ) → p < length L → (p ≤ 0) ⊎ ((c : Node) → (c ≡ g.at (who₀ p)) ⊎ (c ≡ nd (who₀ p)) → (c.linked ≡ true) × (c.index ≡ key (who₀ p)))
  safe₀ zero h = inl (omega arith)
  safe₀ (suc p) h = inr (λ c k. by c k)
    where
      r : recovered (head_of g) (g.at (who₀ (suc p))) ≡ true
      r = (in_q (who₀ (suc p)) (has_get_d (queue_of g.at (head_of g) g.conf.nodes) p (omega arith))).1

      one : (c : Node) → c ≡ nd (who₀ (suc p)) → (c.linked ≡ true) × (c.index ≡ key (who₀ (suc p)))
      one c e = (
        ap (λ z. z.linked) (e ∙ op.kept (who₀ (suc p)) r) ∙ (both_of (g.at (who₀ (suc p))).linked _ r).0,
        ap (λ z. z.index) e,
      )

      by : (c : Node) → (c ≡ g.at (who₀ (suc p))) ⊎ (c ≡ nd (who₀ (suc p))) → (c.linked ≡ true) × (c.index ≡ key (who₀ (suc p)))
      by c (inl e) = one c (e ∙ sym (op.kept (who₀ (suc p)) r))
      by c (inr e) = one c e

  -- the contents hs of the lines: what was persisted, and what is cached
  module _ (hs : Hist) (only : (l : Line) (c : Node) → hs.is l c → (c ≡ image_has g l) ⊎ (c ≡ content mk l)) (here : (l : Line) → hs.is l (content mk l)) where
    pinv₀ : PInv hs mk gh pg
    unfolding head_of
    pinv₀ = record {
      head = heads₀ g (λ p. key (who₀ p)) key₀ g.conf.engine g.conf.threads (λ k. hs.is (of_head k)) (λ k c. only (of_head k) c) (λ k. here (of_head k)) op.lined refl;
      nodes = record {
        cached = λ n. here (of_node n);
        linked = λ n c h l. linked₀ n c (only (of_node n) c h) l;
        quiet = λ n c h. quiet₀ n c (find n L) refl (only (of_node n) c h);
        gone = λ p h. rw (own_at p h) (inl refl);
        values = λ r l. refl;
        safely = λ p h s. sf p (safe₀ p h);
      };
      facts = λ t. tt;
    }
      where
        sf : (p : ℕ) → (p ≤ 0) ⊎ ((c : Node) → (c ≡ g.at (who₀ p)) ⊎ (c ≡ nd (who₀ p)) → (c.linked ≡ true) × (c.index ≡ key (who₀ p)))
            → (p ≤ 0) ⊎ ((c : Node) → hs.is (of_node (who₀ p)) c → (c.linked ≡ true) × (c.index ≡ key (who₀ p)))
        sf p (inl z) = inl z
        sf p (inr f) = inr (λ c h. f c (only (of_node (who₀ p)) c h))

  roots₀ : items_of g ≡ seg (λ p. (nd (who₀ p)).item) (λ k. true) 0 (length L)
  unfolding items_of
  roots₀ = ap (map (λ n. (g.at n).item)) (sym (take-length (queue_of g.at (head_of g) g.conf.nodes)))
      ∙ sym (seg_list (λ n. (g.at n).item) (λ p. (nd (who₀ p)).item) (queue_of g.at (head_of g) g.conf.nodes)
      (λ p h. ap (λ z. z.item) (op.kept _ (in_q _ (has_get_d (queue_of g.at (head_of g) g.conf.nodes) p h)).1))
      (length (queue_of g.at (head_of g) g.conf.nodes))
      (omega arith))

  table₀ : (n : ℕ) → g.conf.nodes ≤ n → own₀ n ≡ off
  table₀ n h = by (find n L) refl
    where
      under : (n ≡ d) ⊎ has n (queue_of g.at (head_of g) g.conf.nodes) → n < g.conf.nodes
      under (inl z) = omega (arith, op.inside)
      under (inr z) = (in_q n z).0

      by : (o : Option ℕ) → find n L ≡ o → place_of g.conf.nodes ls n o ≡ off
      by none e = rw (lt_no n g.conf.nodes h) refl
      by (some p) e = let w = find_is n L p e in absurd (omega (arith, under (subst (λ y. has y L) w.1 (has_get_d L p w.0))))

  lents₀ : (n : ℕ) → (own₀ n ≡ lent) ↔ (ls n ≡ true)
  lents₀ n = (is_lent g.conf.nodes ls n (find n L), λ h. by (find n L) refl (op.away n h) h)
    where
      other : (n ≡ d) ⊎ has n (queue_of g.at (head_of g) g.conf.nodes) → (n ≢ d) × (recovered (head_of g) (g.at n) ≡ false) → ⊥
      other (inl z) f = f.0 z
      other (inr z) f = let r = (in_q n z).1 in let s = f.1 in let y : ◌≡◌ {A = ℕ} 0 1 = cc in omega arith

      by : (o : Option ℕ) → find n L ≡ o → (n < g.conf.nodes) × (n ≢ d) × (recovered (head_of g) (g.at n) ≡ false) → ls n ≡ true
          → place_of g.conf.nodes ls n o ≡ lent
      by none e f h = rw (lt_true n g.conf.nodes f.0, h) refl
      by (some p) e f h = let w = find_is n L p e in absurd (other (subst (λ y. has y L) w.1 (has_get_d L p w.0)) (f.1, f.2))

  pub opens_all : (hs : Hist) → ((l : Line) (c : Node) → hs.is l c → (c ≡ image_has g l) ⊎ (c ≡ content mk l)) → ((l : Line) → hs.is l (content mk l))
      → (now : ℕ) → All ls hs mk new_book (items_of g) now
  opens_all hs only here now = record {
    g = gh;
    p = pg;
    first = length L;
    lin = [];
    inv = inv₀;
    pinv = pinv₀ hs only here;
    lins = record {
      sound = (refl, refl);
      notwo = tt;
      falling = tt;
      entries = λ e h. absurd h;
      said_in = λ o h s. absurd (omega arith);
      began = λ o h. absurd (omega arith);
      rooted = λ p h. refl;
    };
    curs = record { lt = λ t b. idle_not b; pending = λ t b. idle_not b; apart = λ t u b c e. idle_not b; state = λ t b. idle_not b };
    roots = roots₀;
    table = λ n. (table₀ n, inside₀ g.conf.nodes ls n (find n L));
    lents = lents₀;
  }

-- ---- the start of one queue: the dummy is the lowest-numbered node that is not recovered

module _ (g : Image) (ft : Fit g) (ty : (n : ℕ) → g.conf.nodes ≤ n → recovered (head_of g) (g.at n) ≡ false) where
  low : (r : ℕ) × (lowest g.conf.nodes 0 (λ n. not (recovered (head_of g) (g.at n))) ≡ some r) × (not (recovered (head_of g) (g.at r)) ≡ true)
      × (r < 0 + g.conf.nodes)
  low = lowest_some g.conf.nodes 0 (λ n. not (recovered (head_of g) (g.at n))) ft.spare.0 (omega arith) (omega (arith, ft.spare.1))
      (not_of _ ft.spare.2)

  abbrev first : Core
  first = start' g low.0 (queue_of g.at (head_of g) g.conf.nodes)

  is_start : start g ≡ first
  is_start = ap (λ o. start' g (or_zero o) (queue_of g.at (head_of g) g.conf.nodes)) low.1

  d_no : recovered (head_of g) (g.at low.0) ≡ false
  d_no = not_true _ low.2

  opens : Opens g (λ n. false) low.0 first.node first.free
  unfolding start'
  opens = record {
    lined = ft.lined;
    twins = ft.twins;
    tidy = ty;
    inside = omega (arith, low.3);
    dummy = d_no;
    index = ap (λ z. z.index) (upd_same g.at low.0 (with_index (g.at low.0) (head_of g)));
    kept = λ n r. upd_other g.at low.0 (with_index (g.at low.0) (head_of g))
        (λ z. let w : recovered (head_of g) (g.at low.0) ≡ true = rw (← z) r in let v : recovered (head_of g) (g.at low.0) ≡ false = d_no in let y : ◌≡◌ {A = ℕ} 0 1 = cc in omega arith);
    low = λ n r. upd_ind g.at low.0 (with_index (g.at low.0) (head_of g)) (λ n c. recovered (head_of g) (g.at n) ≡ false → c.linked ≡ true → c.index ≤ head_of g) n
        (λ r l. omega arith) (λ ne r l. not_rec (head_of g) (g.at n) r l) r;
    away = λ n h. let z : ◌≡◌ {A = ℕ} 0 1 = cc in absurd (omega arith);
    frees = λ n. ap (λ x. bothb (ltb n g.conf.nodes) (bothb (not (eqb n low.0)) x)) (and_true (not (recovered (head_of g) (g.at n))));
  }
    where
      and_true : (b : Bool) → b ≡ bothb b true
      and_true true = refl
      and_true false = refl

  all₀ : (hs : Hist) → ((l : Line) (c : Node) → hs.is l c → (c ≡ image_has g l) ⊎ (c ≡ content first l)) → ((l : Line) → hs.is l (content first l))
      → (now : ℕ) → All (λ n. false) hs first new_book (items_of g) now
  unfolding start'
  all₀ = opens_all g (λ n. false) low.0 low.0 first.node first.free opens

  pub begins : (hs : Hist) → ((l : Line) (c : Node) → hs.is l c → (c ≡ image_has g l) ⊎ (c ≡ content (start g) l)) → ((l : Line) → hs.is l (content (start g) l))
      → (now : ℕ) → All (λ n. false) hs (start g) new_book (items_of g) now
  begins hs = subst (λ m. ((l : Line) (c : Node) → hs.is l c → (c ≡ image_has g l) ⊎ (c ≡ content m l)) → ((l : Line) → hs.is l (content m l))
      → (now : ℕ) → All (λ n. false) hs m new_book (items_of g) now) (sym is_start) (all₀ hs)

  pub start_all : (now : ℕ) → All (λ n. false) (hist_of (starts g)) (start g) new_book (items_of g) now
  start_all = begins (hist_of (starts g)) (start_has g) (start_here g)
