-- Nodes that change hands, and the beginning of an operation, keep the second layer.
use mathlib.Core.Path.{◌≡◌, refl, subst, ap}
use mathlib.Core.Bool.{Bool, true}
use mathlib.Core.Logic.{◌≢◌, ◌⊎◌, inl, inr}
use mathlib.Core.Option.{some}
use Prim.Native.Nat.{ℕ, pred, ◌≤◌, ◌<◌}
use native.Mathlib.Omega.{arith}
use native.Mathlib.Decide.{ℕ_discrete}
use Rattle.model.specs.Basics.{upd}
use Rattle.model.specs.Lines.{Line, of_head, of_node}
use Rattle.model.specs.Conf.{line_of}
use Rattle.model.specs.Core.{Th, Core, Node, a2, d1, d7}
use Rattle.model.specs.Changes.{set_last, set_th, set_free, set_held}
use Rattle.model.proofs.Basics.{upd_ind, upd_other, upd_at, facet}
use Rattle.model.proofs.Times.{Hist}
use Rattle.model.proofs.Layer1.Ghost.{Gh, Inv, Place, pos_of, waiting, deqd, kept, enqd, spare}
use Rattle.model.proofs.Layer1.Places.{before, tag}
use Rattle.model.proofs.Layer1.D4.{r}
use Rattle.model.proofs.Layer1.Hands.{own_g}
use Rattle.model.proofs.Layer1.D7.{begin_g}
use Rattle.model.proofs.Layer2.Contents.{Pg, NodeP, Quiet, Gone, Known, idx_mono}
use Rattle.model.proofs.Layer2.Invariant.{PInv, Facts, low_of, mark_of, facts_map}

-- ---- a change of hands that keeps the place in the log

module _ (hs : Hist) (m : Core) (g : Gh) (p : Pg) (j : PInv hs m g p) (n : ℕ) (o : Place) (po : pos_of o ≡ pos_of (g.own n))
    (qt : (c : Node) → hs.is (of_node n) c → Quiet (g.idx p.pp) c o) (gn : (q : ℕ) → q < g.len → g.who q ≡ n → Gone p.pp q o) where
  pub hands_p : NodeP g.len p.pp g.who g.idx p.item (upd g.own n o) m.node (λ n. hs.is (of_node n)) p.safe
  hands_p = record {
    cached = j.nodes.cached;
    linked = j.nodes.linked;
    quiet = λ k c h. upd_ind g.own n o (λ k x. hs.is (of_node k) c → Quiet (g.idx p.pp) c x) k (λ h. qt c h) (λ ne h. j.nodes.quiet k c h) h;
    gone = λ q h. gg q h (ℕ_discrete (g.who q) n);
    values = λ q l. j.nodes.values q (subst (λ f. f (g.who q) ≡ some q) (facet pos_of g.own n o po) l);
    safely = j.nodes.safely;
  }
    where
      gg : (q : ℕ) → q < g.len → Dec (g.who q ≡ n) → Gone p.pp q (upd g.own n o (g.who q))
      gg q h (yes f) = rw (upd_at g.own n o f) (gn q h f)
      gg q h (no f) = rw (upd_other g.own n o f) (j.nodes.gone q h)

  -- the facts of a thread that is not the new holder; its contents since its flush are sn
  pub hands_facts : (sn : Line → Node → Type 0) (u low : ℕ)
      → ((c : Node) → sn (of_head (line_of m.conf.engine u)) c → hs.since u (of_head (line_of m.conf.engine u)) c ⊎ (low_of m u ≤ c.index))
      → ((n : ℕ) (c : Node) → sn (of_node n) c → hs.since u (of_node n) c) → low_of m u ≤ low → ((q : ℕ) → o ≢ deqd u q)
      → Facts sn m.node g.who g.idx (upd g.own n o) (g.base u) g.len p.item p.pp p.safe low (mark_of m u) m.conf.engine u (m.thr u)
  hands_facts sn u low sh st lows ne = facts_map (hs.since u) sn m.node m.node g.who g.who g.idx g.idx g.own (upd g.own n o)
      (g.base u) g.len g.len p.item p.item p.pp p.pp p.safe p.safe (low_of m u) low (mark_of m u) (mark_of m u) m.conf.engine u
      (λ q h. refl) (λ q h. refl) (λ q h. refl) (λ q h s. s) (omega arith) (omega arith) lows (omega arith) sh (m.thr u) (λ n e. refl) (λ v n x e l. l)
      (λ v n x e l. (refl, λ c z. inl (st n c z))) (λ h q w f. (before g.own n o h (ne q) f).1) (j.facts u)

-- ---- changes of hands at A1, Worn out and D7

module _ (hs : Hist) (m : Core) (g : Gh) (p : Pg) (i : Inv m g) (j : PInv hs m g p) where
  -- from a place where nothing survives to another
  gone_of : (n q : ℕ) (o : Place) → g.own n ≡ o → q < g.len → g.who q ≡ n → Gone p.pp q o
  gone_of n q o f h w = rw (w, f) at (j.nodes.gone q h)

  quiet_of : (n : ℕ) (c : Node) (o : Place) → g.own n ≡ o → hs.is (of_node n) c → Quiet (g.idx p.pp) c o
  quiet_of n c o f h = rw f at (j.nodes.quiet n c h)

  pub A1P : (t v n : ℕ) (free : ℕ → Bool) → g.own n ≡ spare → PInv hs (set_th (set_last (set_free m free m.wait) n) t (a2 v n)) (own_g g n (enqd t)) p
  A1P t v n free o = record {
    head = j.head;
    nodes = hands_p hs m g p j n (enqd t) (rw o) (λ c h. quiet_of n c spare o h) (λ q h w. gone_of n q spare o h w);
    facts = λ u. upd_ind m.thr t (a2 v n) (λ u s. Facts (hs.since u) m.node g.who g.idx (upd g.own n (enqd t)) (g.base u) g.len p.item
        p.pp p.safe (low_of m u) (mark_of m u) m.conf.engine u s) u tt
        (λ ne. hands_facts hs m g p j n (enqd t) (rw o) (λ c h. quiet_of n c spare o h) (λ q h w. gone_of n q spare o h w) (hs.since u) u (low_of m u) (λ c z. inl z) (λ n c z. z) (omega arith)
        (λ q f. omega (arith, ap tag f)));
  }

  pub worn_p : (t n : ℕ) (free : ℕ → Bool) → g.own n ≡ enqd t → PInv hs (set_th (set_free m free m.wait) t d1) (own_g g n spare) p
  worn_p t n free o = record {
    head = j.head;
    nodes = hands_p hs m g p j n spare (rw o) (λ c h. quiet_of n c (enqd t) o h) (λ q h w. gone_of n q (enqd t) o h w);
    facts = λ u. upd_ind m.thr t d1 (λ u s. Facts (hs.since u) m.node g.who g.idx (upd g.own n spare) (g.base u) g.len p.item p.pp
        p.safe (low_of m u) (mark_of m u) m.conf.engine u s) u tt
        (λ ne. hands_facts hs m g p j n spare (rw o) (λ c h. quiet_of n c (enqd t) o h) (λ q h w. gone_of n q (enqd t) o h w) (hs.since u) u (low_of m u) (λ c z. inl z) (λ n c z. z) (omega arith)
        (λ q f. omega (arith, ap tag f)));
  }

  pub retired_p : (t n q : ℕ) (m' : Core) → g.own n ≡ kept t q → PInv hs
      (record {
        conf = m.conf;
        node = m.node;
        next = m.next;
        hnode = m.hnode;
        hidx = m.hidx;
        tail = m.tail;
        marks = m.marks;
        last = m.last;
        free = m'.free;
        wait = m'.wait;
        held = m'.held;
        thr = m.thr;
      }) (own_g g n (waiting q)) p
  retired_p t n q m' o = record {
    head = j.head;
    nodes = hands_p hs m g p j n (waiting q) (rw o) (λ c h. quiet_of n c (kept t q) o h) (λ r h w. gone_of n r (kept t q) o h w);
    facts = λ u. hands_facts hs m g p j n (waiting q) (rw o) (λ c h. quiet_of n c (kept t q) o h) (λ r h w. gone_of n r (kept t q) o h w) (hs.since u) u (low_of m u) (λ c z. inl z) (λ n c z. z) (omega arith) (λ r f. omega (arith, ap tag f));
  }

  pub holding_p : (t h v q : ℕ) → m.thr t ≡ d7 h v → g.own h ≡ deqd t q → PInv hs (set_th (set_held m t h) t d1) (own_g g h (kept t q)) p
  holding_p t h v q e o = record {
    head = j.head;
    nodes = hands_p hs m g p j h (kept t q) (rw o) qt gn;
    facts = λ u. upd_ind m.thr t d1 (λ u s. Facts (hs.since u) m.node g.who g.idx (upd g.own h (kept t q)) (g.base u) g.len p.item p.pp
        p.safe (low_of m u) (mark_of m u) m.conf.engine u s) u tt
        (λ ne. hands_facts hs m g p j h (kept t q) (rw o) qt gn (hs.since u) u (low_of m u) (λ c z. inl z) (λ n c z. z) (omega arith) (λ r f. omega (arith, ap tag f)));
  }
    where
      past : q < p.pp
      past = (let f : Facts (hs.since t) m.node g.who g.idx g.own (g.base t) g.len p.item p.pp p.safe (low_of m t) (mark_of m t)
          m.conf.engine t (d7 h v) = rw e at (j.facts t) in f q o).1

      either : (r : ℕ) → (r ≡ q) ⊎ (r < p.pp) → r < p.pp
      either r (inl f) = omega (arith, past)
      either r (inr f) = f

      gn : (r : ℕ) → r < g.len → g.who r ≡ h → r < p.pp
      gn r l w = either r (gone_of h r (deqd t q) o l w)

      known : (c : Node) → (c.index ≤ g.idx p.pp) ⊎ Known g.who g.idx p.item g.len h c → c.index ≤ g.idx p.pp
      known c (inl a) = a
      known c (inr k) = let w = idx_mono g.idx g.len i.log.rising k.at p.pp (omega (arith, gn k.at k.inside k.is))
          (omega (arith, j.head.pp_hp, i.log.hp_in)) in omega (arith, k.ix)

      qt : (c : Node) → hs.is (of_node h) c → c.linked ≡ true → c.index ≤ g.idx p.pp
      qt c l z = known c (j.nodes.linked h c l z)

  -- the beginning of an operation
  pub begin_p : (t : ℕ) (s : Th) → ((b : ℕ) → Facts (hs.since t) m.node g.who g.idx g.own b g.len p.item p.pp p.safe (low_of m t)
      (mark_of m t) m.conf.engine t s) → PInv hs (set_th m t s) (begin_g g t) p
  begin_p t s f = record {
    head = j.head;
    nodes = j.nodes;
    facts = λ u. upd_ind m.thr t s (λ u s. Facts (hs.since u) m.node g.who g.idx g.own (upd g.base t (pred g.hp) u) g.len p.item p.pp
        p.safe (low_of m u) (mark_of m u) m.conf.engine u s) u (f _)
        (λ ne. rw (upd_other g.base t (pred g.hp) ne) (j.facts u));
  }
