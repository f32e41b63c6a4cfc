-- Stores, persists, write-backs and answers keep the second layer.
use mathlib.Core.Path.{◌≡◌, refl, sym, subst, ap, ◌∙◌}
use mathlib.Core.Bool.{true}
use mathlib.Core.List.{List, [], ◌∷◌}
use mathlib.Core.Logic.{◌⊎◌, inl, inr}
use mathlib.Core.Option.{some}
use Prim.Native.Nat.{ℕ, suc, ◌≤◌, ◌<◌}
use native.Mathlib.Omega.{arith}
use Rattle.model.specs.Basics.{upd}
use Rattle.model.specs.Lines.{Line, of_head, of_node, nowhere, stores, issues}
use Rattle.model.specs.Conf.{line_ix, head_lines}
use Rattle.model.specs.Core.{a10f, busy, Th, Core, Node, content, idle, a9, a10, a11}
use Rattle.model.specs.Changes.{set_th, store}
use Rattle.model.specs.Steps.{leave, remove}
use Rattle.model.specs.Places.{owns_e}
use Rattle.model.proofs.Basics.{upd_ind, upd_other, upd_same}
use Rattle.model.proofs.Lines.{no_line}
use Rattle.model.proofs.Times.{Hist, Grown}
use Rattle.model.proofs.Layer1.Ghost.{lent_w, lent, Gh, Inv, Place, pos_of, queue, waiting, deqd, kept, enqd, spare, off, poss, Live, Lnk, ixs}
use Rattle.model.proofs.Layer1.Places.{tag}
use Rattle.model.proofs.Layer1.Memory.{not_live}
use Rattle.model.proofs.Layer1.Leave.{leave_g, release, rel_inv, rel_pos}
use Rattle.model.proofs.Layer2.Contents.{Pg, Quiet, Gone, stored_p, fewer_n, pp_up, idx_mono, NodeP}
use Rattle.model.proofs.Layer2.Heads.{Kept, kept_h, fewer_h}
use Rattle.model.proofs.Layer2.Invariant.{PInv, Facts, FactsOf, low_of, mark_of, facts_map, fewer_p, same_facts}
use native.Mathlib.Decide.{ℕ_discrete}
use Rattle.model.proofs.Layer1.D4.{r}

pub node_eq : (a b : Node) → a.linked ≡ b.linked → a.index ≡ b.index → a.item ≡ b.item → a ≡ b
node_eq a b l x v = λ j. record { linked = l j; index = x j; item = v j }

-- a store to a node's line: that line gains the content, the others nothing
pub node_more : (hs hs' : Hist) (con : Line → Node) (n : ℕ) (a : Node) → con (of_node n) ≡ a → Grown (stores (of_node n)) con hs hs' → (k : ℕ) (c : Node) → hs'.is (of_node k) c
    → hs.is (of_node k) c ⊎ ((k ≡ n) × (c ≡ a))
node_more hs hs' con n a e w k c h = by (w.made (of_node k) c h)
  where
    by : hs.is (of_node k) c ⊎ ((of_node k ≡ of_node n) × (c ≡ con (of_node n))) → hs.is (of_node k) c ⊎ ((k ≡ n) × (c ≡ a))
    by (inl z) = inl z
    by (inr z) = let f = z.0 in inr (cc, z.1 ∙ e)

pub head_rest : (hs hs' : Hist) (con : Line → Node) (n : ℕ) → Grown (stores (of_node n)) con hs hs' → (k : ℕ) (c : Node) → hs'.is (of_head k) c → hs.is (of_head k) c
head_rest hs hs' con n w k c h = by (w.made (of_head k) c h)
  where
    by : hs.is (of_head k) c ⊎ ((of_head k ≡ of_node n) × (c ≡ con (of_node n))) → hs.is (of_head k) c
    by (inl z) = z
    by (inr z) = no_line k n z.0

module _ (hs : Hist) (m : Core) (g : Gh) (p : Pg) (i : Inv m g) (j : PInv hs m g p) where
  -- the facts of another thread, where a node's line is stored to
  pub kept_facts : (hs' : Hist) (n : ℕ) (a : Node) → Grown (stores (of_node n)) (content (store m n a)) hs hs' → (u : ℕ)
      → ((k : ℕ) → owns_e (m.thr u) ≡ some k → upd m.node n a k ≡ m.node k)
      → ((v k x : ℕ) → m.thr u ≡ a10 v k x → (m.node k).linked ≡ true → (upd m.node n a k).linked ≡ true)
      → ((v k x : ℕ) → m.thr u ≡ a10f v k x → (m.node k).linked ≡ true → upd m.node n a k ≡ m.node k)
      → FactsOf hs' (store m n a) g p u (m.thr u)
  kept_facts hs' n a w u fn fl fs = facts_map (hs.since u) (hs'.since u) m.node (upd m.node n a) g.who g.who g.idx g.idx g.own
      g.own (g.base u) g.len g.len p.item
      p.item p.pp p.pp p.safe p.safe (low_of m u) (low_of m u) (mark_of m u) (mark_of m u) m.conf.engine u
      (λ q h. refl) (λ q h. refl) (λ q h. refl) (λ q h s. s) (omega arith) (omega arith) (omega arith) (omega arith)
      (λ c z. inl (on_h _ c (w.later u _ c z))) (m.thr u) fn fl
      (λ v k x e l. (fs v k x e l, λ c z. on_n k c (fs v k x e l) (w.later u (of_node k) c z))) (λ h q o e. e) (j.facts u)
    where
      on_h : (k : ℕ) (c : Node) → hs.since u (of_head k) c ⊎ ((of_head k ≡ of_node n) × (c ≡ content (store m n a) (of_node n))) → hs.since u (of_head k) c
      on_h k c (inl z) = z
      on_h k c (inr z) = no_line k n z.0

      on_n : (k : ℕ) (c : Node) → upd m.node n a k ≡ m.node k → hs.since u (of_node k) c ⊎ ((of_node k ≡ of_node n) × (c ≡ content (store m n a) (of_node n)))
          → hs.since u (of_node k) c ⊎ (c ≡ m.node k)
      on_n k c e (inl z) = inl z
      on_n k c e (inr z) = let f = z.0 in let kn : k ≡ n = cc in inr (z.1 ∙ ap (upd m.node n a) (sym kn) ∙ e)

  -- a node past its A9 is live
  pub linked_live : (u n x : ℕ) → busy (m.thr u) ≡ true → Lnk g.who (g.base u) g.len x n → (q : ℕ) × (g.who q ≡ n) × Live g.who (poss g.own) q
  linked_live u n x b l = (suc l.pos, l.then, i.alive.live u b (suc l.pos) (omega (arith, l.lo)) l.hi)

  -- a store to a node that an enqueue owns
  pub store_p : (hs' : Hist) (t n : ℕ) (c : Node) (s : Th) → Grown (stores (of_node n)) (content (store m n c)) hs hs'
      → g.own n ≡ enqd t → (c.linked ≡ true → c.index ≤ g.idx p.pp) → FactsOf hs' (store m n c) g p t s → PInv hs' (set_th (store m n c) t s) g p
  store_p hs' t n c s w o q f = record {
    head = fewer_h _ _ _ g.len _ _ _ i.log.rising i.log.hp_in j.head (λ k. hs'.is (of_head k)) (head_rest hs hs' _ n w) (λ k. w.here (of_head k));
    nodes = stored_p g.len p.pp g.who g.idx p.item g.own m.node (λ n. hs.is (of_node n)) (λ n. hs'.is (of_node n)) p.safe j.nodes n c
        (node_more hs hs' _ n c (upd_same m.node n c) w) (λ k. w.here (of_node k))
        (λ l. inl (q l)) (rw o q) (λ r l e. absurd (not_live m g i t n r o l e))
        (λ r h e s. inl (let k : Gone p.pp r (enqd t) = rw (e, o) at (j.nodes.gone r h) in omega arith));
    facts = λ u. upd_ind m.thr t s (λ u s. FactsOf hs' (store m n c) g p u s) u f
        (λ ne. kept_facts hs' n c w u
        (λ k e. upd_other m.node n c (λ z. ne (let a : g.own k ≡ enqd u = i.place.enq_own u k e in let b : g.own k ≡ enqd t = rw z o in cc)))
        (λ v k x e l. ap (λ z. z.linked) (apart (linked_live u k x (rw e) (rw e at (i.threads.refs u)))) ∙ l)
        (λ v k x e l. apart (linked_live u k x (rw e) (rw e at (i.threads.refs u)))));
  }
    where
      apart : {k : ℕ} → (q : ℕ) × (g.who q ≡ k) × Live g.who (poss g.own) q → upd m.node n c k ≡ m.node k
      apart {k} w = upd_other m.node n c (λ z. not_live m g i t n w.0 o w.2 (w.1 ∙ z))

  -- A9: linked is set on a node that is in the log
  pub A9P : (hs' : Hist) (t v n x : ℕ) (c : Node) → Grown (stores (of_node n)) (content (store m n c)) hs hs'
      → m.thr t ≡ a9 v n x → c.linked ≡ true → c.index ≡ (m.node n).index → c.item ≡ (m.node n).item → PInv hs' (set_th (store m n c) t (a10 v n x)) g p
  A9P hs' t v n x c w e cl ci cv = record {
    head = fewer_h _ _ _ g.len _ _ _ i.log.rising i.log.hp_in j.head (λ k. hs'.is (of_head k)) (head_rest hs hs' _ n w) (λ k. w.here (of_head k));
    nodes = stored_p g.len p.pp g.who g.idx p.item g.own m.node (λ n. hs.is (of_node n)) (λ n. hs'.is (of_node n)) p.safe j.nodes n c
        (node_more hs hs' _ n c (upd_same m.node n c) w) (λ k. w.here (of_node k))
        (λ z. inr (record { at = suc l.pos; inside = l.hi; is = l.then; ix = sym (ci ∙ ix); val = sym (cv ∙ val) }))
        (qt (g.own n) refl)
        (λ q lq w. cv ∙ ap (λ k. (m.node k).item) (sym w) ∙ j.nodes.values q lq)
        (λ r h w s. sf r (g.own n) lv (rw w at (j.nodes.gone r h)));
    facts = λ u. upd_ind m.thr t (a10 v n x) (λ u s. FactsOf hs' (store m n c) g p u s) u (ap (λ z. z.linked) (upd_same m.node n c) ∙ cl)
        (λ ne. kept_facts hs' n c w u
        (λ k o. upd_other m.node n c (λ z. not_live m g i u k (suc l.pos) (i.place.enq_own u k o) live (l.then ∙ sym z)))
        (λ v k x o w. upd_ind m.node n c (λ k z. (m.node k).linked ≡ true → z.linked ≡ true) k (λ z. cl) (λ ne z. z) w)
        (λ v k x o w. upd_ind m.node n c (λ k z. (m.node k).linked ≡ true → z ≡ m.node k) k (λ z. node_eq c (m.node n) (cl ∙ sym z) ci cv) (λ ne z. refl) w));
  }
    where
      l : Lnk g.who (g.base t) g.len x n
      l = rw e at (i.threads.refs t)

      live : Live g.who (poss g.own) (suc l.pos)
      live = i.alive.live t (rw e) (suc l.pos) (omega (arith, l.lo)) l.hi

      lv : pos_of (g.own n) ≡ some (suc l.pos)
      lv = rw l.then at live

      ix : (m.node n).index ≡ g.idx (suc l.pos)
      ix = ap (ixs m.node) (sym l.then) ∙ i.link.indices (suc l.pos) live

      val : (m.node n).item ≡ p.item (suc l.pos)
      val = ap (λ k. (m.node k).item) (sym l.then) ∙ j.nodes.values (suc l.pos) live

      past : suc l.pos < p.pp → c.linked ≡ true → c.index ≤ g.idx p.pp
      past h z = let mono = idx_mono g.idx g.len i.log.rising (suc l.pos) p.pp (omega arith)
          (omega (arith, j.head.pp_hp, i.log.hp_in)) in omega (arith, ci, ix)

      gn : Gone p.pp (suc l.pos) (g.own n)
      gn = rw l.then at (j.nodes.gone (suc l.pos) l.hi)

      qt : (o : Place) → g.own n ≡ o → Quiet (g.idx p.pp) c o
      qt (queue q) o = tt
      qt (waiting q) o = past (let k : Gone p.pp (suc l.pos) (waiting q) = rw o at gn in k)
      qt (deqd u q) o = tt
      qt (kept u q) o = past (let k : Gone p.pp (suc l.pos) (kept u q) = rw o at gn in k)
      qt (enqd u) o = past (let k : Gone p.pp (suc l.pos) (enqd u) = rw o at gn in k)
      qt spare o = past (let k : Gone p.pp (suc l.pos) spare = rw o at gn in k)
      qt off o = past (let k : Gone p.pp (suc l.pos) off = rw o at gn in k)
      qt lent o = past (let k : Gone p.pp (suc l.pos) lent = rw o at gn in k)
      qt lent_w o = past (let k : Gone p.pp (suc l.pos) lent_w = rw o at gn in k)

      sf : (r : ℕ) (o : Place) → pos_of o ≡ some (suc l.pos) → Gone p.pp r o → (r ≤ p.pp) ⊎ ((c.linked ≡ true) × (c.index ≡ g.idx r))
      sf r (queue q) lo (inl z) = inr (cl, let qs : q ≡ suc l.pos = cc in ci ∙ ix ∙ ap g.idx (sym qs ∙ sym z))
      sf r (queue q) lo (inr z) = inl (omega arith)
      sf r (waiting q) lo z = inl (omega arith)
      sf r (deqd u q) lo (inl z) = inr (cl, let qs : q ≡ suc l.pos = cc in ci ∙ ix ∙ ap g.idx (sym qs ∙ sym z))
      sf r (deqd u q) lo (inr z) = inl (omega arith)
      sf r (kept u q) lo z = inl (omega arith)
      sf r (enqd u) lo z = inl (omega arith)
      sf r spare lo z = inl (omega arith)
      sf r off lo z = inl (omega arith)
      sf r lent lo z = inl (omega arith)
      sf r lent_w lo z = inl (omega arith)

  -- a head line is persisted: nothing older than f is left of it
  module _ (hs' : Hist) (w : Grown nowhere (content m) hs hs') (k f : ℕ) (kh : k < head_lines m.conf)
      (fp : (f ≤ g.idx 0) ⊎ ((q : ℕ) × (q ≤ g.hp) × (f ≡ g.idx q))) (low : (c : Node) → hs'.is (of_head k) c → f ≤ c.index) where
    abbrev pub kept_p : Kept (head_lines m.conf) g.hp p.pp g.len g.idx (line_ix m.conf.engine m.hidx m.marks)
        (λ k. hs.is (of_head k)) i.log.rising i.log.hp_in j.head (λ k. hs'.is (of_head k)) f
    kept_p = kept_h (head_lines m.conf) g.hp p.pp g.len g.idx (line_ix m.conf.engine m.hidx m.marks) (λ k. hs.is (of_head k))
        i.log.rising i.log.hp_in j.head (λ k. hs'.is (of_head k)) k f kh fp (λ l c. w.made (of_head l) c) (λ l. w.here (of_head l)) low

    abbrev pub to_head : Pg
    to_head = record { item = p.item; pp = kept_p.pp'; safe = p.safe }

    pub head_facts : (u : ℕ) → FactsOf hs' m g to_head u (m.thr u)
    head_facts u = facts_map (hs.since u) (hs'.since u) m.node m.node g.who g.who g.idx g.idx g.own g.own (g.base u) g.len
        g.len p.item
        p.item p.pp kept_p.pp' p.safe p.safe (low_of m u) (low_of m u) (mark_of m u) (mark_of m u) m.conf.engine u
        (λ q h. refl) (λ q h. refl) (λ q h. refl) (λ q h s. s) (omega arith) kept_p.up (omega arith) (omega arith) (λ c z. inl (w.later u _ c z)) (m.thr u)
        (λ n e. refl) (λ v n x e l. l) (λ v n x e l. (refl, λ c z. inl (w.later u _ c z))) (λ h q o e. e) (j.facts u)

    pub head_p : PInv hs' m g to_head
    head_p = record {
      head = kept_p.head;
      nodes = pp_up g.len p.pp kept_p.pp' g.who g.idx p.item g.own m.node (λ n. hs'.is (of_node n)) p.safe
          (fewer_n _ _ _ _ _ _ _ _ (λ n. hs'.is (of_node n)) _ j.nodes (λ n c. w.made (of_node n) c) (λ n. w.here (of_node n))) kept_p.top kept_p.up;
      facts = head_facts;
    }

  -- a thread issues its flush: nothing is persisted yet
  pub issued_p : (hs' : Hist) (t : ℕ) (s : Th) → Grown (issues t) (content m) hs hs' → FactsOf hs' m g p t s → PInv hs' (set_th m t s) g p
  issued_p hs' t s w f = record {
    head = fewer_h _ _ _ g.len _ _ _ i.log.rising i.log.hp_in j.head (λ k. hs'.is (of_head k)) (λ k c. w.made (of_head k) c) (λ k. w.here (of_head k));
    nodes = fewer_n _ _ _ _ _ _ _ _ (λ n. hs'.is (of_node n)) _ j.nodes (λ n c. w.made (of_node n) c) (λ n. w.here (of_node n));
    facts = λ u. upd_ind m.thr t s (λ u s. FactsOf hs' m g p u s) u f (λ ne. same_facts hs hs' m g p u (w.later.0 u ne) (j.facts u));
  }

  -- a thread leaves
  pub leave_p : (t : ℕ) → PInv hs (leave m t) (leave_g g (λ n. remove t (m.wait n))) p
  leave_p t = record {
    head = j.head;
    nodes = record {
      cached = j.nodes.cached;
      linked = j.nodes.linked;
      quiet = λ n c h. rq c (g.own n) (w n) (j.nodes.quiet n c h);
      gone = λ r h. rg r (g.own (g.who r)) (w (g.who r)) (j.nodes.gone r h);
      values = λ q l. j.nodes.values q (rel_pos (g.own (g.who q)) (w (g.who q)) q l);
      safely = j.nodes.safely;
    };
    facts = λ u. upd_ind m.thr t idle (λ u s. FactsOf hs (leave m t) (leave_g g w) p u s) u tt
        (λ ne. facts_map (hs.since u) (hs.since u) m.node m.node g.who g.who g.idx g.idx g.own (λ n. release (g.own n) (w n)) (g.base u) g.len
        g.len p.item p.item p.pp p.pp p.safe p.safe (low_of m u) (low_of m u) (mark_of m u) (mark_of m u) m.conf.engine u
        (λ q h. refl) (λ q h. refl) (λ q h. refl) (λ q h s. s) (omega arith) (omega arith) (omega arith) (omega arith) (λ c z. inl z) (m.thr u) (λ n e. refl)
        (λ v n x e l. l) (λ v n x e l. (refl, λ c z. inl z)) (λ h q o e. rel_inv (g.own h) (w h) (λ f. omega (arith, ap tag f)) e) (j.facts u));
  }
    where
      w : ℕ → List ℕ
      w n = remove t (m.wait n)

      rq : (c : Node) (o : Place) (w : List ℕ) → Quiet (g.idx p.pp) c o → Quiet (g.idx p.pp) c (release o w)
      rq c (queue q) w k = k
      rq c (waiting q) [] k = k
      rq c (waiting q) (u ∷ w) k = k
      rq c (deqd t q) w k = k
      rq c (kept t q) w k = k
      rq c (enqd t) w k = k
      rq c spare w k = k
      rq c off w k = k
      rq c lent w k = k
      rq c lent_w [] k = k
      rq c lent_w (u ∷ w) k = k

      rg : (r : ℕ) (o : Place) (w : List ℕ) → Gone p.pp r o → Gone p.pp r (release o w)
      rg r (queue q) w k = k
      rg r (waiting q) [] k = k
      rg r (waiting q) (u ∷ w) k = k
      rg r (deqd t q) w k = k
      rg r (kept t q) w k = k
      rg r (enqd t) w k = k
      rg r spare w k = k
      rg r off w k = k
      rg r lent w k = k
      rg r lent_w [] k = k
      rg r lent_w (u ∷ w) k = k

  -- A10: the line is persisted, so that its present content alone is left; and the place is safe
  pub A10P : (hs' : Hist) (t v n x : ℕ) → Grown nowhere (content m) hs hs' → ((c : Node) → hs'.is (of_node n) c → c ≡ m.node n)
      → busy (m.thr t) ≡ true → (m.node n).linked ≡ true → (l : Lnk g.who (g.base t) g.len x n)
      → PInv hs' (set_th m t (a11 v n x)) g (record { item = p.item; pp = p.pp; safe = upd p.safe (suc l.pos) true })
  A10P hs' t v n x w only bt lk l = record {
    head = f.head;
    nodes = record {
      cached = b.cached;
      linked = b.linked;
      quiet = b.quiet;
      gone = b.gone;
      values = b.values;
      safely = λ q h s. sf q h s (ℕ_discrete q (suc l.pos));
    };
    facts = λ u. upd_ind m.thr t (a11 v n x) (λ u s. Facts (hs'.since u) m.node g.who g.idx g.own (g.base u) g.len p.item p.pp
        (upd p.safe (suc l.pos) true) (low_of m u) (mark_of m u) m.conf.engine u s) u
        record { pos = suc l.pos; inside = l.hi; lo = omega (arith, l.lo); is = l.then; sure = upd_same p.safe (suc l.pos) true }
        (λ ne. facts_map (hs'.since u) (hs'.since u) m.node m.node g.who g.who g.idx g.idx g.own g.own (g.base u) g.len g.len p.item p.item
        p.pp p.pp p.safe (upd p.safe (suc l.pos) true) (low_of m u) (low_of m u) (mark_of m u) (mark_of m u) m.conf.engine u
        (λ q h. refl) (λ q h. refl) (λ q h. refl) (λ q h s. upd_ind p.safe (suc l.pos) true (λ q z. p.safe q ≡ true → z ≡ true) q (λ w. refl)
        (λ ne w. w) s) (omega arith) (omega arith) (omega arith) (omega arith) (λ c z. inl z) (m.thr u) (λ n e. refl) (λ v n x e l. l)
        (λ v n x e l. (refl, λ c z. inl z)) (λ h q o w. w) (f.facts u));
  }
    where
      f : PInv hs' m g p
      f = fewer_p hs hs' m g p i w j

      b : NodeP g.len p.pp g.who g.idx p.item g.own m.node (λ n. hs'.is (of_node n)) p.safe
      b = f.nodes

      ix : (m.node n).index ≡ g.idx (suc l.pos)
      ix = ap (ixs m.node) (sym l.then) ∙ i.link.indices (suc l.pos) (i.alive.live t bt (suc l.pos) (omega (arith, l.lo)) l.hi)

      one : (c : Node) → c ≡ m.node n → (c.linked ≡ true) × (c.index ≡ g.idx (suc l.pos))
      one c f = (ap (λ z. z.linked) f ∙ lk, ap (λ z. z.index) f ∙ ix)

      sf : (q : ℕ) → q < g.len → upd p.safe (suc l.pos) true q ≡ true → Dec (q ≡ suc l.pos)
          → (q ≤ p.pp) ⊎ ((c : Node) → hs'.is (of_node (g.who q)) c → (c.linked ≡ true) × (c.index ≡ g.idx q))
      sf q h s (yes f) = inr (λ c k. subst (λ y. (c.linked ≡ true) × (c.index ≡ g.idx y)) (sym f)
          (one c (only c (subst (λ y. hs'.is (of_node y) c) (ap g.who f ∙ l.then) k))))
      sf q h s (no f) = b.safely q h (sym (upd_other p.safe (suc l.pos) true f) ∙ s)
