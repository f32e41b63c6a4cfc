-- D4 keeps the second layer; so do the stores to index lines in `split`.
use mathlib.Core.Path.{◌≡◌, refl, sym, subst, ap, ◌∙◌}
use mathlib.Core.Logic.{◌≢◌, ◌⊎◌, inl, inr}
use Prim.Native.Nat.{ℕ, zero, suc, ◌≤◌, ◌<◌}
use native.Mathlib.Omega.{arith}
use lib.Dec.{T}
use Rattle.model.specs.Basics.{upd}
use Rattle.model.specs.Lines.{Line, of_head, of_node, stores}
use Rattle.model.specs.Conf.{Engine, shared, split, line_ix, line_of, line_count, thread_ix, head_lines, head_touch}
use Rattle.model.specs.Core.{Th, Core, Node, hd, content, line_has, d4, d5}
use Rattle.model.specs.Changes.{set_mark, set_th, set_head}
use Rattle.model.proofs.Basics.{upd_ind, upd_other, upd_same}
use Rattle.model.proofs.Lines.{no_line}
use Rattle.model.proofs.Times.{Hist, Grown}
use Rattle.model.proofs.Layer1.Ghost.{Gh, Inv, queue, deqd}
use Rattle.model.proofs.Layer1.D4.{head_g, own_h, x_ix, r_hp, more, x_is, r}
use Rattle.model.proofs.Layer2.Contents.{Pg, fewer_n, Gone}
use Rattle.model.proofs.Layer2.Heads.{HeadP, moved_h, raised_h, fewer_h}
use Rattle.model.proofs.Layer2.Invariant.{PInv, Facts, FactsOf, low_of, mark_of, facts_map}
use Rattle.model.proofs.Layer2.Hands.{hands_p, hands_facts}

-- Head's index rises
pub low_up : (E : Engine) (i i' : ℕ) (f : ℕ → ℕ) (k : ℕ) → i ≤ i' → line_ix E i f k ≤ line_ix E i' f k
low_up shared i i' f zero h = h
low_up shared i i' f (suc k) h = omega arith
low_up split i i' f k h = omega arith

-- no node's line is touched
node_rest : (E : Engine) (con : Line → Node) (hs hs' : Hist) → Grown (head_touch E) con hs hs' → (n : ℕ) (c : Node) → hs'.is (of_node n) c → hs.is (of_node n) c
node_rest shared con hs hs' w n c h = by (w.made (of_node n) c h)
  where
    by : hs.is (of_node n) c ⊎ ((of_node n ≡ of_head 0) × (c ≡ con (of_head 0))) → hs.is (of_node n) c
    by (inl z) = z
    by (inr z) = no_line 0 n (sym z.0)
node_rest split con hs hs' w n c h = w.made (of_node n) c h

-- a store to a head line
head_more : (hs hs' : Hist) (con : Line → Node) (t a : ℕ) → con (of_head t) ≡ hd a → Grown (stores (of_head t)) con hs hs' → (k : ℕ) (c : Node) → hs'.is (of_head k) c
    → hs.is (of_head k) c ⊎ ((k ≡ t) × (c ≡ hd a))
head_more hs hs' con t a e w k c h = by (w.made (of_head k) c h)
  where
    by : hs.is (of_head k) c ⊎ ((of_head k ≡ of_head t) × (c ≡ con (of_head t))) → hs.is (of_head k) c ⊎ ((k ≡ t) × (c ≡ hd a))
    by (inl z) = inl z
    by (inr z) = let f = z.0 in inr (cc, z.1 ∙ e)

-- a head line is, where Head's index is a content
head_list : (E : Engine) (T hp pp len i : ℕ) (idx marks : ℕ → ℕ) (node : ℕ → Node) (hs hs' : Hist) → ((p q : ℕ) → p < q → q < len → idx p < idx q)
    → suc hp < len → i ≡ idx hp → Grown (head_touch E) (line_has E node (idx (suc hp)) marks) hs hs'
    → HeadP (line_count E T) hp pp idx (line_ix E i marks) (λ k. hs.is (of_head k))
    → HeadP (line_count E T) (suc hp) pp idx (line_ix E (idx (suc hp)) marks) (λ k. hs'.is (of_head k))
head_list shared T hp pp len i idx marks node hs hs' r lt e w h =
    raised_h 1 (suc hp) pp len idx (line_ix shared i marks) (λ k. hs.is (of_head k)) r lt
    (moved_h 1 hp pp len idx (line_ix shared i marks) (λ k. hs.is (of_head k)) r (omega arith) h (suc hp) idx (omega arith) (λ p z. refl))
    (λ k. hs'.is (of_head k)) 0 (idx (suc hp)) (suc hp) (line_ix shared (idx (suc hp)) marks) (head_more hs hs' _ 0 (idx (suc hp)) refl w) (λ k. w.here (of_head k))
    (omega arith) refl (omega (arith, r hp (suc hp) (omega arith) lt)) (omega arith)
head_list split T hp pp len i idx marks node hs hs' r lt e w h =
    fewer_h T (suc hp) pp len idx marks (λ k. hs.is (of_head k)) r lt
    (moved_h T hp pp len idx marks (λ k. hs.is (of_head k)) r (omega arith) h (suc hp) idx (omega arith) (λ p z. refl))
    (λ k. hs'.is (of_head k)) (λ k c. w.made (of_head k) c) (λ k. w.here (of_head k))

-- the contents since a flush: one more, and no older than the line
since_head : (E : Engine) (u : ℕ) (con : Line → Node) (hs hs' : Hist) (i i' : ℕ) (f : ℕ → ℕ) → i ≤ i' → (con (of_head 0)).index ≡ line_ix E i' f 0
    → Grown (head_touch E) con hs hs' → (c : Node) → hs'.since u (of_head (line_of E u)) c
    → hs.since u (of_head (line_of E u)) c ⊎ (line_ix E i f (line_of E u) ≤ c.index)
since_head shared u con hs hs' i i' f le e w c h = by (w.later u (of_head 0) c h)
  where
    by : hs.since u (of_head 0) c ⊎ ((of_head 0 ≡ of_head 0) × (c ≡ con (of_head 0))) → hs.since u (of_head 0) c ⊎ (i ≤ c.index)
    by (inl z) = inl z
    by (inr z) = inr (omega (arith, ap (λ y. y.index) z.1))
since_head split u con hs hs' i i' f le e w c h = inl (w.later u (of_head u) c h)

since_node : (E : Engine) (u : ℕ) (con : Line → Node) (hs hs' : Hist) → Grown (head_touch E) con hs hs' → (n : ℕ) (c : Node) → hs'.since u (of_node n) c
    → hs.since u (of_node n) c
since_node shared u con hs hs' w n c h = by (w.later u (of_node n) c h)
  where
    by : hs.since u (of_node n) c ⊎ ((of_node n ≡ of_head 0) × (c ≡ con (of_head 0))) → hs.since u (of_node n) c
    by (inl z) = z
    by (inr z) = no_line 0 n (sym z.0)
since_node split u con hs hs' w n c h = w.later u (of_node n) c h

module _ (hs : Hist) (m : Core) (g : Gh) (p : Pg) (i : Inv m g) (j : PInv hs m g p) (t h k x : ℕ) (e : m.thr t ≡ d4 h k x) (eh : m.hnode ≡ h) where
  oh : g.own h ≡ queue g.hp
  oh = own_h m g i t h k x e eh

  gn : (q : ℕ) → q < g.len → g.who q ≡ h → Gone p.pp q (deqd t g.hp)
  gn q l w = let z : Gone p.pp q (queue g.hp) = rw (w, oh) at (j.nodes.gone q l) in z

  abbrev m₄ : Core
  m₄ = set_th (set_head m x (m.node x).index) t (d5 h x)

  pub up_ix : m.hidx ≤ (m.node x).index
  up_ix = omega (arith, i.log.head_ix, x_ix m g i t h k x e eh, i.log.rising g.hp (suc g.hp) (omega arith) (more m g i t h k x e eh))

  pub D4P : (hs' : Hist) → Grown (head_touch m.conf.engine) (content m₄) hs hs' → PInv hs' m₄ (head_g g t h) p
  D4P hs' w = record {
    head = subst (λ y. HeadP (head_lines m.conf) (suc g.hp) p.pp g.idx (line_ix m.conf.engine y m.marks) (λ k. hs'.is (of_head k)))
        (sym (x_ix m g i t h k x e eh))
        (head_list m.conf.engine m.conf.threads g.hp p.pp g.len m.hidx g.idx m.marks m.node hs hs' i.log.rising
        (more m g i t h k x e eh) i.log.head_ix
        (subst (λ y. Grown (head_touch m.conf.engine) (line_has m.conf.engine m.node y m.marks) hs hs') (x_ix m g i t h k x e eh) w) j.head);
    nodes = fewer_n _ _ _ _ _ _ _ _ (λ n. hs'.is (of_node n)) _ (hands_p hs m g p j h (deqd t g.hp) (rw oh) (λ c l. tt) gn)
        (node_rest m.conf.engine (content m₄) hs hs' w) (λ n. w.here (of_node n));
    facts = λ u. upd_ind m.thr t (d5 h x) (λ u s. Facts (hs'.since u) m.node g.who g.idx (upd g.own h (deqd t g.hp)) (g.base u) g.len
        p.item p.pp p.safe (low_of m₄ u) (mark_of m u) m.conf.engine u s) u
        (λ q o. let w = sym (upd_same g.own h (deqd t g.hp)) ∙ o in let z : g.hp ≡ q = cc in
        let rr = r m g i t h k x e eh in
        let dk : mark_of m t ≤ k = rw e at (j.facts t) in (
          omega (arith, rr.at.lo, r_hp m g i t h k x e eh),
          omega (arith, more m g i t h k x e eh),
          ap (λ y. g.who (suc y)) (sym z) ∙ x_is m g i t h k x e eh,
          rw (← z) (omega (
            arith,
            dk,
            rr.at.ix,
            ap g.idx (r_hp m g i t h k x e eh),
            i.log.rising g.hp (suc g.hp) (omega arith)
                (more m g i t h k x e eh),
          )),
        ))
        (λ ne. hands_facts hs m g p j h (deqd t g.hp) (rw oh) (λ c l. tt) gn (hs'.since u) u (low_of m₄ u)
        (since_head m.conf.engine u (content m₄) hs hs' m.hidx (m.node x).index m.marks up_ix refl w) (since_node m.conf.engine u (content m₄) hs hs' w)
        (low_up m.conf.engine m.hidx (m.node x).index m.marks (line_of m.conf.engine u) up_ix) (λ q f. ne (let z : t ≡ u = cc in sym z)));
  }

-- ---- a thread stores the index of a place to its line

low_mark : (E : Engine) (i : ℕ) (f : ℕ → ℕ) (t a u : ℕ) → u ≢ t → line_ix E i (upd f t a) (line_of E u) ≡ line_ix E i f (line_of E u)
low_mark shared i f t a u ne = refl
low_mark split i f t a u ne = upd_other f t a ne

thread_mark : (E : Engine) (f : ℕ → ℕ) (t a u : ℕ) → u ≢ t → thread_ix E (upd f t a) u ≡ thread_ix E f u
thread_mark shared f t a u ne = refl
thread_mark split f t a u ne = upd_other f t a ne

mark_list : (E : Engine) → E ≡ split → (T t a q hp pp len i : ℕ) (idx marks : ℕ → ℕ) (node : ℕ → Node) (hs hs' : Hist)
    → ((p q : ℕ) → p < q → q < len → idx p < idx q)
    → hp < len → t < T → q ≤ hp → a ≡ idx q → thread_ix E marks t ≤ a → Grown (stores (of_head t)) (line_has E node i (upd marks t a)) hs hs'
    → HeadP (line_count E T) hp pp idx (line_ix E i marks) (λ k. hs.is (of_head k))
    → HeadP (line_count E T) hp pp idx (line_ix E i (upd marks t a)) (λ k. hs'.is (of_head k))
mark_list shared s T t a q hp pp len i idx marks node hs hs' r lt tT le e up w h = let z : ◌≡◌ {A = ℕ} 0 1 = cc in absurd (omega arith)
mark_list split s T t a q hp pp len i idx marks node hs hs' r lt tT le e up w h =
    raised_h T hp pp len idx marks (λ k. hs.is (of_head k)) r lt h (λ k. hs'.is (of_head k)) t a q (upd marks t a)
    (head_more hs hs' _ t a (ap hd (upd_same marks t a)) w) (λ k. w.here (of_head k)) le e up tT

-- the contents since a flush of another thread: its line is another one
mark_head : (E : Engine) → E ≡ split → (t u : ℕ) → u ≢ t → (con : Line → Node) (hs hs' : Hist) → Grown (stores (of_head t)) con hs hs' → (c : Node)
    → hs'.since u (of_head (line_of E u)) c → hs.since u (of_head (line_of E u)) c
mark_head shared s t u ne con hs hs' w c h = let z : ◌≡◌ {A = ℕ} 0 1 = cc in absurd (omega arith)
mark_head split s t u ne con hs hs' w c h = by (w.later u (of_head u) c h)
  where
    by : hs.since u (of_head u) c ⊎ ((of_head u ≡ of_head t) × (c ≡ con (of_head t))) → hs.since u (of_head u) c
    by (inl z) = z
    by (inr z) = let f = z.0 in absurd (ne cc)

mark_node : (t u : ℕ) (con : Line → Node) (hs hs' : Hist) → Grown (stores (of_head t)) con hs hs' → (n : ℕ) (c : Node) → hs'.since u (of_node n) c
    → hs.since u (of_node n) c
mark_node t u con hs hs' w n c h = by (w.later u (of_node n) c h)
  where
    by : hs.since u (of_node n) c ⊎ ((of_node n ≡ of_head t) × (c ≡ con (of_head t))) → hs.since u (of_node n) c
    by (inl z) = z
    by (inr z) = no_line t n (sym z.0)

mark_rest : (hs hs' : Hist) (con : Line → Node) (t : ℕ) → Grown (stores (of_head t)) con hs hs' → (n : ℕ) (c : Node) → hs'.is (of_node n) c → hs.is (of_node n) c
mark_rest hs hs' con t w n c h = by (w.made (of_node n) c h)
  where
    by : hs.is (of_node n) c ⊎ ((of_node n ≡ of_head t) × (c ≡ con (of_head t))) → hs.is (of_node n) c
    by (inl z) = z
    by (inr z) = no_line t n (sym z.0)

module _ (hs : Hist) (m : Core) (g : Gh) (p : Pg) (i : Inv m g) (j : PInv hs m g p) (t a q : ℕ) (s : Th) (sp : m.conf.engine ≡ split)
    (tT : t < m.conf.threads)
    (le : q ≤ g.hp) (e : a ≡ g.idx q) (up : mark_of m t ≤ a) where
  pub mark_p : (hs' : Hist) → Grown (stores (of_head t)) (content (set_mark m t a)) hs hs' → FactsOf hs' (set_mark m t a) g p t s → PInv hs' (set_th (set_mark m t a) t s) g p
  mark_p hs' w f = record {
    head = mark_list m.conf.engine sp m.conf.threads t a q g.hp p.pp g.len m.hidx g.idx m.marks m.node hs hs' i.log.rising
        i.log.hp_in tT le e up w j.head;
    nodes = fewer_n _ _ _ _ _ _ _ _ (λ n. hs'.is (of_node n)) _ j.nodes (mark_rest hs hs' _ t w) (λ n. w.here (of_node n));
    facts = λ u. upd_ind m.thr t s (λ u s. FactsOf hs' (set_mark m t a) g p u s) u f (λ ne.
        facts_map (hs.since u) (hs'.since u) m.node m.node g.who g.who g.idx g.idx g.own g.own (g.base u) g.len g.len p.item p.item p.pp
        p.pp p.safe p.safe
        (low_of m u) (low_of (set_mark m t a) u) (mark_of m u) (mark_of (set_mark m t a) u) m.conf.engine u
        (λ q h. refl) (λ q h. refl) (λ q h. refl) (λ q h s. s) (omega arith) (omega arith)
        (omega (arith, low_mark m.conf.engine m.hidx m.marks t a u ne))
        (omega (arith, thread_mark m.conf.engine m.marks t a u ne))
        (λ c z. inl (mark_head m.conf.engine sp t u ne _ hs hs' w c z)) (m.thr u) (λ n e. refl) (λ v n x e l. l)
        (λ v n x e l. (refl, λ c z. inl (mark_node t u _ hs hs' w n c z))) (λ h q o e. e) (j.facts u));
  }
