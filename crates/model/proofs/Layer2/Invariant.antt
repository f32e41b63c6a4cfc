-- The invariant of the second layer: contents and persisted copies, and what each thread knows of them.
use mathlib.Core.Path.{◌≡◌, refl, sym, ap, ◌∙◌}
use mathlib.Core.Bool.{Bool, true, false}
use mathlib.Core.Logic.{◌⊎◌, inl, inr}
use mathlib.Core.Option.{some}
use Prim.Native.Nat.{ℕ, suc, ◌≤◌, ◌<◌}
use native.Mathlib.Omega.{arith}
use Rattle.model.specs.Lines.{Line, of_head, of_node, nowhere}
use Rattle.model.specs.Conf.{Engine, split, line_ix, line_of, thread_ix, head_lines}
use Rattle.model.specs.Core.{elsewhere, a10f, d3f, d6f}
use Rattle.model.specs.Core.{Th, Core, Node, content, idle, a1, a2, a3, a4, a5, a6, a7, a8, a9, a10, a11, a12, d1, d2, d3, d4, d5, d6, d7, s3, s6}
use Rattle.model.specs.Changes.{set_th}
use Rattle.model.specs.Places.{owns_e, owns_d}
use Rattle.model.proofs.Basics.{upd_ind}
use Rattle.model.proofs.Times.{Hist, Grown}
use Rattle.model.proofs.Layer1.Ghost.{Gh, Inv, Place, deqd}
use Rattle.model.proofs.Layer2.Contents.{Pg, NodeP, fewer_n}
use Rattle.model.proofs.Layer2.Heads.{HeadP, fewer_h}

-- the place of an enqueue that has persisted its node
pub record SafeAt (who : ℕ → ℕ) (b len : ℕ) (safe : ℕ → Bool) (n : ℕ) : Type 0 where
  pub pos : ℕ
  pub inside : pos < len
  pub lo : b ≤ pos
  pub is : who pos ≡ n
  pub sure : safe pos ≡ true

pub record Got (who item : ℕ → ℕ) (len v q : ℕ) : Type 0 where
  pub inside : suc q < len
  pub val : v ≡ item (suc q)

-- low: the content of the head line that the thread persists; dk: what it has stored in one of its own; sn: the contents since its last flush
abbrev pub Facts : (sn : Line → Node → Type 0) (node : ℕ → Node) (who idx : ℕ → ℕ) (own : ℕ → Place) (b len : ℕ) (item : ℕ → ℕ) (pp : ℕ) (safe : ℕ → Bool) (low dk : ℕ)
    (E : Engine) (t : ℕ) → Th → Type 0
Facts sn node who idx own b len item pp safe low dk E t idle = Unit {0}
Facts sn node who idx own b len item pp safe low dk E t (a1 v) = Unit {0}
Facts sn node who idx own b len item pp safe low dk E t (a2 v n) = Unit {0}
Facts sn node who idx own b len item pp safe low dk E t (a3 v n) = (node n).item ≡ v
Facts sn node who idx own b len item pp safe low dk E t (a4 v n) = (node n).item ≡ v
Facts sn node who idx own b len item pp safe low dk E t (a5 v n) = ((node n).linked ≡ false) × ((node n).item ≡ v)
Facts sn node who idx own b len item pp safe low dk E t (a6 v n x) = ((node n).linked ≡ false) × ((node n).item ≡ v)
Facts sn node who idx own b len item pp safe low dk E t (a7 v n x) = ((node n).linked ≡ false) × ((node n).item ≡ v)
Facts sn node who idx own b len item pp safe low dk E t (a8 v n x) = ((node n).linked ≡ false) × ((node n).item ≡ v)
Facts sn node who idx own b len item pp safe low dk E t (a9 v n x) = Unit {0}
Facts sn node who idx own b len item pp safe low dk E t (a10 v n x) = (node n).linked ≡ true
Facts sn node who idx own b len item pp safe low dk E t (a10f v n x) = ((node n).linked ≡ true) × ((c : Node) → sn (of_node n) c → c ≡ node n)
Facts sn node who idx own b len item pp safe low dk E t (a11 v n x) = SafeAt who b len safe n
Facts sn node who idx own b len item pp safe low dk E t (a12 v n x) = ((node n).linked ≡ false) × ((node n).item ≡ v)
Facts sn node who idx own b len item pp safe low dk E t d1 = Unit {0}
Facts sn node who idx own b len item pp safe low dk E t elsewhere = Unit {0}
Facts sn node who idx own b len item pp safe low dk E t (d2 h i) = dk ≤ i
Facts sn node who idx own b len item pp safe low dk E t (d3 h i) = i ≤ low
Facts sn node who idx own b len item pp safe low dk E t (d3f h i) = (i ≤ low) × ((c : Node) → sn (of_head (line_of E t)) c → i ≤ c.index)
Facts sn node who idx own b len item pp safe low dk E t (d4 h i x) = dk ≤ i
Facts sn node who idx own b len item pp safe low dk E t (d5 h x) = (q : ℕ) → own h ≡ deqd t q → (b ≤ q) × (suc q < len) × (who (suc q) ≡ x) × (dk ≤ idx (suc q))
Facts sn node who idx own b len item pp safe low dk E t (d6 h v) = (q : ℕ) → own h ≡ deqd t q → Got who item len v q × (idx (suc q) ≤ low)
Facts sn node who idx own b len item pp safe low dk E t (d6f h v) = (q : ℕ) → own h ≡ deqd t q
    → Got who item len v q × (idx (suc q) ≤ low) × ((c : Node) → sn (of_head (line_of E t)) c → idx (suc q) ≤ c.index)
Facts sn node who idx own b len item pp safe low dk E t (d7 h v) = (q : ℕ) → own h ≡ deqd t q → Got who item len v q × (q < pp)
Facts sn node who idx own b len item pp safe low dk E t (s3 h i) = (E ≡ split) × (dk ≤ i)
Facts sn node who idx own b len item pp safe low dk E t (s6 h x v) = (E ≡ split)
    × ((q : ℕ) → own h ≡ deqd t q → (b ≤ q) × (who (suc q) ≡ x) × (dk ≤ idx (suc q)) × Got who item len v q)

module _ (sn sn' : Line → Node → Type 0) (node node' : ℕ → Node) (who who' idx idx' : ℕ → ℕ) (own own' : ℕ → Place) (b len len' : ℕ) (item item' : ℕ → ℕ) (pp pp' : ℕ)
    (safe safe' : ℕ → Bool) (low low' dk dk' : ℕ) (E : Engine) (t : ℕ)
    (wk : (p : ℕ) → p < len → who' p ≡ who p) (xk : (p : ℕ) → p < len → idx' p ≡ idx p) (ik : (p : ℕ) → p < len → item' p ≡ item p)
    (sk : (p : ℕ) → p < len → safe p ≡ true → safe' p ≡ true)
    (ls : len ≤ len') (pps : pp ≤ pp') (lows : low ≤ low') (dks : dk' ≤ dk)
    (hk : (c : Node) → sn' (of_head (line_of E t)) c → sn (of_head (line_of E t)) c ⊎ (low ≤ c.index)) where
  got : {v q : ℕ} → Got who item len v q → Got who' item' len' v q
  got {v} {q} k = record { inside = omega (arith, k.inside); val = k.val ∙ sym (ik (suc q) k.inside) }

  -- what is no newer than the head line, and than all its contents since the flush, stays so
  above : (a : ℕ) → a ≤ low → ((c : Node) → sn (of_head (line_of E t)) c → a ≤ c.index) → (c : Node) → sn' (of_head (line_of E t)) c → a ≤ c.index
  above a h k c z = by (hk c z)
    where
      by : sn (of_head (line_of E t)) c ⊎ (low ≤ c.index) → a ≤ c.index
      by (inl y) = k c y
      by (inr y) = omega arith

  pub facts_map : (s : Th)
      → ((n : ℕ) → owns_e s ≡ some n → node' n ≡ node n)
      → ((v n x : ℕ) → s ≡ a10 v n x → (node n).linked ≡ true → (node' n).linked ≡ true)
      → ((v n x : ℕ) → s ≡ a10f v n x → (node n).linked ≡ true → (node' n ≡ node n) × ((c : Node) → sn' (of_node n) c → sn (of_node n) c ⊎ (c ≡ node n)))
      → ((h q : ℕ) → owns_d s ≡ some h → own' h ≡ deqd t q → own h ≡ deqd t q)
      → Facts sn node who idx own b len item pp safe low dk E t s → Facts sn' node' who' idx' own' b len' item' pp' safe' low' dk' E t s
  facts_map idle fn fl nk fo k = tt
  facts_map (a1 v) fn fl nk fo k = tt
  facts_map (a2 v n) fn fl nk fo k = tt
  facts_map (a3 v n) fn fl nk fo k = ap (λ z. z.item) (fn n refl) ∙ k
  facts_map (a4 v n) fn fl nk fo k = ap (λ z. z.item) (fn n refl) ∙ k
  facts_map (a5 v n) fn fl nk fo k = (ap (λ z. z.linked) (fn n refl) ∙ k.0, ap (λ z. z.item) (fn n refl) ∙ k.1)
  facts_map (a6 v n x) fn fl nk fo k = (ap (λ z. z.linked) (fn n refl) ∙ k.0, ap (λ z. z.item) (fn n refl) ∙ k.1)
  facts_map (a7 v n x) fn fl nk fo k = (ap (λ z. z.linked) (fn n refl) ∙ k.0, ap (λ z. z.item) (fn n refl) ∙ k.1)
  facts_map (a8 v n x) fn fl nk fo k = (ap (λ z. z.linked) (fn n refl) ∙ k.0, ap (λ z. z.item) (fn n refl) ∙ k.1)
  facts_map (a9 v n x) fn fl nk fo k = tt
  facts_map (a10 v n x) fn fl nk fo k = fl v n x refl k
  facts_map (a10f v n x) fn fl nk fo k = (ap (λ z. z.linked) r.0 ∙ k.0, λ c h. on c (r.1 c h))
    where
      r : (node' n ≡ node n) × ((c : Node) → sn' (of_node n) c → sn (of_node n) c ⊎ (c ≡ node n))
      r = nk v n x refl k.0

      on : (c : Node) → sn (of_node n) c ⊎ (c ≡ node n) → c ≡ node' n
      on c (inl z) = k.1 c z ∙ sym r.0
      on c (inr z) = z ∙ sym r.0
  facts_map (a11 v n x) fn fl nk fo k = record {
    pos = k.pos;
    inside = omega (arith, k.inside);
    lo = k.lo;
    is = wk k.pos k.inside ∙ k.is;
    sure = sk k.pos k.inside k.sure;
  }
  facts_map (a12 v n x) fn fl nk fo k = (ap (λ z. z.linked) (fn n refl) ∙ k.0, ap (λ z. z.item) (fn n refl) ∙ k.1)
  facts_map d1 fn fl nk fo k = tt
  facts_map elsewhere fn fl nk fo k = tt
  facts_map (d2 h i) fn fl nk fo k = omega arith
  facts_map (d3 h i) fn fl nk fo k = omega arith
  facts_map (d3f h i) fn fl nk fo k = (omega (arith, k.0), above i k.0 k.1)
  facts_map (d4 h i x) fn fl nk fo k = omega arith
  facts_map (d5 h x) fn fl nk fo k = λ q o. let r = k q (fo h q refl o) in
      (r.0, omega (arith, r.1), wk (suc q) r.1 ∙ r.2, omega (arith, r.3, xk (suc q) r.1))
  facts_map (d6 h v) fn fl nk fo k = λ q o. let r = k q (fo h q refl o) in (got r.0, omega (arith, r.1, xk (suc q) r.0.inside))
  facts_map (d6f h v) fn fl nk fo k = λ q o. let r = k q (fo h q refl o) in (
    got r.0,
    omega (arith, r.1, xk (suc q) r.0.inside),
    λ c z. let y = above (idx (suc q)) r.1 r.2 c z in omega (arith, xk (suc q) r.0.inside),
  )
  facts_map (d7 h v) fn fl nk fo k = λ q o. let r = k q (fo h q refl o) in (got r.0, omega (arith, r.1))
  facts_map (s3 h i) fn fl nk fo k = (k.0, omega (arith, k.1))
  facts_map (s6 h x v) fn fl nk fo k = (
    k.0,
    λ q o. let r = k.1 q (fo h q refl o) in
        (r.0, wk (suc q) r.3.inside ∙ r.1, omega (arith, r.2, xk (suc q) r.3.inside), got r.3),
  )

abbrev pub low_of : Core → ℕ → ℕ
low_of m t = line_ix m.conf.engine m.hidx m.marks (line_of m.conf.engine t)

abbrev pub mark_of : Core → ℕ → ℕ
mark_of m t = thread_ix m.conf.engine m.marks t

abbrev pub FactsOf : Hist → Core → Gh → Pg → ℕ → Th → Type 0
FactsOf hs m g p t s = Facts (hs.since t) m.node g.who g.idx g.own (g.base t) g.len p.item p.pp p.safe (low_of m t) (mark_of m t)
    m.conf.engine t s

pub record PInv (hs : Hist) (m : Core) (g : Gh) (p : Pg) : Type 0 where
  pub head : HeadP (head_lines m.conf) g.hp p.pp g.idx (line_ix m.conf.engine m.hidx m.marks) (λ k. hs.is (of_head k))
  pub nodes : NodeP g.len p.pp g.who g.idx p.item g.own m.node (λ n. hs.is (of_node n)) p.safe
  pub facts : (t : ℕ) → FactsOf hs m g p t (m.thr t)

-- what a thread knows, where there are no more contents since its flush
pub same_facts : (hs hs' : Hist) (m : Core) (g : Gh) (p : Pg) (u : ℕ) → ((l : Line) (c : Node) → hs'.since u l c → hs.since u l c) → FactsOf hs m g p u (m.thr u)
    → FactsOf hs' m g p u (m.thr u)
same_facts hs hs' m g p u la f = facts_map (hs.since u) (hs'.since u) m.node m.node g.who g.who g.idx g.idx g.own g.own (g.base u)
    g.len g.len p.item p.item p.pp p.pp p.safe p.safe (low_of m u) (low_of m u) (mark_of m u) (mark_of m u) m.conf.engine u
    (λ q h. refl) (λ q h. refl) (λ q h. refl) (λ q h s. s) (omega arith) (omega arith) (omega arith) (omega arith) (λ c z. inl (la _ c z)) (m.thr u)
    (λ n e. refl) (λ v n x e l. l) (λ v n x e l. (refl, λ c z. inl (la _ c z))) (λ h q o e. e) f

-- there are no more contents than there were, and the present ones are among them
pub fewer_p : (hs hs' : Hist) (m : Core) (g : Gh) (p : Pg) → Inv m g → Grown nowhere (content m) hs hs' → PInv hs m g p → PInv hs' m g p
fewer_p hs hs' m g p i w j = record {
  head = fewer_h _ _ _ g.len _ _ _ i.log.rising i.log.hp_in j.head (λ k. hs'.is (of_head k)) (λ k c. w.made (of_head k) c) (λ k. w.here (of_head k));
  nodes = fewer_n _ _ _ _ _ _ _ _ (λ n. hs'.is (of_node n)) _ j.nodes (λ n c. w.made (of_node n) c) (λ n. w.here (of_node n));
  facts = λ u. same_facts hs hs' m g p u (w.later u) (j.facts u);
}

-- a thread moves on, and nothing else changes
pub goto_p : (hs : Hist) (m : Core) (g : Gh) (p : Pg) → PInv hs m g p → (t : ℕ) (s : Th) → FactsOf hs m g p t s → PInv hs (set_th m t s) g p
goto_p hs m g p i t s f = record {
  head = i.head;
  nodes = i.nodes;
  facts = λ u. upd_ind m.thr t s (λ u s. FactsOf hs m g p u s) u f (λ ne. i.facts u);
}
