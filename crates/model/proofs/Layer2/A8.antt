-- A8 keeps the second layer: the new place has the item, and is not yet safe.
use mathlib.Core.Path.{◌≡◌, refl, sym, ap, ◌∙◌}
use mathlib.Core.Bool.{true, false}
use mathlib.Core.Logic.{◌⊎◌, inl, inr}
use mathlib.Core.Option.{none, some}
use Prim.Native.Nat.{ℕ, suc, ◌≤◌, ◌<◌}
use native.Mathlib.Omega.{arith}
use native.Mathlib.Decide.{ℕ_discrete}
use Rattle.model.specs.Basics.{upd}
use Rattle.model.specs.Lines.{of_node}
use Rattle.model.specs.Core.{Core, Node, a8, a9}
use Rattle.model.specs.Changes.{set_th, set_next}
use Rattle.model.proofs.Basics.{upd_ind, upd_other, upd_at, upd_same}
use Rattle.model.proofs.Times.{Hist}
use Rattle.model.proofs.Layer1.Ghost.{Gh, Inv, queue, enqd, poss, Live, ixs}
use Rattle.model.proofs.Layer1.Places.{before, tag, live_in}
use Rattle.model.proofs.Layer1.A8.{link_g, was_live, A8yes}
use Rattle.model.proofs.Layer1.D4.{r}
use Rattle.model.proofs.Layer2.Contents.{Pg, Quiet, Gone, Known}
use Rattle.model.proofs.Layer2.Heads.{moved_h}
use Rattle.model.proofs.Layer2.Invariant.{PInv, Facts, low_of, mark_of, facts_map}

module _ (hs : Hist) (m : Core) (g : Gh) (p : Pg) (i : Inv m g) (j : PInv hs m g p) (t v n x : ℕ) (e : m.thr t ≡ a8 v n x) (nx : m.next x ≡ none) where
  abbrev pub link_p : Pg
  link_p = record { item = upd p.item g.len v; pp = p.pp; safe = upd p.safe g.len false }

  wo : (q : ℕ) → q < g.len → upd g.who g.len n q ≡ g.who q
  wo q h = upd_other g.who g.len n (λ f. omega arith)

  io : (q : ℕ) → q < g.len → upd g.idx g.len (ixs m.node n) q ≡ g.idx q
  io q h = upd_other g.idx g.len (ixs m.node n) (λ f. omega arith)

  to : (q : ℕ) → q < g.len → upd p.item g.len v q ≡ p.item q
  to q h = upd_other p.item g.len v (λ f. omega arith)

  on : g.own n ≡ enqd t
  on = i.place.enq_own t n (rw e)

  pp_in : p.pp < g.len
  pp_in = omega (arith, j.head.pp_hp, i.log.hp_in)

  pub A8P : PInv hs (set_th (set_next m x (some n)) t (a9 v n x)) (link_g g n (m.node n).index) link_p
  A8P = record {
    head = moved_h _ _ _ g.len _ _ _ i.log.rising i.log.hp_in j.head g.hp (upd g.idx g.len (ixs m.node n)) (omega arith)
        (λ q h. io q (omega (arith, i.log.hp_in)));
    nodes = record {
      cached = j.nodes.cached;
      linked = λ k c h l. lk k c (j.nodes.linked k c h l);
      quiet = λ k c h. rw (io p.pp pp_in) (upd_ind g.own n (queue g.len) (λ k o. hs.is (of_node k) c → Quiet (g.idx p.pp) c o) k
          (λ h. tt) (λ ne h. j.nodes.quiet k c h) h);
      gone = λ q h. gn q h (ℕ_discrete q g.len);
      values = λ q l. vl q l (ℕ_discrete q g.len);
      safely = λ q h s. sf q h s (ℕ_discrete q g.len);
    };
    facts = λ u. upd_ind m.thr t (a9 v n x) (λ u s. Facts (hs.since u) m.node (upd g.who g.len n) (upd g.idx g.len (ixs m.node n))
        (upd g.own n (queue g.len)) (g.base u) (suc g.len) (upd p.item g.len v) p.pp (upd p.safe g.len false) (low_of m u)
        (mark_of m u) m.conf.engine u s) u tt
        (λ ne. facts_map (hs.since u) (hs.since u) m.node m.node g.who (upd g.who g.len n) g.idx (upd g.idx g.len (ixs m.node n)) g.own
        (upd g.own n (queue g.len)) (g.base u) g.len (suc g.len) p.item (upd p.item g.len v) p.pp p.pp p.safe
        (upd p.safe g.len false) (low_of m u) (low_of m u) (mark_of m u) (mark_of m u) m.conf.engine u
        wo io to (λ q h s. upd_other p.safe g.len false (λ f. omega arith) ∙ s) (omega arith) (omega arith) (omega arith) (omega arith) (λ c z. inl z)
        (m.thr u) (λ n e. refl) (λ v n x e l. l) (λ v n x e l. (refl, λ c z. inl z))
        (λ h q o w. (before g.own n (queue g.len) h (λ f. omega (arith, ap tag f)) w).1) (j.facts u));
  }
    where
      kn : (k : ℕ) (c : Node) → Known g.who g.idx p.item g.len k c
          → Known (upd g.who g.len n) (upd g.idx g.len (ixs m.node n)) (upd p.item g.len v) (suc g.len) k c
      kn k c r = record {
        at = r.at;
        inside = omega (arith, r.inside);
        is = wo r.at r.inside ∙ r.is;
        ix = io r.at r.inside ∙ r.ix;
        val = to r.at r.inside ∙ r.val;
      }

      lk : (k : ℕ) (c : Node) → (c.index ≤ g.idx p.pp) ⊎ Known g.who g.idx p.item g.len k c
          → (c.index ≤ upd g.idx g.len (ixs m.node n) p.pp) ⊎ Known (upd g.who g.len n) (upd g.idx g.len (ixs m.node n))
          (upd p.item g.len v) (suc g.len) k c
      lk k c (inl a) = inl (rw (io p.pp pp_in) a)
      lk k c (inr b) = inr (kn k c b)

      gn : (q : ℕ) → q < suc g.len → Dec (q ≡ g.len) → Gone p.pp q (upd g.own n (queue g.len) (upd g.who g.len n q))
      gn q h (yes f) = rw (upd_at g.who g.len n f, upd_same g.own n (queue g.len)) (inl f)
      gn q h (no f) = rw (wo q (omega arith)) (upd_ind g.own n (queue g.len) (λ k o. Gone p.pp q (g.own k) → Gone p.pp q o) (g.who q)
          (λ k. inr (let z : Gone p.pp q (enqd t) = rw on at k in z)) (λ ne k. k) (j.nodes.gone q (omega arith)))

      vl : (q : ℕ) → Live (upd g.who g.len n) (poss (upd g.own n (queue g.len))) q → Dec (q ≡ g.len)
          → (m.node (upd g.who g.len n q)).item ≡ upd p.item g.len v q
      vl q l (yes f) = ap (λ k. (m.node k).item) (upd_at g.who g.len n f) ∙ (rw e at (j.facts t)).1 ∙ sym (upd_at p.item g.len v f)
      vl q l (no f) =
          let h : q < suc g.len = live_in (upd g.who g.len n) (upd g.own n (queue g.len)) g.hp (suc g.len) q
          (A8yes m g i t v n x e nx).place.spot l in
          let h' : q < g.len = omega arith in
          ap (λ k. (m.node k).item) (wo q h') ∙ j.nodes.values q (was_live m g i t v n x e nx q h' l) ∙ sym (to q h')

      sf : (q : ℕ) → q < suc g.len → upd p.safe g.len false q ≡ true → Dec (q ≡ g.len)
          → (q ≤ p.pp) ⊎ ((c : Node) → hs.is (of_node (upd g.who g.len n q)) c
          → (c.linked ≡ true) × (c.index ≡ upd g.idx g.len (ixs m.node n) q))
      sf q h s (yes f) = let a = upd_at p.safe g.len false f in let z : ◌≡◌ {A = ℕ} 0 1 = cc in absurd (omega arith)
      sf q h s (no f) = rw (wo q (omega arith), io q (omega arith)) (j.nodes.safely q (omega arith) (sym (upd_other p.safe g.len false f) ∙ s))
