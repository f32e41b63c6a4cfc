-- From the invariant: every ending is fit for a start, and its queue is lawful.
use mathlib.Core.Path.{◌≡◌, refl, sym, subst, ap, ◌∙◌}
use mathlib.Core.Bool.{Bool, true, false}
use mathlib.Core.List.{List, [], ◌∷◌, map}
use mathlib.Core.Logic.{◌≢◌, ◌⊎◌, inl, inr}
use mathlib.Core.Option.{some}
use Prim.Native.Nat.{ℕ, zero, suc, ◌≤◌, ◌<◌, min}
use native.Mathlib.Omega.{arith}
use native.Mathlib.Decide.{dec_lt, dec_le}
use lib.Dec.{eqb, eqb→eq, eqb_refl, ltb→lt, lt→ltb, leb, leb→le, le→leb}
use Rattle.model.specs.Basics.{bothb, has}
use Rattle.model.specs.Lines.{of_head, of_node}
use Rattle.model.specs.Conf.{head_lines}
use Rattle.model.specs.Core.{Core, Node, nothing, done, empty, item}
use Rattle.model.specs.Recovery.{head_of, largest, Image, recovered, queue_of, items_of}
use Rattle.model.specs.Lawful.{Lawful, Timely, Distinct, Earlier, serve_all}
use Rattle.model.specs.Bench.{Book}
use Rattle.model.specs.Demand3.{Ending, Fit}
use Rattle.model.proofs.Times.{Hist}
use Rattle.model.proofs.Basics.{yes_of, T_of, both_of, dec_true}
use Rattle.model.proofs.Layer1.Ghost.{lent_w, lent, Place, queue, waiting, deqd, kept, enqd, spare, off}
use Rattle.model.proofs.Layer2.Contents.{Known, Gone, idx_mono}
use Rattle.model.proofs.Layer2.Heads.{head_h}
use Rattle.model.proofs.Layer3.Effects.{Lin, What, put, get, saw, nay, has_l, Falling, NoTwo, Okay, Fits}
use Rattle.model.proofs.Queue.Serve.{seg, order, stays, answered, plays, add_if}
use Rattle.model.proofs.Queue.Sorted.{up_unique, q_in, q_all, q_up, seg_in, seg_all, seg_up, map_seg, has_add, add_has}
use Rattle.model.proofs.Layer3.All.{All, sound_len}

abbrev orb : Bool → Bool → Bool
orb true b = true
orb false b = b

or_cases : (a b : Bool) → orb a b ≡ true → (a ≡ true) ⊎ (b ≡ true)
or_cases true b e = inl refl
or_cases false b e = inr e

or_left : (a b : Bool) → a ≡ true → orb a b ≡ true
or_left a b e = rw e refl

or_right : (a b : Bool) → b ≡ true → orb a b ≡ true
or_right true b e = refl
or_right false b e = e

module _ (ls : ℕ → Bool) (hs : Hist) (m : Core) (b : Book) (q₀ : List ℕ) (now : ℕ) (a : All ls hs m b q₀ now) (e : Image) (en : Ending hs.is m.conf e) where
  pub place_of : (k : ℕ) × (a.p.pp ≤ k) × (k ≤ a.g.hp) × (head_of e ≡ a.g.idx k)
  unfolding head_of
  place_of = let r = head_h _ _ _ a.g.len _ _ _ a.inv.log.rising a.inv.log.hp_in a.pinv.head e.heads (λ k h. en.lines (of_head k) h) in
      (r.0, r.1, r.2, ap (λ c. largest (head_lines c) e.heads) en.conf ∙ r.3)

  abbrev hd : (k : ℕ) × (a.p.pp ≤ k) × (k ≤ a.g.hp) × (head_of e ≡ a.g.idx k)
  hd = place_of

  -- the place of the ending's head
  k : ℕ
  k = hd.0

  k_in : hd.0 < a.g.len
  k_in = omega (arith, hd.2, a.inv.log.hp_in)

  -- a recovered content is that of a place behind the head
  known : (n : ℕ) → n < m.conf.nodes → recovered (head_of e) (e.at n) ≡ true → Known a.g.who a.g.idx a.p.item a.g.len n (e.at n)
  known n h r = by (a.pinv.nodes.linked n (e.at n) (en.lines (of_node n) h) (both_of (e.at n).linked _ r).0)
    where
      lt : head_of e < (e.at n).index
      lt = ltb→lt (head_of e) (e.at n).index (T_of _ (both_of (e.at n).linked _ r).1)

      by : ((e.at n).index ≤ a.g.idx a.p.pp) ⊎ Known a.g.who a.g.idx a.p.item a.g.len n (e.at n)
          → Known a.g.who a.g.idx a.p.item a.g.len n (e.at n)
      by (inl z) = absurd (omega (arith, lt, hd.3, idx_mono a.g.idx a.g.len a.inv.log.rising a.p.pp hd.0 hd.1 k_in))
      by (inr w) = w

  behind : (n : ℕ) (h : n < m.conf.nodes) (r : recovered (head_of e) (e.at n) ≡ true) → hd.0 < (known n h r).at
  behind n h r = by (dec_lt hd.0 (known n h r).at)
    where
      lt : head_of e < (e.at n).index
      lt = ltb→lt (head_of e) (e.at n).index (T_of _ (both_of (e.at n).linked _ r).1)

      by : Dec (hd.0 < (known n h r).at) → hd.0 < (known n h r).at
      by (yes z) = z
      by (no z) = absurd (omega (
        arith,
        lt,
        hd.3,
        (known n h r).ix,
        idx_mono a.g.idx a.g.len a.inv.log.rising (known n h r).at hd.0
            (omega arith) k_in,
      ))

  one_place : (p q : ℕ) → p < a.g.len → q < a.g.len → a.g.idx p ≡ a.g.idx q → p ≡ q
  one_place p q x y z = by (dec_lt p q) (dec_lt q p)
    where
      by : Dec (p < q) → Dec (q < p) → p ≡ q
      by (yes w) v = absurd (omega (arith, a.inv.log.rising p q w y))
      by (no w) (yes v) = absurd (omega (arith, a.inv.log.rising q p v x))
      by (no w) (no v) = omega arith

  -- a place from the persisted head on is its node's last, and the node is in the table
  held_at : (q : ℕ) → q < a.g.len → a.p.pp ≤ q → (a.g.own (a.g.who q) ≡ queue q) ⊎ ((t : ℕ) × (a.g.own (a.g.who q) ≡ deqd t q))
  held_at q h l = by (a.g.own (a.g.who q)) refl (a.pinv.nodes.gone q h)
    where
      by : (o : Place) → a.g.own (a.g.who q) ≡ o → Gone a.p.pp q o → (a.g.own (a.g.who q) ≡ queue q)
          ⊎ ((t : ℕ) × (a.g.own (a.g.who q) ≡ deqd t q))
      by (queue r) w (inl z) = inl (w ∙ ap queue (sym z))
      by (queue r) w (inr z) = absurd (omega arith)
      by (waiting r) w z = absurd (omega arith)
      by (deqd t r) w (inl z) = inr (t, w ∙ ap (deqd t) (sym z))
      by (deqd t r) w (inr z) = absurd (omega arith)
      by (kept t r) w z = absurd (omega arith)
      by (enqd t) w z = absurd (omega arith)
      by spare w z = absurd (omega arith)
      by off w z = absurd (omega arith)
      by lent w z = absurd (omega arith)
      by lent_w w z = absurd (omega arith)

  abbrev tag2 : Place → ℕ
  tag2 (queue q) = suc q
  tag2 (waiting q) = 0
  tag2 (deqd t q) = suc q
  tag2 (kept t q) = 0
  tag2 (enqd t) = 0
  tag2 spare = 0
  tag2 off = 0
  tag2 lent = 0
  tag2 lent_w = 0

  tagged : (q : ℕ) → q < a.g.len → a.p.pp ≤ q → tag2 (a.g.own (a.g.who q)) ≡ suc q
  tagged q h l = by (held_at q h l)
    where
      by : (a.g.own (a.g.who q) ≡ queue q) ⊎ ((t : ℕ) × (a.g.own (a.g.who q) ≡ deqd t q)) → tag2 (a.g.own (a.g.who q)) ≡ suc q
      by (inl z) = ap tag2 z
      by (inr z) = ap tag2 z.1

  in_table : (q : ℕ) → q < a.g.len → a.p.pp ≤ q → a.g.who q < m.conf.nodes
  in_table q h l = by (dec_lt (a.g.who q) m.conf.nodes)
    where
      by : Dec (a.g.who q < m.conf.nodes) → a.g.who q < m.conf.nodes
      by (yes z) = z
      by (no z) = absurd (omega (arith, tagged q h l, ap tag2 ((a.table (a.g.who q)).0 (omega arith))))

  -- ---- the ending is fit

  -- the node at the head's place is not recovered
  head_out : recovered (head_of e) (e.at (a.g.who hd.0)) ≡ false
  head_out = no (dec_true (recovered (head_of e) (e.at (a.g.who hd.0))))
    where
      no : (recovered (head_of e) (e.at (a.g.who hd.0)) ≡ true) ⊎ (recovered (head_of e) (e.at (a.g.who hd.0)) ≡ false)
          → recovered (head_of e) (e.at (a.g.who hd.0)) ≡ false
      no (inr z) = z
      no (inl z) =
          let w = in_table hd.0 k_in hd.1 in
          let kn = known (a.g.who hd.0) w z in
          let bh = behind (a.g.who hd.0) w z in
          let t1 = tagged hd.0 k_in hd.1 in
          let t2 : tag2 (a.g.own (a.g.who hd.0)) ≡ suc kn.at = ap (λ y. tag2 (a.g.own y)) (sym kn.is) ∙ tagged kn.at kn.inside
          (omega (arith, hd.1)) in
          absurd (omega arith)

  pub fit : Fit e
  fit = record {
    lined = subst (λ c. 0 < head_lines c) (sym en.conf) (omega (arith, a.pinv.head.anchor_in));
    twins = λ n j h l rn rj z. let kn = known n (cf n h) rn in let kj = known j (omega (arith, cf n h)) rj in
        let same : kn.at ≡ kj.at = one_place kn.at kj.at kn.inside kj.inside (kn.ix ∙ z ∙ sym kj.ix) in
        let nj : n ≡ j = sym kn.is ∙ ap a.g.who same ∙ kj.is in omega arith;
    spare = (
      a.g.who hd.0,
      subst (λ c. a.g.who hd.0 < c.nodes) (sym en.conf) (in_table hd.0 k_in hd.1),
      head_out,
    );
  }
    where
      cf : (n : ℕ) → n < e.conf.nodes → n < m.conf.nodes
      cf n h = subst (λ c. n < c.nodes) en.conf h

  -- a node in use here is left over: the one at the head's place
  pub spare_here : (n : ℕ) × (n < m.conf.nodes) × (ls n ≡ false) × (m.free n ≡ false) × (m.wait n ≡ []) × (recovered (head_of e) (e.at n) ≡ false)
  spare_here = let n = a.g.who hd.0 in let f = used (held_at hd.0 k_in hd.1) in
      (n, in_table hd.0 k_in hd.1, by (dec_true (ls n)), f.0, f.1, head_out)
    where
      by : (ls (a.g.who hd.0) ≡ true) ⊎ (ls (a.g.who hd.0) ≡ false) → ls (a.g.who hd.0) ≡ false
      by (inl z) = absurd (omega (arith, tagged hd.0 k_in hd.1, ap tag2 ((a.lents (a.g.who hd.0)).1 z)))
      by (inr z) = z

      used : (a.g.own (a.g.who hd.0) ≡ queue hd.0) ⊎ ((t : ℕ) × (a.g.own (a.g.who hd.0) ≡ deqd t hd.0))
          → (m.free (a.g.who hd.0) ≡ false) × (m.wait (a.g.who hd.0) ≡ [])
      used (inl z) = rw z at (a.inv.place.marks (a.g.who hd.0))
      used (inr z) = rw z.1 at (a.inv.place.marks (a.g.who hd.0))

  -- a node with another queue is not recovered here
  pub lent_passed : (n : ℕ) → n < m.conf.nodes → ls n ≡ true → recovered (head_of e) (e.at n) ≡ false
  lent_passed n h l = by (dec_true (recovered (head_of e) (e.at n)))
    where
      by : (recovered (head_of e) (e.at n) ≡ true) ⊎ (recovered (head_of e) (e.at n) ≡ false) → recovered (head_of e) (e.at n) ≡ false
      by (inr z) = z
      by (inl z) =
          let kn = known n h z in
          let t₁ = tagged kn.at kn.inside (omega (arith, hd.1, behind n h z)) in
          absurd (omega (arith, t₁, ap (λ y. tag2 (a.g.own y)) kn.is, ap tag2 ((a.lents n).1 l)))

  -- ---- the places that are kept

  keep : ℕ → Bool
  keep q = orb (leb q hd.0) (bothb (recovered (head_of e) (e.at (a.g.who q))) (eqb (e.at (a.g.who q)).index (a.g.idx q)))

  keep_low : (q : ℕ) → q ≤ hd.0 → keep q ≡ true
  unfolding keep
  keep_low q h = or_left (leb q hd.0) _ (yes_of _ (le→leb q hd.0 h))

  -- a kept place behind the head has its node recovered, with its index
  keep_high : (q : ℕ) → hd.0 < q → keep q ≡ true → (recovered (head_of e) (e.at (a.g.who q)) ≡ true) × ((e.at (a.g.who q)).index ≡ a.g.idx q)
  unfolding keep
  keep_high q h r = by (or_cases (leb q hd.0) _ r)
    where
      by : (leb q hd.0 ≡ true) ⊎ (bothb (recovered (head_of e) (e.at (a.g.who q))) (eqb (e.at (a.g.who q)).index (a.g.idx q)) ≡ true)
          → (recovered (head_of e) (e.at (a.g.who q)) ≡ true) × ((e.at (a.g.who q)).index ≡ a.g.idx q)
      by (inl z) = let w : q ≤ hd.0 = leb→le q hd.0 (T_of _ z) in absurd (omega arith)
      by (inr z) = let w = both_of (recovered (head_of e) (e.at (a.g.who q))) _ z in (w.0, eqb→eq (e.at (a.g.who q)).index (a.g.idx q) (T_of _ w.1))

  keep_is : (q : ℕ) → recovered (head_of e) (e.at (a.g.who q)) ≡ true → (e.at (a.g.who q)).index ≡ a.g.idx q → keep q ≡ true
  unfolding keep
  keep_is q r i = or_right (leb q hd.0) _ (rw (r, i) (yes_of (eqb (a.g.idx q) (a.g.idx q)) (eqb_refl (a.g.idx q))))

  -- what was persisted is kept
  keep_safe : (q : ℕ) → q < a.g.len → a.p.safe q ≡ true → keep q ≡ true
  keep_safe q h s = by (dec_le q hd.0) (a.pinv.nodes.safely q h s)
    where
      by : Dec (q ≤ hd.0) → (q ≤ a.p.pp) ⊎ ((c : Node) → hs.is (of_node (a.g.who q)) c → (c.linked ≡ true) × (c.index ≡ a.g.idx q))
          → keep q ≡ true
      by (yes z) f = keep_low q z
      by (no z) (inl f) = keep_low q (omega (arith, hd.1))
      by (no z) (inr f) =
          let c = f (e.at (a.g.who q)) (en.lines (of_node (a.g.who q)) (in_table q h (omega (arith, hd.1)))) in
          let lt : head_of e < (e.at (a.g.who q)).index = omega (arith, c.1, hd.3, a.inv.log.rising hd.0 q (omega arith) h) in
          keep_is q (rw c.0 (yes_of _ (lt→ltb (head_of e) (e.at (a.g.who q)).index lt))) c.1

  -- ---- the recovered queue is what is kept behind the head

  nodes_are : queue_of e.at (head_of e) m.conf.nodes ≡ seg a.g.who keep hd.0 a.g.len
  nodes_are = up_unique (λ n. (e.at n).index) _ _
      (q_up e.at (head_of e) m.conf.nodes (λ n j h l rn rj. fit.twins n j (subst (λ c. n < c.nodes) (sym en.conf) h) l rn rj))
      (seg_up a.g.who keep (λ n. (e.at n).index) hd.0 a.g.len
      (λ p q x y z kp kq. rw ((keep_high p x kp).1, (keep_high q (omega arith) kq).1) (a.inv.log.rising p q y z)))
      (λ n h. let r = q_in e.at (head_of e) m.conf.nodes n h in let w = known n r.0 r.1 in
      subst (λ y. has y (seg a.g.who keep hd.0 a.g.len)) w.is
      (seg_all a.g.who keep hd.0 a.g.len w.at (behind n r.0 r.1) w.inside
      (keep_is w.at (rw w.is r.1) (ap (λ y. (e.at y).index) w.is ∙ sym w.ix))))
      (λ n h. let s = seg_in a.g.who keep hd.0 a.g.len n h in
      subst (λ y. has y (queue_of e.at (head_of e) m.conf.nodes)) s.4
      (q_all e.at (head_of e) m.conf.nodes (a.g.who s.0) (in_table s.0 s.2 (omega (arith, s.1, hd.1)))
      (keep_high s.0 s.1 s.3).0))

  items_are : items_of e ≡ seg a.p.item keep hd.0 a.g.len
  unfolding items_of
  items_are = ap (λ c. map (λ n. (e.at n).item) (queue_of e.at (head_of e) c.nodes)) en.conf ∙ ap (map (λ n. (e.at n).item)) nodes_are
      ∙ map_seg a.g.who a.p.item keep (λ n. (e.at n).item) hd.0 a.g.len (λ q x y z.
      let kh = keep_high q x z in let tb = in_table q y (omega (arith, hd.1)) in let w = known (a.g.who q) tb kh.0 in
      let same : w.at ≡ q = one_place w.at q w.inside y (w.ix ∙ kh.1) in
      sym w.val ∙ ap a.p.item same)

  -- ---- the order

  abbrev stay : Lin → Bool
  stay x = stays a.p.item keep b.op hd.0 x x.what

  abbrev ord : List Lin → List ℕ
  ord l = order a.p.item keep b.op hd.0 l

  -- an operation of the order has an entry
  ord_in : (l : List Lin) (o : ℕ) → has o (ord l) → (x : Lin) × has_l x l × (x.by ≡ o)
  unfolding order
  ord_in [] o h = absurd h
  ord_in (x ∷ l) o h = by (has_add (stay x) x.by (ord l) o h) (ord_in l o)
    where
      by : has o (ord l) ⊎ ((stay x ≡ true) × (o ≡ x.by)) → (has o (ord l) → (y : Lin) × has_l y l × (y.by ≡ o)) → (y : Lin) × ((y ≡ x) ⊎ has_l y l)
          × (y.by ≡ o)
      by (inl z) r = let w = r z in (w.0, inr w.1, w.2)
      by (inr z) r = (x, inl refl, sym z.1)

  ord_all : (l : List Lin) (x : Lin) → has_l x l → stay x ≡ true → has x.by (ord l)
  unfolding order
  ord_all [] x h s = absurd h
  ord_all (y ∷ l) x (inl h) s = add_has (stay y) y.by (ord l) x.by (inr (subst (λ z. stay z ≡ true) h s, ap (λ z. z.by) h))
  ord_all (y ∷ l) x (inr h) s = add_has (stay y) y.by (ord l) x.by (inl (ord_all l x h s))

  -- one more at the end
  distinct_add : (t : Bool) (x : ℕ) (l : List ℕ) → Distinct l → ¬ has x l → Distinct (add_if t x l)
  distinct_add false x l d n = d
  distinct_add true x [] d n = ((λ h. h), tt)
  distinct_add true x (y ∷ l) d n = ((λ h. no (has_add true x l y h)), distinct_add true x l d.1 (λ h. n (inr h)))
    where
      no : has y l ⊎ ((true ≡ true) × (y ≡ x)) → ⊥
      no (inl z) = d.0 z
      no (inr z) = n (inl (sym z.1))

  ord_distinct : (l : List Lin) → NoTwo l → Distinct (ord l)
  unfolding order
  ord_distinct [] n = tt
  ord_distinct (x ∷ l) n = distinct_add (stay x) x.by (ord l) (ord_distinct l n.1) (λ h. let w = ord_in l x.by h in n.0 w.0 w.1 w.2)

  timely_add : (t : Bool) (x : ℕ) (l : List ℕ) → Timely b.op l → ((j : ℕ) → has j l → ¬ Earlier (b.op x) (b.op j)) → Timely b.op (add_if t x l)
  timely_add false x l d n = d
  timely_add true x [] d n = ((λ j h. absurd h), tt)
  timely_add true x (y ∷ l) d n = ((λ j h. no j (has_add true x l j h)), timely_add true x l d.1 (λ j h. n j (inr h)))
    where
      no : (j : ℕ) → has j l ⊎ ((true ≡ true) × (j ≡ x)) → ¬ Earlier (b.op j) (b.op y)
      no j (inl z) = d.0 j z
      no j (inr z) = subst (λ w. ¬ Earlier (b.op w) (b.op y)) (sym z.1) (n y (inl refl))

  ord_timely : (l : List Lin) → Falling l → ((x : Lin) → has_l x l → has_l x a.lin) → Timely b.op (ord l)
  unfolding order
  ord_timely [] f s = tt
  ord_timely (x ∷ l) f s = timely_add (stay x) x.by (ord l) (ord_timely l f.1 (λ y h. s y (inr h)))
      (λ j h er. let w = ord_in l j h in
      let ex = a.lins.entries x (s x (inl refl)) in
      let ew = a.lins.entries w.0 (s w.0 (inr w.1)) in
      let bg : (b.op j).began ≤ w.0.at = subst (λ y. (b.op y).began ≤ w.0.at) w.2 ew.begun in
      omega (arith, f.0 w.0 w.1, ex.ended er.0, er.1))

  -- an operation that was answered stays
  said_stays : (x : Lin) (w : What) → Fits (b.op x.by) a.g.len a.p.pp a.p.item a.p.safe w → (b.op x.by).said ≢ nothing
      → stays a.p.item keep b.op hd.0 x w ≡ true
  unfolding stays answered
  said_stays x (put p) f s = by f.2
    where
      by : Okay (b.op x.by).said done (a.p.safe p ≡ true) → keep p ≡ true
      by (inl z) = absurd (s z)
      by (inr z) = keep_safe p f.0 z.1
  said_stays x (get p) f s = by f.2
    where
      by : Okay (b.op x.by).said (item (a.p.item p)) (p ≤ a.p.pp) → leb p hd.0 ≡ true
      by (inl z) = absurd (s z)
      by (inr z) = yes_of _ (le→leb p hd.0 (omega (arith, z.1, hd.1)))
  said_stays x (saw p) f s = by f.2
    where
      by : Okay (b.op x.by).said empty (p ≤ a.p.pp) → answered a.p.item keep b.op hd.0 (b.op x.by).said ≡ true
      by (inl z) = absurd (s z)
      by (inr z) = rw z.0 refl
  said_stays x nay f s = refl

  roots_are : (n : ℕ) → n ≤ a.first → seg a.p.item (λ k. true) 0 n ≡ seg a.p.item keep 0 n
  unfolding seg
  roots_are zero h = refl
  roots_are (suc n) h = rw (
    roots_are n (omega arith),
    keep_safe n
        (omega (arith, sound_len a.first a.lin a.g.hp a.g.len a.lins.sound)) (a.lins.rooted n (omega arith)),
  ) refl

  pub lawful : Lawful b.op b.count q₀ (items_of e)
  lawful = record {
    order = ord a.lin;
    within = λ o h. let w = ord_in a.lin o h in subst (λ y. y < b.count) w.2 (a.lins.entries w.0 w.1).numbered;
    distinct = ord_distinct a.lin a.lins.notwo;
    whole = λ o h s. let w = a.lins.said_in o h s in
        subst (λ y. has y (ord a.lin)) w.2 (ord_all a.lin w.0 w.1
        (said_stays w.0 w.0.what (a.lins.entries w.0 w.1).fits (subst (λ y. (b.op y).said ≢ nothing) (sym w.2) s)));
    timely = ord_timely a.lin a.lins.falling (λ x h. h);
    plays = ap (λ q. serve_all b.op (ord a.lin) q) (a.roots ∙ roots_are a.first (omega arith))
        ∙ plays a.p.item keep b.op hd.0 a.first a.g.len a.p.pp a.p.safe hd.1 keep_low a.lin a.g.hp a.g.len
        a.lins.sound (λ x h. (a.lins.entries x h).fits)
        ∙ ap some (ap (λ y. seg a.p.item keep y a.g.len) (let z : min a.g.hp hd.0 ≡ hd.0 = omega (arith, hd.2) in z) ∙ sym items_are);
  }
