-- From the test for 18 to the ranges as facts. Assumes nothing.
use Prim.Native.Nat.{ℕ, ◌≤◌, ◌<◌, ◌^◌}
use mathlib.Core.Path.{◌≡◌, refl, sym, ap, ◌∙◌}
use mathlib.Core.Bool.{Bool, true, false, not}
use mathlib.Core.Logic.{inl, inr}
use native.Mathlib.Omega.{arith}
use borrow.Author.Tests.{ltb-true, leb-true, eqb-true, not-true, not-false, eq-eqb}
use lib.Dec.{eqb, leb}
use Rattle.lists.specs.Find.{pick, both, any}
use Rattle.lists.proofs.BoolLaws.{both_true}
use Rattle.lists.proofs.FindLaws as find
use Rattle.image.specs.Form.{known, top_of, head_lines}
use Rattle.machine.specs.Record.{none, node, kept, head_at, kept_head, thread, flushed, late, over_head, over_node}
use Rattle.machine.specs.Stage as st
use Rattle.machine.specs.Line.{shape_of}
use Rattle.machine.specs.Range.{ranges_fit, is_index, head_fits, index_fits, form_fits, is_flag, is_set, flush_fits, flushes_fit, in_range, is_node, is_link, read_fits, next_fits, node_fits, thread_fits}
use Rattle.machine.specs.declared.Machine.{Machine}
use Rattle.range.specs.Parts.{sizes_in, bad_node, bad_thread}
use Rattle.range.specs.Facts.{Sizes, Link, NodeFacts, ThreadFacts, Narrow, Flushes, Facts}

-- ---- each part

pub sizes_in_lem : (n k : ℕ) → sizes_in n k ≡ true → Sizes n k
sizes_in_lem n k h =
    let a = both_true (both (leb 2 n) (leb n 64)) (both (leb 1 k) (leb k 8)) h in
    let b = both_true (leb 2 n) (leb n 64) a.0 in
    let c = both_true (leb 1 k) (leb k 8) a.1 in
    record {
      nodes_low = leb-true 2 n b.0;
      nodes_high = leb-true n 64 b.1;
      threads_low = leb-true 1 k c.0;
      threads_high = leb-true k 8 c.1;
    }

module _ (m : Machine) where
  link_at : (x : ℕ) (b : Bool) → eqb x none ≡ b → pick b true (is_node m x) ≡ true → Link m x
  link_at x true e h = inl (eqb-true x none e)
  link_at x false e h = inr (ltb-true x m.n h)

  link_of : (x : ℕ) → is_link m x ≡ true → Link m x
  link_of x h = link_at x (eqb x none) refl h

  read_used : (u : Bool) (x : ℕ) → read_fits m u x ≡ true → u ≡ true → x < m.n
  read_used true x h e = ltb-true x m.n h
  read_used false x h e = let z : ◌≡◌ {A = ℕ} 0 1 = cc in absurd (omega arith)

  read_link : (u : Bool) (x : ℕ) → read_fits m u x ≡ true → Link m x
  read_link true x h = inr (ltb-true x m.n h)
  read_link false x h = link_of x h

  pub node_facts : (i : ℕ) → node_fits m i ≡ true → NodeFacts m i
  unfolding node_fits
  node_facts i h =
      let a = both_true _ _ h in
      let b = both_true _ _ a.1 in
      let c = both_true _ _ b.1 in
      record {
        next = link_of (node m i).next a.0;
        linked = leb-true (node m i).linked 1 b.0;
        kept_linked = leb-true (kept m i).linked 1 c.0;
        waits = ltb-true (node m i).waits (2 ^ m.t) c.1;
      }

  after_at : (x : ℕ) → Link m (node m x).next → not (eqb (node m x).next none) ≡ true → (node m x).next < m.n
  after_at x (inl e) h = let z : ◌≡◌ {A = Bool} true false = sym (eq-eqb (node m x).next none e) ∙ not-true _ h in let y : ◌≡◌ {A = ℕ} 0 1 = cc in absurd (omega arith)
  after_at x (inr l) h = l

  pub thread_facts : (k : ℕ) → ((i : ℕ) → i < m.n → NodeFacts m i) → thread_fits m k ≡ true → ThreadFacts m k
  unfolding thread_fits
  thread_facts k nodes h =
      let v = thread m k in
      let s = st.stage m k in
      let a = both_true _ _ h in
      let b = both_true _ _ a.1 in
      let c = both_true _ _ b.1 in
      let d = both_true _ _ c.1 in
      let e = both_true _ _ d.1 in
      let f = both_true _ _ e.1 in
      let tail : st.uses s st.t ≡ true → v.tail < m.n = read_used (st.uses s st.t) v.tail c.0 in
      record {
        step = a.0;
        own_used = read_used (st.uses s st.own) v.node b.0;
        tail_used = tail;
        head_used = read_used (st.uses s st.the_head) v.head d.0;
        next_used = read_used (st.uses s st.the_next) v.next e.0;
        own_link = read_link (st.uses s st.own) v.node b.0;
        tail_link = read_link (st.uses s st.t) v.tail c.0;
        head_link = read_link (st.uses s st.the_head) v.head d.0;
        next_link = read_link (st.uses s st.the_next) v.next e.0;
        held_link = link_of v.held f.0;
        after = λ p. after_at v.tail (nodes v.tail (tail (ap (λ (x : ℕ). st.uses (st.stage_of x) st.t) p))).next
            (ap (λ (x : ℕ). next_fits m (eqb x 12) v.tail) (sym p) ∙ f.1);
      }

  pub ranges_sizes : ranges_fit m ≡ true → Sizes m.n m.t
  unfolding ranges_fit
  ranges_sizes h = sizes_in_lem m.n m.t (both_true _ _ h).0

  index_of : (x : ℕ) → is_index m x ≡ true → x ≤ top_of m.form
  index_of x h = leb-true x (top_of m.form) h

  pub narrow_of : form_fits m ≡ true → Narrow m
  unfolding form_fits head_fits index_fits
  narrow_of h =
      let hs₀ = not (any (λ k. not (head_fits m k)) (head_lines (shape_of m))) in
      let ns₀ = not (any (λ i. not (index_fits m i)) m.n) in
      let ts₀ = not (any (λ k. not (is_index m (thread m k).index)) m.t) in
      let a = both_true (known m.form) (both hs₀ (both ns₀ ts₀)) h in
      let b = both_true hs₀ (both ns₀ ts₀) a.1 in
      let c = both_true ns₀ ts₀ b.1 in
      let heads : (k : ℕ) → k < head_lines (shape_of m) → head_fits m k ≡ true = λ k p. not-false _ (find.any_clear (λ k. not (head_fits m k)) (head_lines (shape_of m)) k (not-true _ b.0) p) in
      let nodes : (i : ℕ) → i < m.n → index_fits m i ≡ true = λ i p. not-false _ (find.any_clear (λ i. not (index_fits m i)) m.n i (not-true _ c.0) p) in
      record {
        form = a.0;
        head = λ k p. index_of (head_at m k) (both_true (is_index m (head_at m k)) (is_index m (kept_head m k)) (heads k p)).0;
        kept_head_lem = λ k p. index_of (kept_head m k) (both_true (is_index m (head_at m k)) (is_index m (kept_head m k)) (heads k p)).1;
        index = λ i p. index_of (node m i).index (both_true (is_index m (node m i).index) (is_index m (kept m i).index) (nodes i p)).0;
        kept_index = λ i p. index_of (kept m i).index (both_true (is_index m (node m i).index) (is_index m (kept m i).index) (nodes i p)).1;
        read = λ k p. index_of (thread m k).index (not-false _ (find.any_clear (λ k. not (is_index m (thread m k).index)) m.t k (not-true _ c.1) p));
      }

  pub flushes_of : flushes_fit m ≡ true → Flushes m
  unfolding flushes_fit flush_fits
  flushes_of h =
      let hs₀ = not (any (λ k. not (is_set m (over_head m k))) (head_lines (shape_of m))) in
      let ns₀ = not (any (λ i. not (is_set m (over_node m i))) m.n) in
      let a = both_true (not (any (λ k. not (flush_fits m k)) m.t)) (both hs₀ ns₀) h in
      let b = both_true hs₀ ns₀ a.1 in
      let each : (k : ℕ) → k < m.t → flush_fits m k ≡ true = λ k p. not-false _ (find.any_clear (λ k. not (flush_fits m k)) m.t k (not-true _ a.0) p) in
      let rest : (k : ℕ) → k < m.t → both (is_index m (flushed m k).index) (is_set m (late m k)) ≡ true =
      λ k p. (both_true (is_flag (flushed m k).linked) (both (is_index m (flushed m k).index) (is_set m (late m k))) (each k p)).1 in
      record {
        linked = λ k p. leb-true (flushed m k).linked 1 (both_true (is_flag (flushed m k).linked) (both (is_index m (flushed m k).index) (is_set m (late m k))) (each k p)).0;
        index = λ k p. index_of (flushed m k).index (both_true (is_index m (flushed m k).index) (is_set m (late m k)) (rest k p)).0;
        late = λ k p. ltb-true (late m k) (2 ^ m.t) (both_true (is_index m (flushed m k).index) (is_set m (late m k)) (rest k p)).1;
        over_head_lem = λ k p. ltb-true (over_head m k) (2 ^ m.t) (not-false _ (find.any_clear (λ k. not (is_set m (over_head m k))) (head_lines (shape_of m)) k (not-true _ b.0) p));
        over_node_lem = λ i p. ltb-true (over_node m i) (2 ^ m.t) (not-false _ (find.any_clear (λ i. not (is_set m (over_node m i))) m.n i (not-true _ b.1) p));
      }

  -- every range of a record that 18 lets through
  pub in_range_lem : in_range m ≡ true → Facts m
  unfolding in_range ranges_fit bad_node bad_thread
  in_range_lem h₀ =
      let h = (both_true (ranges_fit m) (both (form_fits m) (flushes_fit m)) h₀).0 in
      let i = both_true (form_fits m) (flushes_fit m) (both_true (ranges_fit m) (both (form_fits m) (flushes_fit m)) h₀).1 in
      let a = both_true _ _ h in
      let b = both_true _ _ a.1 in
      let c = both_true _ _ b.1 in
      let d = both_true (not (any (bad_node m) m.n)) (not (any (bad_thread m) m.t)) c.1 in
      let ends = both_true _ _ b.0 in
      let back = both_true (is_node m m.tail) (is_node m m.last) ends.1 in
      let nodes : (i : ℕ) → i < m.n → NodeFacts m i = λ i p. node_facts i (not-false _ (find.any_clear (bad_node m) m.n i (not-true _ d.0) p)) in
      record {
        sizes = sizes_in_lem m.n m.t a.0;
        head = ltb-true m.head m.n ends.0;
        tail = ltb-true m.tail m.n back.0;
        last = ltb-true m.last m.n back.1;
        free = ltb-true m.free (2 ^ m.n) c.0;
        node = nodes;
        thread = λ k p. thread_facts k nodes (not-false _ (find.any_clear (bad_thread m) m.t k (not-true _ d.1) p));
        indices = narrow_of i.0;
        flushes = flushes_of i.1;
      }
