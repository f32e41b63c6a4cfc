-- What a record that is tied to a core in range keeps to: 18 does not refuse it.
use mathlib.Core.Path.{◌≡◌, refl, sym, ap, subst, ◌∙◌}
use mathlib.Core.Bool.{Bool, true, false, not}
use mathlib.Core.Logic.{◌⊎◌, inl, inr}
use mathlib.Core.Option.{Option, none}
use Prim.Native.Nat.{ℕ, ◌^◌, ◌≤◌, ◌<◌}
use native.Mathlib.Omega.{arith}
use lib.Dec.{eqb, ltb, leb}
use Rattle.lists.specs.Find.{pick}
use Rattle.lists.proofs.BoolLaws.{both_of}
use Rattle.lists.proofs.FindLaws.{any_none}
use Rattle.image.specs.declared.Content.{Content}
use Rattle.tied.specs.Memory as memory
use Rattle.image.specs.Form.{top_of, head_lines}
use Rattle.machine.specs.Line.{shape_of}
use Rattle.machine.specs.Record.{node, kept, thread}
use Rattle.machine.specs.Stage.{Stage, no_step, A1, A2, A3, A4, A5, A6, A7, A8, A9, A10, A11, A12, D1, D2, D3, D4, D5, D6, D7, S3, S6, F10, F3, F6, own, t, the_head, the_next, uses, stage, stage_of}
use Rattle.machine.specs.Range.{is_node, is_link, read_fits, next_fits, node_fits, thread_fits, ranges_fit, head_fits, index_fits, form_fits, flush_fits, flushes_fit, in_range}
use Rattle.machine.specs.declared.Machine.{Machine}
use Rattle.machine.specs.declared.Thread.{Thread}
use Rattle.model.specs.Core.{Core}
use Rattle.model.specs.Always.{ThIn, InRange}
use Rattle.model.proofs.Basics.{lt_true, le_true, eq_no, true→eq}
use Rattle.tied.specs.Shown.{link_if, link_of, thread_of}
use Rattle.tied.proofs.Relation.{Link, Regs, Tied}
use Rattle.tied.proofs.Changes.{count_n}
use Rattle.tied.proofs.Stepping.{seen, used}

is_node_lem : (m : Machine) (x : ℕ) → x < m.n → is_node m x ≡ true
is_node_lem m x h = lt_true x m.n h

is_link_lem : (m : Machine) (x : ℕ) → Link m.n x → is_link m x ≡ true
is_link_lem m x (inl h) = by (eqb x 255)
  where
    by : (b : Bool) → pick b true (is_node m x) ≡ true
    by true = refl
    by false = is_node_lem m x h
is_link_lem m x (inr e) = rw e refl

module _ (m : Machine) (v : Thread) (next : ℕ → Option ℕ) (g : Regs m.form m.n v) (i : ℕ) where
  reads : (s : Stage) → ThIn m.n next (thread_of s v i)
      → (read_fits m (uses s own) v.node ≡ true) × (read_fits m (uses s t) v.tail ≡ true) × (read_fits m (uses s the_head) v.head ≡ true) × (read_fits m (uses s the_next) v.next ≡ true)
  reads no_step u = (is_link_lem m _ g.node, is_link_lem m _ g.tail, is_link_lem m _ g.head, is_link_lem m _ g.next)
  reads A1 u = (is_link_lem m _ g.node, is_link_lem m _ g.tail, is_link_lem m _ g.head, is_link_lem m _ g.next)
  reads A2 u = (is_node_lem m _ (u), is_link_lem m _ g.tail, is_link_lem m _ g.head, is_link_lem m _ g.next)
  reads A3 u = (is_node_lem m _ (u), is_link_lem m _ g.tail, is_link_lem m _ g.head, is_link_lem m _ g.next)
  reads A4 u = (is_node_lem m _ (u), is_link_lem m _ g.tail, is_link_lem m _ g.head, is_link_lem m _ g.next)
  reads A5 u = (is_link_lem m _ g.node, is_link_lem m _ g.tail, is_link_lem m _ g.head, is_link_lem m _ g.next)
  reads A6 u = (is_link_lem m _ g.node, is_node_lem m _ u.1, is_link_lem m _ g.head, is_link_lem m _ g.next)
  reads A7 u = (is_node_lem m _ u.0, is_node_lem m _ u.1, is_link_lem m _ g.head, is_link_lem m _ g.next)
  reads A8 u = (is_node_lem m _ u.0, is_node_lem m _ u.1, is_link_lem m _ g.head, is_link_lem m _ g.next)
  reads A9 u = (is_node_lem m _ u.0, is_link_lem m _ g.tail, is_link_lem m _ g.head, is_link_lem m _ g.next)
  reads A10 u = (is_node_lem m _ u.0, is_link_lem m _ g.tail, is_link_lem m _ g.head, is_link_lem m _ g.next)
  reads A11 u = (is_node_lem m _ u.0, is_node_lem m _ u.1, is_link_lem m _ g.head, is_link_lem m _ g.next)
  reads A12 u = (is_link_lem m _ g.node, is_node_lem m _ u.1, is_link_lem m _ g.head, is_link_lem m _ g.next)
  reads D1 u = (is_link_lem m _ g.node, is_link_lem m _ g.tail, is_link_lem m _ g.head, is_link_lem m _ g.next)
  reads D2 u = (is_link_lem m _ g.node, is_link_lem m _ g.tail, is_node_lem m _ (u), is_link_lem m _ g.next)
  reads D3 u = (is_link_lem m _ g.node, is_link_lem m _ g.tail, is_link_lem m _ g.head, is_link_lem m _ g.next)
  reads D4 u = (is_link_lem m _ g.node, is_link_lem m _ g.tail, is_node_lem m _ u.0, is_node_lem m _ u.1)
  reads D5 u = (is_link_lem m _ g.node, is_link_lem m _ g.tail, is_link_lem m _ g.head, is_node_lem m _ u.1)
  reads D6 u = (is_link_lem m _ g.node, is_link_lem m _ g.tail, is_link_lem m _ g.head, is_link_lem m _ g.next)
  reads D7 u = (is_link_lem m _ g.node, is_link_lem m _ g.tail, is_node_lem m _ (u), is_link_lem m _ g.next)
  reads S3 u = (is_link_lem m _ g.node, is_link_lem m _ g.tail, is_node_lem m _ (u), is_link_lem m _ g.next)
  reads S6 u = (is_link_lem m _ g.node, is_link_lem m _ g.tail, is_link_lem m _ g.head, is_node_lem m _ u.1)
  reads F10 u = (is_node_lem m _ u.0, is_link_lem m _ g.tail, is_link_lem m _ g.head, is_link_lem m _ g.next)
  reads F3 u = (is_link_lem m _ g.node, is_link_lem m _ g.tail, is_link_lem m _ g.head, is_link_lem m _ g.next)
  reads F6 u = (is_link_lem m _ g.node, is_link_lem m _ g.tail, is_link_lem m _ g.head, is_link_lem m _ g.next)

module _ (p : memory.Line → Content) (m : Machine) (c : Core) (d : Tied p m c) (r : InRange c) where
  node_fits_lem : (i : ℕ) → i < m.n → node_fits m i ≡ true
  unfolding node_fits
  node_fits_lem i h =
      let a = d.nodes.at i h in
      both_of _ _ (is_link_lem m _ a.reach)
      (both_of _ _ (le_true _ 1 a.flag)
      (both_of _ _ (le_true _ 1 (subst (λ z. z.linked ≤ 1) (d.kept.at i h) (d.kept.flag i h))) (lt_true _ _ a.few)))

  module _ (k : ℕ) (hk : k < m.t) where
    next_fits_lem : (b : Bool) → eqb (thread m k).step 12 ≡ b → next_fits m b (thread m k).tail ≡ true
    next_fits_lem false e = refl
    next_fits_lem true e =
        let s : stage m k ≡ A12 = ap stage_of (true→eq (thread m k).step 12 e) in
        let u = used p m c d k hk r A12 s in
        by (eqb (node m (thread m k).tail).next 255) refl (λ z. u.2 ((d.nodes.at (thread m k).tail u.1).link ∙ z))
      where
        by : (b : Bool) → eqb (node m (thread m k).tail).next 255 ≡ b → (link_if b (node m (thread m k).tail).next ≡ none → ⊥) → not b ≡ true
        by true f ne = absurd (ne refl)
        by false f ne = refl

    thread_fits_lem : thread_fits m k ≡ true
    unfolding thread_fits
    thread_fits_lem =
        let g = (d.threads.at k hk).regs in
        let q = reads m (thread m k) c.next g (seen p m c d k hk) (stage m k) (used p m c d k hk r (stage m k) refl) in
        both_of _ _ g.step
        (both_of _ _ q.0 (both_of _ _ q.1 (both_of _ _ q.2 (both_of _ _ q.3 (both_of _ _ (is_link_lem m _ g.held) (next_fits_lem _ refl))))))

  -- N, T, and every number of a node, a line, a thread or a step
  ranges_fit_lem : ranges_fit m ≡ true
  unfolding ranges_fit
  ranges_fit_lem =
      let z = d.sizes in
      both_of _ _ (both_of _ _ (both_of _ _ (le_true 2 _ z.nodes_lo) (le_true _ 64 z.nodes_hi)) (both_of _ _ (le_true 1 _ z.threads_lo) (le_true _ 8 z.threads_hi)))
      (both_of _ _ (both_of _ _ (is_node_lem m _ (omega (arith, r.head, d.hnode, count_n p m c d))) (both_of _ _ (is_node_lem m _ (omega (arith, r.tail, d.tail, count_n p m c d))) (is_node_lem m _ (omega (arith, r.last, d.last, count_n p m c d)))))
      (both_of _ _ (lt_true _ _ d.free.fits)
      (both_of _ _ (ap not (any_none _ m.n (λ i h. ap not (node_fits_lem i h)))) (ap not (any_none _ m.t (λ k h. ap not (thread_fits_lem k h)))))))

  -- every index is within the form's width
  head_index : (k : ℕ) → k < head_lines (shape_of m) → head_fits m k ≡ true
  unfolding head_fits
  head_index k h = both_of _ _ (le_true _ _ (d.narrow k h)) (le_true _ _ (subst (λ z. z.index ≤ top_of m.form) (d.kept.head k h) (d.kept.narrow_head k h)))

  node_index : (i : ℕ) → i < m.n → index_fits m i ≡ true
  unfolding index_fits
  node_index i h = both_of _ _ (le_true _ _ (d.nodes.at i h).narrow) (le_true _ _ (subst (λ z. z.index ≤ top_of m.form) (d.kept.at i h) (d.kept.narrow i h)))

  form_fits_lem : form_fits m ≡ true
  unfolding form_fits
  form_fits_lem =
      both_of _ _ d.sizes.form
      (both_of _ _ (ap not (any_none _ (head_lines (shape_of m)) (λ k h. ap not (head_index k h))))
      (both_of _ _ (ap not (any_none _ m.n (λ i h. ap not (node_index i h))))
      (ap not (any_none _ m.t (λ k h. ap not (le_true _ _ (d.threads.at k h).regs.index))))))

  -- what the threads have flushed, and the sets of threads
  flush_fits_lem : (k : ℕ) → k < m.t → flush_fits m k ≡ true
  unfolding flush_fits
  flush_fits_lem k h = both_of _ _ (le_true _ 1 (d.flushes.flag k h)) (both_of _ _ (le_true _ _ (d.flushes.narrow k h)) (lt_true _ _ (d.flushes.late k h)))

  flushes_fit_lem : flushes_fit m ≡ true
  unfolding flushes_fit
  flushes_fit_lem =
      both_of _ _ (ap not (any_none _ m.t (λ k h. ap not (flush_fits_lem k h))))
      (both_of _ _ (ap not (any_none _ (head_lines (shape_of m)) (λ k h. ap not (lt_true _ _ (d.flushes.heads k h)))))
      (ap not (any_none _ m.n (λ i h. ap not (lt_true _ _ (d.flushes.nodes i h))))))

  pub tied_in_range : in_range m ≡ true
  unfolding in_range
  tied_in_range = both_of _ _ ranges_fit_lem (both_of _ _ form_fits_lem flushes_fit_lem)
