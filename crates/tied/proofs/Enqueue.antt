-- A1 to A12, in the record and in the core.
use mathlib.Core.Path.{◌≡◌, refl, sym, ap, subst, ◌∙◌}
use mathlib.Core.Bool.{Bool, true, false}
use mathlib.Core.Logic.{inl, inr}
use mathlib.Core.Option.{Option, none, some}
use Prim.Native.Nat.{ℕ, zero, suc, ◌+◌, ◌≤◌, ◌<◌}
use native.Mathlib.Omega.{arith}
use native.Mathlib.Numerals.{add-one}
use native.Mathlib.Decide.{ℕ_discrete}
use borrow.Author.Tests.{leb-false}
use lib.Dec.{eqb, leb}
use Rattle.lists.specs.Find.{pick, least}
use Rattle.lists.specs.Word.{has, with, without}
use Rattle.lists.proofs.BoolLaws.{no_way}
use Rattle.lists.proofs.FindLaws.{around_lt}
use Rattle.answer.specs.Answers.{Done, Full, WornOut}
use Rattle.image.specs.declared.Content.{Content}
use Rattle.tied.specs.Memory as memory
use Rattle.image.specs.Form.{top_of}
use Rattle.machine.specs.Record as rec
use Rattle.machine.specs.Record.{node, thread, at_step, own_node, read_tail, put_node, put_tail, put_free, flushed}
use Rattle.machine.specs.Line.{put_line, over_at, keeping}
use Rattle.machine.specs.Flush.{over_after}
use Rattle.machine.specs.Stage.{stage, A1, A2, A3, A4, A5, A6, A7, A8, A9, A10, A11, A12, F10}
use Rattle.machine.specs.Retire as retire
use Rattle.machine.specs.Retire.{moving, going, answering, storing, next_free, hand_out}
use Rattle.machine.specs.Event.{stepped}
use Rattle.machine.specs.declared.Machine.{Machine}
use Rattle.model.specs.Basics.{upd}
use Rattle.model.specs.Core as core
use Rattle.model.specs.Core.{Core, a1, a2, a3, a4, a5, a6, a7, a8, a9, a10, a11, a12}
use Rattle.model.specs.Changes.{set_th, set_next, set_free, set_tail, store}
use Rattle.model.specs.Choice.{rotation, round_table}
use Rattle.model.specs.Steps.{step, step_a1, step_a6, step_a7, step_a8, step_a10, step_a11, step_a12}
use Rattle.model.specs.Always.{ThIn, InRange}
use Rattle.model.proofs.Basics.{le_true, not_le, true→eq, eq_no, yes_of}
use Rattle.tied.specs.Shown.{link_if, link_of, thread_of, shown_thread}
use Rattle.tied.proofs.Relation.{Link, step_in_lem, fence_in, Regs, ThreadAt, FreeT, Tied}
use Rattle.tied.proofs.Changes.{some_link, with_t, without_t, move_t, store_t, link_t, tail_t, free_t, flush_t, fence_t, count_n}
use Rattle.tied.proofs.Searches.{low_in, round_same, round_link}
use Rattle.tied.proofs.Stepping.{StepT, link_in, link_is, last_t, regs_of, seen, own_seen, goes_to, goes_on_lem, leaves_t, used, mode_is}

module _ (p : memory.Line → Content) (m : Machine) (c : Core) (d : Tied p m c) (r : InRange c) (k : ℕ) (hk : k < m.t) where
  last_in : m.last < m.n
  last_in = omega (arith, r.last, d.last, count_n p m c d)

  -- the choice is the record's
  chosen : (b : Bool) → eqb m.free 0 ≡ b → c.conf.chooser.pick c.conf.nodes c.last c.free ≡ link_if b (next_free m)
  unfolding rotation next_free
  chosen b e =
      ap (λ z. z.chooser.pick z.nodes c.last c.free) d.conf
      ∙ ap (λ i. round_table m.n i c.free) d.last
      ∙ round_same c.free (has m.free) m.n m.last last_in d.free.bits
      ∙ round_link m.n m.free m.last last_in d.free.fits b e

  next_in : eqb m.free 0 ≡ false → next_free m < m.n
  unfolding next_free
  next_in e = around_lt (has m.free) m.n m.last (low_in m.n m.free d.free.fits e)

  e_a1 : (b : Bool) → eqb m.free 0 ≡ b
      → StepT p m (pick b (answering Full m k) (moving (hand_out m (next_free m)) k (own_node (thread m k) (next_free m)) 2))
      (step_a1 c k (thread m k).item (link_if b (next_free m)))
  e_a1 true e = record { tied = leaves_t p m c d k hk; says = refl; touch = tt }
  e_a1 false e = record {
    tied = move_t p (hand_out m (next_free m)) _
        (last_t p (put_free m (without m.free (next_free m))) _ (free_t p m c d (without m.free (next_free m)) (upd c.free (next_free m) false) (without_t m.n m.free c.free d.free (next_free m))) (next_free m))
        k hk (at_step (own_node (thread m k) (next_free m)) 2) (a2 (thread m k).item (next_free m))
        (record {
          seen = seen p m c d k hk;
          own = own_seen p m c d k hk;
          stage = refl;
          holds = (d.threads.at k hk).holds;
          regs = let g = regs_of p m c d k hk in record { step = step_in_lem m.form 2 (omega arith); node = inl (next_in e); tail = g.tail; head = g.head; next = g.next; held = g.held; index = g.index };
        });
    says = refl;
    touch = tt;
  }

  pub s_a1 : stage m k ≡ A1 → StepT p m (stepped m k A1) (step c k (thread_of A1 (thread m k) (seen p m c d k hk)))
  s_a1 e = subst (λ o. StepT p m (stepped m k A1) (step_a1 c k (thread m k).item o)) (sym (chosen (eqb m.free 0) refl)) (e_a1 (eqb m.free 0) refl)

  pub s_a2 : stage m k ≡ A2 → StepT p m (stepped m k A2) (step c k (thread_of A2 (thread m k) (seen p m c d k hk)))
  s_a2 e = let h = used p m c d k hk r A2 e in let a = d.nodes.at (thread m k).node h in record {
    tied = move_t p _ _ (store_t p m c d (thread m k).node h (rec.with_item (node m (thread m k).node) (thread m k).item) (core.with_item (c.node (thread m k).node) (thread m k).item)
        (ap (λ z. core.with_item z (thread m k).item) a.content) refl refl a.flag a.narrow)
        k hk (at_step (thread m k) 3) _ (goes_on_lem p m c d k hk 3 _ (omega arith) refl);
    says = refl;
    touch = refl;
  }

  pub s_a3 : stage m k ≡ A3 → StepT p m (stepped m k A3) (step c k (thread_of A3 (thread m k) (seen p m c d k hk)))
  s_a3 e = let h = used p m c d k hk r A3 e in record {
    tied = move_t p _ _ (link_t p m c d (thread m k).node h 255 none refl (inr refl)) k hk (at_step (thread m k) 4) _ (goes_on_lem p m c d k hk 4 _ (omega arith) refl);
    says = refl;
    touch = tt;
  }

  pub s_a4 : stage m k ≡ A4 → StepT p m (stepped m k A4) (step c k (thread_of A4 (thread m k) (seen p m c d k hk)))
  s_a4 e = let h = used p m c d k hk r A4 e in let a = d.nodes.at (thread m k).node h in record {
    tied = move_t p _ _ (store_t p m c d (thread m k).node h (rec.with_linked (node m (thread m k).node) 0) (core.with_linked (c.node (thread m k).node) false)
        (ap (λ z. core.with_linked z false) a.content) refl refl (omega arith) a.narrow)
        k hk (at_step (thread m k) 5) _ (goes_on_lem p m c d k hk 5 _ (omega arith) refl);
    says = refl;
    touch = refl;
  }

  pub s_a5 : stage m k ≡ A5 → StepT p m (stepped m k A5) (step c k (thread_of A5 (thread m k) (seen p m c d k hk)))
  s_a5 e = record {
    tied = move_t p m c d k hk (at_step (read_tail (thread m k) m.tail) 6) (a6 (thread m k).item (thread m k).node c.tail)
        (record {
          seen = seen p m c d k hk;
          own = own_seen p m c d k hk;
          stage = ap (a6 (thread m k).item (thread m k).node) d.tail;
          holds = (d.threads.at k hk).holds;
          regs = let g = regs_of p m c d k hk in record { step = step_in_lem m.form 6 (omega arith); node = g.node; tail = inl (omega (arith, r.tail, d.tail, count_n p m c d)); head = g.head; next = g.next; held = g.held; index = g.index };
        });
    says = refl;
    touch = tt;
  }

  e_a6 : (b : Bool) → StepT p m (going m k (pick b 7 12)) (step_a6 c k (thread m k).item (thread m k).node (thread m k).tail (link_if b (node m (thread m k).tail).next))
  e_a6 true = record { tied = move_t p m c d k hk (at_step (thread m k) 7) _ (goes_on_lem p m c d k hk 7 _ (omega arith) refl); says = refl; touch = tt }
  e_a6 false = record { tied = move_t p m c d k hk (at_step (thread m k) 12) _ (goes_on_lem p m c d k hk 12 _ (omega arith) refl); says = refl; touch = tt }

  pub s_a6 : stage m k ≡ A6 → StepT p m (stepped m k A6) (step c k (thread_of A6 (thread m k) (seen p m c d k hk)))
  s_a6 e = let h = used p m c d k hk r A6 e in
      subst (λ o. StepT p m (stepped m k A6) (step_a6 c k (thread m k).item (thread m k).node (thread m k).tail o)) (sym (d.nodes.at (thread m k).tail h.1).link)
      (e_a6 (eqb (node m (thread m k).tail).next 255))

  e_a7 : (thread m k).node < m.n → (thread m k).tail < m.n → (b : Bool) → leb (top_of m.form) (node m (thread m k).tail).index ≡ b
      → StepT p m (pick b (answering WornOut (retire.freed m (thread m k).node) k) (storing (memory.of_node (thread m k).node) (going (put_node m (thread m k).node (rec.with_index (node m (thread m k).node) ((node m (thread m k).tail).index + 1))) k 8)))
      (step_a7 c k (thread m k).item (thread m k).node (thread m k).tail b)
  e_a7 h g true e = record {
    tied = leaves_t p _ _ (free_t p m c d (with m.free (thread m k).node) (upd c.free (thread m k).node true) (with_t m.n m.free c.free d.free (thread m k).node h)) k hk;
    says = refl;
    touch = tt;
  }
  e_a7 h g false e =
      let a = d.nodes.at (thread m k).node h in
      let x = d.nodes.at (thread m k).tail g in
      record {
        tied = move_t p _ _ (store_t p m c d (thread m k).node h (rec.with_index (node m (thread m k).node) ((node m (thread m k).tail).index + 1))
            (core.with_index (c.node (thread m k).node) (suc (c.node (thread m k).tail).index))
            (ap (λ z. core.with_index z (suc (c.node (thread m k).tail).index)) a.content
            ∙ ap (λ i. record { linked = eqb (node m (thread m k).node).linked 1; index = i; item = (node m (thread m k).node).item }) (ap (λ z. suc z.index) x.content ∙ sym (add-one (node m (thread m k).tail).index)))
            refl refl a.flag (low (node m (thread m k).tail).index e))
            k hk (at_step (thread m k) 8) _ (goes_on_lem p m c d k hk 8 _ (omega arith) refl);
        says = refl;
        touch = refl;
      }
    where
      low : (i : ℕ) → leb (top_of m.form) i ≡ false → i + 1 ≤ top_of m.form
      low i e = omega (arith, leb-false (top_of m.form) i e)

  pub s_a7 : stage m k ≡ A7 → StepT p m (stepped m k A7) (step c k (thread_of A7 (thread m k) (seen p m c d k hk)))
  s_a7 e = let h = used p m c d k hk r A7 e in let x = d.nodes.at (thread m k).tail h.1 in
      subst (λ b. StepT p m (stepped m k A7) (step_a7 c k (thread m k).item (thread m k).node (thread m k).tail b))
      (sym (ap (λ z. leb z.top (c.node (thread m k).tail).index) d.conf ∙ ap (λ z. leb (top_of m.form) z.index) x.content))
      (e_a7 h.0 h.1 (leb (top_of m.form) (node m (thread m k).tail).index) refl)

  e_a8 : (thread m k).node < m.n → (thread m k).tail < m.n → (b : Bool)
      → StepT p m (pick b (going (put_node m (thread m k).tail (rec.with_next (node m (thread m k).tail) (thread m k).node)) k 9) (going m k 12))
      (step_a8 c k (thread m k).item (thread m k).node (thread m k).tail (link_if b (node m (thread m k).tail).next))
  e_a8 h g true = record {
    tied = move_t p _ _ (link_t p m c d (thread m k).tail g (thread m k).node (some (thread m k).node) (sym (some_link m.n (thread m k).node d.sizes.nodes_hi h)) (inl h))
        k hk (at_step (thread m k) 9) _ (goes_on_lem p m c d k hk 9 _ (omega arith) refl);
    says = refl;
    touch = tt;
  }
  e_a8 h g false = record { tied = move_t p m c d k hk (at_step (thread m k) 12) _ (goes_on_lem p m c d k hk 12 _ (omega arith) refl); says = refl; touch = tt }

  pub s_a8 : stage m k ≡ A8 → StepT p m (stepped m k A8) (step c k (thread_of A8 (thread m k) (seen p m c d k hk)))
  s_a8 e = let h = used p m c d k hk r A8 e in
      subst (λ o. StepT p m (stepped m k A8) (step_a8 c k (thread m k).item (thread m k).node (thread m k).tail o)) (sym (d.nodes.at (thread m k).tail h.1).link)
      (e_a8 h.0 h.1 (eqb (node m (thread m k).tail).next 255))

  pub s_a9 : stage m k ≡ A9 → StepT p m (stepped m k A9) (step c k (thread_of A9 (thread m k) (seen p m c d k hk)))
  s_a9 e = let h = used p m c d k hk r A9 e in let a = d.nodes.at (thread m k).node h.0 in record {
    tied = move_t p _ _ (store_t p m c d (thread m k).node h.0 (rec.with_linked (node m (thread m k).node) 1) (core.with_linked (c.node (thread m k).node) true)
        (ap (λ z. core.with_linked z true) a.content) refl refl (omega arith) a.narrow)
        k hk (at_step (thread m k) 10) _ (goes_on_lem p m c d k hk 10 _ (omega arith) refl);
    says = refl;
    touch = refl;
  }

  pub s_a10 : stage m k ≡ A10 → StepT p m (stepped m k A10) (step c k (thread_of A10 (thread m k) (seen p m c d k hk)))
  s_a10 e = let h = used p m c d k hk r A10 e in
      subst (λ o. StepT p m (stepped m k A10) (step_a10 c k (thread m k).item (thread m k).node (thread m k).tail o))
      (sym (mode_is p m c d k hk)) record {
        tied = move_t _ _ _ (flush_t p m c d k hk (memory.of_node (thread m k).node) h.0) k hk (at_step (thread m k) 22) _ (goes_to p m c d k hk 22 _ (fence_in m.form 22 (omega arith) (omega arith)) refl);
        says = refl;
        touch = refl;
      }

  -- its fence, by whether it finds something later
  pub s_f10 : stage m k ≡ F10 → StepT p m (stepped m k F10) (step c k (thread_of F10 (thread m k) (seen p m c d k hk)))
  s_f10 e = record { tied = let l = memory.of_node (thread m k).node in by (has (over_at m l) k); says = refl; touch = (refl, refl) }
    where
      by : (b : Bool) → let l = memory.of_node (thread m k).node in
          Tied (pick b p (put_line p l (flushed m k))) (going (pick b m (keeping m l (flushed m k) (over_after m k l))) k 11).machine (set_th c k (a11 (thread m k).item (thread m k).node (thread m k).tail))
      by true = move_t p m c d k hk (at_step (thread m k) 11) _ (goes_on_lem p m c d k hk 11 _ (omega arith) refl)
      by false = move_t _ _ _ (fence_t p m c d k hk (memory.of_node (thread m k).node) (used p m c d k hk r F10 e).0) k hk (at_step (thread m k) 11) _ (goes_on_lem p m c d k hk 11 _ (omega arith) refl)

  e_a11 : (b : Bool) → StepT p m (answering Done (pick b (put_tail m (thread m k).node) m) k) (step_a11 c k (thread m k).node b)
  e_a11 true = record { tied = leaves_t p _ _ (tail_t p m c d (thread m k).node (thread m k).node refl) k hk; says = refl; touch = tt }
  e_a11 false = record { tied = leaves_t p m c d k hk; says = refl; touch = tt }

  pub s_a11 : stage m k ≡ A11 → StepT p m (stepped m k A11) (step c k (thread_of A11 (thread m k) (seen p m c d k hk)))
  s_a11 e = subst (λ x. StepT p m (stepped m k A11) (step_a11 c k (thread m k).node (eqb x (thread m k).tail))) (sym d.tail) (e_a11 (eqb m.tail (thread m k).tail))

  e_a12 : (b : Bool) → eqb (node m (thread m k).tail).next 255 ≡ false
      → StepT p m (going (pick b (put_tail m (node m (thread m k).tail).next) m) k 5) (step_a12 c k (thread m k).item (thread m k).node b (some (node m (thread m k).tail).next))
  e_a12 true e = record {
    tied = move_t p _ _ (tail_t p m c d (node m (thread m k).tail).next (node m (thread m k).tail).next refl) k hk (at_step (thread m k) 5) _ (goes_on_lem p m c d k hk 5 _ (omega arith) refl);
    says = refl;
    touch = tt;
  }
  e_a12 false e = record { tied = move_t p m c d k hk (at_step (thread m k) 5) _ (goes_on_lem p m c d k hk 5 _ (omega arith) refl); says = refl; touch = tt }

  pub s_a12 : stage m k ≡ A12 → StepT p m (stepped m k A12) (step c k (thread_of A12 (thread m k) (seen p m c d k hk)))
  s_a12 e = by (eqb (node m (thread m k).tail).next 255) refl (used p m c d k hk r A12 e)
    where
      by : (b : Bool) → eqb (node m (thread m k).tail).next 255 ≡ b → ThIn m.n c.next (thread_of A12 (thread m k) (seen p m c d k hk)) → StepT p m (stepped m k A12) (step c k (thread_of A12 (thread m k) (seen p m c d k hk)))
      by true f h = absurd (h.2 ((d.nodes.at (thread m k).tail h.1).link ∙ ap (λ b. link_if b (node m (thread m k).tail).next) f))
      by false f h =
          subst (λ o. StepT p m (stepped m k A12) (step_a12 c k (thread m k).item (thread m k).node (eqb c.tail (thread m k).tail) o))
          (sym ((d.nodes.at (thread m k).tail h.1).link ∙ ap (λ b. link_if b (node m (thread m k).tail).next) f))
          (subst (λ x. StepT p m (stepped m k A12) (step_a12 c k (thread m k).item (thread m k).node (eqb x (thread m k).tail) (some (node m (thread m k).tail).next))) (sym d.tail)
          (e_a12 (eqb m.tail (thread m k).tail) f))
