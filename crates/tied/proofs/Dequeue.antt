-- D1 to D7, with S3 and S6, in the record and in the core.
use mathlib.Core.Path.{◌≡◌, refl, sym, ap, subst, ◌∙◌}
use mathlib.Core.Bool.{Bool, true, false}
use mathlib.Core.Logic.{inl}
use Prim.Native.Nat.{ℕ, ◌≤◌, ◌<◌}
use native.Mathlib.Omega.{arith}
use lib.Dec.{eqb}
use Rattle.lists.specs.Find.{pick, both}
use Rattle.lists.proofs.BoolLaws.{no_way}
use Rattle.image.specs.declared.Content.{Content}
use Rattle.image.specs.Form.{top_of, per_desk, head_lines}
use Rattle.image.proofs.HeadLaws.{lines_some}
use Rattle.tied.specs.Memory as memory
use Rattle.machine.specs.Record.{node, thread, at_step, read_head, read_next, read_item, put_head, put_head_node, head_at, flushed}
use Rattle.machine.specs.Line.{shape_of, own_head, put_line, over_at, keeping}
use Rattle.machine.specs.Flush.{over_after}
use Rattle.lists.specs.Word.{has}
use Rattle.answer.specs.Answers.{Empty}
use Rattle.moments.proofs.Flushes.{held}
use Rattle.machine.specs.Stage.{Stage, stage, D1, D2, D3, D4, D5, D6, D7, S3, S6, F3, F6, number}
use Rattle.machine.specs.Retire.{moving, going, storing, answering}
use Rattle.machine.specs.Event.{stepped}
use Rattle.machine.specs.declared.Machine.{Machine}
use Rattle.machine.proofs.StageLaws.{step_number}
use Rattle.model.specs.Lines.{of_head}
use Rattle.model.specs.Conf.{line_ix, line_of, head_touch, same_head}
use Rattle.model.specs.Core.{Core, d2, d4, d6, d7, s6}
use Rattle.model.specs.Changes.{set_th}
use Rattle.model.specs.Steps.{step, step_d2, step_d3, step_d4, step_d6, empty_to, item_to, leave}
use Rattle.model.specs.Always.{InRange}
use Rattle.tied.specs.Shown.{link_if, thread_of, engine_if}
use Rattle.tied.proofs.Engines.{lines_split, line_of_lem}
use Rattle.tied.proofs.Relation.{step_in, step_in_lem, fence_in, store_in, desk_step, Regs, Tied}
use Rattle.tied.proofs.Changes.{move_t, head_t, head_node_t, mark_t, flush_t, fence_t, count_n}
use Rattle.tied.proofs.Retiring.{retire_t}
use Rattle.tied.proofs.Stepping.{Touches, StepT, engine_is, mode_is, regs_of, seen, own_seen, goes_to, goes_on_lem, leaves_t, used}

-- what D4 compares, by the engine
same_test : (e a b : Bool) → same_head (engine_if e) a b ≡ both a (pick e true b)
same_test true true b = refl
same_test true false b = refl
same_test false true b = refl
same_test false false b = refl

module _ (p : memory.Line → Content) (m : Machine) (c : Core) (d : Tied p m c) (r : InRange c) (k : ℕ) (hk : k < m.t) where
  -- Head's line, and that which the thread persists
  some_line : 0 < head_lines (shape_of m)
  some_line = lines_some (shape_of m) d.sizes.threads_lo

  own_line : own_head m k < head_lines (shape_of m)
  own_line = by (per_desk m.form) refl
    where
      by : (b : Bool) → per_desk m.form ≡ b → pick b k 0 < head_lines (shape_of m)
      by true e = subst (λ h. k < h) (sym (lines_split (shape_of m) e)) hk
      by false e = some_line

  own_is : of_head (line_of c.conf.engine k) ≡ of_head (own_head m k)
  own_is = ap (λ E. of_head (line_of E k)) (engine_is p m c d k hk) ∙ ap of_head (line_of_lem (per_desk m.form) k)

  pub s_d1 : stage m k ≡ D1 → StepT p m (stepped m k D1) (step c k (thread_of D1 (thread m k) (seen p m c d k hk)))
  s_d1 e = record {
    tied = move_t p m c d k hk (at_step (read_head (thread m k) m.head (pick (per_desk m.form) 0 (head_at m 0))) 14) (d2 c.hnode c.hidx)
        (record {
          seen = c.hidx;
          own = read (per_desk m.form) (d.heads 0 some_line);
          stage = ap (λ h. d2 h c.hidx) d.hnode;
          holds = (d.threads.at k hk).holds;
          regs = let g = regs_of p m c d k hk in record {
            step = step_in_lem m.form 14 (omega arith);
            node = g.node;
            tail = g.tail;
            head = inl (omega (arith, r.head, d.hnode, count_n p m c d));
            next = g.next;
            held = g.held;
            index = low (per_desk m.form);
          };
        });
    says = refl;
    touch = tt;
  }
    where
      read : (b : Bool) → line_ix (engine_if b) c.hidx c.marks 0 ≡ head_at m 0 → b ≡ false → c.hidx ≡ pick b 0 (head_at m 0)
      read true h z = no_way z
      read false h z = h

      low : (b : Bool) → pick b 0 (head_at m 0) ≤ top_of m.form
      low true = omega arith
      low false = d.narrow 0 some_line

  -- the next node read
  next_regs : (thread m k).head < m.n → (s : ℕ) → step_in m.form s ≡ true → Regs m.form m.n (at_step (read_next (thread m k) (node m (thread m k).head).next) s)
  next_regs h s l = let g = regs_of p m c d k hk in
      record { step = l; node = g.node; tail = g.tail; head = g.head; next = (d.nodes.at (thread m k).head h).reach; held = g.held; index = g.index }

  -- D2 finds none
  none_d2 : (thread m k).head < m.n → (e : Bool) → per_desk m.form ≡ e
      → StepT p m (moving m k (read_next (thread m k) (node m (thread m k).head).next) (pick e 20 15))
      (step_d2 c k (thread m k).head (seen p m c d k hk) (link_if true (node m (thread m k).head).next))
  none_d2 h true e = record {
    tied = move_t p m c d k hk (at_step (read_next (thread m k) (node m (thread m k).head).next) 20) (empty_to c.conf.engine (thread m k).head (seen p m c d k hk))
        (record {
          seen = seen p m c d k hk;
          own = own_seen p m c d k hk;
          stage = ap (λ E. empty_to E (thread m k).head (seen p m c d k hk)) (engine_is p m c d k hk ∙ ap engine_if e);
          holds = (d.threads.at k hk).holds;
          regs = next_regs h 20 (store_in m.form 20 (omega arith) e);
        });
    says = refl;
    touch = tt;
  }
  none_d2 h false e = record {
    tied = move_t p m c d k hk (at_step (read_next (thread m k) (node m (thread m k).head).next) 15) (empty_to c.conf.engine (thread m k).head (seen p m c d k hk))
        (record {
          seen = seen p m c d k hk;
          own = own_seen p m c d k hk;
          stage = ap (λ E. empty_to E (thread m k).head (seen p m c d k hk)) (engine_is p m c d k hk ∙ ap engine_if e);
          holds = (d.threads.at k hk).holds;
          regs = next_regs h 15 (step_in_lem m.form 15 (omega arith));
        });
    says = refl;
    touch = tt;
  }

  e_d2 : (thread m k).head < m.n → (b : Bool)
      → StepT p m (moving m k (read_next (thread m k) (node m (thread m k).head).next) (pick b (pick (per_desk m.form) 20 15) 16))
      (step_d2 c k (thread m k).head (seen p m c d k hk) (link_if b (node m (thread m k).head).next))
  e_d2 h true = none_d2 h (per_desk m.form) refl
  e_d2 h false = record {
    tied = move_t p m c d k hk (at_step (read_next (thread m k) (node m (thread m k).head).next) 16) (d4 (thread m k).head (seen p m c d k hk) (node m (thread m k).head).next)
        (record {
          seen = seen p m c d k hk;
          own = own_seen p m c d k hk;
          stage = refl;
          holds = (d.threads.at k hk).holds;
          regs = next_regs h 16 (step_in_lem m.form 16 (omega arith));
        });
    says = refl;
    touch = tt;
  }

  pub s_d2 : stage m k ≡ D2 → StepT p m (stepped m k D2) (step c k (thread_of D2 (thread m k) (seen p m c d k hk)))
  s_d2 e = let h = used p m c d k hk r D2 e in
      subst (λ o. StepT p m (stepped m k D2) (step_d2 c k (thread m k).head (seen p m c d k hk) o)) (sym (d.nodes.at (thread m k).head h).link)
      (e_d2 h (eqb (node m (thread m k).head).next 255))

  pub s_d3 : stage m k ≡ D3 → StepT p m (stepped m k D3) (step c k (thread_of D3 (thread m k) (seen p m c d k hk)))
  s_d3 e = subst (λ o. StepT p m (stepped m k D3) (step_d3 c k (thread m k).head (seen p m c d k hk) o)) (sym (mode_is p m c d k hk)) record {
    tied = move_t _ _ _ (flush_t p m c d k hk (memory.of_head (own_head m k)) own_line) k hk (at_step (thread m k) 23) _ (goes_to p m c d k hk 23 _ (fence_in m.form 23 (omega arith) (omega arith)) refl);
    says = refl;
    touch = refl;
  }

  -- "D3 answers at the fence"
  pub s_f3 : stage m k ≡ F3 → StepT p m (stepped m k F3) (step c k (thread_of F3 (thread m k) (seen p m c d k hk)))
  s_f3 e = record { tied = let l = memory.of_head (own_head m k) in by (has (over_at m l) k); says = refl; touch = (refl, own_is) }
    where
      by : (b : Bool) → let l = memory.of_head (own_head m k) in
          Tied (pick b p (put_line p l (held l (flushed m k)))) (answering Empty (pick b m (keeping m l (flushed m k) (over_after m k l))) k).machine (leave c k)
      by true = leaves_t p m c d k hk
      by false = leaves_t _ _ _ (fence_t p m c d k hk (memory.of_head (own_head m k)) own_line) k hk

  e_d4 : (thread m k).next < m.n → (b e : Bool) → per_desk m.form ≡ e
      → StepT p m (pick b (pick e (going (put_head_node m (thread m k).next) k 17)
      (storing (memory.of_head 0) (going (put_head m (thread m k).next (node m (thread m k).next).index) k 17))) (going m k 13))
      (step_d4 c k (thread m k).head (thread m k).next b)
  e_d4 h true true e = record {
    tied = move_t p _ _ (head_node_t p m c d e (thread m k).next (thread m k).next (c.node (thread m k).next).index refl)
        k hk (at_step (thread m k) 17) _ (goes_on_lem p m c d k hk 17 _ (omega arith) refl);
    says = refl;
    touch = subst (λ E. Touches memory.nothing (head_touch E)) (sym (engine_is p m c d k hk ∙ ap engine_if e)) tt;
  }
  e_d4 h true false e = let x = d.nodes.at (thread m k).next h in record {
    tied = move_t p _ _ (head_t p m c d e (thread m k).next (thread m k).next (node m (thread m k).next).index (c.node (thread m k).next).index refl (ap (λ z. z.index) x.content) x.narrow)
        k hk (at_step (thread m k) 17) _ (goes_on_lem p m c d k hk 17 _ (omega arith) refl);
    says = refl;
    touch = subst (λ E. Touches (memory.a_store (memory.of_head 0)) (head_touch E)) (sym (engine_is p m c d k hk ∙ ap engine_if e)) refl;
  }
  e_d4 h false b e = record { tied = move_t p m c d k hk (at_step (thread m k) 13) _ (goes_on_lem p m c d k hk 13 _ (omega arith) refl); says = refl; touch = tt }

  -- D4 compares what the record compares
  test_is : same_head c.conf.engine (eqb c.hnode (thread m k).head) (eqb c.hidx (seen p m c d k hk))
      ≡ both (eqb m.head (thread m k).head) (pick (per_desk m.form) true (eqb (head_at m 0) (thread m k).index))
  test_is = ap (λ E. same_head E (eqb c.hnode (thread m k).head) (eqb c.hidx (seen p m c d k hk))) (engine_is p m c d k hk)
      ∙ ap (λ x. same_head (engine_if (per_desk m.form)) (eqb x (thread m k).head) (eqb c.hidx (seen p m c d k hk))) d.hnode
      ∙ same_test (per_desk m.form) (eqb m.head (thread m k).head) (eqb c.hidx (seen p m c d k hk))
      ∙ ap (both (eqb m.head (thread m k).head)) (by (per_desk m.form) (d.heads 0 some_line) (own_seen p m c d k hk))
    where
      by : (b : Bool) → line_ix (engine_if b) c.hidx c.marks 0 ≡ head_at m 0 → (b ≡ false → seen p m c d k hk ≡ (thread m k).index)
          → pick b true (eqb c.hidx (seen p m c d k hk)) ≡ pick b true (eqb (head_at m 0) (thread m k).index)
      by true h o = refl
      by false h o = ap (λ x. eqb x (seen p m c d k hk)) h ∙ ap (eqb (head_at m 0)) (o refl)

  pub s_d4 : stage m k ≡ D4 → StepT p m (stepped m k D4) (step c k (thread_of D4 (thread m k) (seen p m c d k hk)))
  s_d4 e = let h = used p m c d k hk r D4 e in
      subst (λ b. StepT p m (stepped m k D4) (step_d4 c k (thread m k).head (thread m k).next b)) (sym test_is)
      (e_d4 h.1 (both (eqb m.head (thread m k).head) (pick (per_desk m.form) true (eqb (head_at m 0) (thread m k).index))) (per_desk m.form) refl)

  -- the item read
  item_regs : (s : ℕ) → step_in m.form s ≡ true → Regs m.form m.n (at_step (read_item (thread m k) (node m (thread m k).next).item) s)
  item_regs s l = let g = regs_of p m c d k hk in record { step = l; node = g.node; tail = g.tail; head = g.head; next = g.next; held = g.held; index = g.index }

  e_d5 : (thread m k).next < m.n → (e : Bool) → per_desk m.form ≡ e
      → StepT p m (moving m k (read_item (thread m k) (node m (thread m k).next).item) (pick e 21 18)) (step c k (thread_of D5 (thread m k) (seen p m c d k hk)))
  e_d5 h true e = record {
    tied = move_t p m c d k hk (at_step (read_item (thread m k) (node m (thread m k).next).item) 21) (item_to c.conf.engine (thread m k).head (thread m k).next (c.node (thread m k).next).item)
        (record {
          seen = seen p m c d k hk;
          own = own_seen p m c d k hk;
          stage = ap (λ E. item_to E (thread m k).head (thread m k).next (c.node (thread m k).next).item) (engine_is p m c d k hk ∙ ap engine_if e)
              ∙ ap (λ z. s6 (thread m k).head (thread m k).next z.item) (d.nodes.at (thread m k).next h).content;
          holds = (d.threads.at k hk).holds;
          regs = item_regs 21 (store_in m.form 21 (omega arith) e);
        });
    says = refl;
    touch = tt;
  }
  e_d5 h false e = record {
    tied = move_t p m c d k hk (at_step (read_item (thread m k) (node m (thread m k).next).item) 18) (item_to c.conf.engine (thread m k).head (thread m k).next (c.node (thread m k).next).item)
        (record {
          seen = seen p m c d k hk;
          own = own_seen p m c d k hk;
          stage = ap (λ E. item_to E (thread m k).head (thread m k).next (c.node (thread m k).next).item) (engine_is p m c d k hk ∙ ap engine_if e)
              ∙ ap (λ z. d6 (thread m k).head z.item) (d.nodes.at (thread m k).next h).content;
          holds = (d.threads.at k hk).holds;
          regs = item_regs 18 (step_in_lem m.form 18 (omega arith));
        });
    says = refl;
    touch = tt;
  }

  pub s_d5 : stage m k ≡ D5 → StepT p m (stepped m k D5) (step c k (thread_of D5 (thread m k) (seen p m c d k hk)))
  s_d5 e = e_d5 (used p m c d k hk r D5 e).1 (per_desk m.form) refl

  pub s_d6 : stage m k ≡ D6 → StepT p m (stepped m k D6) (step c k (thread_of D6 (thread m k) (seen p m c d k hk)))
  s_d6 e = subst (λ o. StepT p m (stepped m k D6) (step_d6 c k (thread m k).head (thread m k).item o)) (sym (mode_is p m c d k hk)) record {
    tied = move_t _ _ _ (flush_t p m c d k hk (memory.of_head (own_head m k)) own_line) k hk (at_step (thread m k) 24) _ (goes_to p m c d k hk 24 _ (fence_in m.form 24 (omega arith) (omega arith)) refl);
    says = refl;
    touch = refl;
  }

  pub s_f6 : stage m k ≡ F6 → StepT p m (stepped m k F6) (step c k (thread_of F6 (thread m k) (seen p m c d k hk)))
  s_f6 e = record { tied = let l = memory.of_head (own_head m k) in by (has (over_at m l) k); says = refl; touch = (refl, own_is) }
    where
      by : (b : Bool) → let l = memory.of_head (own_head m k) in
          Tied (pick b p (put_line p l (held l (flushed m k)))) (going (pick b m (keeping m l (flushed m k) (over_after m k l))) k 19).machine (set_th c k (d7 (thread m k).head (thread m k).item))
      by true = move_t p m c d k hk (at_step (thread m k) 19) _ (goes_on_lem p m c d k hk 19 _ (omega arith) refl)
      by false = move_t _ _ _ (fence_t p m c d k hk (memory.of_head (own_head m k)) own_line) k hk (at_step (thread m k) 19) _ (goes_on_lem p m c d k hk 19 _ (omega arith) refl)

  pub s_d7 : stage m k ≡ D7 → StepT p m (stepped m k D7) (step c k (thread_of D7 (thread m k) (seen p m c d k hk)))
  s_d7 e = let h = used p m c d k hk r D7 e in record { tied = retire_t p m c d k hk (thread m k).head h; says = refl; touch = tt }

  -- a thread at S3 or S6 is one of #101's
  at_store : (s : Stage) → 19 < number s → number s ≤ 21 → stage m k ≡ s → per_desk m.form ≡ true
  at_store s h g e =
      let n = step_number (thread m k).step s e (omega arith) in
      desk_step m.form (thread m k).step (regs_of p m c d k hk).step (omega (arith, n)) (omega (arith, n))

  pub s_s3 : stage m k ≡ S3 → StepT p m (stepped m k S3) (step c k (thread_of S3 (thread m k) (seen p m c d k hk)))
  s_s3 e = let x = d.nodes.at (thread m k).head (used p m c d k hk r S3 e) in record {
    tied = move_t p _ _ (mark_t p m c d (at_store S3 (omega arith) (omega arith) e) k hk (node m (thread m k).head).index (c.node (thread m k).head).index (ap (λ z. z.index) x.content) x.narrow)
        k hk (at_step (thread m k) 15) _ (goes_on_lem p m c d k hk 15 _ (omega arith) refl);
    says = refl;
    touch = refl;
  }

  pub s_s6 : stage m k ≡ S6 → StepT p m (stepped m k S6) (step c k (thread_of S6 (thread m k) (seen p m c d k hk)))
  s_s6 e = let x = d.nodes.at (thread m k).next (used p m c d k hk r S6 e).1 in record {
    tied = move_t p _ _ (mark_t p m c d (at_store S6 (omega arith) (omega arith) e) k hk (node m (thread m k).next).index (c.node (thread m k).next).index (ap (λ z. z.index) x.content) x.narrow)
        k hk (at_step (thread m k) 18) _ (goes_on_lem p m c d k hk 18 _ (omega arith) refl);
    says = refl;
    touch = refl;
  }
