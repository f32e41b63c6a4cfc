-- A thread answers: no node waits for it any more. Node by node in the record, all at once in the core.
use mathlib.Core.Path.{◌≡◌, refl, sym, ap, subst, ◌∙◌}
use mathlib.Core.Bool.{Bool, true, false}
use mathlib.Core.List.{List, [], ◌∷◌}
use mathlib.Core.Logic.{◌≢◌, inl, inr}
use mathlib.Core.Option.{Option, none, some}
use Prim.Native.Nat.{ℕ, zero, suc, ◌^◌, ◌≤◌, ◌<◌}
use native.Mathlib.Omega.{arith}
use native.Mathlib.Decide.{ℕ_discrete, dec_lt}
use lib.Dec.{eqb, ltb}
use lib.ListN.{get_or}
use Rattle.lists.specs.Find.{pick}
use Rattle.lists.specs.Word.{has, with, without}
use Rattle.lists.proofs.BoolLaws.{both_true, no_way}
use Rattle.image.specs.declared.Content.{Content}
use Rattle.tied.specs.Memory as memory
use Rattle.image.specs.Form.{top_of}
use Rattle.machine.specs.Record.{node, thread, with_waits, idle_thread, put_thread}
use Rattle.machine.specs.Retire.{last_wait, released_at, released, left}
use Rattle.machine.specs.declared.Machine.{Machine}
use Rattle.model.specs.Basics.{sel, upd}
use Rattle.model.specs.Core.{Core, Th, idle}
use Rattle.model.specs.Changes.{set_free}
use Rattle.model.specs.Steps.{remove, freed, leave}
use Rattle.model.proofs.Basics.{upd_at, upd_same, upd_other, true→eq, lt_true, lt_no, yes_of}
use Rattle.tied.specs.Shown.{link_of, members}
use Rattle.tied.proofs.Words.{without_fits, listed_none, members_zero, members_none, remove_members}
use Rattle.tied.proofs.Relation.{Link, step_in_lem, NodeAt, NodesT, put_nodes, FreeT, Regs, ThreadAt, put_threads, Tied}
use Rattle.tied.proofs.Changes.{with_t, same_t, count_n, count_t}

-- ---- the last that a node waits for

gone : (w w' : List ℕ) → w ≢ [] → w' ≡ [] → freed false w w' ≡ true
gone [] w' ne e = absurd (ne refl)
gone (u ∷ w) [] ne e = refl
gone (u ∷ w) (u' ∷ w') ne e = let z : ◌≡◌ {A = ℕ} 0 1 = cc in absurd (omega arith)

stays : (w w' : List ℕ) → (w ≢ [] → w' ≢ []) → freed false w w' ≡ false
stays [] w' h = refl
stays (u ∷ w) [] h = absurd (h (λ e. let z : ◌≡◌ {A = ℕ} 0 1 = cc in omega arith) refl)
stays (u ∷ w) (u' ∷ w') h = refl

still : (w k : ℕ) → has w k ≡ false → without w k ≡ w
unfolding without
still w k f = rw f refl

-- free before, or this thread was the last
pub freed_is : (k t w : ℕ) (b : Bool) → k < t → w < 2 ^ t → freed b (members t w) (remove k (members t w)) ≡ pick (last_wait w k) true b
freed_is k t w true h l = by (last_wait w k)
  where
    by : (x : Bool) → true ≡ pick x true true
    by true = refl
    by false = refl
freed_is k t w false h l = ap (freed false (members t w)) (remove_members k t w) ∙ by (last_wait w k) refl
  where
    by : (x : Bool) → last_wait w k ≡ x → freed false (members t w) (members t (without w k)) ≡ pick x true false
    by true e = let a = both_true (has w k) _ e in
        gone _ _ (λ z. no_way (sym a.0 ∙ listed_none (has w) t z k h)) (ap (members t) (true→eq (without w k) 0 a.1) ∙ members_zero t)
    by false e = stays _ _ (λ ne z. let y = members_none t (without w k) (without_fits t w k l) z in at (has w k) refl ne y)
      where
        at : (x : Bool) → has w k ≡ x → members t w ≢ [] → without w k ≡ 0 → ⊥
        at true f ne y = no_way (sym (rw (f, y) refl) ∙ e)
        at false f ne y = ne (ap (members t) (sym (still w k f) ∙ y) ∙ members_zero t)

-- ---- one node

pub free_at : (n w : ℕ) (f : ℕ → Bool) → FreeT n w f → (i : ℕ) → i < n → (x a : Bool) → a ≡ pick x true (f i) → FreeT n (pick x (with w i) w) (upd f i a)
free_at n w f r i h true a e = subst (λ a. FreeT n (with w i) (upd f i a)) (sym e) (with_t n w f r i h)
free_at n w f r i h false a e = record { bits = λ j l. by j l (ℕ_discrete j i); fits = r.fits }
  where
    by : (j : ℕ) → j < n → Dec (j ≡ i) → upd f i a j ≡ has w j
    by j l (yes z) = upd_at f i a z ∙ e ∙ ap f (sym z) ∙ r.bits j l
    by j l (no z) = upd_other f i a z ∙ r.bits j l

pub released_at_t : (p : memory.Line → Content) (m : Machine) (c : Core) → Tied p m c → (k : ℕ) → k < m.t → (i : ℕ) → i < m.n
    → Tied p (released_at m k i) (set_free c (upd c.free i (freed (c.free i) (c.wait i) (remove k (c.wait i)))) (upd c.wait i (remove k (c.wait i))))
unfolding released_at
released_at_t p m c d k hk i hi = record {
  conf = d.conf;
  last = d.last;
  sizes = d.sizes;
  hnode = d.hnode;
  heads = d.heads;
  narrow = d.narrow;
  eight = d.eight;
  flushes = d.flushes;
  tail = d.tail;
  threads = d.threads;
  kept = d.kept;
  nodes = put_nodes (top_of m.form) m.n m.t m.nodes c.node c.next c.wait d.nodes d.sizes.nodes_hi i hi
      (with_waits (node m i) (without (node m i).waits k)) c.node c.next (upd c.wait i (remove k (c.wait i)))
      (record {
        content = a.content;
        link = a.link;
        waits = upd_same c.wait i _ ∙ ap (remove k) a.waits ∙ remove_members k m.t (node m i).waits;
        flag = a.flag;
        reach = a.reach;
        few = without_fits m.t (node m i).waits k a.few;
        narrow = a.narrow;
      }) (λ j ne. refl) (λ j ne. refl) (λ j ne. upd_other c.wait i _ ne);
  free = free_at m.n m.free c.free d.free i hi (last_wait (node m i).waits k) _
      (ap (λ w. freed (c.free i) w (remove k w)) a.waits ∙ freed_is k m.t (node m i).waits (c.free i) hk a.few);
}
  where
    a : NodeAt (top_of m.form) m.n m.t (node m i) (c.node i) (c.next i) (c.wait i)
    a = d.nodes.at i hi

-- ---- all of them

abbrev free_to : Core → ℕ → ℕ → ℕ → Bool
free_to c k i j = sel (ltb j i) (freed (c.free j) (c.wait j) (remove k (c.wait j))) (c.free j)

abbrev wait_to : Core → ℕ → ℕ → ℕ → List ℕ
wait_to c k i j = sel (ltb j i) (remove k (c.wait j)) (c.wait j)

lt_suc : (j i : ℕ) → j ≢ i → ltb j (suc i) ≡ ltb j i
lt_suc j i ne = at (dec_lt j i)
  where
    at : Dec (j < i) → ltb j (suc i) ≡ ltb j i
    at (yes h) = lt_true j (suc i) (omega arith) ∙ sym (lt_true j i h)
    at (no h) = lt_no j (suc i) (omega arith) ∙ sym (lt_no j i (omega arith))

module _ (p : memory.Line → Content) (m : Machine) (c : Core) (d : Tied p m c) (k : ℕ) (hk : k < m.t) where
  released_t : (i : ℕ) → i ≤ m.n → Tied p (released m k i) (set_free c (free_to c k i) (wait_to c k i))
  unfolding released
  released_t zero h = same_t p m c d (free_to c k 0) (wait_to c k 0) (λ j l. rw (lt_no j 0 (omega arith)) refl) (λ j l. rw (lt_no j 0 (omega arith)) refl)
  released_t (suc i) h =
      let r = released_t i (omega arith) in
      let en : (released m k i).n ≡ m.n = sym (count_n p (released m k i) _ r) ∙ count_n p m c d in
      let et : (released m k i).t ≡ m.t = sym (count_t p (released m k i) _ r) ∙ count_t p m c d in
      let a = released_at_t p (released m k i) (set_free c (free_to c k i) (wait_to c k i)) r k (omega arith) i (omega arith) in
      same_t p (released_at (released m k i) k i) _ a (free_to c k (suc i)) (wait_to c k (suc i)) (λ j l. fr j (ℕ_discrete j i)) (λ j l. wt j (ℕ_discrete j i))
    where
      fr : (j : ℕ) → Dec (j ≡ i) → free_to c k (suc i) j ≡ upd (free_to c k i) i (freed (free_to c k i i) (wait_to c k i i) (remove k (wait_to c k i i))) j
      fr j (yes e) = rw (upd_at (free_to c k i) i (freed (free_to c k i i) (wait_to c k i i) (remove k (wait_to c k i i))) e, e, lt_true i (suc i) (omega arith), lt_no i i (omega arith)) refl
      fr j (no e) = rw (upd_other (free_to c k i) i (freed (free_to c k i i) (wait_to c k i i) (remove k (wait_to c k i i))) e, lt_suc j i e) refl

      wt : (j : ℕ) → Dec (j ≡ i) → wait_to c k (suc i) j ≡ upd (wait_to c k i) i (remove k (wait_to c k i i)) j
      wt j (yes e) = rw (upd_at (wait_to c k i) i (remove k (wait_to c k i i)) e, e, lt_true i (suc i) (omega arith), lt_no i i (omega arith)) refl
      wt j (no e) = rw (upd_other (wait_to c k i) i (remove k (wait_to c k i i)) e, lt_suc j i e) refl

  -- the core with other holds
  abbrev pub held_as : (ℕ → Option ℕ) → Core
  held_as f = record {
    conf = c.conf;
    node = c.node;
    next = c.next;
    hnode = c.hnode;
    hidx = c.hidx;
    tail = c.tail;
    marks = c.marks;
    last = c.last;
    free = c.free;
    wait = c.wait;
    held = f;
    thr = c.thr;
  }

  -- the thread has no operation, and holds x
  pub left_t : (x : ℕ) (held' : ℕ → Option ℕ) → held' k ≡ link_of x → Link m.n x → ((j : ℕ) → j ≢ k → held' j ≡ c.held j)
      → Tied p (left m k x) (leave (held_as held') k)
  left_t x held' e lx same = record {
    conf = s.conf;
    sizes = s.sizes;
    hnode = s.hnode;
    heads = s.heads;
    narrow = s.narrow;
    eight = s.eight;
    flushes = s.flushes;
    tail = s.tail;
    last = s.last;
    nodes = s.nodes;
    free = s.free;
    kept = s.kept;
    threads = put_threads _ _ _ _ c.thr c.held s.threads s.sizes.threads_hi k (omega (arith, et)) (idle_thread x) (upd c.thr k idle) held'
        (record {
          seen = 0;
          own = λ e. refl;
          stage = upd_same c.thr k idle;
          holds = e;
          regs = record { step = step_in_lem (released m k m.n).form 0 (omega arith); node = inr refl; tail = inr refl; head = inr refl; next = inr refl; held = subst (λ n. Link n x) (sym en) lx; index = omega arith };
        }) (λ j ne. upd_other c.thr k idle ne) same;
  }
    where
      r : Tied p (released m k m.n) (set_free c (free_to c k m.n) (wait_to c k m.n))
      r = released_t m.n (omega arith)

      en : (released m k m.n).n ≡ m.n
      en = sym (count_n p (released m k m.n) _ r) ∙ count_n p m c d

      et : (released m k m.n).t ≡ m.t
      et = sym (count_t p (released m k m.n) _ r) ∙ count_t p m c d

      s : Tied p (released m k m.n) (set_free c (λ j. freed (c.free j) (c.wait j) (remove k (c.wait j))) (λ j. remove k (c.wait j)))
      s = same_t p (released m k m.n) _ r _ _ (λ j h. rw (lt_true j m.n (omega (arith, en))) refl) (λ j h. rw (lt_true j m.n (omega (arith, en))) refl)
