-- A thread retires what it held: the node waits for the others that have an operation. The core has it wait for the thread itself too, which answers at once.
use mathlib.Core.Path.{◌≡◌, refl, sym, ap, subst, ◌∙◌}
use mathlib.Core.Bool.{Bool, true, false, not}
use mathlib.Core.List.{List, [], ◌∷◌}
use mathlib.Core.Logic.{◌≢◌, inl, inr}
use mathlib.Core.Option.{Option, none, some}
use Prim.Native.Nat.{ℕ, zero, ◌^◌, ◌≤◌, ◌<◌}
use native.Mathlib.Omega.{arith}
use native.Mathlib.Decide.{ℕ_discrete}
use lib.Dec.{eqb, eqb_refl, ltb, leb}
use borrow.Author.Tests.{leb-true}
use lib.ListN.{length, get_or}
use Rattle.lists.specs.Find.{pick, both, any}
use Rattle.lists.specs.Word.{has, with, word_of}
use Rattle.lists.proofs.BoolLaws.{no_way}
use Rattle.lists.proofs.FindLaws.{any_clear}
use Rattle.image.specs.declared.Content.{Content}
use Rattle.tied.specs.Memory as memory
use Rattle.image.specs.Form.{top_of, per_desk}
use Rattle.machine.specs.Record.{node, thread, with_waits}
use Rattle.machine.specs.Stage as stage
use Rattle.machine.specs.Stage.{stages, stage_of}
use Rattle.machine.specs.Retire as retire
use Rattle.machine.specs.Retire.{retired, retired_held, left}
use Rattle.machine.specs.declared.Machine.{Machine}
use Rattle.machine.specs.declared.Thread.{Thread}
use Rattle.model.specs.Basics.{bothb, upd}
use Rattle.model.specs.Core.{Core, Th, busy}
use Rattle.model.specs.Changes.{set_free, set_held}
use Rattle.model.specs.Steps.{remove, others, freed, leave, retire_held}
use Rattle.model.proofs.Basics.{upd_at, upd_same, upd_other, true→eq, eq_no, lt_true, yes_of}
use Rattle.tied.specs.Shown.{link_if, link_of, listed, members, thread_of, shown_thread}
use Rattle.tied.proofs.Words.{word_fits, has_word, listed_same, members_zero, members_none, remove_listed, others_listed}
use Rattle.tied.proofs.Relation.{Link, step_in, NodeAt, put_nodes, FreeT, Tied}
use Rattle.tied.proofs.Changes.{some_link, with_t, same_t, count_n, count_t}
use Rattle.tied.proofs.Leaving.{free_at, held_as, left_t}

-- ---- a thread has an operation where its step is not 0

-- by one test over the table of steps
same : (a b : Bool) → pick a (not b) b ≡ false → a ≡ b
same true true e = refl
same true false e = e
same false true e = sym e
same false false e = refl

busy_table : (v : Thread) (i : ℕ) → any (λ s. pick (busy (thread_of (stage_of s) v i)) (not (not (eqb s 0))) (not (eqb s 0))) (length stages) ≡ false
unfolding any
busy_table v i = refl

busy_at : (s : ℕ) (v : Thread) (i : ℕ) → s < length stages → busy (thread_of (stage_of s) v i) ≡ not (eqb s 0)
busy_at s v i h =
    same (busy (thread_of (stage_of s) v i)) (not (eqb s 0))
    (any_clear (λ s. pick (busy (thread_of (stage_of s) v i)) (not (not (eqb s 0))) (not (eqb s 0))) (length stages) s (busy_table v i) h)

steps_few : (f s : ℕ) → step_in f s ≡ true → s < length stages
steps_few f s = by (leb s 19) refl (leb s 21) refl (per_desk f)
  where
    by : (x : Bool) → leb s 19 ≡ x → (y : Bool) → leb s 21 ≡ y → (b : Bool) → pick x true (pick y b (leb s 24)) ≡ true → s < 25
    by true e y g b h = omega (arith, leb-true s 19 e)
    by false e true g b h = omega (arith, leb-true s 21 g)
    by false e false g b h = omega (arith, leb-true s 24 h)

pub busy_shown : (f : ℕ) (v : Thread) (i : ℕ) → step_in f v.step ≡ true → busy (shown_thread v i) ≡ not (eqb v.step 0)
busy_shown f v i h = busy_at v.step v i (steps_few f v.step h)

pub busy_tied : (p : memory.Line → Content) (m : Machine) (c : Core) → Tied p m c → (k : ℕ) → k < m.t → busy (c.thr k) ≡ stage.busy m k
busy_tied p m c d k h = let a = d.threads.at k h in ap busy a.stage ∙ busy_shown m.form (thread m k) a.seen a.regs.step

-- ---- the others

abbrev is_none : List ℕ → Bool
is_none [] = true
is_none (u ∷ w) = false

none_is : (t w : ℕ) → w < 2 ^ t → is_none (members t w) ≡ eqb w 0
none_is t w l = by (members t w) refl
  where
    by : (x : List ℕ) → members t w ≡ x → is_none x ≡ eqb w 0
    by [] e = rw (members_none t w l e) refl
    by (u ∷ x) e = sym (eq_no w 0 (λ z. let y = sym e ∙ ap (members t) z ∙ members_zero t in let q : ◌≡◌ {A = ℕ} 0 1 = cc in omega arith))

swap : (a b : Bool) → bothb a b ≡ both b a
swap true true = refl
swap true false = refl
swap false true = refl
swap false false = refl

itself : (k : ℕ) (o : List ℕ) → remove k (k ∷ o) ≡ remove k o
unfolding remove
itself k o = by (eqb k k) (yes_of (eqb k k) (eqb_refl k))
  where
    by : (b : Bool) → b ≡ true → ◌≡◌ {A = List ℕ} (elim b as (λ _. List ℕ) [ true ↦ remove k o | false ↦ k ∷ remove k o ]) (remove k o)
    by true e = refl
    by false e = no_way (sym e)

others_fit : (m : Machine) (k : ℕ) → retire.others m k < 2 ^ m.t
unfolding retire.others
others_fit m k = word_fits (λ u. both (not (eqb u k)) (stage.busy m u)) m.t

module _ (p : memory.Line → Content) (m : Machine) (c : Core) (d : Tied p m c) (k : ℕ) (hk : k < m.t) where
  others_are : others c.conf.threads k c.thr ≡ members m.t (retire.others m k)
  unfolding retire.others
  others_are =
      ap (λ t. others t k c.thr) (count_t p m c d) ∙ others_listed k c.thr m.t
      ∙ listed_same _ _ m.t (λ u h.
      ap (λ b. bothb b (not (eqb u k))) (busy_tied p m c d u h) ∙ swap (stage.busy m u) (not (eqb u k))
      ∙ sym (has_word (λ u. both (not (eqb u k)) (stage.busy m u)) m.t u ∙ ap (λ b. bothb b (both (not (eqb u k)) (stage.busy m u))) (lt_true u m.t h)))

  -- the thread itself is not among them
  not_itself : remove k (others c.conf.threads k c.thr) ≡ others c.conf.threads k c.thr
  not_itself = ap (remove k) (others_listed k c.thr c.conf.threads) ∙ remove_listed k _ c.conf.threads
      ∙ listed_same _ _ c.conf.threads (λ u h. by u (ℕ_discrete u k)) ∙ sym (others_listed k c.thr c.conf.threads)
    where
      no_and : (a : Bool) → bothb a false ≡ false
      no_and true = refl
      no_and false = refl

      by : (u : ℕ) → Dec (u ≡ k) → upd (λ u. bothb (busy (c.thr u)) (not (eqb u k))) k false u ≡ bothb (busy (c.thr u)) (not (eqb u k))
      by u (yes e) = upd_at _ k false e ∙ sym (ap (λ b. bothb (busy (c.thr u)) (not b)) (ap (λ y. eqb y k) e ∙ yes_of (eqb k k) (eqb_refl k)) ∙ no_and (busy (c.thr u)))
      by u (no e) = upd_other (λ u. bothb (busy (c.thr u)) (not (eqb u k))) k false e

  retired_t : (x : ℕ) → x < m.n
      → Tied p (retired m k x) (set_free c (upd c.free x (pick (is_none (others c.conf.threads k c.thr)) true (c.free x))) (upd c.wait x (others c.conf.threads k c.thr)))
  unfolding retired
  retired_t x hx = record {
    conf = d.conf;
    last = d.last;
    sizes = d.sizes;
    hnode = d.hnode;
    heads = d.heads;
    narrow = d.narrow;
    eight = d.eight;
    flushes = d.flushes;
    tail = d.tail;
    threads = d.threads;
    kept = d.kept;
    nodes = put_nodes (top_of m.form) m.n m.t m.nodes c.node c.next c.wait d.nodes d.sizes.nodes_hi x hx
        (with_waits (node m x) (retire.others m k)) c.node c.next (upd c.wait x (others c.conf.threads k c.thr))
        (record {
          content = (d.nodes.at x hx).content;
          link = (d.nodes.at x hx).link;
          waits = upd_same c.wait x _ ∙ others_are;
          flag = (d.nodes.at x hx).flag;
          reach = (d.nodes.at x hx).reach;
          few = few;
          narrow = (d.nodes.at x hx).narrow;
        }) (λ j ne. refl) (λ j ne. refl) (λ j ne. upd_other c.wait x _ ne);
    free = free_at m.n m.free c.free d.free x hx (eqb (retire.others m k) 0) _
        (ap (λ b. pick b true (c.free x)) (ap is_none others_are ∙ none_is m.t (retire.others m k) few));
  }
    where
      few : retire.others m k < 2 ^ m.t
      few = others_fit m k

  -- what the core's thread leaves behind is the same
  same_free : (f : Bool) (o : List ℕ) → remove k o ≡ o → freed f (k ∷ o) (remove k (k ∷ o)) ≡ freed (pick (is_none o) true f) o (remove k o)
  same_free f o e = rw (itself k o, e) (by f o)
    where
      by : (f : Bool) (o : List ℕ) → freed f (k ∷ o) o ≡ freed (pick (is_none o) true f) o o
      by true [] = refl
      by true (u ∷ o) = refl
      by false [] = refl
      by false (u ∷ o) = refl

  retires : (x : ℕ) → x < m.n → (h : ℕ) → h < m.n → upd c.held k (some h) k ≡ link_of h
      → Tied p (left (retired m k x) k h) (leave (set_held (retire_held c k (some x)) k h) k)
  retires x hx h hh holds = same_t p (left (retired m k x) k h) _ l _ _ (λ j hj. fr j (ℕ_discrete j x)) (λ j hj. wt j (ℕ_discrete j x))
    where
      o : List ℕ
      o = others c.conf.threads k c.thr

      W : ℕ → List ℕ
      W = upd c.wait x (k ∷ o)

      W₁ : ℕ → List ℕ
      W₁ = upd c.wait x o

      F₁ : ℕ → Bool
      F₁ = upd c.free x (pick (is_none o) true (c.free x))

      r : Tied p (retired m k x) (set_free c F₁ W₁)
      r = retired_t x hx

      en : (retired m k x).n ≡ m.n
      en = sym (count_n p (retired m k x) _ r) ∙ count_n p m c d

      et : (retired m k x).t ≡ m.t
      et = sym (count_t p (retired m k x) _ r) ∙ count_t p m c d

      l : Tied p (left (retired m k x) k h) (leave (held_as p (retired m k x) (set_free c F₁ W₁) r k (omega (arith, et)) (upd c.held k (some h))) k)
      l = left_t p (retired m k x) (set_free c F₁ W₁) r k (omega (arith, et)) h (upd c.held k (some h)) holds (inl (omega (arith, en))) (λ j ne. upd_other c.held k (some h) ne)

      fr : (j : ℕ) → Dec (j ≡ x) → freed (c.free j) (W j) (remove k (W j)) ≡ freed (F₁ j) (W₁ j) (remove k (W₁ j))
      fr j (yes e) = rw (upd_at c.wait x (k ∷ o) e, upd_at c.wait x o e, upd_at c.free x (pick (is_none o) true (c.free x)) e, e) (same_free (c.free x) o not_itself)
      fr j (no e) = rw (upd_other c.wait x (k ∷ o) e, upd_other c.wait x o e, upd_other c.free x (pick (is_none o) true (c.free x)) e) refl

      wt : (j : ℕ) → Dec (j ≡ x) → remove k (W j) ≡ remove k (W₁ j)
      wt j (yes e) = rw (upd_at c.wait x (k ∷ o) e, upd_at c.wait x o e) (itself k o)
      wt j (no e) = rw (upd_other c.wait x (k ∷ o) e, upd_other c.wait x o e) refl

  -- D7: what was held is retired, h is held now
  pub retire_t : (h : ℕ) → h < m.n → Tied p (left (retired_held m k) k h) (leave (set_held (retire_held c k (c.held k)) k h) k)
  retire_t h hh = subst (λ y. Tied p (left (retired_held m k) k h) (leave (set_held (retire_held c k y) k h) k)) (sym (d.threads.at k hk).holds) (by (eqb (thread m k).held 255) refl)
    where
      holds : upd c.held k (some h) k ≡ link_of h
      holds = upd_same c.held k (some h) ∙ sym (some_link m.n h d.sizes.nodes_hi hh)

      by : (b : Bool) → eqb (thread m k).held 255 ≡ b
          → Tied p (left (pick b m (retired m k (thread m k).held)) k h) (leave (set_held (retire_held c k (link_if b (thread m k).held)) k h) k)
      by true e = left_t p m c d k hk h (upd c.held k (some h)) holds (inl hh) (λ j ne. upd_other c.held k (some h) ne)
      by false e = retires (thread m k).held (in_table (d.threads.at k hk).regs.held) h hh holds
        where
          in_table : Link m.n (thread m k).held → (thread m k).held < m.n
          in_table (inl l) = l
          in_table (inr z) = no_way (sym (ap (λ y. eqb y 255) z) ∙ e)
