-- Four facts of numbers that the layers do not need, through every event: links lead to nodes below N, also stale ones; nodes wait for threads
-- below T, and such threads hold them; the node last handed out is below N.
use mathlib.Core.Path.{◌≡◌, refl, sym, subst}
use mathlib.Core.Bool.{Bool, true, false, not}
use mathlib.Core.List.{List, [], ◌∷◌}
use mathlib.Core.Logic.{◌≢◌, ◌⊎◌, inl, inr}
use mathlib.Core.Option.{Option, none, some}
use Prim.Native.Nat.{ℕ, zero, suc, ◌+◌, ◌<◌}
use native.Mathlib.Omega.{arith}
use lib.Dec.{eqb, leb}
use Rattle.model.specs.Basics.{bothb, upd, has}
use Rattle.model.specs.Core.{elsewhere, a10f, d3f, d6f}
use Rattle.model.specs.Core.{Core, Th, busy, idle, a1, a2, a3, a4, a5, a6, a7, a8, a9, a10, a11, a12, d1, d2, d3, d4, d5, d6, d7, s3, s6}
use Rattle.model.specs.Conf.{Mode, at_once, fenced, same_head}
use Rattle.model.specs.Changes.{set_held}
use Rattle.model.specs.Choice.{lowest}
use Rattle.model.specs.Steps.{step_a10, step_d3, step_d6, remove, others, leave, retire_held, step, step_a1, step_a6, step_a7, step_a8, step_a11, step_a12, step_d2, step_d4}
use Rattle.model.specs.Recovery.{Image, head_of, recovered, queue_of, link_up, or_zero, start, start'}
use Rattle.model.specs.Demand3.{Fit}
use Rattle.model.specs.Places.{owns_e}
use Rattle.model.proofs.Basics.{upd_ind, not_of}
use Rattle.model.proofs.Layer1.Places.{upd_inv}
use Rattle.model.proofs.Queue.Sorted.{q_in}
use Rattle.model.proofs.Start.Lists.{lowest_some}

pub record PlainOf (N T k : ℕ) (next : ℕ → Option ℕ) (wait : ℕ → List ℕ) (held : ℕ → Option ℕ) : Type 0 where
  pub last : k < N
  pub links : (n x : ℕ) → next n ≡ some x → x < N
  pub waits : (n t : ℕ) → has t (wait n) → t < T
  pub holds : (t n : ℕ) → held t ≡ some n → t < T

abbrev pub Plain : Core → Type 0
Plain m = PlainOf m.conf.nodes m.conf.threads m.last m.next m.wait m.held

-- ---- lists of threads

remove_has : (u t : ℕ) (l : List ℕ) → has u (remove t l) → has u l
unfolding remove
remove_has u t [] h = h
remove_has u t (k ∷ l) h = by (eqb k t) (remove_has u t l) h
  where
    by : (c : Bool) → (has u (remove t l) → has u l) → has u (elim c as (λ _. List ℕ) [ true ↦ remove t l | false ↦ k ∷ remove t l ]) → (u ≡ k) ⊎ has u l
    by true r h = inr (r h)
    by false r (inl e) = inl e
    by false r (inr e) = inr (r e)

others_below : (k t : ℕ) (thr : ℕ → Th) (u : ℕ) → has u (others k t thr) → u < k
unfolding others
others_below zero t thr u h = absurd h
others_below (suc k) t thr u h = by (bothb (busy (thr k)) (not (eqb k t))) (others_below k t thr u) h
  where
    by : (c : Bool) → (has u (others k t thr) → u < k) → has u (elim c as (λ _. List ℕ) [ true ↦ k ∷ others k t thr | false ↦ others k t thr ]) → u < suc k
    by true r (inl e) = omega arith
    by true r (inr e) = omega (arith, r e)
    by false r e = omega (arith, r e)

-- ---- the steps

module _ (m : Core) (t : ℕ) (p : Plain m) where
  pub left : Plain (leave m t)
  left = record { last = p.last; links = p.links; waits = λ n u h. p.waits n u (remove_has u t (m.wait n) h); holds = p.holds }

  pub linked : (x : ℕ) (o : Option ℕ) → ((n : ℕ) → o ≡ some n → n < m.conf.nodes) → PlainOf m.conf.nodes m.conf.threads m.last
      (upd m.next x o) m.wait m.held
  linked x o ok = record {
    last = p.last;
    links = λ n y. upd_ind m.next x o (λ n z. z ≡ some y → y < m.conf.nodes) n (ok y) (λ ne. p.links n y);
    waits = p.waits;
    holds = p.holds;
  }

  pub retired : (n : Option ℕ) → t < m.conf.threads → Plain (retire_held m t n)
  retired none h = p
  retired (some n) h = record {
    last = p.last;
    links = p.links;
    waits = λ k u. upd_ind m.wait n (t ∷ others m.conf.threads t m.thr) (λ k l. has u l → u < m.conf.threads) k (new u) (λ ne. p.waits k u);
    holds = p.holds;
  }
    where
      new : (u : ℕ) → (u ≡ t) ⊎ has u (others m.conf.threads t m.thr) → u < m.conf.threads
      new u (inl e) = omega arith
      new u (inr e) = others_below m.conf.threads t m.thr u e

  holding : (h : ℕ) → t < m.conf.threads → Plain (set_held m t h)
  holding h lt = record {
    last = p.last;
    links = p.links;
    waits = p.waits;
    holds = λ u n. upd_ind m.held t (some h) (λ u o. o ≡ some n → u < m.conf.threads) u (λ e. lt) (λ ne. p.holds u n);
  }

module _ (m : Core) (t : ℕ) (p : Plain m) (Free-in : (n : ℕ) → m.free n ≡ true → n < m.conf.nodes)
    (own_in : (n : ℕ) → owns_e (m.thr t) ≡ some n → n < m.conf.nodes) (works : busy (m.thr t) ≡ true → t < m.conf.threads) where
  p_a1 : (v : ℕ) (o : Option ℕ) → m.conf.chooser.pick m.conf.nodes m.last m.free ≡ o → Plain (step_a1 m t v o).core
  p_a1 v none e = left m t p
  p_a1 v (some n) e = record {
    last = Free-in n (m.conf.chooser.is_free m.conf.nodes m.last m.free n e);
    links = p.links;
    waits = p.waits;
    holds = p.holds;
  }

  p_a6 : (v n x : ℕ) (o : Option ℕ) → Plain (step_a6 m t v n x o).core
  p_a6 v n x none = p
  p_a6 v n x (some y) = p

  p_a7 : (v n x : ℕ) (c : Bool) → Plain (step_a7 m t v n x c).core
  p_a7 v n x true = left m t p
  p_a7 v n x false = p

  p_a8 : (v n x : ℕ) → n < m.conf.nodes → (o : Option ℕ) → Plain (step_a8 m t v n x o).core
  p_a8 v n x h none = linked m t p x (some n) (λ k e. let z : n ≡ k = cc in rw (← z) h)
  p_a8 v n x h (some y) = p

  p_a11 : (n : ℕ) (c : Bool) → Plain (step_a11 m t n c).core
  p_a11 n true = left m t p
  p_a11 n false = left m t p

  p_a12 : (v n : ℕ) (c : Bool) (o : Option ℕ) → Plain (step_a12 m t v n c o).core
  p_a12 v n true none = p
  p_a12 v n true (some y) = p
  p_a12 v n false o = p

  p_d2 : (h i : ℕ) (o : Option ℕ) → Plain (step_d2 m t h i o).core
  p_d2 h i none = p
  p_d2 h i (some x) = p

  p_d4 : (h x : ℕ) (c : Bool) → Plain (step_d4 m t h x c).core
  p_d4 h x true = p
  p_d4 h x false = p

  p_a10 : (v n x : ℕ) (c : Mode) → Plain (step_a10 m t v n x c).core
  p_a10 v n x at_once = p
  p_a10 v n x fenced = p

  p_d3 : (h i : ℕ) (c : Mode) → Plain (step_d3 m t h i c).core
  p_d3 h i at_once = left m t p
  p_d3 h i fenced = p

  p_d6 : (h v : ℕ) (c : Mode) → Plain (step_d6 m t h v c).core
  p_d6 h v at_once = p
  p_d6 h v fenced = p

  pub step_plain : (s : Th) → m.thr t ≡ s → Plain (step m t s).core
  step_plain idle e = p
  step_plain (a1 v) e = p_a1 v _ refl
  step_plain (a2 v n) e = p
  step_plain (a3 v n) e = linked m t p n none (λ k f. let z : ◌≡◌ {A = ℕ} 0 1 = cc in absurd (omega arith))
  step_plain (a4 v n) e = p
  step_plain (a5 v n) e = p
  step_plain (a6 v n x) e = p_a6 v n x (m.next x)
  step_plain (a7 v n x) e = p_a7 v n x (leb m.conf.top (m.node x).index)
  step_plain (a8 v n x) e = p_a8 v n x (own_in n (rw e)) (m.next x)
  step_plain (a9 v n x) e = p
  step_plain (a10 v n x) e = p_a10 v n x m.conf.mode
  step_plain (a10f v n x) e = p
  step_plain (a11 v n x) e = p_a11 n (eqb m.tail x)
  step_plain (a12 v n x) e = p_a12 v n (eqb m.tail x) (m.next x)
  step_plain d1 e = p
  step_plain elsewhere e = p
  step_plain (d2 h i) e = p_d2 h i (m.next h)
  step_plain (d3 h i) e = p_d3 h i m.conf.mode
  step_plain (d3f h i) e = left m t p
  step_plain (d4 h i x) e = p_d4 h x (same_head m.conf.engine (eqb m.hnode h) (eqb m.hidx i))
  step_plain (d5 h x) e = p
  step_plain (d6 h v) e = p_d6 h v m.conf.mode
  step_plain (d6f h v) e = p
  step_plain (s3 h i) e = p
  step_plain (s6 h x v) e = p
  step_plain (d7 h v) e = d7_of (m.held t)
    where
      d7_of : (o : Option ℕ) → Plain (leave (set_held (retire_held m t o) t h) t)
      d7_of none = left (set_held m t h) t (holding m t p h (works (rw e)))
      d7_of (some n) = left (set_held (retire_held m t (some n)) t h) t (holding (retire_held m t (some n)) t (retired m t p (some n) (works (rw e))) h
          (works (rw e)))

-- ---- a start

link_has : (d : ℕ) (l : List ℕ) (n x : ℕ) → link_up d l n ≡ some x → has x l
unfolding link_up
link_has d [] n x e = let z : ◌≡◌ {A = ℕ} 0 1 = cc in absurd (omega arith)
link_has d (k ∷ l) n x e = by (upd_inv (link_up k l) d (some k) n e) (link_has k l n x)
  where
    by : ((n ≡ d) × (some k ≡ some x)) ⊎ ((n ≢ d) × (link_up k l n ≡ some x)) → (link_up k l n ≡ some x → has x l) → (x ≡ k) ⊎ has x l
    by (inl a) r = let f = a.1 in let z : k ≡ x = cc in inl (sym z)
    by (inr a) r = inr (r a.1)

plain_at : (g : Image) (d : ℕ) → d < g.conf.nodes → Plain (start' g d (queue_of g.at (head_of g) g.conf.nodes))
unfolding start'
plain_at g d h = record {
  last = h;
  links = λ n x e. (q_in g.at (head_of g) g.conf.nodes x (link_has d (queue_of g.at (head_of g) g.conf.nodes) n x e)).0;
  waits = λ n t e. absurd e;
  holds = λ t n e. let z : ◌≡◌ {A = ℕ} 0 1 = cc in absurd (omega arith);
}

pub start_plain : (g : Image) → Fit g → Plain (start g)
start_plain g ft = subst (λ o. Plain (start' g (or_zero o) (queue_of g.at (head_of g) g.conf.nodes))) (sym low.1) (at low.0 low.3)
  where
    low : (r : ℕ) × (lowest g.conf.nodes 0 (λ n. not (recovered (head_of g) (g.at n))) ≡ some r) × (not (recovered (head_of g) (g.at r)) ≡ true)
        × (r < 0 + g.conf.nodes)
    low = lowest_some g.conf.nodes 0 (λ n. not (recovered (head_of g) (g.at n))) ft.spare.0 (omega arith) (omega (arith, ft.spare.1))
        (not_of _ ft.spare.2)

    at : (d : ℕ) → d < 0 + g.conf.nodes → Plain (start' g d (queue_of g.at (head_of g) g.conf.nodes))
    at d h = plain_at g d (omega arith)
