-- In every run each node is in exactly one of the six places, the tests for the places say the same, and the six numbers add up to N.
use mathlib.Core.Path.{◌≡◌, refl, sym, subst, ap, ◌∙◌}
use mathlib.Core.Bool.{Bool, true, false, not}
use mathlib.Core.List.{List, [], ◌∷◌}
use mathlib.Core.Logic.{◌≢◌, ◌↔◌}
use mathlib.Core.Option.{Option, none, some}
use Prim.Native.Nat.{ℕ, ◌+◌, ◌-◌, ◌≤◌, ◌<◌}
use native.Mathlib.Omega.{arith}
use Rattle.model.specs.Core.{Core, Th, busy, idle}
use Rattle.model.specs.Recovery.{Image}
use Rattle.model.specs.Machine.{Event, starts, run}
use Rattle.model.specs.Bench.{Book, bench, opening}
use Rattle.model.specs.Demand3.{Fit, Tidy, TakesAll}
use Rattle.model.specs.Places.{PlaceKind, in_queue, is_waiting, in_deq, is_held, in_enq, is_free, walk, At, owns_e, owns_d}
use Rattle.model.specs.Always.{is_it, is_nil, placed, six_total, OnePlace, PlacesTested, SixAddUp}
use Rattle.model.proofs.Times.{Hist}
use Rattle.model.proofs.Layer1.Ghost.{lent, queue, off}
use Rattle.model.proofs.Layer1.Stops.{idle_of}
use Rattle.model.proofs.Layer3.All.{All}
use Rattle.model.proofs.Always.Plain.{Plain}
use Rattle.model.proofs.Always.Range.{at_head}
use Rattle.model.proofs.Always.Runs.{Kept, bench_kept, open_kept, bench_run, conf_run, conf_starts}
use Rattle.model.proofs.Always.Six.{walks_in, exactly_one}
use Rattle.model.proofs.Always.Count.{some_yes, some_is, it_is, it_yes, pigeon, six_sum}

-- a thread that owns a node has an operation
busy_own : (f : Th → Option ℕ) (s : Th) (n : ℕ) → f idle ≡ none → f s ≡ some n → busy s ≡ true
busy_own f s n i e = by (busy s) refl
  where
    by : (c : Bool) → busy s ≡ c → busy s ≡ true
    by true z = z
    by false z = let w : f s ≡ none = ap f (idle_of s z) ∙ i in let y : ◌≡◌ {A = ℕ} 0 1 = cc in absurd (omega arith)

not_nil : (l : List ℕ) → l ≢ [] → not (is_nil l) ≡ true
not_nil [] ne = absurd (ne refl)
not_nil (x ∷ l) ne = refl

is_not_nil : (l : List ℕ) → not (is_nil l) ≡ true → l ≢ []
is_not_nil [] e f = let z : ◌≡◌ {A = ℕ} 0 1 = cc in omega arith
is_not_nil (x ∷ l) e f = let z : is_nil (x ∷ l) ≡ true = ap is_nil f in let y : ◌≡◌ {A = ℕ} 0 1 = cc in omega arith

module _ (hs : Hist) (m : Core) (b : Book) (q₀ : List ℕ) (now : ℕ) (a : All (λ n. false) hs m b q₀ now) (p : Plain m) where
  -- the queue has at most N nodes
  chain : a.g.len - a.g.hp ≤ m.conf.nodes
  chain = pigeon m.conf.nodes (a.g.len - a.g.hp) (λ i. a.g.who (a.g.hp + i))
      (λ i h. at_head (λ n. false) hs m b q₀ now a (a.g.hp + i) (omega arith) (omega arith))
      (λ i j h k e.
      let x = a.inv.place.queued (a.g.hp + i) (omega arith) (omega arith) in
      let y = a.inv.place.queued (a.g.hp + j) (omega arith) (omega arith) in
      let w : queue (a.g.hp + i) ≡ queue (a.g.hp + j) = sym x ∙ ap a.g.own e ∙ y in
      let z : a.g.hp + i ≡ a.g.hp + j = cc in omega arith)

  -- what a test says is so
  test_is : (n : ℕ) (k : PlaceKind) → placed m k n ≡ true → At m n k
  test_is n in_queue e = let w = some_is _ m.conf.nodes e in (w.0, it_is n _ w.2)
  test_is n is_waiting e = is_not_nil (m.wait n) e
  test_is n in_deq e = let w = some_is _ m.conf.threads e in (w.0, it_is n _ w.2)
  test_is n is_held e = let w = some_is _ m.conf.threads e in (w.0, it_is n _ w.2)
  test_is n in_enq e = let w = some_is _ m.conf.threads e in (w.0, it_is n _ w.2)
  test_is n is_free e = e

  -- and what is so a test says
  is_test : (n : ℕ) (k : PlaceKind) → At m n k → placed m k n ≡ true
  is_test n in_queue (k, w) = let h = walks_in m a.g a.inv k n w in
      some_yes (λ k. is_it n (walk m.next k m.hnode)) m.conf.nodes k (omega (arith, chain, h.0)) (it_yes n _ w)
  is_test n is_waiting w = not_nil (m.wait n) w
  is_test n in_deq (t, w) = some_yes (λ t. is_it n (owns_d (m.thr t))) m.conf.threads t
      (a.inv.alive.range t (busy_own owns_d (m.thr t) n refl w)) (it_yes n _ w)
  is_test n is_held (t, w) = some_yes (λ t. is_it n (m.held t)) m.conf.threads t (p.holds t n w) (it_yes n _ w)
  is_test n in_enq (t, w) = some_yes (λ t. is_it n (owns_e (m.thr t))) m.conf.threads t
      (a.inv.alive.range t (busy_own owns_e (m.thr t) n refl w)) (it_yes n _ w)
  is_test n is_free w = w

  -- a node of the table is somewhere
  somewhere : (n : ℕ) → n < m.conf.nodes → a.g.own n ≢ off
  somewhere n h o = omega (arith, (a.table n).1 o)

  here : (n : ℕ) → a.g.own n ≢ lent
  here n o = let z = (a.lents n).0 o in let y : ◌≡◌ {A = ℕ} 0 1 = cc in omega arith

  one_place : (n : ℕ) → n < m.conf.nodes → (k : PlaceKind) × At m n k × ((k' : PlaceKind) → At m n k' → k ≡ k')
  one_place n h = exactly_one m a.g a.inv n (somewhere n h) (here n)

  add_up : six_total (placed m) m.conf.nodes ≡ m.conf.nodes
  add_up = six_sum (placed m) m.conf.nodes (λ n h. let w = one_place n h in (w.0, is_test n w.0 w.1, λ k e. w.2 k (test_is n k e)))

-- ---- in every run

module _ (g : Image) (f : Fit g) (t : Tidy g) (l : List Event) (k : TakesAll (starts g) l) where
  kept : Kept (bench (opening g) l)
  kept = bench_kept (opening g) l (open_kept g f t) k

  same : (bench (opening g) l).mach ≡ run (starts g) l
  same = bench_run l (opening g)

  shape : (bench (opening g) l).mach.core.conf ≡ g.conf
  shape = ap (λ m. m.core.conf) same ∙ conf_run l (starts g) ∙ conf_starts g

pub one_place_always : OnePlace
one_place_always g f t l k n h =
    subst (λ m. (p : PlaceKind) × At m.core n p × ((p' : PlaceKind) → At m.core n p' → p ≡ p')) (same g f t l k)
    (one_place _ _ _ _ _ (kept g f t l k).all (kept g f t l k).plain n (subst (λ c. n < c.nodes) (sym (shape g f t l k)) h))

pub places_tested : PlacesTested
places_tested g f t l k n p =
    subst (λ m. (placed m.core p n ≡ true) ↔ At m.core n p) (same g f t l k)
    (test_is _ _ _ _ _ (kept g f t l k).all (kept g f t l k).plain n p, is_test _ _ _ _ _ (kept g f t l k).all (kept g f t l k).plain n p)

pub six_add_up : SixAddUp
six_add_up g f t l k =
    subst (λ c. six_total (placed (run (starts g) l).core) c.nodes ≡ c.nodes) (conf_run l (starts g) ∙ conf_starts g)
    (subst (λ m. six_total (placed m.core) m.core.conf.nodes ≡ m.core.conf.nodes) (same g f t l k)
    (add_up _ _ _ _ _ (kept g f t l k).all (kept g f t l k).plain))
