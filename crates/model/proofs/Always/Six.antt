-- Each node is in exactly one of the six places.
use mathlib.Core.Path.{◌≡◌, refl, sym, ap, ◌∙◌}
use mathlib.Core.Bool.{Bool, true}
use mathlib.Core.List.{List, []}
use mathlib.Core.Logic.{◌≢◌}
use mathlib.Core.Option.{Option, none, some}
use Prim.Native.Nat.{ℕ, zero, suc, ◌+◌, ◌-◌, ◌<◌}
use native.Mathlib.Omega.{arith}
use native.Mathlib.Nat.{add-zero, add-suc}
use native.Mathlib.Decide.{dec_lt}
use Rattle.model.specs.Core.{Core}
use Rattle.model.specs.Places.{PlaceKind, in_queue, is_waiting, in_deq, is_held, in_enq, is_free, walk, At}
use Rattle.model.proofs.Layer1.Ghost.{Gh, Inv, Place, pos_of, queue, waiting, deqd, kept, enqd, spare, off, lent, lent_w, Marks, Spot}

abbrev kind_of : Place → PlaceKind
kind_of (queue q) = in_queue
kind_of (waiting q) = is_waiting
kind_of (deqd t q) = in_deq
kind_of (kept t q) = is_held
kind_of (enqd t) = in_enq
kind_of spare = is_free
kind_of off = is_free
kind_of lent = is_free
kind_of lent_w = is_waiting

module _ (m : Core) (g : Gh) (i : Inv m g) where
  -- the links lead through the log from Head's place on
  walks : (k : ℕ) → g.hp + k < g.len → walk m.next k m.hnode ≡ some (g.who (g.hp + k))
  unfolding walk
  walks zero h = rw (add-zero g.hp) (ap some i.log.head_at)
  walks (suc k) h =
      let r = walks k (omega (arith, add-suc g.hp k)) in
      let l = i.link.links (g.hp + k) (ap pos_of (i.place.queued (g.hp + k) (omega arith) (omega (arith, add-suc g.hp k))))
      (omega (arith, add-suc g.hp k)) in
      rw (r, add-suc g.hp k) l

  -- and nowhere else
  pub walks_in : (k n : ℕ) → walk m.next k m.hnode ≡ some n → (g.hp + k < g.len) × (g.who (g.hp + k) ≡ n)
  unfolding walk
  walks_in zero n e = rw (add-zero g.hp) (i.log.hp_in, (let a = i.log.head_at in cc))
  walks_in (suc k) n e = by (walk m.next k m.hnode) refl e (walks_in k)
    where
      by : (o : Option ℕ) → walk m.next k m.hnode ≡ o → elim o as (λ _. Option ℕ) [ none ↦ none | some x ↦ m.next x ] ≡ some n
          → ((n : ℕ) → walk m.next k m.hnode ≡ some n → (g.hp + k < g.len) × (g.who (g.hp + k) ≡ n))
          → (g.hp + suc k < g.len) × (g.who (g.hp + suc k) ≡ n)
      by none f e r = let z : ◌≡◌ {A = ℕ} 0 1 = cc in absurd (omega arith)
      by (some x) f e r = at (dec_lt (suc (g.hp + k)) g.len)
        where
          w : (g.hp + k < g.len) × (g.who (g.hp + k) ≡ x)
          w = r x f

          lv : pos_of (g.own (g.who (g.hp + k))) ≡ some (g.hp + k)
          lv = ap pos_of (i.place.queued (g.hp + k) (omega arith) w.0)

          e' : m.next (g.who (g.hp + k)) ≡ some n
          e' = ap m.next w.1 ∙ e

          at : Dec (suc (g.hp + k) < g.len) → (g.hp + suc k < g.len) × (g.who (g.hp + suc k) ≡ n)
          at (yes h) = let l = i.link.links (g.hp + k) lv h in let l' = e' in rw (add-suc g.hp k) (h, cc)
          at (no h) = let l = i.link.last (g.hp + k) lv (omega (arith, w.0)) in let l' = e' in let z : ◌≡◌ {A = ℕ} 0 1 = cc in absurd (omega arith)

  somewhere : (n : ℕ) (p : Place) → g.own n ≡ p → p ≢ off → p ≢ lent → At m n (kind_of p)
  somewhere n (queue q) e ne nl =
      let s : Spot g.who g.hp g.len n (queue q) = rw e at (i.place.spot n) in
      let h : g.hp + (q - g.hp) ≡ q = omega (arith, s.1) in
      (q - g.hp, rw (walks (q - g.hp) (omega (arith, s.1, s.2)), h) (ap some s.0))
  somewhere n (waiting q) e ne nl = (rw e at (i.place.marks n)).1
  somewhere n (deqd t q) e ne nl = (t, rw e at (i.place.holder n))
  somewhere n (kept t q) e ne nl = (t, rw e at (i.place.holder n))
  somewhere n (enqd t) e ne nl = (t, rw e at (i.place.holder n))
  somewhere n spare e ne nl = (rw e at (i.place.marks n)).0
  somewhere n off e ne nl = absurd (ne refl)
  somewhere n lent e ne nl = absurd (nl refl)
  somewhere n lent_w e ne nl = (rw e at (i.place.marks n)).1

  free_is : (f : Bool) (w : List ℕ) (p : Place) → f ≡ true → Marks f w p → kind_of p ≡ is_free
  free_is f w (queue q) e k = let z = k.0 in cc
  free_is f w (waiting q) e k = let z = k.0 in cc
  free_is f w (deqd t q) e k = let z = k.0 in cc
  free_is f w (kept t q) e k = let z = k.0 in cc
  free_is f w (enqd t) e k = let z = k.0 in cc
  free_is f w spare e k = refl
  free_is f w off e k = refl
  free_is f w lent e k = refl
  free_is f w lent_w e k = let z = k.0 in cc

  waiting_is : (f : Bool) (w : List ℕ) (p : Place) → w ≢ [] → Marks f w p → kind_of p ≡ is_waiting
  waiting_is f w (queue q) ne k = absurd (ne k.1)
  waiting_is f w (waiting q) ne k = refl
  waiting_is f w (deqd t q) ne k = absurd (ne k.1)
  waiting_is f w (kept t q) ne k = absurd (ne k.1)
  waiting_is f w (enqd t) ne k = absurd (ne k.1)
  waiting_is f w spare ne k = absurd (ne k.1)
  waiting_is f w off ne k = absurd (ne k.1)
  waiting_is f w lent ne k = absurd (ne k.1)
  waiting_is f w lent_w ne k = refl

  only : (n : ℕ) (k : PlaceKind) → At m n k → kind_of (g.own n) ≡ k
  only n in_queue (k, w) = let h = walks_in k n w in ap kind_of (ap g.own (sym h.1) ∙ i.place.queued (g.hp + k) (omega arith) h.0)
  only n is_waiting w = waiting_is (m.free n) (m.wait n) (g.own n) w (i.place.marks n)
  only n in_deq (t, w) = ap kind_of (i.place.deq_own t n w).1
  only n is_held (t, w) = ap kind_of (i.place.held_own t n w).1
  only n in_enq (t, w) = ap kind_of (i.place.enq_own t n w)
  only n is_free w = free_is (m.free n) (m.wait n) (g.own n) w (i.place.marks n)

  -- exactly one of the six
  pub exactly_one : (n : ℕ) → g.own n ≢ off → g.own n ≢ lent → (k : PlaceKind) × At m n k × ((k' : PlaceKind) → At m n k' → k ≡ k')
  exactly_one n ne nl = (kind_of (g.own n), somewhere n (g.own n) refl ne nl, only n)
