-- The six places of a record that is tied to a core are those of the core.
use mathlib.Core.Path.{◌≡◌, refl, sym, ap, subst, ◌∙◌}
use mathlib.Core.Bool.{Bool, true, false, not}
use mathlib.Core.List.{List, [], ◌∷◌}
use mathlib.Core.Logic.{◌≢◌, inl, inr}
use mathlib.Core.Option.{Option, none, some}
use Prim.Native.Nat.{ℕ, zero, suc, ◌+◌, ◌^◌, ◌≤◌, ◌<◌}
use native.Mathlib.Omega.{arith}
use lib.Dec.{eqb, eqb_refl}
use Rattle.lists.specs.Find.{pick, both, any, count}
use Rattle.lists.proofs.BoolLaws.{no_way}
use Rattle.image.specs.declared.Content.{Content}
use Rattle.tied.specs.Memory as memory
use Rattle.machine.specs.Record.{node, thread}
use Rattle.machine.specs.Stage.{Stage, no_step, A1, A2, A3, A4, A5, A6, A7, A8, A9, A10, A11, A12, D1, D2, D3, D4, D5, D6, D7, S3, S6, F10, F3, F6, stage, enqueue_owns, dequeue_owns}
use Rattle.machine.specs.Place as place
use Rattle.machine.specs.Place.{reached, placed}
use Rattle.machine.specs.declared.Machine.{Machine}
use Rattle.machine.specs.declared.Thread.{Thread}
use Rattle.model.specs.Basics.{sel}
use Rattle.model.specs.Core.{Core}
use Rattle.model.specs.Places.{PlaceKind, in_queue, is_waiting, in_deq, is_held, in_enq, is_free, walk, owns_e, owns_d}
use Rattle.model.specs.Always as model
use Rattle.model.specs.Always.{InRange, count_below, some_below, is_it, is_nil}
use Rattle.model.proofs.Basics.{true→eq, eq_no, yes_of}
use Rattle.model.proofs.Always.Count.{some_yes, some_is, it_is, it_yes}
use Rattle.tied.specs.Shown.{link_if, link_of, members, thread_of}
use Rattle.tied.specs.Always.{SixPlaces, queue, free, waiting, held, enqueue, dequeue, is_in}
use Rattle.tied.proofs.Words.{members_zero, members_none}
use Rattle.tied.proofs.Relation.{Tied}
use Rattle.tied.proofs.Changes.{some_link, count_n, count_t}
use Rattle.tied.proofs.Stepping.{link_in, link_is}

-- the place of the same name
abbrev pub kind_of : SixPlaces → PlaceKind
kind_of queue = in_queue
kind_of free = is_free
kind_of waiting = is_waiting
kind_of held = is_held
kind_of enqueue = in_enq
kind_of dequeue = in_deq

-- ---- tests

iff : (a b : Bool) → (a ≡ true → b ≡ true) → (b ≡ true → a ≡ true) → a ≡ b
iff true b f g = sym (f refl)
iff false true f g = g refl
iff false false f g = refl

any_some : (f g : ℕ → Bool) (n : ℕ) → ((k : ℕ) → k < n → f k ≡ g k) → any f n ≡ some_below g n
unfolding any some_below
any_some f g zero h = refl
any_some f g (suc n) h = by (f n) (g n) (h n (omega arith)) (any_some f g n (λ k l. h k (omega arith)))
  where
    by : (a b : Bool) → a ≡ b → any f n ≡ some_below g n → pick a true (any f n) ≡ sel b true (some_below g n)
    by true true e r = refl
    by true false e r = no_way e
    by false true e r = no_way (sym e)
    by false false e r = r

pub count_same : (f g : ℕ → Bool) (n : ℕ) → ((k : ℕ) → k < n → f k ≡ g k) → count f n ≡ count_below g n
unfolding count count_below
count_same f g zero h = refl
count_same f g (suc n) h = by (f n) (g n) (h n (omega arith)) (count_same f g n (λ k l. h k (omega arith)))
  where
    by : (a b : Bool) → a ≡ b → count f n ≡ count_below g n → pick a 1 0 + count f n ≡ sel b 1 0 + count_below g n
    by true true e r = ap (λ y. 1 + y) r
    by true false e r = no_way e
    by false true e r = no_way (sym e)
    by false false e r = ap (λ y. 0 + y) r

-- a link as a test
link_test : (x i : ℕ) → i < 255 → is_it i (link_of x) ≡ eqb x i
link_test x i h = by (eqb x 255) refl
  where
    by : (b : Bool) → eqb x 255 ≡ b → is_it i (link_if b x) ≡ eqb x i
    by true e = sym (eq_no x i (λ z. omega (arith, true→eq x 255 e)))
    by false e = refl

enq_test : (i : ℕ) (v : Thread) (x : ℕ) (s : Stage) → is_it i (owns_e (thread_of s v x)) ≡ both (enqueue_owns s) (eqb v.node i)
enq_test i v x no_step = refl
enq_test i v x A1 = refl
enq_test i v x A2 = refl
enq_test i v x A3 = refl
enq_test i v x A4 = refl
enq_test i v x A5 = refl
enq_test i v x A6 = refl
enq_test i v x A7 = refl
enq_test i v x A8 = refl
enq_test i v x A9 = refl
enq_test i v x A10 = refl
enq_test i v x A11 = refl
enq_test i v x A12 = refl
enq_test i v x D1 = refl
enq_test i v x D2 = refl
enq_test i v x D3 = refl
enq_test i v x D4 = refl
enq_test i v x D5 = refl
enq_test i v x D6 = refl
enq_test i v x D7 = refl
enq_test i v x S3 = refl
enq_test i v x S6 = refl
enq_test i v x F10 = refl
enq_test i v x F3 = refl
enq_test i v x F6 = refl

deq_test : (i : ℕ) (v : Thread) (x : ℕ) (s : Stage) → is_it i (owns_d (thread_of s v x)) ≡ both (dequeue_owns s) (eqb v.head i)
deq_test i v x no_step = refl
deq_test i v x A1 = refl
deq_test i v x A2 = refl
deq_test i v x A3 = refl
deq_test i v x A4 = refl
deq_test i v x A5 = refl
deq_test i v x A6 = refl
deq_test i v x A7 = refl
deq_test i v x A8 = refl
deq_test i v x A9 = refl
deq_test i v x A10 = refl
deq_test i v x A11 = refl
deq_test i v x A12 = refl
deq_test i v x D1 = refl
deq_test i v x D2 = refl
deq_test i v x D3 = refl
deq_test i v x D4 = refl
deq_test i v x D5 = refl
deq_test i v x D6 = refl
deq_test i v x D7 = refl
deq_test i v x S3 = refl
deq_test i v x S6 = refl
deq_test i v x F10 = refl
deq_test i v x F3 = refl
deq_test i v x F6 = refl

nil_test : (t w : ℕ) → w < 2 ^ t → is_nil (members t w) ≡ eqb w 0
nil_test t w l = by (members t w) refl
  where
    by : (x : List ℕ) → members t w ≡ x → is_nil x ≡ eqb w 0
    by [] e = rw (members_none t w l e) refl
    by (u ∷ x) e = sym (eq_no w 0 (λ z. let y = sym e ∙ ap (members t) z ∙ members_zero t in let q : ◌≡◌ {A = ℕ} 0 1 = cc in omega arith))

-- ---- the links, from either end

walk_on : (next : ℕ → Option ℕ) (k x y : ℕ) → next x ≡ some y → walk next (suc k) x ≡ walk next k y
unfolding walk
walk_on next zero x y e = e
walk_on next (suc k) x y e = ap (λ o. elim o as (λ _. Option ℕ) [ none ↦ none | some z ↦ next z ]) (walk_on next k x y e)

walk_end : (next : ℕ → Option ℕ) (k x : ℕ) → next x ≡ none → walk next (suc k) x ≡ none
unfolding walk
walk_end next zero x e = e
walk_end next (suc k) x e = ap (λ o. elim o as (λ _. Option ℕ) [ none ↦ none | some z ↦ next z ]) (walk_end next k x e)

module _ (p : memory.Line → Content) (m : Machine) (c : Core) (d : Tied p m c) (r : InRange c) where
  abbrev Reach : Bool → Bool → ℕ → ℕ → ℕ → Bool
  Reach a b k x i = elim a as (λ _. Bool) [ true ↦ true | false ↦ elim b as (λ _. Bool) [ true ↦ false | false ↦ reached m k (node m x).next i ] ]

  next_is : (x : ℕ) → x < m.n → (b : Bool) → eqb (node m x).next 255 ≡ b → c.next x ≡ link_if b (node m x).next
  next_is x h b e = (d.nodes.at x h).link ∙ ap (λ b. link_if b (node m x).next) e

  reach_walk : (k x i : ℕ) → x < m.n → reached m k x i ≡ true → (j : ℕ) × (walk c.next j x ≡ some i)
  unfolding reached walk
  reach_walk zero x i h e = (0, ap some (true→eq x i e))
  reach_walk (suc k) x i h e = by (eqb x i) refl (eqb (node m x).next 255) refl e (λ l. reach_walk k (node m x).next i l)
    where
      by : (a : Bool) → eqb x i ≡ a → (b : Bool) → eqb (node m x).next 255 ≡ b → Reach a b k x i ≡ true
          → ((node m x).next < m.n → reached m k (node m x).next i ≡ true → (j : ℕ) × (walk c.next j (node m x).next ≡ some i)) → (j : ℕ) × (walk c.next j x ≡ some i)
      by true ea b eb z rec = (0, ap some (true→eq x i ea))
      by false ea true eb z rec = no_way (sym z)
      by false ea false eb z rec =
          let s = rec (link_in m.n (node m x).next (d.nodes.at x h).reach eb) z in
          (suc s.0, walk_on c.next s.0 x (node m x).next (next_is x h false eb) ∙ s.1)

  walk_reach : (k j x i : ℕ) → x < m.n → j ≤ k → walk c.next j x ≡ some i → reached m k x i ≡ true
  unfolding reached walk
  walk_reach zero zero x i h l e = let z : x ≡ i = cc in rw z (yes_of (eqb i i) (eqb_refl i))
  walk_reach zero (suc j) x i h l e = absurd (omega arith)
  walk_reach (suc k) zero x i h l e = by (eqb x i) (let z : x ≡ i = cc in ap (λ y. eqb y i) z ∙ yes_of (eqb i i) (eqb_refl i))
    where
      by : (a : Bool) → a ≡ true → Reach a (eqb (node m x).next 255) k x i ≡ true
      by true z = refl
      by false z = no_way (sym z)
  walk_reach (suc k) (suc j) x i h l e = by (eqb x i) refl (eqb (node m x).next 255) refl (λ hx f. walk_reach k j (node m x).next i hx (omega arith) f)
    where
      by : (a : Bool) → eqb x i ≡ a → (b : Bool) → eqb (node m x).next 255 ≡ b → ((node m x).next < m.n → walk c.next j (node m x).next ≡ some i → reached m k (node m x).next i ≡ true)
          → Reach a b k x i ≡ true
      by true ea b eb rec = refl
      by false ea true eb rec = let z = sym (walk_end c.next j x (next_is x h true eb)) ∙ e in let y : ◌≡◌ {A = ℕ} 0 1 = cc in absurd (omega arith)
      by false ea false eb rec =
          rec (link_in m.n (node m x).next (d.nodes.at x h).reach eb)
          (sym (walk_on c.next j x (node m x).next (next_is x h false eb)) ∙ e)

  -- ---- each place

  -- where a walk of fewer than N links is found wherever one is
  pub same_places : ((i : ℕ) → i < m.n → (j : ℕ) → walk c.next j c.hnode ≡ some i → model.placed c in_queue i ≡ true)
      → (k : SixPlaces) (i : ℕ) → i < m.n → is_in k m i ≡ model.placed c (kind_of k) i
  unfolding place.is_held place.in_enqueue place.in_dequeue
  same_places short queue i h =
      let hd : m.head < m.n = omega (arith, r.head, d.hnode, count_n p m c d) in
      iff _ _
      (λ e. let s = reach_walk m.n m.head i hd e in short i h s.0 (ap (walk c.next s.0) d.hnode ∙ s.1))
      (λ e. let s = some_is (λ k. is_it i (walk c.next k c.hnode)) c.conf.nodes e in
      walk_reach m.n s.0 m.head i hd (omega (arith, s.1, count_n p m c d)) (ap (walk c.next s.0) (sym d.hnode) ∙ it_is i _ s.2))
  same_places short free i h = sym (d.free.bits i h)
  same_places short waiting i h = ap not (sym (ap is_nil (d.nodes.at i h).waits ∙ nil_test m.t (node m i).waits (d.nodes.at i h).few))
  same_places short held i h =
      any_some (λ k. eqb (thread m k).held i) (λ t. is_it i (c.held t)) m.t
      (λ k l. sym (ap (is_it i) (d.threads.at k l).holds ∙ link_test (thread m k).held i (omega (arith, d.sizes.nodes_hi))))
      ∙ ap (some_below (λ t. is_it i (c.held t))) (sym (count_t p m c d))
  same_places short enqueue i h =
      any_some (λ k. both (enqueue_owns (stage m k)) (eqb (thread m k).node i)) (λ t. is_it i (owns_e (c.thr t))) m.t
      (λ k l. sym (ap (λ s. is_it i (owns_e s)) (d.threads.at k l).stage ∙ enq_test i (thread m k) (d.threads.at k l).seen (stage m k)))
      ∙ ap (some_below (λ t. is_it i (owns_e (c.thr t)))) (sym (count_t p m c d))
  same_places short dequeue i h =
      any_some (λ k. both (dequeue_owns (stage m k)) (eqb (thread m k).head i)) (λ t. is_it i (owns_d (c.thr t))) m.t
      (λ k l. sym (ap (λ s. is_it i (owns_d s)) (d.threads.at k l).stage ∙ deq_test i (thread m k) (d.threads.at k l).seen (stage m k)))
      ∙ ap (some_below (λ t. is_it i (owns_d (c.thr t)))) (sym (count_t p m c d))
