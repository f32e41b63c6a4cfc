-- Which threads are at a fence behind an event: those that were, and one that has just flushed that line.
use Prim.Native.Nat.{ℕ, zero, suc, ◌+◌, ◌≤◌, ◌<◌}
use mathlib.Core.Path.{◌≡◌, refl, sym, ap, ap₂, subst, ◌∙◌}
use mathlib.Core.Bool.{Bool, true, false}
use mathlib.Core.List.{List}
use mathlib.Core.Logic.{◌⊎◌, inl, inr}
use native.Mathlib.Omega.{arith}
use native.Mathlib.Decide.{dec_lt, ℕ_discrete}
use lib.Dec.{eqb, leb}
use lib.ListN.{length, get_or, set, length-set, get_or-eq_default}
use lib.Seq.{get_or-set_same, get_or-set_other}
use Rattle.lists.specs.Find.{pick, both}
use Rattle.answer.specs.Answers.{accepted}
use Rattle.image.specs.Form.{top_of, per_desk}
use Rattle.machine.specs.Record.{none, node, head_at, thread, zero_thread, idle_thread, at_step, put_tail, put_thread}
use Rattle.machine.specs.Stage.{Stage, no_step, A1, A2, A3, A4, A5, A6, A7, A8, A9, A10, A11, A12, D1, D2, D3, D4, D5, D6, D7, S3, S6, F10, F3, F6, number, stage}
use Rattle.machine.specs.Line.{line_at, shape_of, own_head, cached_at, everyone, persist}
use Rattle.machine.specs.Flush.{fence}
use Rattle.machine.specs.Retire.{left, freed, released_at, released, retired, retired_held}
use Rattle.machine.specs.Event.{Deed, unknown, enqueues, dequeues, steps, writes_back, crashes, deed_of, event_answer, stepped, done, event_at}
use Rattle.machine.specs.declared.Machine.{Machine}
use Rattle.machine.specs.declared.Event.{Event}
use Rattle.machine.specs.declared.Acted.{Acted}
use Rattle.machine.specs.declared.Thread.{Thread}
use Rattle.machine.specs.declared.Line.{Line}
use Rattle.machine.specs.declared.Line.TheVariants.{OfHead as of_head, OfNode as of_node}
use Rattle.machine.specs.declared.Touch.{Touch}
use Rattle.machine.specs.declared.Touch.TheVariants.{Nothing as nothing, Store as a_store, Persist as a_persist, Flush as a_flush, Fence as a_fence}
use Rattle.machine.proofs.StageLaws.{step_number}
use Rattle.moments.specs.Marked.{fence_line, Waits, FlushesBy, FencesBy}
use Rattle.moments.proofs.Flushes.{fence_threads}
use Rattle.moments.proofs.Frame.{fence_shape}
use Rattle.moments.proofs.Steps.{event_done, event_answer_lem, number_fits}

-- a thread that waits behind an event waited before, and has not flushed since; or has just flushed that line
pub record Came (m m' : Machine) (w : Touch) : Type 0 where
  pub from : (u : ℕ) (l : Line) → Waits m' u l → (Waits m u l × (FlushesBy w u → ⊥)) ⊎ (w ≡ a_flush u l)

-- ---- threads that an answer leaves alone

released_threads : (m : Machine) (k c : ℕ) → ((released m k c).threads ≡ m.threads) × ((released m k c).form ≡ m.form)
unfolding released released_at
released_threads m k zero = (refl, refl)
released_threads m k (suc c) = released_threads m k c

held_threads : (m : Machine) (k : ℕ) → ((retired_held m k).threads ≡ m.threads) × ((retired_held m k).form ≡ m.form)
unfolding retired
held_threads m k = by (eqb (thread m k).held none)
  where
    by : (t : Bool) → ((pick t m (retired m k (thread m k).held)).threads ≡ m.threads) × ((pick t m (retired m k (thread m k).held)).form ≡ m.form)
    by true = (refl, refl)
    by false = (refl, refl)

tail_threads : (m : Machine) (t : Bool) (x : ℕ) → ((pick t (put_tail m x) m).threads ≡ m.threads) × ((pick t (put_tail m x) m).form ≡ m.form)
tail_threads m true x = (refl, refl)
tail_threads m false x = (refl, refl)

-- a thread beyond the table has no operation
own_thread : (ts : List Thread) (k : ℕ) (v : Thread) → 22 ≤ (get_or (set ts k v) k zero_thread).step → get_or (set ts k v) k zero_thread ≡ v
own_thread ts k v h = by (dec_lt k (length ts))
  where
    by : Dec (k < length ts) → get_or (set ts k v) k zero_thread ≡ v
    by (yes p) = get_or-set_same ts k v zero_thread p
    by (no p) =
        let e = get_or-eq_default (set ts k v) zero_thread {n = k} (omega (arith, length-set ts k v)) in
        absurd (omega (arith, h, ap (λ (x : Thread). x.step) e))

module _ (m : Machine) (k : ℕ) where
  -- thread k becomes v
  module _ (m' : Machine) (w : Touch) (v : Thread) (form : m'.form ≡ m.form) (threads : m'.threads ≡ set m.threads k v) (only : (u : ℕ) → FlushesBy w u → u ≡ k)
      (own : (v.step < 22) ⊎ (w ≡ a_flush k (fence_line m.form k v))) where
    came_at : (u : ℕ) (l : Line) → Waits m' u l → (Waits m u l × (FlushesBy w u → ⊥)) ⊎ (w ≡ a_flush u l)
    came_at u l x = by (ℕ_discrete u k)
      where
        at : thread m' u ≡ get_or (set m.threads k v) u zero_thread
        at = ap (λ (ts : List Thread). get_or ts u zero_thread) threads

        line : (y : Thread) → thread m' u ≡ y → l ≡ fence_line m.form u y
        line y e = x.1 ∙ ap₂ (λ f y. fence_line f u y) form e

        here : u ≡ k → (v.step < 22) ⊎ (w ≡ a_flush k (fence_line m.form k v)) → (Waits m u l × (FlushesBy w u → ⊥)) ⊎ (w ≡ a_flush u l)
        here e q =
            let a : thread m' u ≡ get_or (set m.threads k v) k zero_thread = at ∙ ap (λ j. get_or (set m.threads k v) j zero_thread) e in
            let b : thread m' u ≡ v = a ∙ own_thread m.threads k v (subst (λ (y : Thread). 22 ≤ y.step) a x.0) in
            on b q
          where
            on : thread m' u ≡ v → (v.step < 22) ⊎ (w ≡ a_flush k (fence_line m.form k v)) → (Waits m u l × (FlushesBy w u → ⊥)) ⊎ (w ≡ a_flush u l)
            on b (inl s) = absurd (omega (arith, x.0, s, ap (λ (y : Thread). y.step) b))
            on b (inr s) = inr (s ∙ ap₂ a_flush (sym e) (ap (λ j. fence_line m.form j v) (sym e) ∙ sym (line v b)))

        by : Dec (u ≡ k) → (Waits m u l × (FlushesBy w u → ⊥)) ⊎ (w ≡ a_flush u l)
        by (yes e) = here e own
        by (no ne) =
            let s : thread m' u ≡ thread m u = at ∙ get_or-set_other m.threads k u v zero_thread ne in
            inl ((subst (λ (y : Thread). 22 ≤ y.step) s x.0, line (thread m u) s), λ z. ne (only u z))

  -- on to a step that is no fence, without a flush
  goes : (m' : Machine) (w : Touch) (v : Thread) → m'.form ≡ m.form → m'.threads ≡ set m.threads k v → v.step < 22 → ((u : ℕ) → FlushesBy w u → ⊥) → Came m m' w
  goes m' w v f t s n = record { from = came_at m' w v f t (λ u z. absurd (n u z)) (inl s) }

  -- on to the fence, from its flush
  flushes : (m' : Machine) (l : Line) (v : Thread) → m'.form ≡ m.form → m'.threads ≡ set m.threads k v → l ≡ fence_line m.form k v → Came m m' (a_flush k l)
  flushes m' l v f t q = record { from = came_at m' (a_flush k l) v f t (λ u z. z) (inr (ap (a_flush k) q)) }

  either : (t : Bool) (a b : Acted) → Came m a.machine a.touch → Came m b.machine b.touch → Came m (pick t a b).machine (pick t a b).touch
  either true a b p q = p
  either false a b p q = q

  -- an answer from a machine that has the same threads
  answers : (a : Machine) (x : ℕ) (w : Touch) → (a.threads ≡ m.threads) × (a.form ≡ m.form) → ((u : ℕ) → FlushesBy w u → ⊥) → Came m (left a k x) w
  answers a x w s n =
      let r = released_threads a k a.n in
      goes (left a k x) w (idle_thread x) (r.1 ∙ s.1) (ap (λ (ts : List Thread). set ts k (idle_thread x)) (r.0 ∙ s.0)) (omega arith) n

  -- a step from there to step s
  moves : (a : Machine) (s : ℕ) (w : Touch) → (a.threads ≡ m.threads) × (a.form ≡ m.form) → s < 22 → ((u : ℕ) → FlushesBy w u → ⊥)
      → Came m (put_thread a k (at_step (thread a k) s)) w
  moves a s w q h n = let v = at_step (thread a k) s in goes (put_thread a k v) w v q.1 (ap (λ (ts : List Thread). set ts k v) q.0) h n

  -- one of two steps, neither a fence
  low : (t : Bool) (a b : ℕ) → a < 22 → b < 22 → pick t a b < 22
  low true a b p q = p
  low false a b p q = q

  pub came_step : (s : Stage) → Came m (stepped m k s).machine (stepped m k s).touch
  came_step no_step = record { from = λ u l x. inl (x, λ z. z) }
  came_step A1 =
      either (eqb m.free 0) _ _ (answers m (thread m k).held _ (refl, refl) (λ u z. z)) (goes _ _ _ refl refl (omega arith) (λ u z. z))
  came_step A2 = goes _ _ _ refl refl (omega arith) (λ u z. z)
  came_step A3 = goes _ _ _ refl refl (omega arith) (λ u z. z)
  came_step A4 = goes _ _ _ refl refl (omega arith) (λ u z. z)
  came_step A5 = goes _ _ _ refl refl (omega arith) (λ u z. z)
  came_step A6 = goes _ _ _ refl refl (low (eqb (node m (thread m k).tail).next none) 7 12 (omega arith) (omega arith)) (λ u z. z)
  came_step A7 =
      either (leb (top_of m.form) (node m (thread m k).tail).index) _ _
      (answers (freed m (thread m k).node) (thread m k).held _ (refl, refl) (λ u z. z)) (goes _ _ _ refl refl (omega arith) (λ u z. z))
  came_step A8 =
      either (eqb (node m (thread m k).tail).next none) _ _ (goes _ _ _ refl refl (omega arith) (λ u z. z)) (goes _ _ _ refl refl (omega arith) (λ u z. z))
  came_step A9 = goes _ _ _ refl refl (omega arith) (λ u z. z)
  came_step A10 = flushes _ (of_node (thread m k).node) _ refl refl refl
  came_step A11 =
      let b = eqb m.tail (thread m k).tail in
      answers (pick b (put_tail m (thread m k).node) m) _ _ (tail_threads m b (thread m k).node) (λ u z. z)
  came_step A12 =
      let b = eqb m.tail (thread m k).tail in
      let x = (node m (thread m k).tail).next in
      moves (pick b (put_tail m x) m) 5 _ (tail_threads m b x) (omega arith) (λ u z. z)
  came_step D1 = goes _ _ _ refl refl (omega arith) (λ u z. z)
  came_step D2 =
      goes _ _ _ refl refl
      (low (eqb (node m (thread m k).head).next none) _ 16 (low (per_desk m.form) 20 15 (omega arith) (omega arith)) (omega arith)) (λ u z. z)
  came_step D3 = flushes _ (of_head (own_head m k)) _ refl refl refl
  came_step D4 =
      either (both (eqb m.head (thread m k).head) (pick (per_desk m.form) true (eqb (head_at m 0) (thread m k).index))) _ _
      (either (per_desk m.form) _ _ (goes _ _ _ refl refl (omega arith) (λ u z. z)) (goes _ _ _ refl refl (omega arith) (λ u z. z)))
      (goes _ _ _ refl refl (omega arith) (λ u z. z))
  came_step D5 = goes _ _ _ refl refl (low (per_desk m.form) 21 18 (omega arith) (omega arith)) (λ u z. z)
  came_step D6 = flushes _ (of_head (own_head m k)) _ refl refl refl
  came_step D7 = answers (retired_held m k) (thread m k).head _ (held_threads m k) (λ u z. z)
  came_step S3 = goes _ _ _ refl refl (omega arith) (λ u z. z)
  came_step S6 = goes _ _ _ refl refl (omega arith) (λ u z. z)
  came_step F10 =
      let l = of_node (thread m k).node in
      moves (fence m k l) 11 _ (fence_threads m k l, ap (λ z. z.form) (fence_shape m k l)) (omega arith) (λ u z. z)
  came_step F3 =
      let l = of_head (own_head m k) in
      answers (fence m k l) _ _ (fence_threads m k l, ap (λ z. z.form) (fence_shape m k l)) (λ u z. z)
  came_step F6 =
      let l = of_head (own_head m k) in
      moves (fence m k l) 19 _ (fence_threads m k l, ap (λ z. z.form) (fence_shape m k l)) (omega arith) (λ u z. z)

-- ---- a fence is one of a thread that waits for it

abbrev pub Fencing : Machine → Touch → Type 0
Fencing m w = (u : ℕ) (l : Line) → FencesBy w u l → (u < m.t) × Waits m u l

module _ (m : Machine) (k : ℕ) where
  no_fence : (t : Bool) (a b : Acted) → Fencing m a.touch → Fencing m b.touch → Fencing m (pick t a b).touch
  no_fence true a b p q = p
  no_fence false a b p q = q

  -- thread k is at the fence s, which is of line x
  fences : (s : Stage) (x : Line) → k < m.t → stage m k ≡ s → 21 < number s → ((v : ℕ) → v ≡ number s → x ≡ pick (eqb v 22) (of_node (thread m k).node) (of_head (own_head m k)))
      → Fencing m (a_fence k x)
  fences s x h e g f u l z =
      let n = step_number (thread m k).step s e (omega arith) in
      let w : Waits m k x = (omega (arith, n, g), f (thread m k).step n) in
      (omega (arith, h, z.0), subst (λ u. Waits m u l) (sym z.0) (subst (λ l. Waits m k l) (sym z.1) w))

  pub fencing_step : (s : Stage) → k < m.t → stage m k ≡ s → Fencing m (stepped m k s).touch
  fencing_step no_step h e = λ u l z. absurd z
  fencing_step A1 h e = no_fence (eqb m.free 0) _ _ (λ u l z. absurd z) (λ u l z. absurd z)
  fencing_step A2 h e = λ u l z. absurd z
  fencing_step A3 h e = λ u l z. absurd z
  fencing_step A4 h e = λ u l z. absurd z
  fencing_step A5 h e = λ u l z. absurd z
  fencing_step A6 h e = λ u l z. absurd z
  fencing_step A7 h e = no_fence (leb (top_of m.form) (node m (thread m k).tail).index) _ _ (λ u l z. absurd z) (λ u l z. absurd z)
  fencing_step A8 h e = no_fence (eqb (node m (thread m k).tail).next none) _ _ (λ u l z. absurd z) (λ u l z. absurd z)
  fencing_step A9 h e = λ u l z. absurd z
  fencing_step A10 h e = λ u l z. absurd z
  fencing_step A11 h e = λ u l z. absurd z
  fencing_step A12 h e = λ u l z. absurd z
  fencing_step D1 h e = λ u l z. absurd z
  fencing_step D2 h e = λ u l z. absurd z
  fencing_step D3 h e = λ u l z. absurd z
  fencing_step D4 h e =
      no_fence (both (eqb m.head (thread m k).head) (pick (per_desk m.form) true (eqb (head_at m 0) (thread m k).index))) _ _
      (no_fence (per_desk m.form) _ _ (λ u l z. absurd z) (λ u l z. absurd z)) (λ u l z. absurd z)
  fencing_step D5 h e = λ u l z. absurd z
  fencing_step D6 h e = λ u l z. absurd z
  fencing_step D7 h e = λ u l z. absurd z
  fencing_step S3 h e = λ u l z. absurd z
  fencing_step S6 h e = λ u l z. absurd z
  fencing_step F10 h e = fences F10 (of_node (thread m k).node) h e (omega arith) (λ v q. rw q refl)
  fencing_step F3 h e = fences F3 (of_head (own_head m k)) h e (omega arith) (λ v q. rw q refl)
  fencing_step F6 h e = fences F6 (of_head (own_head m k)) h e (omega arith) (λ v q. rw q refl)

pub fencing_done : (p : ℕ) (m : Machine) (e : Event) (d : Deed) → accepted (event_answer p m e d) ≡ true → Fencing m (done m e d).touch
fencing_done p m e unknown h = λ u l z. absurd z
fencing_done p m e enqueues h = λ u l z. absurd z
fencing_done p m e dequeues h = λ u l z. absurd z
fencing_done p m e steps h = fencing_step m e.number (stage m e.number) (number_fits p m e h) refl
fencing_done p m e writes_back h = λ u l z. absurd z
fencing_done p m e crashes h = λ u l z. absurd z

pub fencing_event : (p : ℕ) (m : Machine) (e : Event) → accepted (event_at p m e).answer ≡ true → Fencing m (event_at p m e).touch
fencing_event p m e a = rw (event_done p m e a) (fencing_done p m e (deed_of e.kind) (event_answer_lem p m e a))

-- ---- events

came_back : (m : Machine) (l : Line) → Came m (persist m l) (a_persist l)
came_back m (of_head k) = record { from = λ u l x. inl (x, λ z. z) }
came_back m (of_node i) = record { from = λ u l x. inl (x, λ z. z) }

pub came_done : (m : Machine) (e : Event) (d : Deed) → (d ≡ crashes → ⊥) → Came m (done m e d).machine (done m e d).touch
came_done m e unknown ne = record { from = λ u l x. inl (x, λ z. z) }
came_done m e enqueues ne = goes m e.number _ _ _ refl refl (omega arith) (λ u z. z)
came_done m e dequeues ne = goes m e.number _ _ _ refl refl (omega arith) (λ u z. z)
came_done m e steps ne = came_step m e.number (stage m e.number)
came_done m e writes_back ne = came_back m (line_at (shape_of m) e.number)
came_done m e crashes ne = absurd (ne refl)

pub came_event : (p : ℕ) (m : Machine) (e : Event) → accepted (event_at p m e).answer ≡ true → (deed_of e.kind ≡ crashes → ⊥)
    → Came m (event_at p m e).machine (event_at p m e).touch
came_event p m e a ne = rw (event_done p m e a) (came_done m e (deed_of e.kind) ne)
