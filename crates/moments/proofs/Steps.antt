-- Every step and every event leaves all lines alone but the one it touches.
use Prim.Native.Nat.{ℕ, ◌+◌, ◌<◌}
use mathlib.Core.Path.{◌≡◌, refl, sym, ap, subst, ◌∙◌}
use mathlib.Core.Bool.{Bool, true, false, not}
use native.Mathlib.Omega.{arith}
use lib.ListN.{length}
use lib.Dec.{eqb, leb}
use borrow.Author.Tests.{eqb-true, leb-false}
use Rattle.lists.specs.Find.{pick, both}
use Rattle.lists.proofs.BoolLaws.{no_way}
use Rattle.answer.specs.Answers.{check, accepted, Answer, Taken, Number, NotZero, Idle}
use Rattle.image.specs.Form.{top_of, per_desk, head_lines}
use Rattle.image.proofs.HeadLaws.{lines_desks, lines_some}
use Rattle.machine.specs.Record.{none, node, thread, head_at, with_item, with_next, with_linked, with_index, put_node, put_tail, put_head_node, put_head_at}
use Rattle.machine.specs.Stage.{Stage, no_step, A1, A2, A3, A4, A5, A6, A7, A8, A9, A10, A11, A12, D1, D2, D3, D4, D5, D6, D7, S3, S6, F10, F3, F6, stage, busy}
use Rattle.machine.specs.Line.{shape_of, line_at, number_of, own_head}
use Rattle.machine.specs.Flush.{fence}
use Rattle.machine.specs.declared.Line.{Line}
use Rattle.machine.specs.declared.Line.TheVariants.{OfHead as of_head, OfNode as of_node}
use Rattle.machine.specs.Retire.{quiet, left, freed, released, retired, retired_held}
use Rattle.machine.specs.Event.{Deed, unknown, enqueues, dequeues, steps, writes_back, crashes, deed_of, item_not_zero, event_answer, stepped, done, if_taken, event_at}
use Rattle.machine.specs.declared.Machine.{Machine}
use Rattle.machine.specs.declared.Event.{Event}
use Rattle.machine.specs.declared.Acted.{Acted}
use Rattle.machine.proofs.LineLaws.{line_head, line_node, number_line}
use Rattle.machine.specs.declared.Touch.{Touch}
use Rattle.machine.specs.declared.Touch.TheVariants.{Nothing as nothing, Store as a_store, Fence as a_fence}
use Rattle.schedule.specs.Run.{Bench, goes_on, turned, forward}
use Rattle.moments.specs.Frame.{WritesBack, keeps_of, Frame}
use Rattle.moments.proofs.Frame as frame

-- ---- the steps

-- a step that touches no line
still : (m m' : Machine) → frame.Same m m' → Frame m m' nothing
still m m' s = frame.frame_same m m' s

answers : (m a : Machine) (k x : ℕ) → frame.Same m a → frame.Same m (left a k x)
answers m a k x s =
    let r = frame.same_then m a (released a k a.n) s (frame.same_released a k a.n) in
    record { shape = r.shape; index = r.index; nodes = r.nodes; kept = r.kept }

-- a thread moves on, and the contents are those of a
moves : (m a b : Machine) → frame.Same m a → shape_of b ≡ shape_of a → b.heads ≡ a.heads → b.nodes ≡ a.nodes → keeps_of b ≡ keeps_of a → frame.Same m b
moves m a b s p q r t = record {
  shape = p ∙ s.shape;
  index = q ∙ s.index;
  nodes = rw r s.nodes;
  kept = t ∙ s.kept;
}

module _ (m : Machine) (k : ℕ) where
  picked : (t : Bool) (a b : Acted) → Frame m a.machine a.touch → Frame m b.machine b.touch → Frame m (pick t a b).machine (pick t a b).touch
  picked true a b p q = p
  picked false a b p q = q

  here : (a : Machine) → shape_of a ≡ shape_of m → a.heads ≡ m.heads → a.nodes ≡ m.nodes → keeps_of a ≡ keeps_of m → frame.Same m a
  here a = moves m m a (frame.same_self m)

  -- what a machine a with the frame w is after its thread moved
  on : (a b : Machine) (w : Touch) → Frame m a w → shape_of b ≡ shape_of a → b.heads ≡ a.heads → b.nodes ≡ a.nodes → keeps_of b ≡ keeps_of a → Frame m b w
  on a b w f p q r t = frame.frame_then m a b w f (moves a a b (frame.same_self a) p q r t)

  pub frame_step : (s : Stage) → Frame m (stepped m k s).machine (stepped m k s).touch
  frame_step no_step = still m m (frame.same_self m)
  frame_step A1 =
      picked (eqb m.free 0) _ _
      (still m _ (answers m m k (thread m k).held (frame.same_self m)))
      (still m _ (here _ refl refl refl refl))
  frame_step A2 = on _ _ _ (frame.frame_node m (thread m k).node (with_item (node m (thread m k).node) (thread m k).item)) refl refl refl refl
  frame_step A3 =
      let i = (thread m k).node in
      still m _ (moves m (put_node m i (with_next (node m i) none)) _ (frame.same_node m i (with_next (node m i) none) refl) refl refl refl refl)
  frame_step A4 = on _ _ _ (frame.frame_node m (thread m k).node (with_linked (node m (thread m k).node) 0)) refl refl refl refl
  frame_step A5 = still m _ (here _ refl refl refl refl)
  frame_step A6 = still m _ (here _ refl refl refl refl)
  frame_step A7 =
      let i = (thread m k).node in
      let t = (thread m k).tail in
      picked (leb (top_of m.form) (node m t).index) _ _
      (still m _ (answers m (freed m i) k _ (here _ refl refl refl refl)))
      (on _ _ _ (frame.frame_node m i (with_index (node m i) ((node m t).index + 1))) refl refl refl refl)
  frame_step A8 =
      let i = (thread m k).node in
      let t = (thread m k).tail in
      picked (eqb (node m t).next none) _ _
      (still m _ (moves m (put_node m t (with_next (node m t) i)) _ (frame.same_node m t (with_next (node m t) i) refl) refl refl refl refl))
      (still m _ (here _ refl refl refl refl))
  frame_step A9 = on _ _ _ (frame.frame_node m (thread m k).node (with_linked (node m (thread m k).node) 1)) refl refl refl refl
  frame_step A10 = on _ _ _ (frame.frame_flush m k (of_node (thread m k).node)) refl refl refl refl
  frame_step A11 =
      let b = pick (eqb m.tail (thread m k).tail) (put_tail m (thread m k).node) m in
      still m _ (answers m b k _ (frame.same_pick m (put_tail m (thread m k).node) m (eqb m.tail (thread m k).tail) (here _ refl refl refl refl) (frame.same_self m)))
  frame_step A12 =
      let t = (thread m k).tail in
      let b = pick (eqb m.tail t) (put_tail m (node m t).next) m in
      still m _ (moves m b _ (frame.same_pick m (put_tail m (node m t).next) m (eqb m.tail t) (here _ refl refl refl refl) (frame.same_self m)) refl refl refl refl)
  frame_step D1 = still m _ (here _ refl refl refl refl)
  frame_step D2 = still m _ (here _ refl refl refl refl)
  frame_step D3 = on _ _ _ (frame.frame_flush m k (of_head (own_head m k))) refl refl refl refl
  frame_step D4 =
      let x = (thread m k).next in
      picked (both (eqb m.head (thread m k).head) (pick (per_desk m.form) true (eqb (head_at m 0) (thread m k).index))) _ _
      (picked (per_desk m.form) _ _
      (still m _ (here _ refl refl refl refl))
      (on (put_head_at m 0 (node m x).index) _ _ (frame.frame_head m 0 (node m x).index) refl refl refl refl))
      (still m _ (here _ refl refl refl refl))
  frame_step D5 = still m _ (here _ refl refl refl refl)
  frame_step D6 = on _ _ _ (frame.frame_flush m k (of_head (own_head m k))) refl refl refl refl
  frame_step D7 =
      still m _
      (answers m (retired_held m k) k (thread m k).head
      (frame.same_pick m m (retired m k (thread m k).held) (eqb (thread m k).held none) (frame.same_self m) (frame.same_retired m k (thread m k).held)))
  frame_step S3 = on _ _ _ (frame.frame_head m k (node m (thread m k).head).index) refl refl refl refl
  frame_step S6 = on _ _ _ (frame.frame_head m k (node m (thread m k).next).index) refl refl refl refl
  frame_step F10 = on _ _ _ (frame.frame_fence m k (of_node (thread m k).node)) refl refl refl refl
  frame_step F3 =
      let l = of_head (own_head m k) in
      let p = fence m k l in
      frame.frame_then m p _ (a_fence k l) (frame.frame_fence m k l) (answers p p k _ (frame.same_self p))
  frame_step F6 = on _ _ _ (frame.frame_fence m k (of_head (own_head m k))) refl refl refl refl

-- ---- a line that is persisted, flushed or fenced is one that there is: the line of its number

abbrev pub There : Machine → Touch → Type 0
There m w = (l : Line) → WritesBack w l → line_at (shape_of m) (number_of (shape_of m) l) ≡ l

module _ (m : Machine) (k : ℕ) where
  untouched : There m nothing
  untouched l p = absurd p

  stored : (x : Line) → There m (a_store x)
  stored x l p = absurd p

  one : (x : Line) → line_at (shape_of m) (number_of (shape_of m) x) ≡ x → (l : Line) → l ≡ x → line_at (shape_of m) (number_of (shape_of m) l) ≡ l
  one x e l p = rw p e

  either : (t : Bool) (a b : Acted) → There m a.touch → There m b.touch → There m (pick t a b).touch
  either true a b p q = p
  either false a b p q = q

  own_there : k < m.t → own_head m k < head_lines (shape_of m)
  unfolding per_desk
  own_there h = by (eqb m.form 4) refl
    where
      by : (b : Bool) → eqb m.form 4 ≡ b → pick b k 0 < head_lines (shape_of m)
      by true e = omega (arith, lines_desks (shape_of m) (eqb-true m.form 4 e))
      by false e = omega (arith, lines_some (shape_of m) (omega arith))

  there_step : k < m.t → (s : Stage) → There m (stepped m k s).touch
  there_step h no_step = untouched
  there_step h A1 = either (eqb m.free 0) _ _ untouched untouched
  there_step h A2 = stored (of_node (thread m k).node)
  there_step h A3 = untouched
  there_step h A4 = stored (of_node (thread m k).node)
  there_step h A5 = untouched
  there_step h A6 = untouched
  there_step h A7 = either (leb (top_of m.form) (node m (thread m k).tail).index) _ _ untouched (stored (of_node (thread m k).node))
  there_step h A8 = either (eqb (node m (thread m k).tail).next none) _ _ untouched untouched
  there_step h A9 = stored (of_node (thread m k).node)
  there_step h A10 = one (of_node (thread m k).node) (line_node (shape_of m) (thread m k).node)
  there_step h A11 = untouched
  there_step h A12 = untouched
  there_step h D1 = untouched
  there_step h D2 = untouched
  there_step h D3 = one (of_head (own_head m k)) (line_head (shape_of m) (own_head m k) (own_there h))
  there_step h D4 =
      either (both (eqb m.head (thread m k).head) (pick (per_desk m.form) true (eqb (head_at m 0) (thread m k).index))) _ _
      (either (per_desk m.form) _ _ untouched (stored (of_head 0))) untouched
  there_step h D5 = untouched
  there_step h D6 = one (of_head (own_head m k)) (line_head (shape_of m) (own_head m k) (own_there h))
  there_step h D7 = untouched
  there_step h S3 = stored (of_head k)
  there_step h S6 = stored (of_head k)
  there_step h F10 = one (of_node (thread m k).node) (line_node (shape_of m) (thread m k).node)
  there_step h F3 = one (of_head (own_head m k)) (line_head (shape_of m) (own_head m k) (own_there h))
  there_step h F6 = one (of_head (own_head m k)) (line_head (shape_of m) (own_head m k) (own_there h))

-- ---- the events

pub frame_done : (m : Machine) (e : Event) (d : Deed) → (d ≡ crashes → ⊥) → Frame m (done m e d).machine (done m e d).touch
frame_done m e unknown ne = still m m (frame.same_self m)
frame_done m e enqueues ne = still m _ (here m 0 _ refl refl refl refl)
frame_done m e dequeues ne = still m _ (here m 0 _ refl refl refl refl)
frame_done m e steps ne = frame_step m e.number (stage m e.number)
frame_done m e writes_back ne = frame.frame_persist m (line_at (shape_of m) e.number)
frame_done m e crashes ne = absurd (ne refl)

-- a taken event did what its kind says
taken : (a : Answer) (m : Machine) (e : Event) (d : Deed) → accepted (if_taken a m e d).answer ≡ true → if_taken a m e d ≡ done m e d
taken a m e d h = by (accepted a) refl h
  where
    by : (b : Bool) → accepted a ≡ b → accepted (elim b as (λ _. Acted) [ true ↦ done m e d | false ↦ quiet a m ]).answer ≡ true
        → elim b as (λ _. Acted) [ true ↦ done m e d | false ↦ quiet a m ] ≡ done m e d
    by true q p = refl
    by false q p = absurd (let z : ◌≡◌ {A = ℕ} 0 1 = cc in omega arith)

pub event_done : (p : ℕ) (m : Machine) (e : Event) → accepted (event_at p m e).answer ≡ true → event_at p m e ≡ done m e (deed_of e.kind)
unfolding event_at
event_done p m e h = taken (event_answer p m e (deed_of e.kind)) m e (deed_of e.kind) h

-- what any taken event but a crash leaves alone
pub frame_event : (p : ℕ) (m : Machine) (e : Event) → accepted (event_at p m e).answer ≡ true
    → (deed_of e.kind ≡ crashes → ⊥) → Frame m (event_at p m e).machine (event_at p m e).touch
frame_event p m e a ne = rw (event_done p m e a) (frame_done m e (deed_of e.kind) ne)

-- a taken step is that of a thread that there is
answer_taken : (a : Answer) (m : Machine) (e : Event) (d : Deed) → accepted (if_taken a m e d).answer ≡ true → accepted a ≡ true
answer_taken a m e d h = by (accepted a) refl h
  where
    by : (b : Bool) → accepted a ≡ b → accepted (elim b as (λ _. Acted) [ true ↦ done m e d | false ↦ quiet a m ]).answer ≡ true → b ≡ true
    by true q p = refl
    by false q p = sym q ∙ p

pub event_answer_lem : (p : ℕ) (m : Machine) (e : Event) → accepted (event_at p m e).answer ≡ true → accepted (event_answer p m e (deed_of e.kind)) ≡ true
unfolding event_at
event_answer_lem p m e a = let d = deed_of e.kind in answer_taken (event_answer p m e d) m e d a

pub number_fits : (p : ℕ) (m : Machine) (e : Event) → accepted (event_answer p m e steps) ≡ true → e.number < m.t
number_fits p m e h = by (leb m.t e.number) refl h
  where
    by : (b : Bool) → leb m.t e.number ≡ b
        → accepted (check b (Number p) (check (item_not_zero e) (NotZero p) (check (not (busy m e.number)) (Idle p) Taken))) ≡ true → e.number < m.t
    by true q r = no_way (sym r)
    by false q r = leb-false m.t e.number q

there_done : (p : ℕ) (m : Machine) (e : Event) (d : Deed) → accepted (event_answer p m e d) ≡ true → There m (done m e d).touch
there_done p m e unknown h = untouched m 0
there_done p m e enqueues h = untouched m 0
there_done p m e dequeues h = untouched m 0
there_done p m e steps h = there_step m e.number (number_fits p m e h) (stage m e.number)
there_done p m e writes_back h = one m 0 (line_at (shape_of m) e.number) (ap (line_at (shape_of m)) (number_line (shape_of m) e.number))
there_done p m e crashes h = untouched m 0

pub there_event : (p : ℕ) (m : Machine) (e : Event) → accepted (event_at p m e).answer ≡ true → There m (event_at p m e).touch
unfolding event_at
there_event p m e a =
    let d = deed_of e.kind in
    rw (taken (event_answer p m e d) m e d a) (there_done p m e d (answer_taken (event_answer p m e d) m e d a))

-- no event of an unknown kind is taken
unknown_refused : (p : ℕ) (m : Machine) (e : Event) (d : Deed) → accepted (if_taken (event_answer p m e d) m e d).answer ≡ true → d ≡ unknown → ⊥
unknown_refused p m e d h q =
    let z : accepted (if_taken (event_answer p m e unknown) m e unknown).answer ≡ true = subst (λ (x : Deed). accepted (if_taken (event_answer p m e x) m e x).answer ≡ true) q h in
    let y : ◌≡◌ {A = ℕ} 0 1 = cc in
    omega arith

goes_on_lem : (b : Bench) (o : Acted) (d : Deed) → (d ≡ unknown → ⊥) → (d ≡ crashes → ⊥) → turned b o d ≡ goes_on b o.machine o.touch
goes_on_lem b o unknown n1 n2 = absurd (n1 refl)
goes_on_lem b o enqueues n1 n2 = refl
goes_on_lem b o dequeues n1 n2 = refl
goes_on_lem b o steps n1 n2 = refl
goes_on_lem b o writes_back n1 n2 = refl
goes_on_lem b o crashes n1 n2 = absurd (n2 refl)

known : (p : ℕ) (b : Bench) (e : Event) → accepted (event_at p b.machine e).answer ≡ true → deed_of e.kind ≡ unknown → ⊥
unfolding event_at
known p b e h = unknown_refused p b.machine e (deed_of e.kind) h

-- and the bench goes on from it
pub turned_on : (p : ℕ) (b : Bench) (e : Event) → accepted (event_at p b.machine e).answer ≡ true → (deed_of e.kind ≡ crashes → ⊥)
    → forward p b e ≡ goes_on b (event_at p b.machine e).machine (event_at p b.machine e).touch
turned_on p b e h ne = goes_on_lem b (event_at p b.machine e) (deed_of e.kind) (known p b e h) ne
