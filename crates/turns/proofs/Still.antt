-- What an event leaves: the round stays where it is and no free node is taken; or A1 hands out the next one, and that one alone is taken.
use Prim.Native.Nat.{ℕ, zero, suc, ◌+◌}
use mathlib.Core.Path.{◌≡◌, refl, sym, ap, subst, ◌∙◌}
use mathlib.Core.Bool.{Bool, true, false}
use mathlib.Core.Logic.{◌⊎◌, inl, inr, ◌≢◌}
use native.Mathlib.Omega.{arith}
use native.Mathlib.Decide.{ℕ_discrete}
use lib.Dec.{eqb, leb}
use Rattle.lists.specs.Find.{pick, both}
use Rattle.lists.specs.Word.{has, with}
use Rattle.lists.proofs.WordLaws as words
use Rattle.answer.specs.Answers.{accepted, Answer, Done, Full, WornOut, Item, Empty}
use Rattle.image.specs.Form.{top_of, per_desk}
use Rattle.machine.specs.Record.{none, node, thread, head_at, own_node, with_next, with_index, put_node, put_tail, put_head, put_head_node, flushed}
use Rattle.machine.specs.Stage.{Stage, no_step, A1, A2, A3, A4, A5, A6, A7, A8, A9, A10, A11, A12, D1, D2, D3, D4, D5, D6, D7, S3, S6, F10, F3, F6, stage_of, stage}
use Rattle.machine.specs.Line.{shape_of, line_at, own_head, over_at, keeping, persist}
use Rattle.machine.specs.Flush.{over_after, fence}
use Rattle.machine.specs.declared.Line.{Line}
use Rattle.machine.specs.declared.Line.TheVariants.{OfHead as of_head, OfNode as of_node}
use Rattle.machine.specs.Retire.{quiet, moving, going, answering, storing, next_free, hand_out, freed, last_wait, released_at, released, left, others, retired, retired_held}
use Rattle.machine.specs.Event.{Deed, unknown, enqueues, dequeues, steps, writes_back, crashes, deed_of, event_answer, done, stepped, event_at}
use Rattle.machine.proofs.StageLaws.{step_number}
use Rattle.machine.specs.declared.Machine.{Machine}
use Rattle.machine.specs.declared.Event.{Event}
use Rattle.machine.specs.declared.Acted.{Acted}
use Rattle.turns.specs.Turns.{HandsOut}

pub record Still (m m' : Machine) : Type 0 where
  pub last : m'.last ≡ m.last
  pub count : m'.n ≡ m.n
  pub free : (i : ℕ) → has m.free i ≡ true → has m'.free i ≡ true

pub record Given (m m' : Machine) : Type 0 where
  pub last : m'.last ≡ next_free m
  pub count : m'.n ≡ m.n
  pub free : (i : ℕ) → i ≢ next_free m → has m.free i ≡ true → has m'.free i ≡ true

same : (m : Machine) → Still m m
same m = record { last = refl; count = refl; free = λ i h. h }

then : (a b c : Machine) → Still a b → Still b c → Still a c
then a b c p q = record { last = q.last ∙ p.last; count = q.count ∙ p.count; free = λ i h. q.free i (p.free i h) }

with_has : (w x i : ℕ) → has w i ≡ true → has (with w x) i ≡ true
with_has w x i h = by (ℕ_discrete i x)
  where
    by : Dec (i ≡ x) → has (with w x) i ≡ true
    by (yes e) = subst (λ i. has (with w x) i ≡ true) (sym e) (words.has_with_same w x)
    by (no e) = words.has_with_other w x i e ∙ h

pick_has : (w x i : ℕ) (b : Bool) → has w i ≡ true → has (pick b (with w x) w) i ≡ true
pick_has w x i true h = with_has w x i h
pick_has w x i false h = h

pick_still : (m : Machine) (b : Bool) (x y : Machine) → Still m x → Still m y → Still m (pick b x y)
pick_still m true x y p q = p
pick_still m false x y p q = q

either : (m : Machine) (b : Bool) (x y : Acted) → Still m x.machine → Still m y.machine → Still m (pick b x y).machine
either m true x y p q = p
either m false x y p q = q

-- ---- answering and retiring

still_released : (m : Machine) (k c : ℕ) → Still m (released m k c)
unfolding released released_at
still_released m k zero = same m
still_released m k (suc c) =
    let r = still_released m k c in
    let s = released m k c in
    record { last = r.last; count = r.count; free = λ i h. pick_has s.free c i (last_wait (node s c).waits k) (r.free i h) }

still_left : (m a : Machine) (k x : ℕ) → Still m a → Still m (left a k x)
still_left m a k x p =
    let r = then m a (released a k a.n) p (still_released a k a.n) in
    record { last = r.last; count = r.count; free = r.free }

still_retired : (m : Machine) (k : ℕ) → Still m (retired_held m k)
unfolding retired
still_retired m k = by (eqb (thread m k).held none)
  where
    by : (b : Bool) → Still m (pick b m (retired m k (thread m k).held))
    by true = same m
    by false = record { last = refl; count = refl; free = λ i h. pick_has m.free (thread m k).held i (eqb (others m k) 0) h }

-- ---- each step but A1

quietly : (m m' : Machine) → m'.last ≡ m.last → m'.n ≡ m.n → m'.free ≡ m.free → Still m m'
quietly m m' a b c = record { last = a; count = b; free = λ i h. ap (λ w. has w i) c ∙ h }

-- a fence, whether or not it finds something later
still_fence : (m : Machine) (k : ℕ) (l : Line) → Still m (fence m k l)
still_fence m k l = pick_still m (has (over_at m l) k) m (keeping m l (flushed m k) (over_after m k l)) (same m) (by l)
  where
    by : (l : Line) → Still m (keeping m l (flushed m k) (over_after m k l))
    by (of_head j) = quietly m _ refl refl refl
    by (of_node i) = quietly m _ refl refl refl

still_step : (m : Machine) (k : ℕ) (s : Stage) → s ≢ A1 → Still m (stepped m k s).machine
still_step m k no_step d = same m
still_step m k A1 d = absurd (d refl)
still_step m k A2 d = quietly m _ refl refl refl
still_step m k A3 d = quietly m _ refl refl refl
still_step m k A4 d = quietly m _ refl refl refl
still_step m k A5 d = quietly m _ refl refl refl
still_step m k A6 d = quietly m _ refl refl refl
still_step m k A7 d =
    let i = (thread m k).node in
    let t = (thread m k).tail in
    either m (leb (top_of m.form) (node m t).index) (answering WornOut (freed m i) k)
    (storing (of_node i) (going (put_node m i (with_index (node m i) ((node m t).index + 1))) k 8))
    (still_left m (freed m i) k (thread m k).held (record { last = refl; count = refl; free = λ j h. with_has m.free i j h }))
    (quietly m _ refl refl refl)
still_step m k A8 d =
    let i = (thread m k).node in
    let t = (thread m k).tail in
    either m (eqb (node m t).next none) (going (put_node m t (with_next (node m t) i)) k 9) (going m k 12) (quietly m _ refl refl refl) (quietly m _ refl refl refl)
still_step m k A9 d = quietly m _ refl refl refl
still_step m k A10 d = quietly m _ refl refl refl
still_step m k A11 d =
    let a = pick (eqb m.tail (thread m k).tail) (put_tail m (thread m k).node) m in
    still_left m a k (thread a k).held (pick_still m (eqb m.tail (thread m k).tail) (put_tail m (thread m k).node) m (quietly m _ refl refl refl) (same m))
still_step m k A12 d =
    let t = (thread m k).tail in
    let p = pick_still m (eqb m.tail t) (put_tail m (node m t).next) m (quietly m _ refl refl refl) (same m) in
    record { last = p.last; count = p.count; free = p.free }
still_step m k D1 d = quietly m _ refl refl refl
still_step m k D2 d = quietly m _ refl refl refl
still_step m k D3 d = quietly m _ refl refl refl
still_step m k D4 d =
    let x = (thread m k).next in
    let b = per_desk m.form in
    let desk = going (put_head_node m x) k 17 in
    let pair = storing (of_head 0) (going (put_head m x (node m x).index) k 17) in
    either m (both (eqb m.head (thread m k).head) (pick b true (eqb (head_at m 0) (thread m k).index))) (pick b desk pair) (going m k 13)
    (either m b desk pair (quietly m _ refl refl refl) (quietly m _ refl refl refl)) (quietly m _ refl refl refl)
still_step m k D5 d = quietly m _ refl refl refl
still_step m k D6 d = quietly m _ refl refl refl
still_step m k D7 d = still_left m (retired_held m k) k (thread m k).head (still_retired m k)
still_step m k S3 d = quietly m _ refl refl refl
still_step m k S6 d = quietly m _ refl refl refl
still_step m k F10 d = let p = still_fence m k (of_node (thread m k).node) in record { last = p.last; count = p.count; free = p.free }
still_step m k F3 d = let a = fence m k (of_head (own_head m k)) in still_left m a k (thread a k).held (still_fence m k (of_head (own_head m k)))
still_step m k F6 d = let p = still_fence m k (of_head (own_head m k)) in record { last = p.last; count = p.count; free = p.free }

still_persist : (m : Machine) (l : Line) → Still m (persist m l)
still_persist m (of_head k) = quietly m _ refl refl refl
still_persist m (of_node i) = quietly m _ refl refl refl

-- ---- an event

module _ (p : ℕ) (m : Machine) (e : Event) where
  abbrev Left : Machine → Type 0
  Left m' = (HandsOut p m e (next_free m) × Given m m') ⊎ Still m m'

  at_A1 : accepted (event_answer p m e (deed_of e.kind)) ≡ true → deed_of e.kind ≡ steps → stage m e.number ≡ A1 → (b : Bool) → eqb m.free 0 ≡ b
      → Left (pick b (answering Full m e.number) (moving (hand_out m (next_free m)) e.number (own_node (thread m e.number) (next_free m)) 2)).machine
  at_A1 t d s true f = inr (still_left m m e.number (thread m e.number).held (same m))
  at_A1 t d s false f = inl (
    record { taken = t; step = d; at = s; some_free = f; node = refl },
    record { last = refl; count = refl; free = λ i ne h. words.has_without_other m.free (next_free m) i ne ∙ h },
  )

  on_step : accepted (event_answer p m e (deed_of e.kind)) ≡ true → deed_of e.kind ≡ steps → Left (stepped m e.number (stage m e.number)).machine
  on_step t d = by (ℕ_discrete (thread m e.number).step 1)
    where
      by : Dec ((thread m e.number).step ≡ 1) → Left (stepped m e.number (stage m e.number)).machine
      by (yes q) =
          let z : stage m e.number ≡ A1 = ap stage_of q in
          subst (λ s. Left (stepped m e.number s).machine) (sym z) (at_A1 t d z (eqb m.free 0) refl)
      by (no q) = inr (still_step m e.number (stage m e.number) (λ z. q (step_number (thread m e.number).step A1 z (omega arith))))

  on_deed : (d : Deed) → deed_of e.kind ≡ d → d ≢ crashes → accepted (event_answer p m e (deed_of e.kind)) ≡ true → Left (done m e d).machine
  on_deed unknown d c t = inr (same m)
  on_deed enqueues d c t = inr (quietly m _ refl refl refl)
  on_deed dequeues d c t = inr (quietly m _ refl refl refl)
  on_deed steps d c t = on_step t d
  on_deed writes_back d c t = inr (still_persist m (line_at (shape_of m) e.number))
  on_deed crashes d c t = absurd (c refl)

  pub left_by : deed_of e.kind ≢ crashes → Left (event_at p m e).machine
  unfolding event_at
  left_by c = by (accepted (event_answer p m e (deed_of e.kind))) refl
    where
      by : (b : Bool) → accepted (event_answer p m e (deed_of e.kind)) ≡ b
          → Left (elim b as (λ _. Acted) [ true ↦ done m e (deed_of e.kind) | false ↦ quiet (event_answer p m e (deed_of e.kind)) m ]).machine
      by true t = on_deed (deed_of e.kind) refl c t
      by false t = inr (same m)
