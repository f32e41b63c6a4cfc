-- Every event but a crash keeps a record's indices within the width of its form.
use Prim.Native.Nat.{ℕ, zero, suc, ◌+◌, ◌≤◌, ◌<◌}
use mathlib.Core.Path.{◌≡◌, refl, sym, subst}
use mathlib.Core.Bool.{Bool, true, false}
use native.Mathlib.Omega.{arith}
use lib.Dec.{eqb, leb}
use borrow.Author.Tests.{leb-false, eqb-true, eqb-false}
use Rattle.lists.specs.Find.{pick, both}
use Rattle.lists.specs.Word.{with, without}
use Rattle.image.specs.Form.{top_of, head_lines, per_desk}
use Rattle.image.specs.Layout.{no_content}
use Rattle.image.specs.declared.Content.{Content}
use Rattle.image.proofs.HeadLaws.{lines_desks, lines_some}
use Rattle.machine.specs.Record.{none, zero_node, zero_thread, node, thread, kept, head_at, kept_head, flushed, content_of, own_node, read_tail, read_next, read_item, read_head, at_step, with_item, with_next, with_linked, with_index, with_waits, idle_thread, put_node, put_tail, put_free, put_head, put_head_node, put_head_at, put_kept, put_kept_head, put_thread}
use Rattle.machine.specs.Stage.{Stage, no_step, A1, A2, A3, A4, A5, A6, A7, A8, A9, A10, A11, A12, D1, D2, D3, D4, D5, D6, D7, S3, S6, F10, F3, F6, stage}
use Rattle.machine.specs.Line.{shape_of, own_head, keeping, everyone, persist}
use Rattle.machine.specs.Flush.{flush, over_after, fence}
use Rattle.machine.specs.declared.Line.{Line}
use Rattle.machine.specs.declared.Line.TheVariants.{OfHead as of_head, OfNode as of_node}
use Rattle.answer.specs.Answers.{Full, WornOut}
use Rattle.machine.specs.Retire.{moving, going, answering, storing, next_free, hand_out, freed, last_wait, released_at, released, left, others, retired}
use Rattle.machine.specs.Event.{begun, stepped}
use Rattle.machine.specs.declared.Machine.{Machine}
use Rattle.machine.specs.declared.Node.{Node}
use Rattle.machine.specs.declared.Thread.{Thread}
use Rattle.machine.proofs.LineLaws.{LineIn}
use Rattle.steps.proofs.Fit.{Narrow, Used}
use Rattle.steps.proofs.Keep.{set_ind}
use Rattle.steps.proofs.Flushes.{Flushes, fence_ind, fence_in}

-- ---- one thing of the record replaced

narrow_thread : (m : Machine) (k : ℕ) (v : Thread) → Narrow m → v.index ≤ top_of m.form → Narrow (put_thread m k v)
narrow_thread m k v w h = record {
  form = w.form;
  head = w.head;
  node = w.node;
  thread = λ j l. set_ind (λ (x : Thread). x.index ≤ top_of m.form) m.threads k j v zero_thread h (w.thread j l);
}

narrow_node : (m : Machine) (i : ℕ) (v : Node) → Narrow m → v.index ≤ top_of m.form → Narrow (put_node m i v)
narrow_node m i v w h = record {
  form = w.form;
  head = w.head;
  node = λ j l. (set_ind (λ (x : Node). x.index ≤ top_of m.form) m.nodes i j v zero_node h (w.node j l).0, (w.node j l).1);
  thread = w.thread;
}

narrow_kept : (m : Machine) (i : ℕ) (c : Content) (o : ℕ) → Narrow m → c.index ≤ top_of m.form → Narrow (put_kept m i c o)
narrow_kept m i c o w h = record {
  form = w.form;
  head = w.head;
  node = λ j l. ((w.node j l).0, set_ind (λ (x : Content). x.index ≤ top_of m.form) m.kept i j c no_content h (w.node j l).1);
  thread = w.thread;
}

narrow_kept_head : (m : Machine) (i x o : ℕ) → Narrow m → x ≤ top_of m.form → Narrow (put_kept_head m i x o)
narrow_kept_head m i x o w h = record {
  form = w.form;
  head = λ k l. ((w.head k l).0, set_ind (λ (y : ℕ). y ≤ top_of m.form) m.kept_heads i k x 0 h (w.head k l).1);
  node = w.node;
  thread = w.thread;
}

narrow_head : (m : Machine) (h x : ℕ) → Narrow m → x ≤ top_of m.form → Narrow (put_head m h x)
narrow_head m h x w b = record {
  form = w.form;
  head = λ k l. (set_ind (λ (y : ℕ). y ≤ top_of m.form) m.heads 0 k x 0 b (w.head k l).0, (w.head k l).1);
  node = w.node;
  thread = w.thread;
}

narrow_head_node : (m : Machine) (x : ℕ) → Narrow m → Narrow (put_head_node m x)
narrow_head_node m x w = record { form = w.form; head = w.head; node = w.node; thread = w.thread }

narrow_head_at : (m : Machine) (i x : ℕ) → Narrow m → x ≤ top_of m.form → Narrow (put_head_at m i x)
narrow_head_at m i x w h = record {
  form = w.form;
  head = λ k l. (set_ind (λ (y : ℕ). y ≤ top_of m.form) m.heads i k x 0 h (w.head k l).0, (w.head k l).1);
  node = w.node;
  thread = w.thread;
}

narrow_tail : (m : Machine) (x : ℕ) → Narrow m → Narrow (put_tail m x)
narrow_tail m x w = record { form = w.form; head = w.head; node = w.node; thread = w.thread }

narrow_free : (m : Machine) (x : ℕ) → Narrow m → Narrow (put_free m x)
narrow_free m x w = record { form = w.form; head = w.head; node = w.node; thread = w.thread }

narrow_hand_out : (m : Machine) (x : ℕ) → Narrow m → Narrow (hand_out m x)
narrow_hand_out m x w = record { form = w.form; head = w.head; node = w.node; thread = w.thread }

-- ---- answering and retiring

narrow_released : (m : Machine) (k c : ℕ) → Narrow m → c ≤ m.n → (Narrow (released m k c)) × ((released m k c).n ≡ m.n)
unfolding released released_at
narrow_released m k zero w h = (w, refl)
narrow_released m k (suc c) w h =
    let r = narrow_released m k c w (omega arith) in
    let s = released m k c in
    let v = with_waits (node s c) (without (node s c).waits k) in
    (narrow_free (put_node s c v) (pick (last_wait (node s c).waits k) (with s.free c) s.free) (narrow_node s c v r.0 (r.0.node c (omega (arith, r.1))).0), r.1)

narrow_left : (m : Machine) (k x : ℕ) → Narrow m → Narrow (left m k x)
narrow_left m k x w = narrow_thread (released m k m.n) k (idle_thread x) (narrow_released m k m.n w (omega arith)).0 (omega arith)

narrow_retired : (m : Machine) (k x : ℕ) → Narrow m → x < m.n → Narrow (retired m k x)
unfolding retired
narrow_retired m k x w l =
    let v = with_waits (node m x) (others m k) in
    narrow_free (put_node m x v) (pick (eqb (others m k) 0) (with m.free x) m.free) (narrow_node m x v w (w.node x l).0)

-- ---- a copy put in place, a flush, a fence

narrow_keeping : (m : Machine) (l : Line) (c : Content) (o : ℕ) → Narrow m → c.index ≤ top_of m.form → Narrow (keeping m l c o)
narrow_keeping m (of_head k) c o w h = narrow_kept_head m k c.index o w h
narrow_keeping m (of_node i) c o w h = narrow_kept m i c o w h

narrow_flush : (m : Machine) (k : ℕ) (l : Line) → Narrow m → Narrow (flush m k l)
narrow_flush m k (of_head h) w = record { form = w.form; head = w.head; node = w.node; thread = w.thread }
narrow_flush m k (of_node i) w = record { form = w.form; head = w.head; node = w.node; thread = w.thread }

narrow_fence : (m : Machine) (k : ℕ) (l : Line) → Narrow m → (flushed m k).index ≤ top_of m.form → Narrow (fence m k l)
narrow_fence m k l w h = fence_ind Narrow m k l w (narrow_keeping m l (flushed m k) (over_after m k l) w h)

-- ---- the head line that a thread persists is one that there is

pub own_in : (m : Machine) (k : ℕ) → k < m.t → own_head m k < head_lines (shape_of m)
unfolding per_desk
own_in m k l = by (eqb m.form 4) refl
  where
    by : (b : Bool) → eqb m.form 4 ≡ b → pick b k 0 < head_lines (shape_of m)
    by true e = subst (λ x. k < x) (lines_desks (shape_of m) (eqb-true m.form 4 e)) l
    by false e = lines_some (shape_of m) (omega arith)

pick_index : (b : Bool) (x top : ℕ) → x ≤ top → pick b 0 x ≤ top
pick_index true x top h = omega arith
pick_index false x top h = h

-- ---- each step

module _ (m : Machine) (k : ℕ) (w : Narrow m) (g : Flushes m) (u : Used m k) (l₀ : k < m.t) (held_in : ((thread m k).held ≡ none → ⊥) → (thread m k).held < m.n) where
  -- thread k goes on with what it has read of Head
  goes : (m' : Machine) → Narrow m' → (v : Thread) → v.index ≤ top_of m'.form → (s : ℕ) → Narrow (put_thread m' k (at_step v s))
  goes m' w' v h s = narrow_thread m' k (at_step v s) w' h

  mine : (thread m k).index ≤ top_of m.form
  mine = w.thread k l₀

  stores : (i : ℕ) (v : Node) (s : ℕ) → v.index ≤ top_of m.form → Narrow (put_thread (put_node m i v) k (at_step (thread m k) s))
  stores i v s h = goes (put_node m i v) (narrow_node m i v w h) (thread m k) mine s

  head_in : head_at m 0 ≤ top_of m.form
  head_in = (w.head 0 (lines_some (shape_of m) (omega arith))).0

  -- thread k's flush of a line and its fence, and on to step s
  flushes : (l : Line) (s : ℕ) → Narrow (going (flush m k l) k s).machine
  flushes (of_head h) s = goes (flush m k (of_head h)) (narrow_flush m k (of_head h) w) (thread m k) mine s
  flushes (of_node i) s = goes (flush m k (of_node i)) (narrow_flush m k (of_node i) w) (thread m k) mine s

  fenced : (l : Line) → Narrow (fence m k l)
  fenced l = narrow_fence m k l w (g.index k l₀)

  fences : (l : Line) (s : ℕ) → Narrow (going (fence m k l) k s).machine
  fences l s = let r = fence m k l in narrow_thread r k (at_step (thread r k) s) (fenced l) ((fenced l).thread k (fence_in m k l l₀))

  A1-by : (b : Bool) → Narrow (pick b (answering Full m k) (moving (hand_out m (next_free m)) k (own_node (thread m k) (next_free m)) 2)).machine
  A1-by true = narrow_left m k (thread m k).held w
  A1-by false = goes (hand_out m (next_free m)) (narrow_hand_out m (next_free m) w) (own_node (thread m k) (next_free m)) mine 2

  A7-by : (b : Bool) → leb (top_of m.form) (node m (thread m k).tail).index ≡ b
      → Narrow (pick b (answering WornOut (freed m (thread m k).node) k) (storing (of_node (thread m k).node) (going (put_node m (thread m k).node (with_index (node m (thread m k).node) ((node m (thread m k).tail).index + 1))) k 8))).machine
  A7-by true e = let i = (thread m k).node in narrow_left (freed m i) k (thread m k).held (narrow_free m (with m.free i) w)
  A7-by false e =
      let i = (thread m k).node in
      let x = (node m (thread m k).tail).index in
      stores i (with_index (node m i) (x + 1)) 8 (omega (arith, leb-false (top_of m.form) x e))

  A8-by : (thread m k).tail < m.n → (b : Bool)
      → Narrow (pick b (going (put_node m (thread m k).tail (with_next (node m (thread m k).tail) (thread m k).node)) k 9) (going m k 12)).machine
  A8-by h true = let t = (thread m k).tail in stores t (with_next (node m t) (thread m k).node) 9 (w.node t h).0
  A8-by h false = goes m w (thread m k) mine 12

  A11-by : (b : Bool) → Narrow (left (pick b (put_tail m (thread m k).node) m) k (thread (pick b (put_tail m (thread m k).node) m) k).held)
  A11-by true = narrow_left (put_tail m (thread m k).node) k (thread m k).held (narrow_tail m (thread m k).node w)
  A11-by false = narrow_left m k (thread m k).held w

  A12-by : (b : Bool) → Narrow (going (pick b (put_tail m (node m (thread m k).tail).next) m) k 5).machine
  A12-by true = let x = (node m (thread m k).tail).next in goes (put_tail m x) (narrow_tail m x w) (thread m k) mine 5
  A12-by false = goes m w (thread m k) mine 5

  D4-by : (thread m k).next < m.n → (b d : Bool)
      → Narrow (pick b (pick d (going (put_head_node m (thread m k).next) k 17) (storing (of_head 0) (going (put_head m (thread m k).next (node m (thread m k).next).index) k 17))) (going m k 13)).machine
  D4-by h true true = let x = (thread m k).next in goes (put_head_node m x) (narrow_head_node m x w) (thread m k) mine 17
  D4-by h true false =
      let x = (thread m k).next in
      let i = (node m x).index in
      goes (put_head m x i) (narrow_head m x i w (w.node x h).0) (thread m k) mine 17
  D4-by h false d = goes m w (thread m k) mine 13

  D7-by : (b : Bool) → eqb (thread m k).held none ≡ b → Narrow (left (pick b m (retired m k (thread m k).held)) k (thread m k).head)
  D7-by true e = narrow_left m k (thread m k).head w
  D7-by false e =
      let x = (thread m k).held in
      narrow_left (retired m k x) k (thread m k).head (narrow_retired m k x w (held_in (eqb-false x none e)))

  pub narrow_step : (s : Stage) → stage m k ≡ s → Narrow (stepped m k s).machine
  narrow_step no_step e = w
  narrow_step A1 e = A1-by (eqb m.free 0)
  narrow_step A2 e = let i = (thread m k).node in stores i (with_item (node m i) (thread m k).item) 3 (w.node i (u.own_in (rw e))).0
  narrow_step A3 e = let i = (thread m k).node in stores i (with_next (node m i) none) 4 (w.node i (u.own_in (rw e))).0
  narrow_step A4 e = let i = (thread m k).node in stores i (with_linked (node m i) 0) 5 (w.node i (u.own_in (rw e))).0
  narrow_step A5 e = goes m w (read_tail (thread m k) m.tail) mine 6
  narrow_step A6 e = goes m w (thread m k) mine (pick (eqb (node m (thread m k).tail).next none) 7 12)
  narrow_step A7 e = A7-by (leb (top_of m.form) (node m (thread m k).tail).index) refl
  narrow_step A8 e = A8-by (u.t_in (rw e)) (eqb (node m (thread m k).tail).next none)
  narrow_step A9 e = let i = (thread m k).node in stores i (with_linked (node m i) 1) 10 (w.node i (u.own_in (rw e))).0
  narrow_step A10 e = flushes (of_node (thread m k).node) 22
  narrow_step A11 e = A11-by (eqb m.tail (thread m k).tail)
  narrow_step A12 e = A12-by (eqb m.tail (thread m k).tail)
  narrow_step D1 e = let d = per_desk m.form in goes m w (read_head (thread m k) m.head (pick d 0 (head_at m 0))) (pick_index d (head_at m 0) (top_of m.form) head_in) 14
  narrow_step D2 e = let x = (node m (thread m k).head).next in goes m w (read_next (thread m k) x) mine (pick (eqb x none) (pick (per_desk m.form) 20 15) 16)
  narrow_step D3 e = flushes (of_head (own_head m k)) 23
  narrow_step D4 e =
      let d = per_desk m.form in
      D4-by (u.next_in (rw e)) (both (eqb m.head (thread m k).head) (pick d true (eqb (head_at m 0) (thread m k).index))) d
  narrow_step D5 e = goes m w (read_item (thread m k) (node m (thread m k).next).item) mine (pick (per_desk m.form) 21 18)
  narrow_step D6 e = flushes (of_head (own_head m k)) 24
  narrow_step D7 e = D7-by (eqb (thread m k).held none) refl
  narrow_step S3 e = let i = (thread m k).head in goes (put_head_at m k (node m i).index) (narrow_head_at m k (node m i).index w (w.node i (u.head_in (rw e))).0) (thread m k) mine 15
  narrow_step S6 e = let i = (thread m k).next in goes (put_head_at m k (node m i).index) (narrow_head_at m k (node m i).index w (w.node i (u.next_in (rw e))).0) (thread m k) mine 18
  narrow_step F10 e = fences (of_node (thread m k).node) 11
  narrow_step F3 e = let r = fence m k (of_head (own_head m k)) in narrow_left r k (thread r k).held (fenced (of_head (own_head m k)))
  narrow_step F6 e = fences (of_head (own_head m k)) 19

-- ---- a begin, a write-back

pub narrow_begun : (m : Machine) (k s v : ℕ) → Narrow m → Narrow (begun m k s v)
narrow_begun m k s v w =
    narrow_thread m k (record { step = s; node = 255; tail = 255; head = 255; index = 0; next = 255; item = v; held = (thread m k).held }) w (omega arith)

pub narrow_persist : (m : Machine) (l : Line) → Narrow m → LineIn (shape_of m) l → Narrow (persist m l)
narrow_persist m (of_head k) w h = narrow_kept_head m k (head_at m k) (everyone m) w (w.head k h).0
narrow_persist m (of_node i) w h = narrow_kept m i (content_of (node m i)) (everyone m) w (w.node i h).0
