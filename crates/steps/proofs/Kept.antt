-- Every event but a crash keeps a record's numbers in their ranges.
use Prim.Native.Nat.{ℕ, zero, suc, ◌+◌, ◌^◌, ◌≤◌, ◌<◌}
use mathlib.Core.Path.{◌≡◌, refl}
use mathlib.Core.Bool.{Bool, true, false}
use native.Mathlib.Omega.{arith}
use lib.Dec.{eqb, leb}
use borrow.Author.Tests.{eqb-false, le-leb}
use Rattle.lists.specs.Find.{pick, both}
use Rattle.lists.specs.Word.{with}
use Rattle.lists.proofs.WordLaws as words
use Rattle.answer.specs.Answers.{Full, WornOut}
use Rattle.image.specs.Form.{top_of, per_desk}
use Rattle.machine.specs.Record.{none, node, thread, head_at, content_of, own_node, read_tail, read_next, read_item, read_head, at_step, with_item, with_next, with_linked, with_index, put_node, put_tail, put_head, put_head_node, put_head_at}
use Rattle.machine.specs.Stage.{Stage, no_step, A1, A2, A3, A4, A5, A6, A7, A8, A9, A10, A11, A12, D1, D2, D3, D4, D5, D6, D7, S3, S6, F10, F3, F6, stage}
use Rattle.machine.specs.Line.{shape_of, own_head, everyone, persist}
use Rattle.machine.specs.Flush.{flush, fence}
use Rattle.machine.specs.declared.Line.{Line}
use Rattle.machine.specs.declared.Line.TheVariants.{OfHead as of_head, OfNode as of_node}
use Rattle.machine.specs.Retire.{moving, going, answering, storing, next_free, hand_out, freed, left, retired}
use Rattle.machine.specs.Event.{begun, stepped}
use Rattle.machine.specs.Range.{in_range}
use Rattle.machine.specs.declared.Machine.{Machine}
use Rattle.machine.specs.declared.Node.{Node}
use Rattle.machine.specs.declared.Thread.{Thread}
use Rattle.machine.proofs.LineLaws.{LineIn}
use Rattle.machine.proofs.StageLaws.{step_number}
use Rattle.steps.specs.Numbers.{numbers_fit}
use Rattle.steps.proofs.Fit.{Link, link, step_fits, ThreadFit, Fit, Used, fit_range, fit_numbers, narrow_range, narrow_numbers, used_range}
use Rattle.steps.proofs.Flushes.{Flushes, flushes_range, flushes_numbers, numbers_fit_lem, flushes_persist, fit_flush, fit_fence, fence_in}
use Rattle.steps.proofs.KeepFlush.{flushes_step}
use Rattle.steps.proofs.KeepIndex.{narrow_step, narrow_begun, narrow_persist}
use Rattle.steps.proofs.Keep.{none_link, fit_thread, fit_node, fit_kept, fit_kept_head, fit_tail, fit_head, fit_head_node, fit_head_at, fit_free, next_free_lt, fit_hand_out, fit_left, fit_retired}

-- ---- a thread with one thing replaced

at_step_lem : {n : ℕ} {u : Bool} (v : Thread) (s : ℕ) → ThreadFit n u v → step_fits u s ≡ true → ThreadFit n u (at_step v s)
at_step_lem v s p h = record {
  step_in_lem = h;
  node_link = p.node_link;
  tail_link = p.tail_link;
  head_link = p.head_link;
  next_link = p.next_link;
  held_link = p.held_link;
}

own_node_lem : {n : ℕ} {u : Bool} (v : Thread) (x : ℕ) → ThreadFit n u v → Link n x → ThreadFit n u (own_node v x)
own_node_lem v x p h = record {
  step_in_lem = p.step_in_lem;
  node_link = h;
  tail_link = p.tail_link;
  head_link = p.head_link;
  next_link = p.next_link;
  held_link = p.held_link;
}

read_tail_lem : {n : ℕ} {u : Bool} (v : Thread) (x : ℕ) → ThreadFit n u v → Link n x → ThreadFit n u (read_tail v x)
read_tail_lem v x p h = record {
  step_in_lem = p.step_in_lem;
  node_link = p.node_link;
  tail_link = h;
  head_link = p.head_link;
  next_link = p.next_link;
  held_link = p.held_link;
}

read_head_lem : {n : ℕ} {u : Bool} (v : Thread) (h x : ℕ) → ThreadFit n u v → Link n h → ThreadFit n u (read_head v h x)
read_head_lem v h x p l = record {
  step_in_lem = p.step_in_lem;
  node_link = p.node_link;
  tail_link = p.tail_link;
  head_link = l;
  next_link = p.next_link;
  held_link = p.held_link;
}

read_next_lem : {n : ℕ} {u : Bool} (v : Thread) (x : ℕ) → ThreadFit n u v → Link n x → ThreadFit n u (read_next v x)
read_next_lem v x p h = record {
  step_in_lem = p.step_in_lem;
  node_link = p.node_link;
  tail_link = p.tail_link;
  head_link = p.head_link;
  next_link = h;
  held_link = p.held_link;
}

read_item_lem : {n : ℕ} {u : Bool} (v : Thread) (x : ℕ) → ThreadFit n u v → ThreadFit n u (read_item v x)
read_item_lem v x p = record {
  step_in_lem = p.step_in_lem;
  node_link = p.node_link;
  tail_link = p.tail_link;
  head_link = p.head_link;
  next_link = p.next_link;
  held_link = p.held_link;
}

-- ---- steps that the form or a test decides on

to_A6 : (d b : Bool) → step_fits d (pick b 7 12) ≡ true
to_A6 d true = refl
to_A6 d false = refl

to_D2 : (d b : Bool) → step_fits d (pick b (pick d 20 15) 16) ≡ true
to_D2 true true = refl
to_D2 false true = refl
to_D2 d false = refl

to_D5 : (d : Bool) → step_fits d (pick d 21 18) ≡ true
to_D5 true = refl
to_D5 false = refl

-- thread k, now v, goes on to step s
fit_moving : (m : Machine) (k : ℕ) (v : Thread) (s : ℕ) → Fit m → ThreadFit m.n (per_desk m.form) v → step_fits (per_desk m.form) s ≡ true → Fit (moving m k v s).machine
fit_moving m k v s f p h = fit_thread m k (at_step v s) f (at_step_lem v s p h)

fit_going : (m : Machine) (k s : ℕ) → Fit m → k < m.t → step_fits (per_desk m.form) s ≡ true → Fit (going m k s).machine
fit_going m k s f l h = fit_moving m k (thread m k) s f (f.threads k l) h

-- ---- each step

module _ (m : Machine) (k : ℕ) (f : Fit m) (g : Flushes m) (u : Used m k) (l : k < m.t) where
  A1-by : (b : Bool) → eqb m.free 0 ≡ b
      → Fit (pick b (answering Full m k) (moving (hand_out m (next_free m)) k (own_node (thread m k) (next_free m)) 2)).machine
  A1-by true e = fit_left m k (thread m k).held f (f.threads k l).held_link
  A1-by false e =
      let h = next_free_lt m f (eqb-false m.free 0 e) in
      fit_moving (hand_out m (next_free m)) k (own_node (thread m k) (next_free m)) 2 (fit_hand_out m (next_free m) f h)
      (own_node_lem (thread m k) (next_free m) (f.threads k l) (link h)) refl

  A7-by : (thread m k).node < m.n → (b : Bool)
      → Fit (pick b (answering WornOut (freed m (thread m k).node) k) (storing (of_node (thread m k).node) (going (put_node m (thread m k).node (with_index (node m (thread m k).node) ((node m (thread m k).tail).index + 1))) k 8))).machine
  A7-by h true =
      let i = (thread m k).node in
      fit_left (freed m i) k (thread m k).held (fit_free m (with m.free i) f (words.with_lt m.n m.free i h f.sizes.free_in)) (f.threads k l).held_link
  A7-by h false =
      let i = (thread m k).node in
      let p = f.nodes i h in
      let v = with_index (node m i) ((node m (thread m k).tail).index + 1) in
      fit_going (put_node m i v) k 8 (fit_node m i v f p.next_link p.flag p.waits_in) l refl

  A8-by : (thread m k).tail < m.n → (b : Bool)
      → Fit (pick b (going (put_node m (thread m k).tail (with_next (node m (thread m k).tail) (thread m k).node)) k 9) (going m k 12)).machine
  A8-by h true =
      let t = (thread m k).tail in
      let p = f.nodes t h in
      let v = with_next (node m t) (thread m k).node in
      fit_going (put_node m t v) k 9 (fit_node m t v f (f.threads k l).node_link p.flag p.waits_in) l refl
  A8-by h false = fit_going m k 12 f l refl

  A11-by : (thread m k).node < m.n → (b : Bool) → Fit (left (pick b (put_tail m (thread m k).node) m) k (thread (pick b (put_tail m (thread m k).node) m) k).held)
  A11-by h true = fit_left (put_tail m (thread m k).node) k (thread m k).held (fit_tail m (thread m k).node f h) (f.threads k l).held_link
  A11-by h false = fit_left m k (thread m k).held f (f.threads k l).held_link

  A12-by : (b : Bool) → (node m (thread m k).tail).next < m.n → Fit (going (pick b (put_tail m (node m (thread m k).tail).next) m) k 5).machine
  A12-by true h = let x = (node m (thread m k).tail).next in fit_going (put_tail m x) k 5 (fit_tail m x f h) l refl
  A12-by false h = fit_going m k 5 f l refl

  D4-by : (thread m k).next < m.n → (b d : Bool)
      → Fit (pick b (pick d (going (put_head_node m (thread m k).next) k 17) (storing (of_head 0) (going (put_head m (thread m k).next (node m (thread m k).next).index) k 17))) (going m k 13)).machine
  D4-by h true true = let x = (thread m k).next in fit_going (put_head_node m x) k 17 (fit_head_node m x f h) l refl
  D4-by h true false =
      let x = (thread m k).next in
      let i = (node m x).index in
      fit_going (put_head m x i) k 17 (fit_head m x i f h) l refl
  D4-by h false d = fit_going m k 13 f l refl

  D7-by : (thread m k).head < m.n → (b : Bool) → eqb (thread m k).held none ≡ b → Fit (left (pick b m (retired m k (thread m k).held)) k (thread m k).head)
  unfolding retired
  D7-by h true e = fit_left m k (thread m k).head f (link h)
  D7-by h false e =
      let x = (thread m k).held in
      fit_left (retired m k x) k (thread m k).head (fit_retired m k x f ((f.threads k l).held_link (eqb-false x none e))) (link h)

  -- a store to the thread's own node, and on to step s
  stores : (v : Node) (s : ℕ) → Link m.n v.next → v.linked ≤ 1 → v.waits < 2 ^ m.t → step_fits (per_desk m.form) s ≡ true → Fit (going (put_node m (thread m k).node v) k s).machine
  stores v s a b w h = fit_going (put_node m (thread m k).node v) k s (fit_node m (thread m k).node v f a b w) l h

  -- the thread's fence of a line, and on to step s
  fenced : (l : Line) → Fit (fence m k l)
  fenced x = fit_fence m k x f (g.flag k l)

  fences : (x : Line) (s : ℕ) → ((d : Bool) → step_fits d s ≡ true) → Fit (going (fence m k x) k s).machine
  fences x s h = fit_going (fence m k x) k s (fenced x) (fence_in m k x l) (h (per_desk (fence m k x).form))

  pub fit_step : (s : Stage) → stage m k ≡ s → Fit (stepped m k s).machine
  fit_step no_step e = f
  fit_step A1 e = A1-by (eqb m.free 0) refl
  fit_step A2 e = let p = f.nodes (thread m k).node (u.own_in (rw e)) in stores (with_item (node m (thread m k).node) (thread m k).item) 3 p.next_link p.flag p.waits_in refl
  fit_step A3 e = let p = f.nodes (thread m k).node (u.own_in (rw e)) in stores (with_next (node m (thread m k).node) none) 4 none_link p.flag p.waits_in refl
  fit_step A4 e = let p = f.nodes (thread m k).node (u.own_in (rw e)) in stores (with_linked (node m (thread m k).node) 0) 5 p.next_link (omega arith) p.waits_in refl
  fit_step A5 e = fit_moving m k (read_tail (thread m k) m.tail) 6 f (read_tail_lem (thread m k) m.tail (f.threads k l) (link f.sizes.tail_in)) refl
  fit_step A6 e = let b = eqb (node m (thread m k).tail).next none in fit_going m k (pick b 7 12) f l (to_A6 (per_desk m.form) b)
  fit_step A7 e = A7-by (u.own_in (rw e)) (leb (top_of m.form) (node m (thread m k).tail).index)
  fit_step A8 e = A8-by (u.t_in (rw e)) (eqb (node m (thread m k).tail).next none)
  fit_step A9 e = let p = f.nodes (thread m k).node (u.own_in (rw e)) in stores (with_linked (node m (thread m k).node) 1) 10 p.next_link (omega arith) p.waits_in refl
  fit_step A10 e = let r = flush m k (of_node (thread m k).node) in fit_going r k 22 (fit_flush m k (of_node (thread m k).node) f) l refl
  fit_step A11 e = A11-by (u.own_in (rw e)) (eqb m.tail (thread m k).tail)
  fit_step A12 e =
      A12-by (eqb m.tail (thread m k).tail) ((f.nodes (thread m k).tail (u.t_in (rw e))).next_link (u.t_next (step_number (thread m k).step A12 e (omega arith))))
  fit_step D1 e =
      let x = pick (per_desk m.form) 0 (head_at m 0) in
      fit_moving m k (read_head (thread m k) m.head x) 14 f (read_head_lem (thread m k) m.head x (f.threads k l) (link f.sizes.head_in)) refl
  fit_step D2 e =
      let x = (node m (thread m k).head).next in
      let b = eqb x none in
      let d = per_desk m.form in
      fit_moving m k (read_next (thread m k) x) (pick b (pick d 20 15) 16) f (read_next_lem (thread m k) x (f.threads k l) (f.nodes (thread m k).head (u.head_in (rw e))).next_link)
      (to_D2 d b)
  fit_step D3 e = let r = flush m k (of_head (own_head m k)) in fit_going r k 23 (fit_flush m k (of_head (own_head m k)) f) l refl
  fit_step D4 e =
      let d = per_desk m.form in
      D4-by (u.next_in (rw e)) (both (eqb m.head (thread m k).head) (pick d true (eqb (head_at m 0) (thread m k).index))) d
  fit_step D5 e =
      let x = (node m (thread m k).next).item in
      let d = per_desk m.form in
      fit_moving m k (read_item (thread m k) x) (pick d 21 18) f (read_item_lem (thread m k) x (f.threads k l)) (to_D5 d)
  fit_step D6 e = let r = flush m k (of_head (own_head m k)) in fit_going r k 24 (fit_flush m k (of_head (own_head m k)) f) l refl
  fit_step D7 e = D7-by (u.head_in (rw e)) (eqb (thread m k).held none) refl
  fit_step S3 e = let x = (node m (thread m k).head).index in fit_going (put_head_at m k x) k 15 (fit_head_at m k x f) l refl
  fit_step S6 e = let x = (node m (thread m k).next).index in fit_going (put_head_at m k x) k 18 (fit_head_at m k x f) l refl
  fit_step F10 e = fences (of_node (thread m k).node) 11 (λ d. refl)
  fit_step F3 e =
      let r = fence m k (of_head (own_head m k)) in
      let f' = fenced (of_head (own_head m k)) in
      fit_left r k (thread r k).held f' (f'.threads k (fence_in m k (of_head (own_head m k)) l)).held_link
  fit_step F6 e = fences (of_head (own_head m k)) 19 (λ d. refl)

-- ---- the laws

-- a step of a thread
pub kept_step : (m : Machine) (k : ℕ) → in_range m ≡ true → k < m.t → numbers_fit (stepped m k (stage m k)).machine ≡ true
kept_step m k h l =
    let f = fit_range m h in
    let w = narrow_range m h in
    let g = flushes_range m h in
    let u = used_range m k h l in
    numbers_fit_lem (stepped m k (stage m k)).machine (fit_step m k f g u l (stage m k) refl)
    (narrow_step m k w g u l (f.threads k l).held_link (stage m k) refl)
    (flushes_step m k f w g u l (stage m k) refl)

-- a begin
pub kept_begun : (m : Machine) (k s v : ℕ) → numbers_fit m ≡ true → k < m.t → s ≤ 19 → numbers_fit (begun m k s v) ≡ true
kept_begun m k s v h l q =
    let f = fit_numbers m h in
    numbers_fit_lem (begun m k s v)
    (fit_thread m k (record { step = s; node = 255; tail = 255; head = 255; index = 0; next = 255; item = v; held = (thread m k).held }) f
    (record { step_in_lem = rw (le-leb s 19 q); node_link = none_link; tail_link = none_link; head_link = none_link; next_link = none_link; held_link = (f.threads k l).held_link }))
    (narrow_begun m k s v (narrow_numbers m h))
    (flushes_numbers m h)

fit_persist : (m : Machine) (l : Line) → Fit m → LineIn (shape_of m) l → Fit (persist m l)
fit_persist m (of_head k) f h = fit_kept_head m k (head_at m k) (everyone m) f
fit_persist m (of_node i) f h = fit_kept m i (content_of (node m i)) (everyone m) f (f.nodes i (omega arith)).flag

-- a write-back
pub kept_persist : (m : Machine) (l : Line) → numbers_fit m ≡ true → LineIn (shape_of m) l → numbers_fit (persist m l) ≡ true
kept_persist m l h i =
    numbers_fit_lem (persist m l) (fit_persist m l (fit_numbers m h) i) (narrow_persist m l (narrow_numbers m h) i) (flushes_persist m l (flushes_numbers m h))
