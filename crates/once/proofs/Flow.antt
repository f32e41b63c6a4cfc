-- Control flow alone: how many persisting steps a thread has behind it where it stands, and what a step does to that number. Assumes nothing.
use Prim.Native.Nat.{ℕ, zero, suc, ◌+◌, ◌≤◌, ◌<◌}
use mathlib.Core.Path.{◌≡◌, refl, sym, ap, ◌∙◌}
use mathlib.Core.Bool.{Bool, true, false}
use mathlib.Core.List.{List}
use mathlib.Core.Logic.{◌⊎◌, inl, inr}
use native.Mathlib.Omega.{arith}
use native.Mathlib.Decide.{dec_lt}
use lib.ListN.{get_or, set, length, length-set, get_or-eq_default}
use lib.Seq.{get_or-set_same, get_or-set_other}
use lib.Dec.{eqb, leb}
use Rattle.lists.specs.Find.{pick, both}
use Rattle.lists.proofs.BoolLaws.{false_true}
use Rattle.answer.specs.Answers.{Answer, Taken, Done, Full, WornOut, Item, Empty}
use Rattle.image.specs.Form.{top_of, per_desk}
use Rattle.machine.specs.Record.{none, node, head_at, thread, zero_thread, at_step, idle_thread, own_node, read_tail, read_head, read_next, read_item, with_item, with_next, with_linked, with_index, put_node, put_tail, put_head, put_head_node, put_head_at, put_thread, flushed}
use Rattle.machine.specs.Stage.{Stage, no_step, A1, A2, A3, A4, A5, A6, A7, A8, A9, A10, A11, A12, D1, D2, D3, D4, D5, D6, D7, S3, S6, F10, F3, F6, stage_of, number, stage}
use Rattle.machine.specs.Line.{own_head, over_at, keeping}
use Rattle.machine.specs.Flush.{flush, over_after, fence}
use Rattle.lists.specs.Word.{has}
use Rattle.machine.specs.declared.Line.{Line}
use Rattle.machine.specs.declared.Line.TheVariants.{OfHead as of_head, OfNode as of_node}
use Rattle.machine.specs.Retire.{quiet, storing, persisting, moving, going, answering, next_free, hand_out, freed, released_at, released, retired, retired_held}
use Rattle.machine.specs.Event.{stepped}
use Rattle.machine.specs.declared.Machine.{Machine}
use Rattle.machine.specs.declared.Acted.{Acted}
use Rattle.machine.specs.declared.Touch.{Touch}
use Rattle.machine.specs.declared.Touch.TheVariants.{Nothing as nothing, Store as a_store, Flush as a_flush, Fence as a_fence}
use Rattle.machine.specs.declared.Thread.{Thread}
use Rattle.once.specs.Once.{counts, replies, due}

-- ---- what a thread has performed where it stands: the persist is behind it at A11 and D7 alone

abbrev pub sofar : Stage → ℕ
sofar no_step = 0
sofar A1 = 0
sofar A2 = 0
sofar A3 = 0
sofar A4 = 0
sofar A5 = 0
sofar A6 = 0
sofar A7 = 0
sofar A8 = 0
sofar A9 = 0
sofar A10 = 0
sofar A11 = 1
sofar A12 = 0
sofar D1 = 0
sofar D2 = 0
sofar D3 = 0
sofar D4 = 0
sofar D5 = 0
sofar D6 = 0
sofar D7 = 1
sofar S3 = 0
sofar S6 = 0
sofar F10 = 0
sofar F3 = 0
sofar F6 = 0

-- x is the count of a thread that stands at s; of a thread without an operation nothing is said
abbrev pub Agrees : Stage → ℕ → Type 0
Agrees s x = (s ≡ no_step) ⊎ (x ≡ sofar s)

pub sure : (s : Stage) (x : ℕ) → 0 < number s → Agrees s x → x ≡ sofar s
sure s x p (inl e) = absurd (omega (arith, ap number e))
sure s x p (inr q) = q

-- ---- the table of threads with one of them replaced

-- a thread beyond the table has no operation
pub no_thread : (ts : List Thread) (k : ℕ) → length ts ≤ k → stage_of (get_or ts k zero_thread).step ≡ no_step
no_thread ts k h = ap (λ (v : Thread). stage_of v.step) (get_or-eq_default ts zero_thread h)

pub put_own : (ts : List Thread) (k : ℕ) (v : Thread) → k < length ts → stage_of (get_or (set ts k v) k zero_thread).step ≡ stage_of v.step
put_own ts k v h = ap (λ (v : Thread). stage_of v.step) (get_or-set_same ts k v zero_thread h)

pub put_idle : (ts : List Thread) (k : ℕ) (v : Thread) → stage_of v.step ≡ no_step → stage_of (get_or (set ts k v) k zero_thread).step ≡ no_step
put_idle ts k v e = by (dec_lt k (length ts))
  where
    by : Dec (k < length ts) → stage_of (get_or (set ts k v) k zero_thread).step ≡ no_step
    by (yes h) = put_own ts k v h ∙ e
    by (no h) = no_thread (set ts k v) k (omega (arith, length-set ts k v))

-- ---- a step and its own thread

-- o is what a step of thread k did, which had the count x: the count behind it is what is due where it answered, and right for where the thread stands now
abbrev pub Goes : Acted → ℕ → ℕ → Type 0
Goes o x k = (replies o.answer ≡ true → x + counts o.touch ≡ due o.answer) × Agrees (stage o.machine k) (x + counts o.touch)

abbrev acted : Answer → Machine → Touch → Acted
acted a m w = record { answer = a; machine = m; touch = w }

-- the thread goes on to step s
moves : (m : Machine) (k : ℕ) (v : Thread) (w : Touch) (x : ℕ) (s : Stage) → k < length m.threads → stage_of v.step ≡ s → x + counts w ≡ sofar s
    → Goes (acted Taken (put_thread m k v) w) x k
moves m k v w x s h e q = (λ z. false_true z, inr (q ∙ ap sofar (sym (put_own m.threads k v h ∙ e))))

-- the thread answers
leaves : (a : Answer) (m : Machine) (k y : ℕ) (w : Touch) (x : ℕ) → x + counts w ≡ due a → Goes (acted a (put_thread m k (idle_thread y)) w) x k
leaves a m k y w x q = (λ _. q, inl (put_idle m.threads k (idle_thread y) refl))

pick_goes : (b : Bool) (o p : Acted) (x k : ℕ) → Goes o x k → Goes p x k → Goes (pick b o p) x k
pick_goes true o p x k g h = g
pick_goes false o p x k g h = h

pick_threads : (m : Machine) (b : Bool) (x y : Machine) → x.threads ≡ m.threads → y.threads ≡ m.threads → (pick b x y).threads ≡ m.threads
pick_threads m true x y g h = g
pick_threads m false x y g h = h

-- a fence leaves the threads
fence_head : (m : Machine) (k j : ℕ) → (fence m k (of_head j)).threads ≡ m.threads
fence_head m k j = pick_threads m (has (over_at m (of_head j)) k) m (keeping m (of_head j) (flushed m k) (over_after m k (of_head j))) refl refl

fence_node : (m : Machine) (k i : ℕ) → (fence m k (of_node i)).threads ≡ m.threads
fence_node m k i = pick_threads m (has (over_at m (of_node i)) k) m (keeping m (of_node i) (flushed m k) (over_after m k (of_node i))) refl refl

-- and the thread goes on to step s behind it, which counts
fenced : (m a : Machine) (l : Line) (k x n : ℕ) (s : Stage) → a.threads ≡ m.threads → k < length m.threads → stage_of n ≡ s → x + 1 ≡ sofar s
    → Goes (acted Taken (put_thread a k (at_step (thread a k) n)) (a_fence k l)) x k
fenced m a l k x n s t h e q = moves a k (at_step (thread a k) n) (a_fence k l) x s (omega (arith, h, ap length t)) e q

pub step_own : (m : Machine) (k x : ℕ) (s : Stage) → stage m k ≡ s → k < length m.threads → x ≡ sofar s → Goes (stepped m k s) x k
step_own m k x no_step e h q = (λ z. false_true z, inl e)
step_own m k x A1 e h q =
    pick_goes (eqb m.free 0) (answering Full m k) (moving (hand_out m (next_free m)) k (own_node (thread m k) (next_free m)) (number A2)) x k
    (leaves Full (released m k m.n) k (thread m k).held nothing x (omega (arith, q)))
    (moves (hand_out m (next_free m)) k (at_step (own_node (thread m k) (next_free m)) 2) nothing x A2 h refl (omega (arith, q)))
step_own m k x A2 e h q =
    let i = (thread m k).node in
    moves (put_node m i (with_item (node m i) (thread m k).item)) k (at_step (thread m k) 3) (a_store (of_node i)) x A3 h refl (omega (arith, q))
step_own m k x A3 e h q = let i = (thread m k).node in moves (put_node m i (with_next (node m i) none)) k (at_step (thread m k) 4) nothing x A4 h refl (omega (arith, q))
step_own m k x A4 e h q =
    let i = (thread m k).node in
    moves (put_node m i (with_linked (node m i) 0)) k (at_step (thread m k) 5) (a_store (of_node i)) x A5 h refl (omega (arith, q))
step_own m k x A5 e h q = moves m k (at_step (read_tail (thread m k) m.tail) 6) nothing x A6 h refl (omega (arith, q))
step_own m k x A6 e h q = by (eqb (node m (thread m k).tail).next none)
  where
    by : (b : Bool) → Goes (going m k (pick b (number A7) (number A12))) x k
    by true = moves m k (at_step (thread m k) 7) nothing x A7 h refl (omega (arith, q))
    by false = moves m k (at_step (thread m k) 12) nothing x A12 h refl (omega (arith, q))
step_own m k x A7 e h q =
    let i = (thread m k).node in
    let t = (thread m k).tail in
    pick_goes (leb (top_of m.form) (node m t).index) (answering WornOut (freed m i) k)
    (storing (of_node i) (going (put_node m i (with_index (node m i) ((node m t).index + 1))) k (number A8))) x k
    (leaves WornOut (released (freed m i) k m.n) k (thread m k).held nothing x (omega (arith, q)))
    (moves (put_node m i (with_index (node m i) ((node m t).index + 1))) k (at_step (thread m k) 8) (a_store (of_node i)) x A8 h refl (omega (arith, q)))
step_own m k x A8 e h q =
    let i = (thread m k).node in
    let t = (thread m k).tail in
    pick_goes (eqb (node m t).next none) (going (put_node m t (with_next (node m t) i)) k (number A9)) (going m k (number A12)) x k
    (moves (put_node m t (with_next (node m t) i)) k (at_step (thread m k) 9) nothing x A9 h refl (omega (arith, q)))
    (moves m k (at_step (thread m k) 12) nothing x A12 h refl (omega (arith, q)))
step_own m k x A9 e h q =
    let i = (thread m k).node in
    moves (put_node m i (with_linked (node m i) 1)) k (at_step (thread m k) 10) (a_store (of_node i)) x A10 h refl (omega (arith, q))
step_own m k x A10 e h q =
    let l = of_node (thread m k).node in
    moves (flush m k l) k (at_step (thread m k) 22) (a_flush k l) x F10 h refl (omega (arith, q))
step_own m k x A11 e h q =
    let m' = pick (eqb m.tail (thread m k).tail) (put_tail m (thread m k).node) m in
    leaves Done (released m' k m'.n) k (thread m' k).held nothing x (omega (arith, q))
step_own m k x A12 e h q = by (eqb m.tail (thread m k).tail)
  where
    by : (b : Bool) → Goes (going (pick b (put_tail m (node m (thread m k).tail).next) m) k (number A5)) x k
    by true = moves (put_tail m (node m (thread m k).tail).next) k (at_step (thread m k) 5) nothing x A5 h refl (omega (arith, q))
    by false = moves m k (at_step (thread m k) 5) nothing x A5 h refl (omega (arith, q))
step_own m k x D1 e h q = moves m k (at_step (read_head (thread m k) m.head (pick (per_desk m.form) 0 (head_at m 0))) 14) nothing x D2 h refl (omega (arith, q))
step_own m k x D2 e h q = by (eqb (node m (thread m k).head).next none) (per_desk m.form)
  where
    by : (b d : Bool) → Goes (moving m k (read_next (thread m k) (node m (thread m k).head).next) (pick b (pick d (number S3) (number D3)) (number D4))) x k
    by true true = moves m k (at_step (read_next (thread m k) (node m (thread m k).head).next) 20) nothing x S3 h refl (omega (arith, q))
    by true false = moves m k (at_step (read_next (thread m k) (node m (thread m k).head).next) 15) nothing x D3 h refl (omega (arith, q))
    by false d = moves m k (at_step (read_next (thread m k) (node m (thread m k).head).next) 16) nothing x D4 h refl (omega (arith, q))
step_own m k x D3 e h q =
    let l = of_head (own_head m k) in
    moves (flush m k l) k (at_step (thread m k) 23) (a_flush k l) x F3 h refl (omega (arith, q))
step_own m k x D4 e h q =
    let y = (thread m k).next in
    let d = per_desk m.form in
    let desk = going (put_head_node m y) k (number D5) in
    let pair = storing (of_head 0) (going (put_head m y (node m y).index) k (number D5)) in
    pick_goes (both (eqb m.head (thread m k).head) (pick d true (eqb (head_at m 0) (thread m k).index))) (pick d desk pair) (going m k (number D1)) x k
    (pick_goes d desk pair x k
    (moves (put_head_node m y) k (at_step (thread m k) 17) nothing x D5 h refl (omega (arith, q)))
    (moves (put_head m y (node m y).index) k (at_step (thread m k) 17) (a_store (of_head 0)) x D5 h refl (omega (arith, q))))
    (moves m k (at_step (thread m k) 13) nothing x D1 h refl (omega (arith, q)))
step_own m k x D5 e h q = by (per_desk m.form)
  where
    by : (d : Bool) → Goes (moving m k (read_item (thread m k) (node m (thread m k).next).item) (pick d (number S6) (number D6))) x k
    by true = moves m k (at_step (read_item (thread m k) (node m (thread m k).next).item) 21) nothing x S6 h refl (omega (arith, q))
    by false = moves m k (at_step (read_item (thread m k) (node m (thread m k).next).item) 18) nothing x D6 h refl (omega (arith, q))
step_own m k x D6 e h q = let l = of_head (own_head m k) in moves (flush m k l) k (at_step (thread m k) 24) (a_flush k l) x F6 h refl (omega (arith, q))
step_own m k x D7 e h q = leaves (Item (thread m k).item) (released (retired_held m k) k (retired_held m k).n) k (thread m k).head nothing x (omega (arith, q))
step_own m k x S3 e h q = moves (put_head_at m k (node m (thread m k).head).index) k (at_step (thread m k) 15) (a_store (of_head k)) x D3 h refl (omega (arith, q))
step_own m k x S6 e h q = moves (put_head_at m k (node m (thread m k).next).index) k (at_step (thread m k) 18) (a_store (of_head k)) x D6 h refl (omega (arith, q))
step_own m k x F10 e h q =
    let l = of_node (thread m k).node in
    fenced m (fence m k l) l k x 11 A11 (fence_node m k (thread m k).node) h refl (omega (arith, q))
step_own m k x F3 e h q =
    let l = of_head (own_head m k) in
    leaves Empty (released (fence m k l) k (fence m k l).n) k (thread (fence m k l) k).held (a_fence k l) x (omega (arith, q))
step_own m k x F6 e h q =
    let l = of_head (own_head m k) in
    fenced m (fence m k l) l k x 19 D7 (fence_head m k (own_head m k)) h refl (omega (arith, q))

-- ---- a step and the other threads

-- the table of threads is m's but for thread k
abbrev pub Spares : Machine → ℕ → Machine → Type 0
Spares m k m' = (m'.threads ≡ m.threads) ⊎ ((v : Thread) × (m'.threads ≡ set m.threads k v))

pub spared : (m m' : Machine) (k u : ℕ) → Spares m k m' → (u ≡ k → ⊥) → thread m' u ≡ thread m u
spared m m' k u (inl e) ne = ap (λ (ts : List Thread). get_or ts u zero_thread) e
spared m m' k u (inr p) ne = ap (λ (ts : List Thread). get_or ts u zero_thread) p.1 ∙ get_or-set_other m.threads k u p.0 zero_thread ne

released_threads : (m : Machine) (k c : ℕ) → (released m k c).threads ≡ m.threads
unfolding released released_at
released_threads m k zero = refl
released_threads m k (suc c) = released_threads m k c

-- an answer given on a machine that has m's threads
left_spares : (m m' : Machine) (k c x : ℕ) → m'.threads ≡ m.threads → Spares m k (put_thread (released m' k c) k (idle_thread x))
left_spares m m' k c x e = inr (idle_thread x, ap (λ (ts : List Thread). set ts k (idle_thread x)) (released_threads m' k c ∙ e))

pick_spares : (m : Machine) (k : ℕ) (b : Bool) (o p : Acted) → Spares m k o.machine → Spares m k p.machine → Spares m k (pick b o p).machine
pick_spares m k true o p g h = g
pick_spares m k false o p g h = h

retired_threads : (m : Machine) (k x : ℕ) → (retired m k x).threads ≡ m.threads
unfolding retired
retired_threads m k x = refl

pub step_spares : (m : Machine) (k : ℕ) (s : Stage) → Spares m k (stepped m k s).machine
step_spares m k no_step = inl refl
step_spares m k A1 =
    pick_spares m k (eqb m.free 0) (answering Full m k) (moving (hand_out m (next_free m)) k (own_node (thread m k) (next_free m)) (number A2))
    (left_spares m m k m.n (thread m k).held refl) (inr (_, refl))
step_spares m k A2 = inr (_, refl)
step_spares m k A3 = inr (_, refl)
step_spares m k A4 = inr (_, refl)
step_spares m k A5 = inr (_, refl)
step_spares m k A6 = inr (_, refl)
step_spares m k A7 =
    let i = (thread m k).node in
    let t = (thread m k).tail in
    pick_spares m k (leb (top_of m.form) (node m t).index) (answering WornOut (freed m i) k)
    (storing (of_node i) (going (put_node m i (with_index (node m i) ((node m t).index + 1))) k (number A8)))
    (left_spares m (freed m i) k m.n (thread m k).held refl) (inr (_, refl))
step_spares m k A8 =
    let i = (thread m k).node in
    let t = (thread m k).tail in
    pick_spares m k (eqb (node m t).next none) (going (put_node m t (with_next (node m t) i)) k (number A9)) (going m k (number A12)) (inr (_, refl)) (inr (_, refl))
step_spares m k A9 = inr (_, refl)
step_spares m k A10 = inr (_, refl)
step_spares m k A11 =
    let m' = pick (eqb m.tail (thread m k).tail) (put_tail m (thread m k).node) m in
    left_spares m m' k m'.n (thread m' k).held (pick_threads m (eqb m.tail (thread m k).tail) (put_tail m (thread m k).node) m refl refl)
step_spares m k A12 = by (eqb m.tail (thread m k).tail)
  where
    by : (b : Bool) → Spares m k (going (pick b (put_tail m (node m (thread m k).tail).next) m) k (number A5)).machine
    by true = inr (_, refl)
    by false = inr (_, refl)
step_spares m k D1 = inr (_, refl)
step_spares m k D2 = inr (_, refl)
step_spares m k D3 = inr (_, refl)
step_spares m k D4 =
    let y = (thread m k).next in
    let d = per_desk m.form in
    let desk = going (put_head_node m y) k (number D5) in
    let pair = storing (of_head 0) (going (put_head m y (node m y).index) k (number D5)) in
    pick_spares m k (both (eqb m.head (thread m k).head) (pick d true (eqb (head_at m 0) (thread m k).index))) (pick d desk pair) (going m k (number D1))
    (pick_spares m k d desk pair (inr (_, refl)) (inr (_, refl))) (inr (_, refl))
step_spares m k D5 = inr (_, refl)
step_spares m k D6 = inr (_, refl)
step_spares m k D7 =
    left_spares m (retired_held m k) k (retired_held m k).n (thread m k).head
    (pick_threads m (eqb (thread m k).held none) m (retired m k (thread m k).held) refl (retired_threads m k (thread m k).held))
step_spares m k S3 = inr (_, refl)
step_spares m k S6 = inr (_, refl)
step_spares m k F10 =
    let a = fence m k (of_node (thread m k).node) in
    let v = at_step (thread a k) 11 in
    inr (v, ap (λ (ts : List Thread). set ts k v) (fence_node m k (thread m k).node))
step_spares m k F3 =
    let a = fence m k (of_head (own_head m k)) in
    left_spares m a k a.n (thread a k).held (fence_head m k (own_head m k))
step_spares m k F6 =
    let a = fence m k (of_head (own_head m k)) in
    let v = at_step (thread a k) 19 in
    inr (v, ap (λ (ts : List Thread). set ts k v) (fence_head m k (own_head m k)))
