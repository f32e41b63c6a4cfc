-- What 18's test says of a record, as inequalities, and back.
use Prim.Native.Nat.{ℕ, zero, suc, ◌^◌, ◌≤◌, ◌<◌}
use mathlib.Core.Path.{◌≡◌, refl, ap}
use mathlib.Core.Bool.{Bool, true, false, not}
use mathlib.Core.Logic.{◌≢◌}
use native.Mathlib.Omega.{arith}
use lib.Dec.{eqb, ltb, leb}
use borrow.Author.Tests.{ltb-true, leb-true, eqb-true, eqb-false, not-true, lt-ltb, le-leb, eq-eqb}
use Rattle.lists.specs.Find.{pick, both, any}
use Rattle.lists.proofs.BoolLaws.{both_true, both_of}
use Rattle.lists.proofs.FindLaws.{any_hit}
use Rattle.image.specs.Form.{known, top_of, head_lines, per_desk}
use Rattle.image.specs.Refusals.{nodes_fit, threads_fit}
use Rattle.image.specs.declared.Content.{Content}
use Rattle.machine.specs.Record.{none, node, kept, head_at, kept_head, thread}
use Rattle.machine.specs.Stage.{is_step, own, t, the_head, the_next, uses, stage}
use Rattle.machine.specs.Line.{shape_of}
use Rattle.machine.specs.Range.{is_node, is_link, is_flag, sizes_fit, ends_fit, free_fits, node_fits, read_fits, next_fits, thread_fits, ranges_fit, is_index, head_fits, index_fits, form_fits, flushes_fit, in_range}
use Rattle.machine.specs.declared.Machine.{Machine}
use Rattle.machine.specs.declared.Node.{Node}
use Rattle.machine.specs.declared.Thread.{Thread}
use Rattle.steps.specs.Ready.{Ready}
use Rattle.steps.specs.Numbers.{thread_numbers, ranges_kept, numbers_fit}

-- ---- tests taken apart and put together

-- no number below n fails the test
pub all_of : (f : ℕ → Bool) (n : ℕ) → not (any (λ i. not (f i)) n) ≡ true → (i : ℕ) → i < n → f i ≡ true
all_of f n h i l = by (f i) refl
  where
    by : (b : Bool) → f i ≡ b → f i ≡ true
    by true e = e
    by false e =
        let a : any (λ i. not (f i)) n ≡ true = any_hit (λ i. not (f i)) n i l (ap not e) in
        let b : any (λ i. not (f i)) n ≡ false = not-true (any (λ i. not (f i)) n) h in
        let z : ◌≡◌ {A = ℕ} 0 1 = cc in absurd (omega arith)

none_any : (f : ℕ → Bool) (n : ℕ) → ((i : ℕ) → i < n → f i ≡ true) → any (λ i. not (f i)) n ≡ false
unfolding any
none_any f zero h = refl
none_any f (suc n) h = rw (h n (omega arith)) (none_any f n (λ i l. h i (omega arith)))

pub of_all : (f : ℕ → Bool) (n : ℕ) → ((i : ℕ) → i < n → f i ≡ true) → not (any (λ i. not (f i)) n) ≡ true
of_all f n h = ap not (none_any f n h)

-- ---- a node number or none

abbrev pub Link : ℕ → ℕ → Type 0
Link n x = x ≢ none → x < n

pub link_of : (n x : ℕ) → pick (eqb x none) true (ltb x n) ≡ true → Link n x
link_of n x = by (eqb x none) refl
  where
    by : (b : Bool) → eqb x none ≡ b → pick b true (ltb x n) ≡ true → Link n x
    by true e h d = absurd (d (eqb-true x none e))
    by false e h d = ltb-true x n h

pub of_link : (n x : ℕ) → Link n x → pick (eqb x none) true (ltb x n) ≡ true
of_link n x h = by (eqb x none) refl
  where
    by : (b : Bool) → eqb x none ≡ b → pick b true (ltb x n) ≡ true
    by true e = refl
    by false e = lt-ltb x n (h (eqb-false x none e))

pub link : {n x : ℕ} → x < n → Link n x
link h d = h

read_link : (m : Machine) (b : Bool) (x : ℕ) → read_fits m b x ≡ true → Link m.n x
read_link m true x e = link (ltb-true x m.n e)
read_link m false x e = link_of m.n x e

read_node : (m : Machine) (b : Bool) (x : ℕ) → read_fits m b x ≡ true → b ≡ true → x < m.n
read_node m true x e u = ltb-true x m.n e
read_node m false x e u = let z : ◌≡◌ {A = ℕ} 0 1 = cc in absurd (omega arith)

next_some : (m : Machine) (b : Bool) (x : ℕ) → next_fits m b x ≡ true → b ≡ true → (node m x).next ≢ none
next_some m true x e u = eqb-false (node m x).next none (not-true (eqb (node m x).next none) e)
next_some m false x e u = let z : ◌≡◌ {A = ℕ} 0 1 = cc in absurd (omega arith)

-- ---- the whole record

-- a node with its persisted copy
pub record NodeFit (n t : ℕ) (v : Node) (c : Content) : Type 0 where
  pub next_link : Link n v.next
  pub flag : v.linked ≤ 1
  pub kept_flag : c.linked ≤ 1
  pub waits_in : v.waits < 2 ^ t

-- a step of a machine, by whether it has a head line for each thread
abbrev pub step_fits : Bool → ℕ → Bool
step_fits d s = pick (leb s 19) true (pick (leb s 21) d (leb s 24))

-- of n nodes
pub record ThreadFit (n : ℕ) (d : Bool) (v : Thread) : Type 0 where
  pub step_in_lem : step_fits d v.step ≡ true
  pub node_link : Link n v.node
  pub tail_link : Link n v.tail
  pub head_link : Link n v.head
  pub next_link : Link n v.next
  pub held_link : Link n v.held

pub record SizeFit (n t head tail free last : ℕ) : Type 0 where
  pub n_lo : 2 ≤ n
  pub n_hi : n ≤ 64
  pub t_lo : 1 ≤ t
  pub t_hi : t ≤ 8
  pub head_in : head < n
  pub tail_in : tail < n
  pub free_in : free < 2 ^ n
  pub last_in : last < n

pub record Fit (m : Machine) : Type 0 where
  pub sizes : SizeFit m.n m.t m.head m.tail m.free m.last
  pub nodes : (i : ℕ) → i < m.n → NodeFit m.n m.t (node m i) (kept m i)
  pub threads : (k : ℕ) → k < m.t → ThreadFit m.n (per_desk m.form) (thread m k)

-- what thread k's next step uses
pub record Used (m : Machine) (k : ℕ) : Type 0 where
  pub own_in : uses (stage m k) own ≡ true → (thread m k).node < m.n
  pub t_in : uses (stage m k) t ≡ true → (thread m k).tail < m.n
  pub head_in : uses (stage m k) the_head ≡ true → (thread m k).head < m.n
  pub next_in : uses (stage m k) the_next ≡ true → (thread m k).next < m.n
  pub t_next : (thread m k).step ≡ 12 → (node m (thread m k).tail).next ≢ none

-- ---- from a test to its facts

pub parts5 : (a b c d e : Bool) → both a (both b (both c (both d e))) ≡ true → (a ≡ true) × (b ≡ true) × (c ≡ true) × (d ≡ true) × (e ≡ true)
parts5 a b c d e h =
    let p = both_true a (both b (both c (both d e))) h in
    let q = both_true b (both c (both d e)) p.1 in
    let r = both_true c (both d e) q.1 in
    let s = both_true d e r.1 in
    (p.0, q.0, r.0, s.0, s.1)

sizes_of : (m : Machine) → sizes_fit m ≡ true → ends_fit m ≡ true → free_fits m ≡ true → SizeFit m.n m.t m.head m.tail m.free m.last
sizes_of m a b c =
    let s = both_true (nodes_fit m.n) (threads_fit m.t) a in
    let n = both_true (leb 2 m.n) (leb m.n 64) s.0 in
    let t = both_true (leb 1 m.t) (leb m.t 8) s.1 in
    let e = both_true (is_node m m.head) (both (is_node m m.tail) (is_node m m.last)) b in
    let r = both_true (is_node m m.tail) (is_node m m.last) e.1 in
    record {
      n_lo = leb-true 2 m.n n.0;
      n_hi = leb-true m.n 64 n.1;
      t_lo = leb-true 1 m.t t.0;
      t_hi = leb-true m.t 8 t.1;
      head_in = ltb-true m.head m.n e.0;
      tail_in = ltb-true m.tail m.n r.0;
      free_in = ltb-true m.free (2 ^ m.n) c;
      last_in = ltb-true m.last m.n r.1;
    }

node_of : (m : Machine) (i : ℕ) → node_fits m i ≡ true → NodeFit m.n m.t (node m i) (kept m i)
unfolding node_fits
node_of m i h =
    let x = is_link m (node m i).next in
    let f = is_flag (node m i).linked in
    let g = is_flag (kept m i).linked in
    let w = ltb (node m i).waits (2 ^ m.t) in
    let p = both_true x (both f (both g w)) h in
    let q = both_true f (both g w) p.1 in
    let r = both_true g w q.1 in
    record {
      next_link = link_of m.n (node m i).next p.0;
      flag = leb-true (node m i).linked 1 q.0;
      kept_flag = leb-true (kept m i).linked 1 r.0;
      waits_in = ltb-true (node m i).waits (2 ^ m.t) r.1;
    }

of_node : (m : Machine) (i : ℕ) → NodeFit m.n m.t (node m i) (kept m i) → node_fits m i ≡ true
unfolding node_fits
of_node m i p =
    let f = is_flag (node m i).linked in
    let g = is_flag (kept m i).linked in
    let w = ltb (node m i).waits (2 ^ m.t) in
    both_of (is_link m (node m i).next) (both f (both g w)) (of_link m.n (node m i).next p.next_link)
    (both_of f (both g w) (le-leb (node m i).linked 1 p.flag)
    (both_of g w (le-leb (kept m i).linked 1 p.kept_flag) (lt-ltb (node m i).waits (2 ^ m.t) p.waits_in)))

-- of a thread, with the tests that 18 adds
record Tests (m : Machine) (k : ℕ) : Type 0 where
  step_in_lem : is_step m (thread m k).step ≡ true
  own_read : read_fits m (uses (stage m k) own) (thread m k).node ≡ true
  t_read : read_fits m (uses (stage m k) t) (thread m k).tail ≡ true
  head_read : read_fits m (uses (stage m k) the_head) (thread m k).head ≡ true
  next_read : read_fits m (uses (stage m k) the_next) (thread m k).next ≡ true
  held_read : is_link m (thread m k).held ≡ true
  t_next : next_fits m (eqb (thread m k).step 12) (thread m k).tail ≡ true

tests_of : (m : Machine) (k : ℕ) → thread_fits m k ≡ true → Tests m k
unfolding thread_fits
tests_of m k h =
    let v = thread m k in
    let s = stage m k in
    let a = read_fits m (uses s own) v.node in
    let b = read_fits m (uses s t) v.tail in
    let c = read_fits m (uses s the_head) v.head in
    let d = read_fits m (uses s the_next) v.next in
    let e = is_link m v.held in
    let f = next_fits m (eqb v.step 12) v.tail in
    let p0 = both_true (is_step m v.step) (both a (both b (both c (both d (both e f))))) h in
    let p1 = both_true a (both b (both c (both d (both e f)))) p0.1 in
    let p2 = both_true b (both c (both d (both e f))) p1.1 in
    let p3 = both_true c (both d (both e f)) p2.1 in
    let p4 = both_true d (both e f) p3.1 in
    let p5 = both_true e f p4.1 in
    record {
      step_in_lem = p0.0;
      own_read = p1.0;
      t_read = p2.0;
      head_read = p3.0;
      next_read = p4.0;
      held_read = p5.0;
      t_next = p5.1;
    }

thread_tests : (m : Machine) (k : ℕ) → Tests m k → ThreadFit m.n (per_desk m.form) (thread m k)
thread_tests m k h = record {
  step_in_lem = h.step_in_lem;
  node_link = read_link m (uses (stage m k) own) (thread m k).node h.own_read;
  tail_link = read_link m (uses (stage m k) t) (thread m k).tail h.t_read;
  head_link = read_link m (uses (stage m k) the_head) (thread m k).head h.head_read;
  next_link = read_link m (uses (stage m k) the_next) (thread m k).next h.next_read;
  held_link = link_of m.n (thread m k).held h.held_read;
}

used_tests : (m : Machine) (k : ℕ) → Tests m k → Used m k
used_tests m k h = record {
  own_in = read_node m (uses (stage m k) own) (thread m k).node h.own_read;
  t_in = read_node m (uses (stage m k) t) (thread m k).tail h.t_read;
  head_in = read_node m (uses (stage m k) the_head) (thread m k).head h.head_read;
  next_in = read_node m (uses (stage m k) the_next) (thread m k).next h.next_read;
  t_next = λ e. next_some m (eqb (thread m k).step 12) (thread m k).tail h.t_next (eq-eqb (thread m k).step 12 e);
}

thread_of : (m : Machine) (k : ℕ) → thread_numbers m k ≡ true → ThreadFit m.n (per_desk m.form) (thread m k)
unfolding thread_numbers
thread_of m k h =
    let v = thread m k in
    let a = is_link m v.node in
    let b = is_link m v.tail in
    let c = is_link m v.head in
    let d = is_link m v.next in
    let e = is_link m v.held in
    let p0 = both_true (is_step m v.step) (both a (both b (both c (both d e)))) h in
    let p = parts5 a b c d e p0.1 in
    record {
      step_in_lem = p0.0;
      node_link = link_of m.n v.node p.0;
      tail_link = link_of m.n v.tail p.1;
      head_link = link_of m.n v.head p.2;
      next_link = link_of m.n v.next p.3;
      held_link = link_of m.n v.held p.4;
    }

of_thread : (m : Machine) (k : ℕ) → ThreadFit m.n (per_desk m.form) (thread m k) → thread_numbers m k ≡ true
unfolding thread_numbers
of_thread m k p =
    let v = thread m k in
    let n = m.n in
    let a = is_link m v.node in
    let b = is_link m v.tail in
    let c = is_link m v.head in
    let d = is_link m v.next in
    let e = is_link m v.held in
    both_of (is_step m v.step) (both a (both b (both c (both d e)))) p.step_in_lem
    (both_of a (both b (both c (both d e))) (of_link n v.node p.node_link)
    (both_of b (both c (both d e)) (of_link n v.tail p.tail_link)
    (both_of c (both d e) (of_link n v.head p.head_link)
    (both_of d e (of_link n v.next p.next_link) (of_link n v.held p.held_link)))))

-- ---- the indices

-- every index of the record is within the width of its form
pub record Narrow (m : Machine) : Type 0 where
  pub form : known m.form ≡ true
  pub head : (k : ℕ) → k < head_lines (shape_of m) → (head_at m k ≤ top_of m.form) × (kept_head m k ≤ top_of m.form)
  pub node : (i : ℕ) → i < m.n → ((node m i).index ≤ top_of m.form) × ((kept m i).index ≤ top_of m.form)
  pub thread : (k : ℕ) → k < m.t → (thread m k).index ≤ top_of m.form

narrow_of : (m : Machine) → form_fits m ≡ true → Narrow m
unfolding form_fits head_fits index_fits
narrow_of m h =
    let top = top_of m.form in
    let hs = not (any (λ k. not (head_fits m k)) (head_lines (shape_of m))) in
    let ns = not (any (λ i. not (index_fits m i)) m.n) in
    let ts = not (any (λ k. not (is_index m (thread m k).index)) m.t) in
    let a = both_true (known m.form) (both hs (both ns ts)) h in
    let b = both_true hs (both ns ts) a.1 in
    let c = both_true ns ts b.1 in
    record {
      form = a.0;
      head = λ k l. let p = both_true (is_index m (head_at m k)) (is_index m (kept_head m k)) (all_of (head_fits m) (head_lines (shape_of m)) b.0 k l) in (leb-true (head_at m k) top p.0, leb-true (kept_head m k) top p.1);
      node = λ i l. let p = both_true (is_index m (node m i).index) (is_index m (kept m i).index) (all_of (index_fits m) m.n c.0 i l) in (leb-true (node m i).index top p.0, leb-true (kept m i).index top p.1);
      thread = λ k l. leb-true (thread m k).index top (all_of (λ k. is_index m (thread m k).index) m.t c.1 k l);
    }

pub of_narrow : (m : Machine) → Narrow m → form_fits m ≡ true
unfolding form_fits head_fits index_fits
of_narrow m w =
    let top = top_of m.form in
    let hs = not (any (λ k. not (head_fits m k)) (head_lines (shape_of m))) in
    let ns = not (any (λ i. not (index_fits m i)) m.n) in
    let ts = not (any (λ k. not (is_index m (thread m k).index)) m.t) in
    both_of (known m.form) (both hs (both ns ts)) w.form
    (both_of hs (both ns ts)
    (of_all (head_fits m) (head_lines (shape_of m)) (λ k l. both_of (is_index m (head_at m k)) (is_index m (kept_head m k)) (le-leb (head_at m k) top (w.head k l).0) (le-leb (kept_head m k) top (w.head k l).1)))
    (both_of ns ts
    (of_all (index_fits m) m.n (λ i l. both_of (is_index m (node m i).index) (is_index m (kept m i).index) (le-leb (node m i).index top (w.node i l).0) (le-leb (kept m i).index top (w.node i l).1)))
    (of_all (λ k. is_index m (thread m k).index) m.t (λ k l. le-leb (thread m k).index top (w.thread k l)))))

-- ---- the laws

-- the tests of a whole record
record Whole (m : Machine) (f : Machine → ℕ → Bool) : Type 0 where
  sizes : sizes_fit m ≡ true
  ends : ends_fit m ≡ true
  free : free_fits m ≡ true
  nodes : (i : ℕ) → i < m.n → node_fits m i ≡ true
  threads : (k : ℕ) → k < m.t → f m k ≡ true

range_of : (m : Machine) → in_range m ≡ true → Whole m thread_fits
unfolding in_range ranges_fit
range_of m h₀ =
    let h = (both_true (ranges_fit m) (both (form_fits m) (flushes_fit m)) h₀).0 in
    let ns = not (any (λ i. not (node_fits m i)) m.n) in
    let ts = not (any (λ k. not (thread_fits m k)) m.t) in
    let p = parts5 (sizes_fit m) (ends_fit m) (free_fits m) ns ts h in
    record { sizes = p.0; ends = p.1; free = p.2; nodes = all_of (node_fits m) m.n p.3; threads = all_of (thread_fits m) m.t p.4 }

numbers_of : (m : Machine) → ranges_kept m ≡ true → Whole m thread_numbers
unfolding ranges_kept
numbers_of m h =
    let ns = not (any (λ i. not (node_fits m i)) m.n) in
    let ts = not (any (λ k. not (thread_numbers m k)) m.t) in
    let p = parts5 (sizes_fit m) (ends_fit m) (free_fits m) ns ts h in
    record { sizes = p.0; ends = p.1; free = p.2; nodes = all_of (node_fits m) m.n p.3; threads = all_of (thread_numbers m) m.t p.4 }

-- the facts of a record that passes 18's test, and of one whose numbers fit
pub fit_range : (m : Machine) → in_range m ≡ true → Fit m
fit_range m h =
    let w = range_of m h in
    record { sizes = sizes_of m w.sizes w.ends w.free; nodes = λ i l. node_of m i (w.nodes i l); threads = λ k l. thread_tests m k (tests_of m k (w.threads k l)) }

pub fit_numbers : (m : Machine) → numbers_fit m ≡ true → Fit m
unfolding numbers_fit
fit_numbers m h =
    let w = numbers_of m (both_true (ranges_kept m) (both (form_fits m) (flushes_fit m)) h).0 in
    record { sizes = sizes_of m w.sizes w.ends w.free; nodes = λ i l. node_of m i (w.nodes i l); threads = λ k l. thread_of m k (w.threads k l) }

pub used_range : (m : Machine) (k : ℕ) → in_range m ≡ true → k < m.t → Used m k
used_range m k h l = used_tests m k (tests_of m k ((range_of m h).threads k l))

-- and back
pub ranges_kept_lem : (m : Machine) → Fit m → ranges_kept m ≡ true
unfolding ranges_kept
ranges_kept_lem m f =
    let s = f.sizes in
    let ns = not (any (λ i. not (node_fits m i)) m.n) in
    let ts = not (any (λ k. not (thread_numbers m k)) m.t) in
    let n2 = both_of (leb 2 m.n) (leb m.n 64) (le-leb 2 m.n s.n_lo) (le-leb m.n 64 s.n_hi) in
    let t2 = both_of (leb 1 m.t) (leb m.t 8) (le-leb 1 m.t s.t_lo) (le-leb m.t 8 s.t_hi) in
    let r2 = both_of (is_node m m.tail) (is_node m m.last) (lt-ltb m.tail m.n s.tail_in) (lt-ltb m.last m.n s.last_in) in
    let e2 = both_of (is_node m m.head) (both (is_node m m.tail) (is_node m m.last)) (lt-ltb m.head m.n s.head_in) r2 in
    both_of (sizes_fit m) (both (ends_fit m) (both (free_fits m) (both ns ts))) (both_of (nodes_fit m.n) (threads_fit m.t) n2 t2)
    (both_of (ends_fit m) (both (free_fits m) (both ns ts)) e2
    (both_of (free_fits m) (both ns ts) (lt-ltb m.free (2 ^ m.n) s.free_in)
    (both_of ns ts (of_all (node_fits m) m.n (λ i l. of_node m i (f.nodes i l))) (of_all (thread_numbers m) m.t (λ k l. of_thread m k (f.threads k l))))))

pub narrow_range : (m : Machine) → in_range m ≡ true → Narrow m
unfolding in_range
narrow_range m h = narrow_of m (both_true (form_fits m) (flushes_fit m) (both_true (ranges_fit m) (both (form_fits m) (flushes_fit m)) h).1).0

pub narrow_numbers : (m : Machine) → numbers_fit m ≡ true → Narrow m
unfolding numbers_fit
narrow_numbers m h = narrow_of m (both_true (form_fits m) (flushes_fit m) (both_true (ranges_kept m) (both (form_fits m) (flushes_fit m)) h).1).0

-- what one step needs follows from 18's test
pub ready : (m : Machine) (k : ℕ) → in_range m ≡ true → k < m.t → Ready m k
ready m k h l =
    let f = fit_range m h in
    let u = used_range m k h l in
    let hi = f.sizes.n_hi in
    record {
      thread_in = omega (arith, f.sizes.t_hi);
      nodes_in_lem = hi;
      threads_in_lem = f.sizes.t_hi;
      free_in = f.sizes.free_in;
      last_in = f.sizes.last_in;
      own_in = λ e. omega (arith, u.own_in e);
      t_in = λ e. omega (arith, u.t_in e);
      head_in = λ e. omega (arith, u.head_in e);
      next_in = λ e. omega (arith, u.next_in e);
      held_in = λ d. omega (arith, (f.threads k l).held_link d);
    }
