-- Each store, each answer and each retirement keeps a record's numbers in their ranges.
use Prim.Native.Nat.{ℕ, zero, suc, ◌^◌, ◌≤◌, ◌<◌}
use mathlib.Core.Path.{◌≡◌, refl}
use mathlib.Core.Bool.{Bool, true, false}
use mathlib.Core.Logic.{◌≢◌}
use mathlib.Core.List.{List, [], ◌∷◌}
use native.Mathlib.Omega.{arith}
use native.Mathlib.Nat.{pos_of_ne-zero}
use lib.ListN.{get_or, set}
use lib.Dec.{eqb}
use Rattle.lists.specs.Find.{pick}
use Rattle.lists.specs.Word.{has, with, without}
use Rattle.lists.proofs.FindLaws as find
use Rattle.lists.proofs.WordLaws as words
use Rattle.image.specs.Layout.{no_content}
use Rattle.image.specs.declared.Content.{Content}
use Rattle.machine.specs.Record.{zero_node, zero_thread, node, kept, with_waits, idle_thread, put_tail, put_free, put_last, put_kept_head, put_head, put_head_node, put_head_at, put_node, put_kept, put_thread}
use Rattle.image.specs.Form.{per_desk}
use Rattle.machine.specs.Retire.{next_free, hand_out, last_wait, released_at, released, left, others, retired}
use Rattle.machine.specs.declared.Machine.{Machine}
use Rattle.machine.specs.declared.Node.{Node}
use Rattle.machine.specs.declared.Thread.{Thread}
use Rattle.hands.proofs.HandLaws as laws
use Rattle.steps.proofs.Fit.{Link, link, NodeFit, ThreadFit, Fit}

-- an element of a changed list is the new one or the old one there
pub set_ind : {A : Type 0} (P : A → Type 0) (l : List A) (i j : ℕ) (a d : A) → P a → P (get_or l j d) → P (get_or (set l i a) j d)
set_ind P [] i j a d p q = q
set_ind P (x ∷ l) zero zero a d p q = p
set_ind P (x ∷ l) zero (suc j) a d p q = q
set_ind P (x ∷ l) (suc i) zero a d p q = q
set_ind P (x ∷ l) (suc i) (suc j) a d p q = set_ind P l i j a d p q

-- none is a link
pub none_link : {n : ℕ} → Link n 255
none_link d = absurd (d refl)

-- ---- one thing of the record replaced

pub fit_thread : (m : Machine) (k : ℕ) (v : Thread) → Fit m → ThreadFit m.n (per_desk m.form) v → Fit (put_thread m k v)
fit_thread m k v f p = record {
  sizes = f.sizes;
  nodes = f.nodes;
  threads = λ j l. set_ind (ThreadFit m.n (per_desk m.form)) m.threads k j v zero_thread p (f.threads j l);
}

pub fit_node : (m : Machine) (i : ℕ) (v : Node) → Fit m → Link m.n v.next → v.linked ≤ 1 → v.waits < 2 ^ m.t → Fit (put_node m i v)
fit_node m i v f a b w = record {
  sizes = f.sizes;
  nodes = λ j l.
      set_ind (λ x. NodeFit m.n m.t x (kept m j)) m.nodes i j v zero_node
      (record { next_link = a; flag = b; kept_flag = (f.nodes j l).kept_flag; waits_in = w }) (f.nodes j l);
  threads = f.threads;
}

pub fit_kept : (m : Machine) (i : ℕ) (c : Content) (w : ℕ) → Fit m → c.linked ≤ 1 → Fit (put_kept m i c w)
fit_kept m i c w f b = record {
  sizes = f.sizes;
  nodes = λ j l.
      set_ind (λ x. NodeFit m.n m.t (node m j) x) m.kept i j c no_content
      (record { next_link = (f.nodes j l).next_link; flag = (f.nodes j l).flag; kept_flag = b; waits_in = (f.nodes j l).waits_in }) (f.nodes j l);
  threads = f.threads;
}

pub fit_kept_head : (m : Machine) (k x w : ℕ) → Fit m → Fit (put_kept_head m k x w)
fit_kept_head m k x w f = record { sizes = f.sizes; nodes = f.nodes; threads = f.threads }

pub fit_tail : (m : Machine) (x : ℕ) → Fit m → x < m.n → Fit (put_tail m x)
fit_tail m x f h =
    let s = f.sizes in
    record {
      sizes = record { n_lo = s.n_lo; n_hi = s.n_hi; t_lo = s.t_lo; t_hi = s.t_hi; head_in = s.head_in; tail_in = h; free_in = s.free_in; last_in = s.last_in };
      nodes = f.nodes;
      threads = f.threads;
    }

pub fit_head : (m : Machine) (h x : ℕ) → Fit m → h < m.n → Fit (put_head m h x)
fit_head m h x f l =
    let s = f.sizes in
    record {
      sizes = record { n_lo = s.n_lo; n_hi = s.n_hi; t_lo = s.t_lo; t_hi = s.t_hi; head_in = l; tail_in = s.tail_in; free_in = s.free_in; last_in = s.last_in };
      nodes = f.nodes;
      threads = f.threads;
    }

-- Head as a node number alone; the index in head line k
pub fit_head_node : (m : Machine) (h : ℕ) → Fit m → h < m.n → Fit (put_head_node m h)
fit_head_node m h f l =
    let s = f.sizes in
    record {
      sizes = record { n_lo = s.n_lo; n_hi = s.n_hi; t_lo = s.t_lo; t_hi = s.t_hi; head_in = l; tail_in = s.tail_in; free_in = s.free_in; last_in = s.last_in };
      nodes = f.nodes;
      threads = f.threads;
    }

pub fit_head_at : (m : Machine) (k x : ℕ) → Fit m → Fit (put_head_at m k x)
fit_head_at m k x f = record { sizes = f.sizes; nodes = f.nodes; threads = f.threads }

pub fit_free : (m : Machine) (x : ℕ) → Fit m → x < 2 ^ m.n → Fit (put_free m x)
fit_free m x f h =
    let s = f.sizes in
    record {
      sizes = record { n_lo = s.n_lo; n_hi = s.n_hi; t_lo = s.t_lo; t_hi = s.t_hi; head_in = s.head_in; tail_in = s.tail_in; free_in = h; last_in = s.last_in };
      nodes = f.nodes;
      threads = f.threads;
    }

pub fit_last : (m : Machine) (x : ℕ) → Fit m → x < m.n → Fit (put_last m x)
fit_last m x f h =
    let s = f.sizes in
    record {
      sizes = record { n_lo = s.n_lo; n_hi = s.n_hi; t_lo = s.t_lo; t_hi = s.t_hi; head_in = s.head_in; tail_in = s.tail_in; free_in = s.free_in; last_in = h };
      nodes = f.nodes;
      threads = f.threads;
    }

-- ---- the free set

pub next_free_lt : (m : Machine) → Fit m → m.free ≢ 0 → next_free m < m.n
unfolding next_free
next_free_lt m f d = find.around_lt (has m.free) m.n m.last (words.least_lt m.n m.free (pos_of_ne-zero d) f.sizes.free_in)

pub fit_hand_out : (m : Machine) (x : ℕ) → Fit m → x < m.n → Fit (hand_out m x)
fit_hand_out m x f h =
    let w = without m.free x in
    fit_last (put_free m w) x (fit_free m w f (words.without_lt m.n m.free x f.sizes.free_in)) h

-- node i joins it, or not
pub joins_lt : (n w i : ℕ) (b : Bool) → w < 2 ^ n → i < n → pick b (with w i) w < 2 ^ n
joins_lt n w i true h l = words.with_lt n w i l h
joins_lt n w i false h l = h

-- ---- answering

pub fit_released_at : (m : Machine) (k i : ℕ) → Fit m → i < m.n → Fit (released_at m k i)
unfolding released_at
fit_released_at m k i f l =
    let p = f.nodes i l in
    let w = (node m i).waits in
    let m1 = put_node m i (with_waits (node m i) (without w k)) in
    let f1 = fit_node m i (with_waits (node m i) (without w k)) f p.next_link p.flag (words.without_lt m.t w k p.waits_in) in
    fit_free m1 (pick (last_wait w k) (with m.free i) m.free) f1 (joins_lt m.n m.free i (last_wait w k) f.sizes.free_in l)

released_n : (m : Machine) (k c : ℕ) → (released m k c).n ≡ m.n
unfolding released released_at
released_n m k zero = refl
released_n m k (suc c) = released_n m k c

pub fit_released : (m : Machine) (k c : ℕ) → Fit m → c ≤ m.n → Fit (released m k c)
unfolding released
fit_released m k zero f h = f
fit_released m k (suc c) f h = fit_released_at (released m k c) k c (fit_released m k c f (omega arith)) (omega (arith, released_n m k c))

idle_fit : {n : ℕ} {d : Bool} (x : ℕ) → Link n x → ThreadFit n d (idle_thread x)
idle_fit x h = record {
  step_in_lem = refl;
  node_link = none_link;
  tail_link = none_link;
  head_link = none_link;
  next_link = none_link;
  held_link = h;
}

pub fit_left : (m : Machine) (k x : ℕ) → Fit m → Link m.n x → Fit (left m k x)
fit_left m k x f h =
    fit_thread (released m k m.n) k (idle_thread x) (fit_released m k m.n f (omega arith))
    (idle_fit x (λ d. omega (arith, h d, released_n m k m.n)))

-- ---- retiring

others_lt : (m : Machine) (k : ℕ) → others m k < 2 ^ m.t
others_lt m k = rw (laws.others_is m k) (laws.below_lt m k m.t)

pub fit_retired : (m : Machine) (k x : ℕ) → Fit m → x < m.n → Fit (retired m k x)
unfolding retired
fit_retired m k x f l =
    let p = f.nodes x l in
    let v = with_waits (node m x) (others m k) in
    fit_free (put_node m x v) (pick (eqb (others m k) 0) (with m.free x) m.free)
    (fit_node m x v f p.next_link p.flag (others_lt m k))
    (joins_lt m.n m.free x (eqb (others m k) 0) f.sizes.free_in l)
