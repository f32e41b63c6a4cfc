-- What 18's test says of flushes, as inequalities, and back; a flush, a fence and a write-back keep it.
use Prim.Native.Nat.{ℕ, ◌^◌, ◌≤◌, ◌<◌}
use mathlib.Core.Path.{◌≡◌, refl}
use mathlib.Core.Bool.{Bool, true, false, not}
use mathlib.Core.List.{List}
use native.Mathlib.Omega.{arith}
use lib.ListN.{get_or, set}
use lib.Dec.{eqb}
use borrow.Author.Tests.{ltb-true, leb-true, lt-ltb, le-leb}
use Rattle.lists.specs.Find.{pick, both, any}
use Rattle.lists.specs.Word.{has, with, without}
use Rattle.lists.proofs.BoolLaws.{both_true, both_of}
use Rattle.lists.proofs.TabLaws as tabs
use Rattle.lists.proofs.WordLaws as words
use Rattle.image.specs.Form.{top_of, head_lines}
use Rattle.image.specs.Layout.{no_content}
use Rattle.image.specs.declared.Content.{Content}
use Rattle.machine.specs.Record.{flushed, late, over_head, over_node, head_at, node, content_of, put_kept, put_kept_head}
use Rattle.machine.specs.Line.{shape_of, cached_at, over_at, everyone, keeping, persist}
use Rattle.machine.specs.Flush.{late_after, flush, over_after, fence}
use Rattle.machine.specs.declared.Line.{Line}
use Rattle.machine.specs.declared.Line.TheVariants.{OfHead as of_head, OfNode as of_node}
use Rattle.machine.specs.Range.{is_flag, is_index, is_set, flush_fits, form_fits, flushes_fit, ranges_fit, in_range}
use Rattle.machine.specs.declared.Machine.{Machine}
use Rattle.machine.proofs.FlushLaws.{everyone_fits}
use Rattle.machine.proofs.LineLaws.{LineIn}
use Rattle.steps.specs.Numbers.{ranges_kept, numbers_fit}
use Rattle.steps.proofs.Fit.{Fit, Narrow, all_of, of_all, fit_range, narrow_range, ranges_kept_lem, of_narrow}
use Rattle.steps.proofs.Keep.{set_ind, fit_kept, fit_kept_head}

-- ---- the facts, of the parts of a record that a flush, a fence or a write-back changes

-- of h head lines, n nodes, t threads, indices up to top
pub record FlushFit (top h n t : ℕ) (fs : List Content) (ls hs ns : List ℕ) : Type 0 where
  pub flag : (k : ℕ) → k < t → (get_or fs k no_content).linked ≤ 1
  pub index : (k : ℕ) → k < t → (get_or fs k no_content).index ≤ top
  pub late_in : (k : ℕ) → k < t → get_or ls k 0 < 2 ^ t
  pub head_in : (k : ℕ) → k < h → get_or hs k 0 < 2 ^ t
  pub node_in : (i : ℕ) → i < n → get_or ns i 0 < 2 ^ t

abbrev pub Flushes : Machine → Type 0
Flushes m = FlushFit (top_of m.form) (head_lines (shape_of m)) m.n m.t m.flushed m.late m.over_heads m.over

thread_of : (m : Machine) (k : ℕ) → flush_fits m k ≡ true → ((flushed m k).linked ≤ 1) × ((flushed m k).index ≤ top_of m.form) × (late m k < 2 ^ m.t)
unfolding flush_fits
thread_of m k h =
    let x = is_index m (flushed m k).index in
    let s = is_set m (late m k) in
    let a = both_true (is_flag (flushed m k).linked) (both x s) h in
    let b = both_true x s a.1 in
    (leb-true (flushed m k).linked 1 a.0, leb-true (flushed m k).index (top_of m.form) b.0, ltb-true (late m k) (2 ^ m.t) b.1)

flushes_of : (m : Machine) → flushes_fit m ≡ true → Flushes m
unfolding flushes_fit
flushes_of m h =
    let hs = not (any (λ k. not (is_set m (over_head m k))) (head_lines (shape_of m))) in
    let ns = not (any (λ i. not (is_set m (over_node m i))) m.n) in
    let a = both_true (not (any (λ k. not (flush_fits m k)) m.t)) (both hs ns) h in
    let b = both_true hs ns a.1 in
    let each : (k : ℕ) → k < m.t → flush_fits m k ≡ true = all_of (flush_fits m) m.t a.0 in
    record {
      flag = λ k l. (thread_of m k (each k l)).0;
      index = λ k l. (thread_of m k (each k l)).1;
      late_in = λ k l. (thread_of m k (each k l)).2;
      head_in = λ k l. ltb-true (over_head m k) (2 ^ m.t) (all_of (λ k. is_set m (over_head m k)) (head_lines (shape_of m)) b.0 k l);
      node_in = λ i l. ltb-true (over_node m i) (2 ^ m.t) (all_of (λ i. is_set m (over_node m i)) m.n b.1 i l);
    }

of_flushes : (m : Machine) → Flushes m → flushes_fit m ≡ true
unfolding flushes_fit flush_fits
of_flushes m g =
    let hs = not (any (λ k. not (is_set m (over_head m k))) (head_lines (shape_of m))) in
    let ns = not (any (λ i. not (is_set m (over_node m i))) m.n) in
    both_of (not (any (λ k. not (flush_fits m k)) m.t)) (both hs ns)
    (of_all (flush_fits m) m.t
    (λ k l. both_of (is_flag (flushed m k).linked) (both (is_index m (flushed m k).index) (is_set m (late m k))) (le-leb (flushed m k).linked 1 (g.flag k l))
    (both_of (is_index m (flushed m k).index) (is_set m (late m k)) (le-leb (flushed m k).index (top_of m.form) (g.index k l)) (lt-ltb (late m k) (2 ^ m.t) (g.late_in k l)))))
    (both_of hs ns
    (of_all (λ k. is_set m (over_head m k)) (head_lines (shape_of m)) (λ k l. lt-ltb (over_head m k) (2 ^ m.t) (g.head_in k l)))
    (of_all (λ i. is_set m (over_node m i)) m.n (λ i l. lt-ltb (over_node m i) (2 ^ m.t) (g.node_in i l))))

-- ---- the whole record

pub flushes_range : (m : Machine) → in_range m ≡ true → Flushes m
unfolding in_range
flushes_range m h = flushes_of m (both_true (form_fits m) (flushes_fit m) (both_true (ranges_fit m) (both (form_fits m) (flushes_fit m)) h).1).1

pub flushes_numbers : (m : Machine) → numbers_fit m ≡ true → Flushes m
unfolding numbers_fit
flushes_numbers m h = flushes_of m (both_true (form_fits m) (flushes_fit m) (both_true (ranges_kept m) (both (form_fits m) (flushes_fit m)) h).1).1

pub numbers_fit_lem : (m : Machine) → Fit m → Narrow m → Flushes m → numbers_fit m ≡ true
unfolding numbers_fit
numbers_fit_lem m f w g =
    both_of (ranges_kept m) (both (form_fits m) (flushes_fit m)) (ranges_kept_lem m f) (both_of (form_fits m) (flushes_fit m) (of_narrow m w) (of_flushes m g))

pub range_numbers : (m : Machine) → in_range m ≡ true → numbers_fit m ≡ true
range_numbers m h = numbers_fit_lem m (fit_range m h) (narrow_range m h) (flushes_range m h)

-- ---- one line's threads replaced, and who has flushed since

-- a copy put in place, with the threads over it
pub flush_keeping : (m : Machine) (l : Line) (c : Content) (w : ℕ) → Flushes m → w < 2 ^ m.t → Flushes (keeping m l c w)
flush_keeping m (of_head k) c w g h = record {
  flag = g.flag;
  index = g.index;
  late_in = g.late_in;
  head_in = λ j l. set_ind (λ (x : ℕ). x < 2 ^ m.t) m.over_heads k j w 0 h (g.head_in j l);
  node_in = g.node_in;
}
flush_keeping m (of_node i) c w g h = record {
  flag = g.flag;
  index = g.index;
  late_in = g.late_in;
  head_in = g.head_in;
  node_in = λ j l. set_ind (λ (x : ℕ). x < 2 ^ m.t) m.over i j w 0 h (g.node_in j l);
}

after_in : (m : Machine) (k u : ℕ) → Flushes m → k < m.t → u < m.t → (b : Bool) → pick b 0 (with (late m u) k) < 2 ^ m.t
after_in m k u g l h true = omega (arith, g.late_in u h)
after_in m k u g l h false = words.with_lt m.t (late m u) k l (g.late_in u h)

late_after_in : (m : Machine) (k u : ℕ) → Flushes m → k < m.t → u < m.t → get_or (late_after m k) u 0 < 2 ^ m.t
unfolding late_after
late_after_in m k u g l h = rw (tabs.front_at (λ u. pick (eqb u k) 0 (with (late m u) k)) m.t m.late u 0 h) (after_in m k u g l h (eqb u k))

over_in : (m : Machine) (l : Line) → Flushes m → LineIn (shape_of m) l → over_at m l < 2 ^ m.t
over_in m (of_head k) g h = g.head_in k h
over_in m (of_node i) g h = g.node_in i h

over_after_in : (m : Machine) (k : ℕ) (l : Line) → over_after m k l < 2 ^ m.t
unfolding over_after
over_after_in m k l = words.word_of_lt (λ u. pick (has (over_at m l) u) true (not (has (late m k) u))) m.t

-- what holds of a record before a fence, and with the copy put in place, holds behind it
pub fence_ind : (P : Machine → Type 0) (m : Machine) (k : ℕ) (l : Line) → P m → P (keeping m l (flushed m k) (over_after m k l)) → P (fence m k l)
fence_ind P m k l p q = by (has (over_at m l) k)
  where
    by : (b : Bool) → P (pick b m (keeping m l (flushed m k) (over_after m k l)))
    by true = p
    by false = q

pub fence_in : (m : Machine) (k : ℕ) (l : Line) → k < m.t → k < (fence m k l).t
fence_in m k l h = fence_ind (λ r. k < r.t) m k l h (by l)
  where
    by : (l : Line) → k < (keeping m l (flushed m k) (over_after m k l)).t
    by (of_head j) = h
    by (of_node i) = h

-- ---- a write-back, a flush, a fence

pub flushes_persist : (m : Machine) (l : Line) → Flushes m → Flushes (persist m l)
flushes_persist m l g = flush_keeping m l (cached_at m l) (everyone m) g (everyone_fits m)

-- what is flushed is a content
module _ (m : Machine) (k : ℕ) (g : Flushes m) (h : k < m.t) where
  flushing : (l : Line) → (cached_at m l).linked ≤ 1 → (cached_at m l).index ≤ top_of m.form → over_at m l < 2 ^ m.t → Flushes (flush m k l)
  flushing (of_head j) a b w = record {
    flag = λ u l. set_ind (λ (c : Content). c.linked ≤ 1) m.flushed k u (cached_at m (of_head j)) no_content a (g.flag u l);
    index = λ u l. set_ind (λ (c : Content). c.index ≤ top_of m.form) m.flushed k u (cached_at m (of_head j)) no_content b (g.index u l);
    late_in = λ u l. late_after_in m k u g h l;
    head_in = λ u l. set_ind (λ (x : ℕ). x < 2 ^ m.t) m.over_heads j u (without (over_head m j) k) 0 (words.without_lt m.t (over_head m j) k w) (g.head_in u l);
    node_in = g.node_in;
  }
  flushing (of_node i) a b w = record {
    flag = λ u l. set_ind (λ (c : Content). c.linked ≤ 1) m.flushed k u (content_of (node m i)) no_content a (g.flag u l);
    index = λ u l. set_ind (λ (c : Content). c.index ≤ top_of m.form) m.flushed k u (content_of (node m i)) no_content b (g.index u l);
    late_in = λ u l. late_after_in m k u g h l;
    head_in = g.head_in;
    node_in = λ u l. set_ind (λ (x : ℕ). x < 2 ^ m.t) m.over i u (without (over_node m i) k) 0 (words.without_lt m.t (over_node m i) k w) (g.node_in u l);
  }

  pub flushes_flush : (l : Line) → Fit m → Narrow m → LineIn (shape_of m) l → Flushes (flush m k l)
  flushes_flush (of_head j) f w i = flushing (of_head j) (omega arith) (w.head j i).0 (g.head_in j i)
  flushes_flush (of_node j) f w i = flushing (of_node j) (f.nodes j i).flag (w.node j i).0 (g.node_in j i)

  pub flushes_fence : (l : Line) → Flushes (fence m k l)
  flushes_fence l = fence_ind Flushes m k l g (flush_keeping m l (flushed m k) (over_after m k l) g (over_after_in m k l))

-- ---- the other facts of a record

pub fit_flush : (m : Machine) (k : ℕ) (l : Line) → Fit m → Fit (flush m k l)
fit_flush m k (of_head j) f = record { sizes = f.sizes; nodes = f.nodes; threads = f.threads }
fit_flush m k (of_node i) f = record { sizes = f.sizes; nodes = f.nodes; threads = f.threads }

pub fit_keeping : (m : Machine) (l : Line) (c : Content) (w : ℕ) → Fit m → c.linked ≤ 1 → Fit (keeping m l c w)
fit_keeping m (of_head k) c w f h = fit_kept_head m k c.index w f
fit_keeping m (of_node i) c w f h = fit_kept m i c w f h

pub fit_fence : (m : Machine) (k : ℕ) (l : Line) → Fit m → (flushed m k).linked ≤ 1 → Fit (fence m k l)
fit_fence m k l f h = fence_ind Fit m k l f (fit_keeping m l (flushed m k) (over_after m k l) f h)
