-- Laws of #104's sets of threads, one thread at a time, and of a flush and a fence of a line that is known to be a head line or a node's.
use Prim.Native.Nat.{ℕ, zero, suc, ◌+◌, ◌^◌, ◌<◌}
use mathlib.Core.Path.{◌≡◌, refl, sym, ap, ap₂, ◌∙◌}
use mathlib.Core.Bool.{Bool, true, false}
use mathlib.Core.List.{List}
use native.Mathlib.Nat.{pow-suc}
use native.Mathlib.Omega.{arith}
use native.Mathlib.Numerals.{add-one}
use lib.ListN.{length, get_or, set}
use Rattle.lists.specs.Find.{pick}
use Rattle.lists.specs.Word.{has, without, word_of}
use Rattle.lists.proofs.TabLaws as tabs
use Rattle.lists.proofs.WordLaws as words
use Rattle.machine.specs.Record.{flushed, late, over_head, over_node, node, head_at, content_of, put_kept, put_kept_head, put_flushed, put_over_head, put_over_node}
use Rattle.machine.specs.Line.{head_content, over_at}
use Rattle.machine.specs.Flush.{late_after, flush, over_after, fence}
use Rattle.machine.specs.declared.Machine.{Machine}
use Rattle.machine.specs.declared.Line.{Line}
use Rattle.machine.specs.declared.Line.TheVariants.{OfHead as of_head, OfNode as of_node}
use Rattle.hands.specs.Sets.{late_of, late_from, is_over, over_with, over_below}

-- ---- who has flushed since

pub late_none : (l : List ℕ) (k : ℕ) → l ≡ late_from l k 0
unfolding late_from
late_none l k = tabs.front_none (λ u. late_of (get_or l u 0) u k) l

pub late_next : (l : List ℕ) (k u : ℕ) → u < length l → set (late_from l k u) u (late_of (get_or l u 0) u k) ≡ late_from l k (u + 1)
unfolding late_from
late_next l k u h = tabs.front_next (λ u. late_of (get_or l u 0) u k) u l h

late_is : (m : Machine) (k : ℕ) → late_from m.late k m.t ≡ late_after m k
unfolding late_from late_after
late_is m k = refl

-- ---- who is over a line behind a fence

pub over_none : (over late : ℕ) → 0 ≡ over_below over late 0
unfolding over_below word_of
over_none over late = refl

pub over_next : (over late u : ℕ) → over_with over late u (over_below over late u) ≡ over_below over late (u + 1)
unfolding over_below word_of
over_next over late u = ap (word_of (λ u. is_over over late u)) (sym (add-one u))

pub over_lt : (over late u : ℕ) → over_below over late u < 2 ^ u
unfolding over_below
over_lt over late u = words.word_of_lt (λ u. is_over over late u) u

over_is : (m : Machine) (k : ℕ) (l : Line) → over_below (over_at m l) (late m k) m.t ≡ over_after m k l
unfolding over_below over_after
over_is m k l = refl

-- ---- all threads

pub all_ones : (n : ℕ) → word_of (λ u. true) n + 1 ≡ 2 ^ n
unfolding word_of
all_ones zero = refl
all_ones (suc n) = omega (arith, all_ones n, pow-suc 2 n)

-- ---- a line, known to be a head line or a node's

pub flush_head : (m : Machine) (k : ℕ) (l : Line) (h : ℕ) (a : List ℕ) (w : ℕ) → l ≡ of_head h → a ≡ late_from m.late k m.t → w ≡ without (over_head m h) k
    → put_over_head (put_flushed m k (head_content (head_at m h)) a) h w ≡ flush m k l
flush_head m k l h a w e f g =
    ap₂ (λ (a : List ℕ) (w : ℕ). put_over_head (put_flushed m k (head_content (head_at m h)) a) h w) (f ∙ late_is m k) g ∙ sym (ap (flush m k) e)

pub flush_node : (m : Machine) (k : ℕ) (l : Line) (i : ℕ) (a : List ℕ) (w : ℕ) → l ≡ of_node i → a ≡ late_from m.late k m.t → w ≡ without (over_node m i) k
    → put_over_node (put_flushed m k (content_of (node m i)) a) i w ≡ flush m k l
flush_node m k l i a w e f g =
    ap₂ (λ (a : List ℕ) (w : ℕ). put_over_node (put_flushed m k (content_of (node m i)) a) i w) (f ∙ late_is m k) g ∙ sym (ap (flush m k) e)

-- what is persisted is later
pub fence_over_head : (m : Machine) (k : ℕ) (l : Line) (h : ℕ) → l ≡ of_head h → has (over_head m h) k ≡ true → m ≡ fence m k l
fence_over_head m k l h e t = rw (e, t)

pub fence_over_node : (m : Machine) (k : ℕ) (l : Line) (i : ℕ) → l ≡ of_node i → has (over_node m i) k ≡ true → m ≡ fence m k l
fence_over_node m k l i e t = rw (e, t)

-- what was flushed is later
pub fence_head : (m : Machine) (k : ℕ) (l : Line) (h w : ℕ) → l ≡ of_head h → has (over_head m h) k ≡ false → w ≡ over_below (over_head m h) (late m k) m.t
    → put_kept_head m h (flushed m k).index w ≡ fence m k l
fence_head m k l h w e f g = ap (put_kept_head m h (flushed m k).index) (g ∙ over_is m k (of_head h)) ∙ rw (e, f)

pub fence_node : (m : Machine) (k : ℕ) (l : Line) (i w : ℕ) → l ≡ of_node i → has (over_node m i) k ≡ false → w ≡ over_below (over_node m i) (late m k) m.t
    → put_kept m i (flushed m k) w ≡ fence m k l
fence_node m k l i w e f g = ap (put_kept m i (flushed m k)) (g ∙ over_is m k (of_node i)) ∙ rw (e, f)

-- ---- a fence leaves the number of nodes

pub fence_n : (m : Machine) (k : ℕ) (l : Line) → (fence m k l).n ≡ m.n
fence_n m k (of_head h) = by (has (over_head m h) k)
  where
    by : (b : Bool) → (pick b m (put_kept_head m h (flushed m k).index (over_after m k (of_head h)))).n ≡ m.n
    by true = refl
    by false = refl
fence_n m k (of_node i) = by (has (over_node m i) k)
  where
    by : (b : Bool) → (pick b m (put_kept m i (flushed m k) (over_after m k (of_node i)))).n ≡ m.n
    by true = refl
    by false = refl
