-- What a persist, a flush and a fence make of what the record knows of flushes.
use Prim.Native.Nat.{ℕ, ◌≤◌, ◌<◌}
use mathlib.Core.Path.{◌≡◌, refl, sym, ap, subst, ◌∙◌}
use mathlib.Core.Bool.{Bool, true, false, not}
use native.Mathlib.Omega.{arith}
use native.Mathlib.Decide.{ℕ_discrete}
use lib.Dec.{eqb}
use lib.ListN.{length, get_or, length-set}
use lib.Seq.{get_or-set_same, get_or-set_other}
use Rattle.lists.specs.Find.{pick}
use Rattle.lists.specs.Word.{has, with, without, word_of}
use Rattle.lists.proofs.TabLaws as tabs
use Rattle.lists.proofs.WordLaws.{has_word_of}
use Rattle.image.specs.declared.Content.{Content}
use Rattle.image.specs.Form.{head_lines}
use Rattle.image.specs.Layout.{no_content}
use Rattle.machine.specs.Record.{flushed, late}
use Rattle.machine.specs.Line.{shape_of, head_content, cached_at, persisted_at, over_at, keeping, everyone, persist}
use Rattle.machine.specs.Flush.{late_after, flush, over_after, fence}
use Rattle.machine.specs.declared.Line.{Line}
use Rattle.machine.specs.declared.Line.TheVariants.{OfHead as of_head, OfNode as of_node}
use Rattle.machine.specs.declared.Machine.{Machine}
use Rattle.machine.specs.declared.Touch.{Touch}
use Rattle.machine.specs.declared.Touch.TheVariants.{Nothing as nothing, Store as a_store, Persist as a_persist, Flush as a_flush, Fence as a_fence}
use Rattle.machine.proofs.LineLaws.{LineIn}
use Rattle.moments.specs.Frame.{Keeps, keeps_of, touched, Frame}
use Rattle.moments.proofs.Frame as frame

-- ---- the tables have a place for each line and thread that there is

pub record Sized (m : Machine) : Type 0 where
  pub flushed : m.t ≤ length m.flushed
  pub heads : head_lines (shape_of m) ≤ length m.kept_heads
  pub nodes : m.n ≤ length m.kept
  pub over_heads : head_lines (shape_of m) ≤ length m.over_heads
  pub over : m.n ≤ length m.over

-- what a line holds of a content that was flushed: of a head line the index alone
abbrev pub held : Line → Content → Content
held (of_head k) c = head_content c.index
held (of_node i) c = c

pub held_cached : (m : Machine) (l : Line) → held l (cached_at m l) ≡ cached_at m l
held_cached m (of_head k) = refl
held_cached m (of_node i) = refl

-- ---- a copy that is persisted

module _ (m : Machine) (z : Sized m) (c : Content) (w : ℕ) where
  pub keeping_own : (l : Line) → LineIn (shape_of m) l → persisted_at (keeping m l c w) l ≡ held l c
  keeping_own (of_head k) h = ap head_content (get_or-set_same m.kept_heads k c.index 0 (omega (arith, h, z.heads)))
  keeping_own (of_node i) h = get_or-set_same m.kept i c no_content (omega (arith, h, z.nodes))

  pub keeping_over_own : (l : Line) → LineIn (shape_of m) l → over_at (keeping m l c w) l ≡ w
  keeping_over_own (of_head k) h = get_or-set_same m.over_heads k w 0 (omega (arith, h, z.over_heads))
  keeping_over_own (of_node i) h = get_or-set_same m.over i w 0 (omega (arith, h, z.over))

  pub keeping_flushed : (l : Line) → ((keeping m l c w).flushed ≡ m.flushed) × ((keeping m l c w).late ≡ m.late)
  keeping_flushed (of_head k) = (refl, refl)
  keeping_flushed (of_node i) = (refl, refl)

  pub keeping_threads : (l : Line) → (keeping m l c w).threads ≡ m.threads
  keeping_threads (of_head k) = refl
  keeping_threads (of_node i) = refl

-- ---- a flush

module _ (m : Machine) (z : Sized m) (k : ℕ) where
  flush_is : (l : Line) → ((flush m k l).flushed ≡ lib.ListN.set m.flushed k (cached_at m l)) × ((flush m k l).late ≡ late_after m k)
  flush_is (of_head j) = (refl, refl)
  flush_is (of_node i) = (refl, refl)

  pub flush_own : (l : Line) → k < m.t → flushed (flush m k l) k ≡ cached_at m l
  flush_own l h = ap (λ x. get_or x k no_content) (flush_is l).0 ∙ get_or-set_same m.flushed k (cached_at m l) no_content (omega (arith, z.flushed))

  pub flush_rest : (l : Line) (u : ℕ) → (u ≡ k → ⊥) → flushed (flush m k l) u ≡ flushed m u
  flush_rest l u ne = ap (λ x. get_or x u no_content) (flush_is l).0 ∙ get_or-set_other m.flushed k u (cached_at m l) no_content ne

  pub flush_late : (l : Line) (u : ℕ) → u < m.t → late (flush m k l) u ≡ pick (eqb u k) 0 (with (late m u) k)
  unfolding late_after
  flush_late l u h = ap (λ x. get_or x u 0) (flush_is l).1 ∙ tabs.front_at (λ u. pick (eqb u k) 0 (with (late m u) k)) m.t m.late u 0 h

  pub flush_over_own : (l : Line) → LineIn (shape_of m) l → over_at (flush m k l) l ≡ without (over_at m l) k
  flush_over_own (of_head j) h = get_or-set_same m.over_heads j _ 0 (omega (arith, h, z.over_heads))
  flush_over_own (of_node i) h = get_or-set_same m.over i _ 0 (omega (arith, h, z.over))

  pub flush_over_other : (l j : Line) → (j ≡ l → ⊥) → over_at (flush m k l) j ≡ over_at m j
  flush_over_other (of_head i) (of_head j) ne = get_or-set_other m.over_heads i j _ 0 (λ q. ne (ap of_head q))
  flush_over_other (of_head i) (of_node j) ne = refl
  flush_over_other (of_node i) (of_head j) ne = refl
  flush_over_other (of_node i) (of_node j) ne = get_or-set_other m.over i j _ 0 (λ q. ne (ap of_node q))

-- ---- a fence

module _ (m : Machine) (z : Sized m) (k : ℕ) (l : Line) where
  pub fence_flushed : ((fence m k l).flushed ≡ m.flushed) × ((fence m k l).late ≡ m.late)
  fence_flushed = by (has (over_at m l) k)
    where
      by : (b : Bool) → ((pick b m (keeping m l (flushed m k) (over_after m k l))).flushed ≡ m.flushed) × ((pick b m (keeping m l (flushed m k) (over_after m k l))).late ≡ m.late)
      by true = (refl, refl)
      by false = keeping_flushed m z (flushed m k) (over_after m k l) l

  -- once it has counted, those that have not flushed since are over the line too
  pub after_has : (u : ℕ) → u < m.t → has (over_after m k l) u ≡ pick (has (over_at m l) u) true (not (has (late m k) u))
  unfolding over_after
  after_has u h = has_word_of (λ u. pick (has (over_at m l) u) true (not (has (late m k) u))) m.t u h

pub fence_threads : (m : Machine) (k : ℕ) (l : Line) → (fence m k l).threads ≡ m.threads
fence_threads m k l = by (has (over_at m l) k) l
  where
    by : (b : Bool) (l : Line) → (pick b m (keeping m l (flushed m k) (over_after m k l))).threads ≡ m.threads
    by true l = refl
    by false (of_head j) = refl
    by false (of_node i) = refl

-- ---- the sizes stay

-- as long as before
pub record Long (m m' : Machine) : Type 0 where
  pub flushed : length m'.flushed ≡ length m.flushed
  pub heads : length m'.kept_heads ≡ length m.kept_heads
  pub nodes : length m'.kept ≡ length m.kept
  pub over_heads : length m'.over_heads ≡ length m.over_heads
  pub over : length m'.over ≡ length m.over

long_self : (m : Machine) → Long m m
long_self m = record { flushed = refl; heads = refl; nodes = refl; over_heads = refl; over = refl }

long_keeping : (m : Machine) (l : Line) (c : Content) (w : ℕ) → Long m (keeping m l c w)
long_keeping m (of_head k) c w = record { flushed = refl; heads = length-set m.kept_heads k c.index; nodes = refl; over_heads = length-set m.over_heads k w; over = refl }
long_keeping m (of_node i) c w = record { flushed = refl; heads = refl; nodes = length-set m.kept i c; over_heads = refl; over = length-set m.over i w }

long_flush : (m : Machine) (k : ℕ) (l : Line) → Long m (flush m k l)
long_flush m k (of_head j) = record { flushed = length-set m.flushed k _; heads = refl; nodes = refl; over_heads = length-set m.over_heads j _; over = refl }
long_flush m k (of_node i) = record { flushed = length-set m.flushed k _; heads = refl; nodes = refl; over_heads = refl; over = length-set m.over i _ }

long_touched : (m : Machine) (w : Touch) → Long m (touched m w)
long_touched m nothing = long_self m
long_touched m (a_store l) = long_self m
long_touched m (a_persist l) = long_keeping m l (cached_at m l) (everyone m)
long_touched m (a_flush k l) = long_flush m k l
long_touched m (a_fence k l) = by (has (over_at m l) k)
  where
    by : (b : Bool) → Long m (pick b m (keeping m l (flushed m k) (over_after m k l)))
    by true = long_self m
    by false = long_keeping m l (flushed m k) (over_after m k l)

pub sized_goes : (m m' : Machine) (w : Touch) → Frame m m' w → Sized m → Sized m'
sized_goes m m' w f z =
    let g = long_touched m w in
    let s = f.shape in
    record {
      flushed = omega (arith, z.flushed, g.flushed, ap (λ (y : Keeps). length y.flushed) f.kept, ap (λ x. x.t) s);
      heads = omega (arith, z.heads, g.heads, ap (λ (y : Keeps). length y.heads) f.kept, ap head_lines s);
      nodes = omega (arith, z.nodes, g.nodes, ap (λ (y : Keeps). length y.nodes) f.kept, ap (λ x. x.n) s);
      over_heads = omega (arith, z.over_heads, g.over_heads, ap (λ (y : Keeps). length y.over_heads) f.kept, ap head_lines s);
      over = omega (arith, z.over, g.over, ap (λ (y : Keeps). length y.over) f.kept, ap (λ x. x.n) s);
    }
