-- Machines with the same contents, and the machine after one store or one persist.
use Prim.Native.Nat.{ℕ, zero, suc, ◌<◌}
use mathlib.Core.Path.{◌≡◌, refl, sym, ap, ◌∙◌}
use mathlib.Core.Bool.{Bool, true, false}
use mathlib.Core.List.{map}
use native.Mathlib.Omega.{arith}
use native.Mathlib.Decide.{dec_lt}
use lib.ListN.{length, get_or, set, get_or-map, get_or-eq_default}
use lib.Seq.{get_or-set_same, get_or-set_other, set_out, map-set_same}
use Rattle.lists.specs.Find.{pick}
use Rattle.image.specs.Layout.{no_content}
use Rattle.lists.specs.Word.{has}
use Rattle.image.specs.declared.Content.{Content}
use Rattle.machine.specs.Record.{zero_node, node, head_at, content_of, put_node, put_head_at, flushed, late}
use Rattle.machine.specs.Line.{shape_of, head_content, cached_at, persisted_at, over_at, keeping, everyone, persist}
use Rattle.machine.specs.Flush.{flush, over_after, fence}
use Rattle.machine.specs.declared.Line.{Line}
use Rattle.machine.specs.declared.Line.TheVariants.{OfHead as of_head, OfNode as of_node}
use Rattle.machine.specs.Retire.{released_at, released, retired}
use Rattle.machine.specs.declared.Machine.{Machine}
use Rattle.machine.specs.declared.Node.{Node}
use Rattle.machine.specs.declared.Touch.{Touch}
use Rattle.machine.specs.declared.Touch.TheVariants.{Nothing as nothing, Store as a_store, Persist as a_persist, Flush as a_flush, Fence as a_fence}
use Rattle.moments.specs.Frame.{StoresTo, Persists, FencesTo, Even, Keeps, keeps_of, touched, Frame}

-- ---- the same contents

pub record Same (m m' : Machine) : Type 0 where
  pub shape : shape_of m' ≡ shape_of m
  pub index : m'.heads ≡ m.heads
  pub nodes : map content_of m'.nodes ≡ map content_of m.nodes
  pub kept : keeps_of m' ≡ keeps_of m

pub same_self : (m : Machine) → Same m m
same_self m = record { shape = refl; index = refl; nodes = refl; kept = refl }

pub same_then : (a b c : Machine) → Same a b → Same b c → Same a c
same_then a b c p q = record {
  shape = q.shape ∙ p.shape;
  index = q.index ∙ p.index;
  nodes = q.nodes ∙ p.nodes;
  kept = q.kept ∙ p.kept;
}

-- a node changed in its link or in what it waits for
pub same_node : (m : Machine) (i : ℕ) (v : Node) → content_of v ≡ content_of (node m i) → Same m (put_node m i v)
same_node m i v e = record {
  shape = refl;
  index = refl;
  nodes = map-set_same content_of m.nodes i v zero_node e;
  kept = refl;
}

pub same_pick : (m a b : Machine) (t : Bool) → Same m a → Same m b → Same m (pick t a b)
same_pick m a b true p q = p
same_pick m a b false p q = q

pub same_released_at : (m : Machine) (k i : ℕ) → Same m (released_at m k i)
unfolding released_at
same_released_at m k i = record {
  shape = refl;
  index = refl;
  nodes = map-set_same content_of m.nodes i _ zero_node refl;
  kept = refl;
}

pub same_released : (m : Machine) (k c : ℕ) → Same m (released m k c)
unfolding released
same_released m k zero = same_self m
same_released m k (suc c) = same_then m (released m k c) (released_at (released m k c) k c) (same_released m k c) (same_released_at (released m k c) k c)

pub same_retired : (m : Machine) (k x : ℕ) → Same m (retired m k x)
unfolding retired
same_retired m k x = record {
  shape = refl;
  index = refl;
  nodes = map-set_same content_of m.nodes x _ zero_node refl;
  kept = refl;
}

-- what is kept the same shows the same
module _ (m m' : Machine) (e : keeps_of m' ≡ keeps_of m) where
  pub kept_persisted : (l : Line) → persisted_at m' l ≡ persisted_at m l
  kept_persisted (of_head k) = ap (λ (z : Keeps). head_content (get_or z.heads k 0)) e
  kept_persisted (of_node i) = ap (λ (z : Keeps). get_or z.nodes i no_content) e

  pub kept_over : (l : Line) → over_at m' l ≡ over_at m l
  kept_over (of_head k) = ap (λ (z : Keeps). get_or z.over_heads k 0) e
  kept_over (of_node i) = ap (λ (z : Keeps). get_or z.over i 0) e

  pub kept_flushed : (k : ℕ) → flushed m' k ≡ flushed m k
  kept_flushed k = ap (λ (z : Keeps). get_or z.flushed k no_content) e

  pub kept_late : (k : ℕ) → late m' k ≡ late m k
  kept_late k = ap (λ (z : Keeps). get_or z.late k 0) e

module _ (m m' : Machine) (s : Same m m') where
  pub same_cached : (l : Line) → cached_at m' l ≡ cached_at m l
  same_cached (of_head k) = rw s.index
  same_cached (of_node i) =
      sym (get_or-map content_of m'.nodes i zero_node) ∙ ap (λ c. get_or c i no_content) s.nodes ∙ get_or-map content_of m.nodes i zero_node

  pub same_persisted : (l : Line) → persisted_at m' l ≡ persisted_at m l
  same_persisted = kept_persisted m m' s.kept

  -- an event that touches no line
  pub frame_same : Frame m m' nothing
  frame_same = record {
    shape = s.shape;
    cached = λ l p. same_cached l;
    kept = s.kept;
  }

-- what follows without touching a line
pub frame_then : (m a b : Machine) (w : Touch) → Frame m a w → Same a b → Frame m b w
frame_then m a b w f s = record {
  shape = s.shape ∙ f.shape;
  cached = λ l p. same_cached a b s l ∙ f.cached l p;
  kept = s.kept ∙ f.kept;
}

-- ---- one store

pub frame_node : (m : Machine) (i : ℕ) (v : Node) → Frame m (put_node m i v) (a_store (of_node i))
frame_node m i v = record {
  shape = refl;
  cached = λ l p. at l p;
  kept = refl;
}
  where
    at : (l : Line) → (l ≡ of_node i → ⊥) → cached_at (put_node m i v) l ≡ cached_at m l
    at (of_head k) ne = refl
    at (of_node j) ne = ap content_of (get_or-set_other m.nodes i j v zero_node (λ e. ne (ap of_node e)))

pub frame_head : (m : Machine) (k x : ℕ) → Frame m (put_head_at m k x) (a_store (of_head k))
frame_head m k x = record {
  shape = refl;
  cached = λ l p. at l p;
  kept = refl;
}
  where
    at : (l : Line) → (l ≡ of_head k → ⊥) → cached_at (put_head_at m k x) l ≡ cached_at m l
    at (of_head j) ne = ap head_content (get_or-set_other m.heads k j x 0 (λ e. ne (ap of_head e)))
    at (of_node j) ne = refl

-- ---- one persist, one flush, one fence: no cached copy moves

-- the persisted copy of line l becomes c
pub keeping_shape : (m : Machine) (l : Line) (c : Content) (w : ℕ) → shape_of (keeping m l c w) ≡ shape_of m
keeping_shape m (of_head k) c w = refl
keeping_shape m (of_node i) c w = refl

pub keeping_cached : (m : Machine) (l : Line) (c : Content) (w : ℕ) (j : Line) → cached_at (keeping m l c w) j ≡ cached_at m j
keeping_cached m (of_head k) c w (of_head j) = refl
keeping_cached m (of_head k) c w (of_node j) = refl
keeping_cached m (of_node i) c w (of_head k) = refl
keeping_cached m (of_node i) c w (of_node j) = refl

-- every other persisted one stays, and who is over it
pub keeping_other : (m : Machine) (l : Line) (c : Content) (w : ℕ) (j : Line) → (j ≡ l → ⊥) → persisted_at (keeping m l c w) j ≡ persisted_at m j
keeping_other m (of_head k) c w (of_head j) ne = ap head_content (get_or-set_other m.kept_heads k j c.index 0 (λ q. ne (ap of_head q)))
keeping_other m (of_head k) c w (of_node j) ne = refl
keeping_other m (of_node i) c w (of_head k) ne = refl
keeping_other m (of_node i) c w (of_node j) ne = get_or-set_other m.kept i j c no_content (λ q. ne (ap of_node q))

pub keeping_over : (m : Machine) (l : Line) (c : Content) (w : ℕ) (j : Line) → (j ≡ l → ⊥) → over_at (keeping m l c w) j ≡ over_at m j
keeping_over m (of_head k) c w (of_head j) ne = get_or-set_other m.over_heads k j w 0 (λ q. ne (ap of_head q))
keeping_over m (of_head k) c w (of_node j) ne = refl
keeping_over m (of_node i) c w (of_head k) ne = refl
keeping_over m (of_node i) c w (of_node j) ne = get_or-set_other m.over i j w 0 (λ q. ne (ap of_node q))

pub frame_persist : (m : Machine) (l : Line) → Frame m (persist m l) (a_persist l)
frame_persist m l = record {
  shape = keeping_shape m l (cached_at m l) (everyone m);
  cached = λ j p. keeping_cached m l (cached_at m l) (everyone m) j;
  kept = refl;
}

pub flush_shape : (m : Machine) (k : ℕ) (l : Line) → shape_of (flush m k l) ≡ shape_of m
flush_shape m k (of_head j) = refl
flush_shape m k (of_node i) = refl

pub flush_cached : (m : Machine) (k : ℕ) (l j : Line) → cached_at (flush m k l) j ≡ cached_at m j
flush_cached m k (of_head i) (of_head j) = refl
flush_cached m k (of_head i) (of_node j) = refl
flush_cached m k (of_node i) (of_head j) = refl
flush_cached m k (of_node i) (of_node j) = refl

-- "Between the two nothing is assured": a flush leaves every persisted copy
pub flush_persisted : (m : Machine) (k : ℕ) (l j : Line) → persisted_at (flush m k l) j ≡ persisted_at m j
flush_persisted m k (of_head i) (of_head j) = refl
flush_persisted m k (of_head i) (of_node j) = refl
flush_persisted m k (of_node i) (of_head j) = refl
flush_persisted m k (of_node i) (of_node j) = refl

pub frame_flush : (m : Machine) (k : ℕ) (l : Line) → Frame m (flush m k l) (a_flush k l)
frame_flush m k l = record { shape = flush_shape m k l; cached = λ j p. flush_cached m k l j; kept = refl }

-- what a fence leaves, by whether it finds something later
module _ (m : Machine) (k : ℕ) (l : Line) where
  abbrev fence_by : Bool → Machine
  fence_by b = pick b m (keeping m l (flushed m k) (over_after m k l))

  by_shape : (b : Bool) → shape_of (fence_by b) ≡ shape_of m
  by_shape true = refl
  by_shape false = keeping_shape m l (flushed m k) (over_after m k l)

  by_cached : (b : Bool) (j : Line) → cached_at (fence_by b) j ≡ cached_at m j
  by_cached true j = refl
  by_cached false j = keeping_cached m l (flushed m k) (over_after m k l) j

  by_other : (b : Bool) (j : Line) → (j ≡ l → ⊥) → persisted_at (fence_by b) j ≡ persisted_at m j
  by_other true j ne = refl
  by_other false j ne = keeping_other m l (flushed m k) (over_after m k l) j ne

  by_over : (b : Bool) (j : Line) → (j ≡ l → ⊥) → over_at (fence_by b) j ≡ over_at m j
  by_over true j ne = refl
  by_over false j ne = keeping_over m l (flushed m k) (over_after m k l) j ne

  pub fence_shape : shape_of (fence m k l) ≡ shape_of m
  fence_shape = by_shape (has (over_at m l) k)

  pub fence_cached : (j : Line) → cached_at (fence m k l) j ≡ cached_at m j
  fence_cached = by_cached (has (over_at m l) k)

  pub fence_other : (j : Line) → (j ≡ l → ⊥) → persisted_at (fence m k l) j ≡ persisted_at m j
  fence_other = by_other (has (over_at m l) k)

  pub fence_over_other : (j : Line) → (j ≡ l → ⊥) → over_at (fence m k l) j ≡ over_at m j
  fence_over_other = by_over (has (over_at m l) k)

  -- "if a later one was persisted already, that one stays"
  pub fence_stays : has (over_at m l) k ≡ true → fence m k l ≡ m
  fence_stays e = ap fence_by e

  pub fence_moves : has (over_at m l) k ≡ false → fence m k l ≡ keeping m l (flushed m k) (over_after m k l)
  fence_moves e = ap fence_by e

  pub frame_fence : Frame m (fence m k l) (a_fence k l)
  frame_fence = record { shape = fence_shape; cached = λ j p. fence_cached j; kept = refl }

-- ---- what a frame says of the persisted copies

module _ (m m' : Machine) (w : Touch) (f : Frame m m' w) where
  touched_kept : (w : Touch) (l : Line) → (Persists w l → ⊥) → (FencesTo w l → ⊥) → persisted_at (touched m w) l ≡ persisted_at m l
  touched_kept nothing l p q = refl
  touched_kept (a_store x) l p q = refl
  touched_kept (a_persist x) l p q = keeping_other m x (cached_at m x) (everyone m) l p
  touched_kept (a_flush k x) l p q = flush_persisted m k x l
  touched_kept (a_fence k x) l p q = fence_other m k x l q

  -- only a line that is persisted or fenced has another persisted copy
  pub frame_kept : (l : Line) → (Persists w l → ⊥) → (FencesTo w l → ⊥) → persisted_at m' l ≡ persisted_at m l
  frame_kept l p q = kept_persisted (touched m w) m' f.kept l ∙ touched_kept w l p q

  -- beyond the tables both copies are blank
  put_kept : (i : ℕ) → length m.kept ≡ length m.nodes → get_or (set m.kept i (content_of (node m i))) i no_content ≡ content_of (node m i)
  put_kept i e = by (dec_lt i (length m.kept))
    where
      by : Dec (i < length m.kept) → get_or (set m.kept i (content_of (node m i))) i no_content ≡ content_of (node m i)
      by (yes p) = get_or-set_same m.kept i (content_of (node m i)) no_content p
      by (no p) =
          rw (set_out m.kept i (content_of (node m i)) (omega arith), get_or-eq_default m.kept no_content {n = i} (omega arith), get_or-eq_default m.nodes zero_node {n = i} (omega arith))

  put_kept_head : (k : ℕ) → length m.kept_heads ≡ length m.heads → get_or (set m.kept_heads k (head_at m k)) k 0 ≡ head_at m k
  put_kept_head k e = by (dec_lt k (length m.kept_heads))
    where
      by : Dec (k < length m.kept_heads) → get_or (set m.kept_heads k (head_at m k)) k 0 ≡ head_at m k
      by (yes p) = get_or-set_same m.kept_heads k (head_at m k) 0 p
      by (no p) =
          rw (set_out m.kept_heads k (head_at m k) (omega arith), get_or-eq_default m.kept_heads 0 {n = k} (omega arith), get_or-eq_default m.heads 0 {n = k} (omega arith))

  persist_present : (l : Line) → Even m → persisted_at (persist m l) l ≡ cached_at m l
  persist_present (of_head k) e = ap head_content (put_kept_head k e.1)
  persist_present (of_node i) e = put_kept i e.0

  touched_present : (w : Touch) (l : Line) → Even m → Persists w l → persisted_at (touched m w) l ≡ cached_at m l
  touched_present nothing l e p = absurd p
  touched_present (a_store x) l e p = absurd p
  touched_present (a_persist x) l e p = rw p (persist_present x e)
  touched_present (a_flush k x) l e p = absurd p
  touched_present (a_fence k x) l e p = absurd p

  not_stored : (w : Touch) (l : Line) → Persists w l → StoresTo w l → ⊥
  not_stored nothing l p s = s
  not_stored (a_store x) l p s = p
  not_stored (a_persist x) l p s = s
  not_stored (a_flush k x) l p s = s
  not_stored (a_fence k x) l p s = s

  -- a line that is persisted at once has its present content
  pub frame_present : Even m → (l : Line) → Persists w l → persisted_at m' l ≡ cached_at m' l
  frame_present e l p = kept_persisted (touched m w) m' f.kept l ∙ touched_present w l e p ∙ sym (f.cached l (not_stored w l p))
