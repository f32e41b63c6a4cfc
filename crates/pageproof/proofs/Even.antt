-- In every machine of a run there are as many persisted copies as nodes: each node's line has one.
use Prim.Native.Nat.{ℕ, ◌+◌, ◌-◌}
use mathlib.Core.Path.{◌≡◌, refl, sym, ap, ◌∙◌}
use mathlib.Core.Bool.{Bool, true, false}
use mathlib.Core.List.{List}
use lib.ListN.{length, length-map, length-set, length-replicate}
use lib.Dec.{eqb, leb}
use Rattle.lists.specs.Find.{pick, both}
use Rattle.lists.specs.Word.{has}
use Rattle.lists.proofs.TabLaws as tabs
use Rattle.image.specs.declared.Content.{Content}
use Rattle.image.specs.declared.Image.{Image}
use Rattle.image.specs.Layout.{no_content, no_contents}
use Rattle.image.specs.Form.{top_of, per_desk}
use Rattle.machine.specs.Record.{none, node, thread, head_at, content_of, flushed, blank_node, blank_nodes, put_tail, put_head_at, put_node}
use Rattle.machine.specs.Stage.{Stage, no_step, A1, A2, A3, A4, A5, A6, A7, A8, A9, A10, A11, A12, D1, D2, D3, D4, D5, D6, D7, S3, S6, F10, F3, F6, stage}
use Rattle.machine.specs.Line.{shape_of, line_at, own_head, cached_at, over_at, keeping, everyone, persist}
use Rattle.machine.specs.Flush.{flush, over_after, fence}
use Rattle.machine.specs.declared.Line.{Line}
use Rattle.machine.specs.declared.Line.TheVariants.{OfHead as of_head, OfNode as of_node}
use Rattle.machine.specs.Retire.{left, freed, released, retired, retired_held}
use Rattle.machine.specs.Start.{start_with, start_of, queue_of}
use Rattle.machine.specs.Event.{Deed, unknown, enqueues, dequeues, steps, writes_back, crashes, stepped, done}
use Rattle.machine.specs.declared.Machine.{Machine}
use Rattle.machine.specs.declared.Node.{Node}
use Rattle.machine.specs.declared.Event.{Event}
use Rattle.machine.specs.declared.Acted.{Acted}
use Rattle.moments.specs.Frame.{Even, Keeps}
use Rattle.moments.proofs.Frame as frame

-- ---- parts of a step

-- the same contents
even_same : (m m' : Machine) → frame.Same m m' → Even m → Even m'
even_same m m' s e = (
  ap (λ (k : Keeps). length k.nodes) s.kept ∙ e.0 ∙ sym (length-map m.nodes content_of) ∙ ap length (sym s.nodes) ∙ length-map m'.nodes content_of,
  ap (λ (k : Keeps). length k.heads) s.kept ∙ e.1 ∙ ap length (sym s.index),
)

even_left : (m : Machine) (k x : ℕ) → Even m → Even (left m k x)
even_left m k x e = even_same m (released m k m.n) (frame.same_released m k m.n) e

even_set : (m : Machine) (i : ℕ) (v : Node) → Even m → Even (put_node m i v)
even_set m i v e = (e.0 ∙ sym (length-set m.nodes i v), e.1)

even_head : (m : Machine) (k x : ℕ) → Even m → Even (put_head_at m k x)
even_head m k x e = (e.0, e.1 ∙ sym (length-set m.heads k x))

even_pick : (t : Bool) (a b : Acted) → Even a.machine → Even b.machine → Even (pick t a b).machine
even_pick true a b p q = p
even_pick false a b p q = q

even_keeping : (m : Machine) (l : Line) (c : Content) (w : ℕ) → Even m → Even (keeping m l c w)
even_keeping m (of_head k) c w e = (e.0, length-set m.kept_heads k c.index ∙ e.1)
even_keeping m (of_node i) c w e = (length-set m.kept i c ∙ e.0, e.1)

even_persist : (m : Machine) (l : Line) → Even m → Even (persist m l)
even_persist m l e = even_keeping m l (cached_at m l) (everyone m) e

even_flush : (m : Machine) (k : ℕ) (l : Line) → Even m → Even (flush m k l)
even_flush m k (of_head j) e = e
even_flush m k (of_node i) e = e

even_fence : (m : Machine) (k : ℕ) (l : Line) → Even m → Even (fence m k l)
even_fence m k l e = by (has (over_at m l) k)
  where
    by : (t : Bool) → Even (pick t m (keeping m l (flushed m k) (over_after m k l)))
    by true = e
    by false = even_keeping m l (flushed m k) (over_after m k l) e

even_held : (m : Machine) (k : ℕ) → Even m → Even (retired_held m k)
even_held m k e = by (eqb (thread m k).held none)
  where
    by : (t : Bool) → Even (pick t m (retired m k (thread m k).held))
    by true = e
    by false = even_same m (retired m k (thread m k).held) (frame.same_retired m k (thread m k).held) e

even_tail : (m : Machine) (t : Bool) (x : ℕ) → Even m → Even (pick t (put_tail m x) m)
even_tail m true x e = e
even_tail m false x e = e

-- ---- the steps

module _ (m : Machine) (k : ℕ) (e : Even m) where
  even_step : (s : Stage) → Even (stepped m k s).machine
  even_step no_step = e
  even_step A1 = even_pick (eqb m.free 0) _ _ (even_left m k (thread m k).held e) e
  even_step A2 = even_set m (thread m k).node _ e
  even_step A3 = even_set m (thread m k).node _ e
  even_step A4 = even_set m (thread m k).node _ e
  even_step A5 = e
  even_step A6 = e
  even_step A7 =
      even_pick (leb (top_of m.form) (node m (thread m k).tail).index) _ _ (even_left (freed m (thread m k).node) k (thread m k).held e)
      (even_set m (thread m k).node _ e)
  even_step A8 = even_pick (eqb (node m (thread m k).tail).next none) _ _ (even_set m (thread m k).tail _ e) e
  even_step A9 = even_set m (thread m k).node _ e
  even_step A10 = even_flush m k (of_node (thread m k).node) e
  even_step A11 =
      even_left (pick (eqb m.tail (thread m k).tail) (put_tail m (thread m k).node) m) k
      (thread (pick (eqb m.tail (thread m k).tail) (put_tail m (thread m k).node) m) k).held
      (even_tail m (eqb m.tail (thread m k).tail) (thread m k).node e)
  even_step A12 = even_tail m (eqb m.tail (thread m k).tail) (node m (thread m k).tail).next e
  even_step D1 = e
  even_step D2 = e
  even_step D3 = even_flush m k (of_head (own_head m k)) e
  even_step D4 =
      even_pick (both (eqb m.head (thread m k).head) (pick (per_desk m.form) true (eqb (head_at m 0) (thread m k).index))) _ _
      (even_pick (per_desk m.form) _ _ e (even_head m 0 _ e)) e
  even_step D5 = e
  even_step D6 = even_flush m k (of_head (own_head m k)) e
  even_step D7 = even_left (retired_held m k) k (thread m k).head (even_held m k e)
  even_step S3 = even_head m k _ e
  even_step S6 = even_head m k _ e
  even_step F10 = even_fence m k (of_node (thread m k).node) e
  even_step F3 =
      let x = fence m k (of_head (own_head m k)) in
      even_left x k (thread x k).held (even_fence m k (of_head (own_head m k)) e)
  even_step F6 = even_fence m k (of_head (own_head m k)) e

-- ---- starts and events

blank_length : length blank_nodes ≡ 64
unfolding blank_nodes
blank_length = length-replicate 64 blank_node

contents_length : length no_contents ≡ 64
unfolding no_contents
contents_length = length-replicate 64 no_content

even_with : (g : Image) (t d : ℕ) (q : List ℕ) → Even (start_with g t d q)
unfolding start_with
even_with g t d q = (
  tabs.front_length _ g.n no_contents ∙ ap (λ (x : ℕ). g.n + (x - g.n)) (contents_length ∙ sym blank_length) ∙ sym (tabs.front_length _ g.n blank_nodes),
  refl,
)

pub even_start : (g : Image) (t : ℕ) → Even (start_of g t)
even_start g t = even_with g t _ (queue_of g)

pub even_done : (m : Machine) (e : Event) (d : Deed) → Even m → Even (done m e d).machine
even_done m e unknown h = h
even_done m e enqueues h = h
even_done m e dequeues h = h
even_done m e steps h = even_step m e.number h (stage m e.number)
even_done m e writes_back h = even_persist m (line_at (shape_of m) e.number) h
even_done m e crashes h = even_start _ m.t
