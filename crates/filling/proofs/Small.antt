-- In every machine of a run on bytes, items and indices have at most 32 bits.
use Prim.Native.Nat.{ℕ, zero, suc, ◌+◌, ◌-◌, ◌<◌}
use mathlib.Core.Path.{◌≡◌, refl, sym, ap, subst, ◌∙◌}
use mathlib.Core.Bool.{Bool, true, false}
use mathlib.Core.List.{List, [], ◌∷◌, ◌++◌}
use native.Mathlib.Omega.{arith}
use native.Mathlib.Decide.{dec_lt}
use lib.ListN.{length, get_or, set, drop, replicate}
use lib.Seq.{get_or-append-add, get_or-drop}
use lib.Dec.{eqb, leb}
use borrow.Author.Tests.{leb-false}
use Rattle.lists.specs.Find.{pick, both}
use Rattle.lists.specs.Tab.{tab, front}
use Rattle.lists.specs.Word.{has}
use Rattle.lists.proofs.TabLaws as tabs
use Rattle.image.specs.Layout.{no_content, no_contents, content_at, image_shape, no_heads, head_in, heads_of}
use Rattle.image.specs.Recovered.{head_of}
use Rattle.image.proofs.HeadLaws.{head_within}
use Rattle.image.specs.declared.Content.{Content}
use Rattle.image.specs.declared.Image.{Image}
use Rattle.image.specs.Form.{top_of, per_desk, head_lines}
use Rattle.image.specs.declared.Shape.{Shape}
use Rattle.image.proofs.FormLaws.{top_small}
use Rattle.machine.specs.Record.{none, node, thread, kept, head_at, kept_head, flushed, content_of, no_flushed, zero_node, zero_thread, blank_nodes, idle_thread, idle_threads, with_index, at_step, put_node, put_thread, put_free, put_tail, put_head, put_head_node, put_head_at}
use Rattle.machine.specs.Stage.{Stage, no_step, A1, A2, A3, A4, A5, A6, A7, A8, A9, A10, A11, A12, D1, D2, D3, D4, D5, D6, D7, S3, S6, F10, F3, F6, stage}
use Rattle.machine.specs.Line.{shape_of, line_at, own_head, cached_at, over_at, keeping, everyone, persist, persisted}
use Rattle.machine.specs.Flush.{flush, over_after, fence}
use Rattle.machine.specs.declared.Line.{Line}
use Rattle.machine.specs.declared.Line.TheVariants.{OfHead as of_head, OfNode as of_node}
use Rattle.machine.specs.Retire.{left, next_free, hand_out, freed, released, released_at, retired, retired_held, going, answering, storing}
use Rattle.answer.specs.Answers.{WornOut}
use Rattle.machine.specs.Start.{start_with, start_of, start_node, queue_of}
use Rattle.machine.specs.Event.{Deed, unknown, enqueues, dequeues, steps, writes_back, crashes, stepped, done}
use Rattle.machine.specs.declared.Machine.{Machine}
use Rattle.machine.specs.declared.Node.{Node}
use Rattle.machine.specs.declared.Thread.{Thread}
use Rattle.machine.specs.declared.Event.{Event}
use Rattle.machine.specs.declared.Acted.{Acted}

abbrev pub Little : Content → Type 0
Little c = (c.index < 18446744073709551616) × (c.item < 4294967296)

pub record Small (m : Machine) : Type 0 where
  pub cached : (i : ℕ) → Little (content_of (node m i))
  pub saved : (i : ℕ) → Little (kept m i)
  pub mark : (k : ℕ) → head_at m k < 18446744073709551616
  pub saved_mark : (k : ℕ) → kept_head m k < 18446744073709551616
  pub items : (k : ℕ) → (thread m k).item < 4294967296
  pub flushes : (k : ℕ) → Little (flushed m k)

-- ---- lists all of whose elements are so

set_all : {A : Type 0} (P : A → Type 0) (l : List A) (d v : A) → ((i : ℕ) → P (get_or l i d)) → P v → (i j : ℕ) → P (get_or (set l i v) j d)
set_all P [] d v h p i j = h j
set_all P (x ∷ l) d v h p zero zero = p
set_all P (x ∷ l) d v h p zero (suc j) = h (suc j)
set_all P (x ∷ l) d v h p (suc i) zero = h zero
set_all P (x ∷ l) d v h p (suc i) (suc j) = set_all P l d v (λ n. h (suc n)) p i j

same_all : {A : Type 0} (P : A → Type 0) (n : ℕ) (x d : A) → P x → P d → (i : ℕ) → P (get_or (replicate n x) i d)
same_all P zero x d p q i = q
same_all P (suc n) x d p q zero = p
same_all P (suc n) x d p q (suc i) = same_all P n x d p q i

pub front_all : {A : Type 0} (P : A → Type 0) (f : ℕ → A) (n : ℕ) (l : List A) (d : A)
    → ((i : ℕ) → i < n → P (f i)) → ((i : ℕ) → P (get_or l i d)) → (i : ℕ) → P (get_or (front f n l) i d)
unfolding front
front_all P f n l d p q i = by (dec_lt i n)
  where
    by : Dec (i < n) → P (get_or (front f n l) i d)
    by (yes h) = subst P (sym (tabs.front_at f n l i d h)) (p i h)
    by (no h) =
        let e : length (tab f n) + (i - n) ≡ i = omega (arith, tabs.length_tab f n) in
        subst P (sym (get_or-append-add (tab f n) (drop n l) (i - n) d ∙ get_or-drop n l (i - n) d) ∙ ap (λ j. get_or (tab f n ++ drop n l) j d) e) (q (n + (i - n)))

-- ---- one thing replaced

small_node : (m : Machine) → Small m → (i : ℕ) (v : Node) → Little (content_of v) → Small (put_node m i v)
small_node m s i v l = record {
  cached = λ j. set_all (λ n. Little (content_of n)) m.nodes zero_node v s.cached l i j;
  saved = s.saved;
  mark = s.mark;
  saved_mark = s.saved_mark;
  items = s.items;
  flushes = s.flushes;
}

small_thread : (m : Machine) → Small m → (k : ℕ) (v : Thread) → v.item < 4294967296 → Small (put_thread m k v)
small_thread m s k v l = record {
  cached = s.cached;
  saved = s.saved;
  mark = s.mark;
  saved_mark = s.saved_mark;
  items = λ j. set_all (λ t. t.item < 4294967296) m.threads zero_thread v s.items l k j;
  flushes = s.flushes;
}

small_free : (m : Machine) (x : ℕ) → Small m → Small (put_free m x)
small_free m x s = record { cached = s.cached; saved = s.saved; mark = s.mark; saved_mark = s.saved_mark; items = s.items; flushes = s.flushes }

small_given : (m : Machine) (x : ℕ) → Small m → Small (hand_out m x)
small_given m x s = record { cached = s.cached; saved = s.saved; mark = s.mark; saved_mark = s.saved_mark; items = s.items; flushes = s.flushes }

small_tail : (m : Machine) (x : ℕ) → Small m → Small (put_tail m x)
small_tail m x s = record { cached = s.cached; saved = s.saved; mark = s.mark; saved_mark = s.saved_mark; items = s.items; flushes = s.flushes }

small_head : (m : Machine) (h x : ℕ) → Small m → x < 18446744073709551616 → Small (put_head m h x)
small_head m h x s l = record { cached = s.cached; saved = s.saved; mark = set_all (λ y. y < 18446744073709551616) m.heads 0 x s.mark l 0; saved_mark = s.saved_mark; items = s.items; flushes = s.flushes }

small_head_node : (m : Machine) (x : ℕ) → Small m → Small (put_head_node m x)
small_head_node m x s = record { cached = s.cached; saved = s.saved; mark = s.mark; saved_mark = s.saved_mark; items = s.items; flushes = s.flushes }

small_head_at : (m : Machine) (k x : ℕ) → Small m → x < 18446744073709551616 → Small (put_head_at m k x)
small_head_at m k x s l = record { cached = s.cached; saved = s.saved; mark = set_all (λ y. y < 18446744073709551616) m.heads 0 x s.mark l k; saved_mark = s.saved_mark; items = s.items; flushes = s.flushes }

small_cached : (m : Machine) (l : Line) → Small m → Little (cached_at m l)
small_cached m (of_head k) s = (s.mark k, omega arith)
small_cached m (of_node i) s = s.cached i

small_keeping : (m : Machine) (l : Line) (c : Content) (w : ℕ) → Little c → Small m → Small (keeping m l c w)
small_keeping m (of_head k) c w p s = record {
  cached = s.cached;
  saved = s.saved;
  mark = s.mark;
  saved_mark = set_all (λ y. y < 18446744073709551616) m.kept_heads 0 c.index s.saved_mark p.0 k;
  items = s.items;
  flushes = s.flushes;
}
small_keeping m (of_node i) c w p s = record {
  cached = s.cached;
  saved = λ j. set_all Little m.kept no_content c s.saved p i j;
  mark = s.mark;
  saved_mark = s.saved_mark;
  items = s.items;
  flushes = s.flushes;
}

small_persist : (m : Machine) (l : Line) → Small m → Small (persist m l)
small_persist m l s = small_keeping m l (cached_at m l) (everyone m) (small_cached m l s) s

small_flush : (m : Machine) (k : ℕ) (l : Line) → Small m → Small (flush m k l)
small_flush m k (of_head h) s = record {
  cached = s.cached;
  saved = s.saved;
  mark = s.mark;
  saved_mark = s.saved_mark;
  items = s.items;
  flushes = λ j. set_all Little m.flushed no_content (cached_at m (of_head h)) s.flushes (small_cached m (of_head h) s) k j;
}
small_flush m k (of_node i) s = record {
  cached = s.cached;
  saved = s.saved;
  mark = s.mark;
  saved_mark = s.saved_mark;
  items = s.items;
  flushes = λ j. set_all Little m.flushed no_content (content_of (node m i)) s.flushes (s.cached i) k j;
}

small_fence : (m : Machine) (k : ℕ) (l : Line) → Small m → Small (fence m k l)
small_fence m k l s = by (has (over_at m l) k)
  where
    by : (b : Bool) → Small (pick b m (keeping m l (flushed m k) (over_after m k l)))
    by true = s
    by false = small_keeping m l (flushed m k) (over_after m k l) (s.flushes k) s

-- ---- parts of a step

small_released : (m : Machine) (k c : ℕ) → Small m → Small (released m k c)
unfolding released released_at
small_released m k zero s = s
small_released m k (suc c) s =
    let r = small_released m k c s in
    small_free _ _ (small_node (released m k c) r c _ (r.cached c))

small_left : (m : Machine) (k x : ℕ) → Small m → Small (left m k x)
small_left m k x s = small_thread (released m k m.n) (small_released m k m.n s) k (idle_thread x) (omega arith)

small_pick : (t : Bool) (a b : Acted) → Small a.machine → Small b.machine → Small (pick t a b).machine
small_pick true a b p q = p
small_pick false a b p q = q

small_retired : (m : Machine) (k x : ℕ) → Small m → Small (retired m k x)
unfolding retired
small_retired m k x s = small_free _ _ (small_node m s x _ (s.cached x))

small_held : (m : Machine) (k : ℕ) → Small m → Small (retired_held m k)
small_held m k s = by (eqb (thread m k).held none)
  where
    by : (t : Bool) → Small (pick t m (retired m k (thread m k).held))
    by true = s
    by false = small_retired m k (thread m k).held s

small_passed : (m : Machine) (t : Bool) (x : ℕ) → Small m → Small (pick t (put_tail m x) m)
small_passed m true x s = small_tail m x s
small_passed m false x s = s

small_going : (m : Machine) (k p : ℕ) → Small m → Small (going m k p).machine
small_going m k p s = small_thread m s k (at_step (thread m k) p) (s.items k)

-- ---- the steps

-- the largest index is not passed
small_worn : (m : Machine) (k i t : ℕ) → Small m → (x : Bool) → leb (top_of m.form) (node m t).index ≡ x
    → Small (pick x (answering WornOut (freed m i) k) (storing (of_node i) (going (put_node m i (with_index (node m i) ((node m t).index + 1))) k 8))).machine
small_worn m k i t s true e = small_left (freed m i) k (thread m k).held (small_free m _ s)
small_worn m k i t s false e =
    small_going _ k 8 (small_node m s i _ (omega (arith, leb-false (top_of m.form) (node m t).index e, top_small m.form), (s.cached i).1))

module _ (m : Machine) (k : ℕ) (s : Small m) where
  small_step : (g : Stage) → Small (stepped m k g).machine
  small_step no_step = s
  small_step A1 = small_pick (eqb m.free 0) _ _ (small_left m k (thread m k).held s) (small_thread _ (small_given m (next_free m) s) k _ (s.items k))
  small_step A2 = small_going _ k 3 (small_node m s (thread m k).node _ ((s.cached (thread m k).node).0, s.items k))
  small_step A3 = small_going _ k 4 (small_node m s (thread m k).node _ (s.cached (thread m k).node))
  small_step A4 = small_going _ k 5 (small_node m s (thread m k).node _ (s.cached (thread m k).node))
  small_step A5 = small_thread m s k _ (s.items k)
  small_step A6 = small_thread m s k _ (s.items k)
  small_step A7 = small_worn m k (thread m k).node (thread m k).tail s (leb (top_of m.form) (node m (thread m k).tail).index) refl
  small_step A8 =
      small_pick (eqb (node m (thread m k).tail).next none) _ _
      (small_going _ k 9 (small_node m s (thread m k).tail _ (s.cached (thread m k).tail))) (small_going m k 12 s)
  small_step A9 = small_going _ k 10 (small_node m s (thread m k).node _ (s.cached (thread m k).node))
  small_step A10 = small_going _ k 22 (small_flush m k (of_node (thread m k).node) s)
  small_step A11 =
      small_left (pick (eqb m.tail (thread m k).tail) (put_tail m (thread m k).node) m) k _
      (small_passed m (eqb m.tail (thread m k).tail) (thread m k).node s)
  small_step A12 =
      small_going (pick (eqb m.tail (thread m k).tail) (put_tail m (node m (thread m k).tail).next) m) k 5
      (small_passed m (eqb m.tail (thread m k).tail) (node m (thread m k).tail).next s)
  small_step D1 = small_thread m s k _ (s.items k)
  small_step D2 = small_thread m s k _ (s.items k)
  small_step D3 = small_going _ k 23 (small_flush m k (of_head (own_head m k)) s)
  small_step D4 =
      small_pick (both (eqb m.head (thread m k).head) (pick (per_desk m.form) true (eqb (head_at m 0) (thread m k).index))) _ _
      (small_pick (per_desk m.form) _ _ (small_going _ k 17 (small_head_node m (thread m k).next s))
      (small_going _ k 17 (small_head m (thread m k).next _ s (s.cached (thread m k).next).0))) (small_going m k 13 s)
  small_step D5 = small_thread m s k _ (s.cached (thread m k).next).1
  small_step D6 = small_going _ k 24 (small_flush m k (of_head (own_head m k)) s)
  small_step D7 = small_left (retired_held m k) k (thread m k).head (small_held m k s)
  small_step S3 = small_going _ k 15 (small_head_at m k _ s (s.cached (thread m k).head).0)
  small_step S6 = small_going _ k 18 (small_head_at m k _ s (s.cached (thread m k).next).0)
  small_step F10 = small_going (fence m k (of_node (thread m k).node)) k 11 (small_fence m k (of_node (thread m k).node) s)
  small_step F3 = small_left (fence m k (of_head (own_head m k))) k _ (small_fence m k (of_head (own_head m k)) s)
  small_step F6 = small_going (fence m k (of_head (own_head m k))) k 19 (small_fence m k (of_head (own_head m k)) s)

-- ---- starts and events

start_content : (g : Image) (d : ℕ) (q : List ℕ) → ((i : ℕ) → Little (content_at g.nodes i)) → head_of g < 18446744073709551616
    → (i : ℕ) → Little (content_of (start_node g d q i))
start_content g d q h l i = (by (eqb i d), (h i).1)
  where
    by : (t : Bool) → pick t (head_of g) (content_at g.nodes i).index < 18446744073709551616
    by true = l
    by false = (h i).0

pub no_content_lem : (i : ℕ) → Little (content_at no_contents i)
unfolding no_contents
no_content_lem i = same_all Little 64 no_content no_content (omega arith, omega arith) (omega arith, omega arith) i

pub heads_small : (z : Shape) (x : ℕ → ℕ) → ((k : ℕ) → x k < 18446744073709551616) → (k : ℕ) → get_or (heads_of z x) k 0 < 18446744073709551616
unfolding heads_of no_heads
heads_small z x h = front_all (λ y. y < 18446744073709551616) x (head_lines z) no_heads 0 (λ j p. h j) (same_all (λ y. y < 18446744073709551616) 8 0 0 (omega arith) (omega arith))

pub small_start : (g : Image) (t : ℕ) → ((i : ℕ) → Little (content_at g.nodes i)) → ((k : ℕ) → head_in g k < 18446744073709551616) → Small (start_of g t)
unfolding start_with blank_nodes idle_threads no_flushed
small_start g t h l = record {
  cached = λ i. front_all (λ n. Little (content_of n)) (start_node g _ (queue_of g)) g.n blank_nodes zero_node (λ j p. start_content g _ (queue_of g) h (omega (arith, head_within g 18446744073709551615 (λ k q. omega (arith, l k)))) j)
      (λ j. same_all (λ n. Little (content_of n)) 64 _ zero_node (omega arith, omega arith) (omega arith, omega arith) j) i;
  saved = λ i. front_all Little (content_at g.nodes) g.n no_contents no_content (λ j p. h j) no_content_lem i;
  mark = heads_small (image_shape g) (head_in g) l;
  saved_mark = heads_small (image_shape g) (head_in g) l;
  items = λ i. same_all (λ t. t.item < 4294967296) 8 (idle_thread 255) zero_thread (omega arith) (omega arith) i;
  flushes = λ i. same_all Little 8 no_content no_content (omega arith, omega arith) (omega arith, omega arith) i;
}

pub small_done : (m : Machine) (e : Event) (d : Deed) → e.item < 4294967296 → Small m → Small (done m e d).machine
small_done m e unknown l s = s
small_done m e enqueues l s = small_thread m s e.number _ l
small_done m e dequeues l s = small_thread m s e.number _ (omega arith)
small_done m e steps l s = small_step m e.number s (stage m e.number)
small_done m e writes_back l s = small_persist m (line_at (shape_of m) e.number) s
small_done m e crashes l s = small_start (persisted m) m.t s.saved s.saved_mark
