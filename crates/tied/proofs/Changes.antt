-- Single changes of the record and of the core, side by side: they show the same again.
use mathlib.Core.Path.{◌≡◌, refl, sym, ap, subst, ◌∙◌}
use mathlib.Core.Bool.{Bool, true, false}
use mathlib.Core.List.{List}
use mathlib.Core.Logic.{◌≢◌, inl, inr}
use mathlib.Core.Option.{Option, none, some}
use Prim.Native.Nat.{ℕ, zero, suc, ◌^◌, ◌≤◌, ◌<◌}
use native.Mathlib.Omega.{arith}
use native.Mathlib.Decide.{ℕ_discrete, dec_lt}
use lib.Dec.{eqb}
use lib.ListN.{length, get_or, set, length-set}
use lib.Seq.{get_or-set_same, get_or-set_other, set_out}
use lib.Pow.{pow_mono}
use Rattle.lists.specs.Find.{pick}
use Rattle.lists.proofs.TabLaws as tabs
use Rattle.lists.proofs.WordLaws.{word_of_lt}
use Rattle.image.specs.Layout.{no_content}
use Rattle.lists.specs.Word.{has, with, without}
use Rattle.image.specs.declared.Content.{Content}
use Rattle.tied.specs.Memory as memory
use Rattle.image.specs.Form.{top_of, per_desk, head_lines}
use Rattle.machine.specs.Record.{node, thread, content_of, with_next, put_node, put_tail, put_head, put_head_node, put_head_at, put_free, put_thread, head_at, flushed, late, over_head, over_node}
use Rattle.machine.specs.Line.{put_line, cached_at, keeping, everyone, persist, head_content, shape_of}
use Rattle.machine.specs.Flush.{late_after, flush, over_after}
use Rattle.machine.proofs.FlushLaws.{everyone_fits}
use Rattle.moments.proofs.Flushes.{held}
use Rattle.image.proofs.HeadLaws.{lines_few}
use Rattle.machine.proofs.LineLaws as lines
use Rattle.machine.proofs.LineLaws.{LineIn}
use Rattle.machine.specs.declared.Machine.{Machine}
use Rattle.machine.specs.declared.Node.{Node}
use Rattle.machine.specs.declared.Thread.{Thread}
use Rattle.model.specs.Basics.{upd}
use Rattle.model.specs.Core as core
use Rattle.model.specs.Core.{Core, Th}
use Rattle.model.specs.Conf.{line_ix}
use Rattle.model.specs.Changes.{set_th, set_next, store, set_head, set_tail, set_free, set_mark}
use Rattle.model.proofs.Basics.{upd_at, upd_same, upd_other, upd_ind, eq_no}
use Rattle.tied.specs.Shown.{shown_content, link_if, link_of, members, shown_thread, engine_if, conf_of}
use Rattle.tied.proofs.Words.{has_with, has_without, with_fits, without_fits}
use Rattle.tied.proofs.Engines.{lines_shared, same_form}
use Rattle.tied.proofs.Relation.{Link, NodeAt, NodesT, put_nodes, FreeT, Regs, ThreadAt, ThreadsT, put_threads, KeptT, put_kepts, FlushesT, Sizes, Tied}

pub some_link : (n x : ℕ) → n ≤ 64 → x < n → link_of x ≡ some x
some_link n x h l = rw (eq_no x 255 (λ e. omega arith)) refl

-- ---- the free set

pub with_t : (n w : ℕ) (f : ℕ → Bool) → FreeT n w f → (i : ℕ) → i < n → FreeT n (with w i) (upd f i true)
with_t n w f r i h = record { bits = λ j l. by j l (ℕ_discrete j i); fits = with_fits n w i h r.fits }
  where
    by : (j : ℕ) → j < n → Dec (j ≡ i) → upd f i true j ≡ has (with w i) j
    by j l (yes e) = upd_at f i true e ∙ sym (has_with w i j ∙ upd_at (has w) i true e)
    by j l (no ne) = upd_other f i true ne ∙ r.bits j l ∙ sym (has_with w i j ∙ upd_other (has w) i true ne)

pub without_t : (n w : ℕ) (f : ℕ → Bool) → FreeT n w f → (i : ℕ) → FreeT n (without w i) (upd f i false)
without_t n w f r i = record { bits = λ j l. by j l (ℕ_discrete j i); fits = without_fits n w i r.fits }
  where
    by : (j : ℕ) → j < n → Dec (j ≡ i) → upd f i false j ≡ has (without w i) j
    by j l (yes e) = upd_at f i false e ∙ sym (has_without w i j ∙ upd_at (has w) i false e)
    by j l (no ne) = upd_other f i false ne ∙ r.bits j l ∙ sym (has_without w i j ∙ upd_other (has w) i false ne)

-- ---- a table with one element replaced

set_ind : {A : Type 0} (P : A → Type 0) (l : List A) (k : ℕ) (v d : A) (u : ℕ) → P v → P (get_or l u d) → P (get_or (set l k v) u d)
set_ind P l k v d u a b = by (ℕ_discrete u k) (dec_lt k (length l))
  where
    by : Dec (u ≡ k) → Dec (k < length l) → P (get_or (set l k v) u d)
    by (yes e) (yes h) = subst P (sym (ap (λ u. get_or (set l k v) u d) e ∙ get_or-set_same l k v d h)) a
    by (yes e) (no h) = subst (λ x. P (get_or x u d)) (sym (set_out l k v (omega arith))) b
    by (no ne) h = subst P (sym (get_or-set_other l k u v d ne)) b

-- ---- the changes

module _ (p : memory.Line → Content) (m : Machine) (c : Core) (d : Tied p m c) where
  -- a thread moves on
  pub move_t : (k : ℕ) → k < m.t → (v : Thread) (s : Th) → ThreadAt m.form m.n v s (c.held k) → Tied p (put_thread m k v) (set_th c k s)
  move_t k h v s a = record {
    conf = d.conf;
    last = d.last;
    sizes = d.sizes;
    hnode = d.hnode;
    heads = d.heads;
    narrow = d.narrow;
    eight = d.eight;
    flushes = d.flushes;
    tail = d.tail;
    nodes = d.nodes;
    free = d.free;
    kept = d.kept;
    threads = put_threads m.form m.n m.t m.threads c.thr c.held d.threads d.sizes.threads_hi k h v (upd c.thr k s) c.held
        (subst (λ s. ThreadAt m.form m.n v s (c.held k)) (sym (upd_same c.thr k s)) a) (λ j ne. upd_other c.thr k s ne) (λ j ne. refl);
  }

  -- a node's content
  pub store_t : (i : ℕ) → i < m.n → (v : Node) (a : core.Node) → a ≡ shown_content (content_of v) → v.next ≡ (node m i).next → v.waits ≡ (node m i).waits → v.linked ≤ 1 → v.index ≤ top_of m.form
      → Tied p (put_node m i v) (store c i a)
  store_t i h v a e en ew fl nr = record {
    conf = d.conf;
    last = d.last;
    sizes = d.sizes;
    hnode = d.hnode;
    heads = d.heads;
    narrow = d.narrow;
    eight = d.eight;
    flushes = d.flushes;
    tail = d.tail;
    free = d.free;
    threads = d.threads;
    kept = d.kept;
    nodes = put_nodes (top_of m.form) m.n m.t m.nodes c.node c.next c.wait d.nodes d.sizes.nodes_hi i h v (upd c.node i a) c.next c.wait
        (record {
          content = upd_same c.node i a ∙ e;
          link = (d.nodes.at i h).link ∙ ap link_of (sym en);
          waits = (d.nodes.at i h).waits ∙ ap (members m.t) (sym ew);
          flag = fl;
          reach = subst (Link m.n) (sym en) (d.nodes.at i h).reach;
          few = rw (ew) (d.nodes.at i h).few;
          narrow = nr;
        }) (λ j ne. upd_other c.node i a ne) (λ j ne. refl) (λ j ne. refl);
  }

  -- a node's link
  pub link_t : (i : ℕ) → i < m.n → (x : ℕ) (o : Option ℕ) → o ≡ link_of x → Link m.n x → Tied p (put_node m i (with_next (node m i) x)) (set_next c i o)
  link_t i h x o e l = record {
    conf = d.conf;
    last = d.last;
    sizes = d.sizes;
    hnode = d.hnode;
    heads = d.heads;
    narrow = d.narrow;
    eight = d.eight;
    flushes = d.flushes;
    tail = d.tail;
    free = d.free;
    threads = d.threads;
    kept = d.kept;
    nodes = put_nodes (top_of m.form) m.n m.t m.nodes c.node c.next c.wait d.nodes d.sizes.nodes_hi i h (with_next (node m i) x) c.node (upd c.next i o) c.wait
        (record {
          content = (d.nodes.at i h).content;
          link = upd_same c.next i o ∙ e;
          waits = (d.nodes.at i h).waits;
          flag = (d.nodes.at i h).flag;
          reach = l;
          few = (d.nodes.at i h).few;
          narrow = (d.nodes.at i h).narrow;
        }) (λ j ne. refl) (λ j ne. upd_other c.next i o ne) (λ j ne. refl);
  }

  pub tail_t : (x y : ℕ) → y ≡ x → Tied p (put_tail m x) (set_tail c y)
  tail_t x y e = record {
    conf = d.conf;
    last = d.last;
    sizes = d.sizes;
    hnode = d.hnode;
    heads = d.heads;
    narrow = d.narrow;
    eight = d.eight;
    flushes = d.flushes;
    tail = e;
    nodes = d.nodes;
    free = d.free;
    threads = d.threads;
    kept = d.kept;
  }

  -- there are places for eight head lines
  pub few_lines : head_lines (shape_of m) ≤ 8
  few_lines = lines_few (shape_of m) d.sizes.threads_hi

  -- what the head lines show, by the engine
  abbrev Shows : Bool → ℕ → (ℕ → ℕ) → List ℕ → Type 0
  Shows b i f l = (k : ℕ) → k < head_lines (shape_of m) → line_ix (engine_if b) i f k ≡ get_or l k 0

  -- Head with its index, where it has one
  pub head_t : per_desk m.form ≡ false → (x y : ℕ) (i j : ℕ) → y ≡ x → j ≡ i → i ≤ top_of m.form → Tied p (put_head m x i) (set_head c y j)
  head_t one x y i j e f nr = record {
    conf = d.conf;
    last = d.last;
    sizes = d.sizes;
    hnode = e;
    heads = subst (λ b. Shows b j c.marks (set m.heads 0 i)) (sym one) shows;
    narrow = λ k h. subst (λ y. y ≤ top_of m.form) (sym (at k h)) nr;
    eight = length-set m.heads 0 i ∙ d.eight;
    flushes = d.flushes;
    tail = d.tail;
    nodes = d.nodes;
    free = d.free;
    threads = d.threads;
    kept = d.kept;
  }
    where
      first : (k : ℕ) → k < head_lines (shape_of m) → k ≡ 0
      first k h = omega (arith, lines_shared (shape_of m) d.sizes.form one)

      at : (k : ℕ) → k < head_lines (shape_of m) → get_or (set m.heads 0 i) k 0 ≡ i
      at k h = ap (λ k. get_or (set m.heads 0 i) k 0) (first k h) ∙ get_or-set_same m.heads 0 i 0 (omega (arith, d.eight))

      shows : Shows false j c.marks (set m.heads 0 i)
      shows zero h = f ∙ sym (at 0 h)
      shows (suc k) h = absurd (omega (arith, first (suc k) h))

  -- Head as a node number alone
  pub head_node_t : per_desk m.form ≡ true → (x y : ℕ) (j : ℕ) → y ≡ x → Tied p (put_head_node m x) (set_head c y j)
  head_node_t each x y j e = record {
    conf = d.conf;
    last = d.last;
    sizes = d.sizes;
    hnode = e;
    heads = subst (λ b. Shows b j c.marks m.heads) (sym each) (λ k h. subst (λ b. Shows b c.hidx c.marks m.heads) each d.heads k h);
    narrow = d.narrow;
    eight = d.eight;
    flushes = d.flushes;
    tail = d.tail;
    nodes = d.nodes;
    free = d.free;
    threads = d.threads;
    kept = d.kept;
  }

  -- a thread stores an index in its line
  pub mark_t : per_desk m.form ≡ true → (k : ℕ) → k < m.t → (i j : ℕ) → j ≡ i → i ≤ top_of m.form → Tied p (put_head_at m k i) (set_mark c k j)
  mark_t each k hk i j f nr = record {
    conf = d.conf;
    last = d.last;
    sizes = d.sizes;
    hnode = d.hnode;
    heads = subst (λ b. Shows b c.hidx (upd c.marks k j) (set m.heads k i)) (sym each) (λ u h. shows u h (ℕ_discrete u k));
    narrow = λ u h. low u h (ℕ_discrete u k);
    eight = length-set m.heads k i ∙ d.eight;
    flushes = d.flushes;
    tail = d.tail;
    nodes = d.nodes;
    free = d.free;
    threads = d.threads;
    kept = d.kept;
  }
    where
      stored : (u : ℕ) → u ≡ k → get_or (set m.heads k i) u 0 ≡ i
      stored u e = ap (λ u. get_or (set m.heads k i) u 0) e ∙ get_or-set_same m.heads k i 0 (omega (arith, d.eight, d.sizes.threads_hi))

      shows : (u : ℕ) → u < head_lines (shape_of m) → Dec (u ≡ k) → upd c.marks k j u ≡ get_or (set m.heads k i) u 0
      shows u h (yes e) = upd_at c.marks k j e ∙ f ∙ sym (stored u e)
      shows u h (no ne) = upd_other c.marks k j ne ∙ subst (λ b. Shows b c.hidx c.marks m.heads) each d.heads u h ∙ sym (get_or-set_other m.heads k u i 0 ne)

      low : (u : ℕ) → u < head_lines (shape_of m) → Dec (u ≡ k) → get_or (set m.heads k i) u 0 ≤ top_of m.form
      low u h (yes e) = subst (λ y. y ≤ top_of m.form) (sym (stored u e)) nr
      low u h (no ne) = subst (λ y. y ≤ top_of m.form) (sym (get_or-set_other m.heads k u i 0 ne)) (d.narrow u h)

  -- the free set, and what waits: the same below N
  pub free_t : (w : ℕ) (f : ℕ → Bool) → FreeT m.n w f → Tied p (put_free m w) (set_free c f c.wait)
  free_t w f r = record {
    conf = d.conf;
    last = d.last;
    sizes = d.sizes;
    hnode = d.hnode;
    heads = d.heads;
    narrow = d.narrow;
    eight = d.eight;
    flushes = d.flushes;
    tail = d.tail;
    nodes = d.nodes;
    free = r;
    threads = d.threads;
    kept = d.kept;
  }

  pub same_t : (f : ℕ → Bool) (w : ℕ → List ℕ) → ((j : ℕ) → j < m.n → f j ≡ c.free j) → ((j : ℕ) → j < m.n → w j ≡ c.wait j) → Tied p m (set_free c f w)
  same_t f w ef ew = record {
    conf = d.conf;
    last = d.last;
    sizes = d.sizes;
    hnode = d.hnode;
    heads = d.heads;
    narrow = d.narrow;
    eight = d.eight;
    flushes = d.flushes;
    tail = d.tail;
    nodes = record { size = d.nodes.size; at = λ j h. subst (NodeAt (top_of m.form) m.n m.t (node m j) (c.node j) (c.next j)) (sym (ew j h)) (d.nodes.at j h) };
    free = record { bits = λ j h. ef j h ∙ d.free.bits j h; fits = d.free.fits };
    threads = d.threads;
    kept = d.kept;
  }

  -- what is cached in a line that there is
  pub small_cached : (l : memory.Line) → LineIn (shape_of m) l → ((cached_at m l).linked ≤ 1) × ((cached_at m l).index ≤ top_of m.form)
  small_cached (memory.of_head k) h = (omega arith, d.narrow k h)
  small_cached (memory.of_node i) h = ((d.nodes.at i h).flag, (d.nodes.at i h).narrow)

  -- a line's persisted copy becomes v, and w are the threads over it
  pub keep_t : (l : memory.Line) → LineIn (shape_of m) l → (v : Content) → v.linked ≤ 1 → v.index ≤ top_of m.form → (w : ℕ) → w < 2 ^ m.t → Tied (put_line p l (held l v)) (keeping m l v w) c
  keep_t (memory.of_head k) h v fl nr w hw = record {
    conf = d.conf;
    last = d.last;
    sizes = d.sizes;
    hnode = d.hnode;
    heads = d.heads;
    narrow = d.narrow;
    eight = d.eight;
    tail = d.tail;
    nodes = d.nodes;
    free = d.free;
    threads = d.threads;
    flushes = record {
      flag = d.flushes.flag;
      narrow = d.flushes.narrow;
      late = d.flushes.late;
      heads = λ u hu. set_ind (λ x. x < 2 ^ m.t) m.over_heads k w 0 u hw (d.flushes.heads u hu);
      nodes = d.flushes.nodes;
    };
    kept = record {
      size = d.kept.size;
      heads = length-set m.kept_heads k v.index ∙ d.kept.heads;
      head = λ u hu. one u hu (ℕ_discrete u k);
      at = λ i l. other i ∙ d.kept.at i l;
      flag = λ i l. subst (λ y. y.linked ≤ 1) (sym (other i)) (d.kept.flag i l);
      narrow_head = λ u hu. lines.put_ind p (memory.of_head k) (head_content v.index) (λ k c. c.index ≤ top_of m.form) (memory.of_head u) nr (λ ne. d.kept.narrow_head u hu);
      narrow = λ i l. subst (λ y. y.index ≤ top_of m.form) (sym (other i)) (d.kept.narrow i l);
    };
  }
    where
      other : (i : ℕ) → put_line p (memory.of_head k) (head_content v.index) (memory.of_node i) ≡ p (memory.of_node i)
      other i = lines.put_other p (memory.of_head k) (head_content v.index) (memory.of_node i) (λ e. lines.head_not_node k i (sym e))

      one : (u : ℕ) → u < head_lines (shape_of m) → Dec (u ≡ k)
          → put_line p (memory.of_head k) (head_content v.index) (memory.of_head u) ≡ head_content (get_or (set m.kept_heads k v.index) u 0)
      one u hu (yes e) = lines.put_at p (memory.of_head k) (head_content v.index) (memory.of_head u) (ap memory.of_head e)
          ∙ ap head_content (sym (ap (λ u. get_or (set m.kept_heads k v.index) u 0) e
          ∙ get_or-set_same m.kept_heads k v.index 0 (omega (arith, d.kept.heads, few_lines))))
      one u hu (no ne) = lines.put_other p (memory.of_head k) (head_content v.index) (memory.of_head u) (λ q. ne (let w : u ≡ k = cc in w))
          ∙ d.kept.head u hu ∙ ap head_content (sym (get_or-set_other m.kept_heads k u v.index 0 ne))
  keep_t (memory.of_node i) h v fl nr w hw = record {
    conf = d.conf;
    last = d.last;
    sizes = d.sizes;
    hnode = d.hnode;
    heads = d.heads;
    narrow = d.narrow;
    eight = d.eight;
    tail = d.tail;
    nodes = d.nodes;
    free = d.free;
    threads = d.threads;
    flushes = record {
      flag = d.flushes.flag;
      narrow = d.flushes.narrow;
      late = d.flushes.late;
      heads = d.flushes.heads;
      nodes = λ u hu. set_ind (λ x. x < 2 ^ m.t) m.over i w 0 u hw (d.flushes.nodes u hu);
    };
    kept = put_kepts (top_of m.form) (head_lines (shape_of m)) m.n p m.kept_heads m.kept d.kept d.sizes.nodes_hi i h v fl nr;
  }

  -- a line is persisted at once
  pub persist_t : (l : memory.Line) → LineIn (shape_of m) l → Tied (put_line p l (cached_at m l)) (persist m l) c
  persist_t (memory.of_head k) h = let s = small_cached (memory.of_head k) h in keep_t (memory.of_head k) h (cached_at m (memory.of_head k)) s.0 s.1 (everyone m) (everyone_fits m)
  persist_t (memory.of_node i) h = let s = small_cached (memory.of_node i) h in keep_t (memory.of_node i) h (cached_at m (memory.of_node i)) s.0 s.1 (everyone m) (everyone_fits m)

  -- a fence that counts
  pub fence_t : (k : ℕ) → k < m.t → (l : memory.Line) → LineIn (shape_of m) l → Tied (put_line p l (held l (flushed m k))) (keeping m l (flushed m k) (over_after m k l)) c
  unfolding over_after
  fence_t k hk l h = keep_t l h (flushed m k) (d.flushes.flag k hk) (d.flushes.narrow k hk) (over_after m k l) (word_of_lt _ m.t)

  -- a flush: what the record knows of flushes alone
  after_flush : (k : ℕ) → k < m.t → (v : Content) → v.linked ≤ 1 → v.index ≤ top_of m.form → (h o : List ℕ)
      → ((u : ℕ) → u < head_lines (shape_of m) → get_or h u 0 < 2 ^ m.t) → ((i : ℕ) → i < m.n → get_or o i 0 < 2 ^ m.t)
      → FlushesT (top_of m.form) (head_lines (shape_of m)) m.n m.t (set m.flushed k v) (late_after m k) h o
  unfolding late_after
  after_flush k hk v fl nr h o hh ho = record {
    flag = λ u hu. set_ind (λ (x : Content). x.linked ≤ 1) m.flushed k v no_content u fl (d.flushes.flag u hu);
    narrow = λ u hu. set_ind (λ (x : Content). x.index ≤ top_of m.form) m.flushed k v no_content u nr (d.flushes.narrow u hu);
    late = λ u hu. subst (λ x. x < 2 ^ m.t) (sym (tabs.front_at (λ u. pick (eqb u k) 0 (with (late m u) k)) m.t m.late u 0 hu)) (low u hu (eqb u k));
    heads = hh;
    nodes = ho;
  }
    where
      low : (u : ℕ) → u < m.t → (b : Bool) → pick b 0 (with (late m u) k) < 2 ^ m.t
      low u hu true = pow_mono {i = 0} {j = m.t} (omega arith)
      low u hu false = with_fits m.t (late m u) k hk (d.flushes.late u hu)

  pub flush_t : (k : ℕ) → k < m.t → (l : memory.Line) → LineIn (shape_of m) l → Tied p (flush m k l) c
  flush_t k hk (memory.of_head j) h = let s = small_cached (memory.of_head j) h in record {
    conf = d.conf;
    last = d.last;
    sizes = d.sizes;
    hnode = d.hnode;
    heads = d.heads;
    narrow = d.narrow;
    eight = d.eight;
    tail = d.tail;
    nodes = d.nodes;
    free = d.free;
    threads = d.threads;
    kept = d.kept;
    flushes = after_flush k hk (cached_at m (memory.of_head j)) s.0 s.1 _ m.over
        (λ u hu. set_ind (λ x. x < 2 ^ m.t) m.over_heads j (without (over_head m j) k) 0 u (without_fits m.t (over_head m j) k (d.flushes.heads j h)) (d.flushes.heads u hu)) d.flushes.nodes;
  }
  flush_t k hk (memory.of_node i) h = let s = small_cached (memory.of_node i) h in record {
    conf = d.conf;
    last = d.last;
    sizes = d.sizes;
    hnode = d.hnode;
    heads = d.heads;
    narrow = d.narrow;
    eight = d.eight;
    tail = d.tail;
    nodes = d.nodes;
    free = d.free;
    threads = d.threads;
    kept = d.kept;
    flushes = after_flush k hk (cached_at m (memory.of_node i)) s.0 s.1 m.over_heads _ d.flushes.heads
        (λ u hu. set_ind (λ x. x < 2 ^ m.t) m.over i (without (over_node m i) k) 0 u (without_fits m.t (over_node m i) k (d.flushes.nodes i h)) (d.flushes.nodes u hu));
  }

  -- the shape
  pub count_n : c.conf.nodes ≡ m.n
  count_n = ap (λ z. z.nodes) d.conf

  pub count_t : c.conf.threads ≡ m.t
  count_t = ap (λ z. z.threads) d.conf

-- records that are tied to cores of one shape have one shape
pub same_shape : (p q : memory.Line → Content) (m u : Machine) (c e : Core) → Tied p m c → Tied q u e → e.conf ≡ c.conf → shape_of u ≡ shape_of m
same_shape p q m u c e d k h =
    let f = same_form u.form m.form u.n m.n u.t m.t k.sizes.form d.sizes.form (sym k.conf ∙ h ∙ d.conf) in
    let n : u.n ≡ m.n = sym (count_n q u e k) ∙ ap (λ z. z.nodes) h ∙ count_n p m c d in
    let t : u.t ≡ m.t = sym (count_t q u e k) ∙ ap (λ z. z.threads) h ∙ count_t p m c d in
    rw (f, n, t)
