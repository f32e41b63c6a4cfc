-- A record and an abstract core that show the same; and what the record's numbers keep to by themselves.
use mathlib.Core.Path.{◌≡◌, refl, sym, ap, subst, ◌∙◌}
use mathlib.Core.Bool.{Bool, true, false}
use mathlib.Core.List.{List}
use mathlib.Core.Logic.{◌≢◌, ◌⊎◌}
use mathlib.Core.Option.{Option}
use Prim.Native.Nat.{ℕ, suc, ◌^◌, ◌≤◌, ◌<◌}
use native.Mathlib.Omega.{arith}
use native.Mathlib.Decide.{ℕ_discrete}
use borrow.Author.Tests.{le-leb, lt-leb}
use lib.Dec.{leb}
use lib.ListN.{length, get_or, set, length-set}
use lib.Seq.{get_or-set_same, get_or-set_other}
use Rattle.lists.specs.Find.{pick}
use Rattle.lists.specs.Word.{has, with, without}
use Rattle.image.specs.declared.Content.{Content}
use Rattle.image.specs.Form.{known, top_of, per_desk, head_lines}
use Rattle.image.specs.Layout.{no_content}
use Rattle.machine.specs.Record.{zero_node, zero_thread, head_at, content_of}
use Rattle.machine.specs.Stage.{D7, S6, F6, number}
use Rattle.machine.specs.Line.{put_line, head_content, shape_of}
use Rattle.machine.specs.declared.Line.{Line}
use Rattle.machine.specs.declared.Line.TheVariants.{OfHead as of_head, OfNode as of_node}
use Rattle.machine.specs.declared.Machine.{Machine}
use Rattle.machine.specs.declared.Node.{Node}
use Rattle.machine.specs.declared.Thread.{Thread}
use Rattle.machine.proofs.LineLaws as lines
use Rattle.model.specs.Conf.{line_ix}
use Rattle.model.specs.Core as core
use Rattle.model.specs.Core.{Core, Th}
use Rattle.tied.specs.Shown.{shown_content, link_of, members, shown_thread, engine_if, conf_of}
use Rattle.tied.proofs.Words.{has_with, has_without, with_fits, without_fits}

-- a node number, or none
abbrev pub Link : ℕ → ℕ → Type 0
Link n x = (x < n) ⊎ (x ≡ 255)

-- ---- a node; z is the largest index

pub record NodeAt (z n t : ℕ) (v : Node) (a : core.Node) (o : Option ℕ) (w : List ℕ) : Type 0 where
  pub content : a ≡ shown_content (content_of v)
  pub link : o ≡ link_of v.next
  pub waits : w ≡ members t v.waits
  pub flag : v.linked ≤ 1
  pub reach : Link n v.next
  pub few : v.waits < 2 ^ t
  pub narrow : v.index ≤ z

pub record NodesT (z n t : ℕ) (l : List Node) (node : ℕ → core.Node) (next : ℕ → Option ℕ) (wait : ℕ → List ℕ) : Type 0 where
  pub size : length l ≡ 64
  pub at : (i : ℕ) → i < n → NodeAt z n t (get_or l i zero_node) (node i) (next i) (wait i)

-- one node replaced
pub put_nodes : (z n t : ℕ) (l : List Node) (node : ℕ → core.Node) (next : ℕ → Option ℕ) (wait : ℕ → List ℕ) → NodesT z n t l node next wait → n ≤ 64
    → (i : ℕ) → i < n → (v : Node) (node' : ℕ → core.Node) (next' : ℕ → Option ℕ) (wait' : ℕ → List ℕ) → NodeAt z n t v (node' i) (next' i) (wait' i)
    → ((j : ℕ) → j ≢ i → node' j ≡ node j) → ((j : ℕ) → j ≢ i → next' j ≡ next j) → ((j : ℕ) → j ≢ i → wait' j ≡ wait j)
    → NodesT z n t (set l i v) node' next' wait'
put_nodes z n t l node next wait r h i hi v node' next' wait' a en ex ew = record { size = length-set l i v ∙ r.size; at = λ j hj. by j hj (ℕ_discrete j i) }
  where
    by : (j : ℕ) → j < n → Dec (j ≡ i) → NodeAt z n t (get_or (set l i v) j zero_node) (node' j) (next' j) (wait' j)
    by j hj (yes e) = subst (λ j. NodeAt z n t (get_or (set l i v) j zero_node) (node' j) (next' j) (wait' j)) (sym e)
        (subst (λ x. NodeAt z n t x (node' i) (next' i) (wait' i)) (sym (get_or-set_same l i v zero_node (omega (arith, r.size)))) a)
    by j hj (no ne) = rw (get_or-set_other l i j v zero_node ne, en j ne, ex j ne, ew j ne) (r.at j hj)

-- ---- the free set

pub record FreeT (n w : ℕ) (f : ℕ → Bool) : Type 0 where
  pub bits : (i : ℕ) → i < n → f i ≡ has w i
  pub fits : w < 2 ^ n

-- ---- a thread of a machine in form f

-- it has a step of that number
abbrev pub step_in : ℕ → ℕ → Bool
step_in f s = pick (leb s (number D7)) true (pick (leb s (number S6)) (per_desk f) (leb s (number F6)))

-- D7 and all before it are in every form, and so are the fences
pub step_in_lem : (f s : ℕ) → s ≤ 19 → step_in f s ≡ true
step_in_lem f s h = rw (le-leb s 19 h) refl

pub fence_in : (f s : ℕ) → 21 < s → s ≤ 24 → step_in f s ≡ true
fence_in f s l h = rw (lt-leb s 19 (omega arith), lt-leb s 21 l) (le-leb s 24 h)

-- 20 and 21 are #101's
pub store_in : (f s : ℕ) → s ≤ 21 → per_desk f ≡ true → step_in f s ≡ true
store_in f s h e = by (leb s 19)
  where
    by : (b : Bool) → pick b true (pick (leb s 21) (per_desk f) (leb s 24)) ≡ true
    by true = refl
    by false = rw (le-leb s 21 h) e

pub desk_step : (f s : ℕ) → step_in f s ≡ true → 19 < s → s ≤ 21 → per_desk f ≡ true
desk_step f s e l h = rw (lt-leb s 19 l, le-leb s 21 h) at e

pub record Regs (f n : ℕ) (v : Thread) : Type 0 where
  pub step : step_in f v.step ≡ true
  pub node : Link n v.node
  pub tail : Link n v.tail
  pub head : Link n v.head
  pub next : Link n v.next
  pub held : Link n v.held
  pub index : v.index ≤ top_of f

-- seen: the index that the abstract thread remembers; the record's own where Head has one
pub record ThreadAt (f n : ℕ) (v : Thread) (s : Th) (o : Option ℕ) : Type 0 where
  pub seen : ℕ
  pub own : per_desk f ≡ false → seen ≡ v.index
  pub stage : s ≡ shown_thread v seen
  pub holds : o ≡ link_of v.held
  pub regs : Regs f n v

pub record ThreadsT (f n t : ℕ) (l : List Thread) (thr : ℕ → Th) (held : ℕ → Option ℕ) : Type 0 where
  pub size : length l ≡ 8
  pub at : (k : ℕ) → k < t → ThreadAt f n (get_or l k zero_thread) (thr k) (held k)

pub put_threads : (f n t : ℕ) (l : List Thread) (thr : ℕ → Th) (held : ℕ → Option ℕ) → ThreadsT f n t l thr held → t ≤ 8
    → (k : ℕ) → k < t → (v : Thread) (thr' : ℕ → Th) (held' : ℕ → Option ℕ) → ThreadAt f n v (thr' k) (held' k)
    → ((j : ℕ) → j ≢ k → thr' j ≡ thr j) → ((j : ℕ) → j ≢ k → held' j ≡ held j)
    → ThreadsT f n t (set l k v) thr' held'
put_threads f n t l thr held r h i hi v thr' held' a en ex = record { size = length-set l i v ∙ r.size; at = λ j hj. by j hj (ℕ_discrete j i) }
  where
    by : (j : ℕ) → j < t → Dec (j ≡ i) → ThreadAt f n (get_or (set l i v) j zero_thread) (thr' j) (held' j)
    by j hj (yes e) = subst (λ j. ThreadAt f n (get_or (set l i v) j zero_thread) (thr' j) (held' j)) (sym e)
        (subst (λ x. ThreadAt f n x (thr' i) (held' i)) (sym (get_or-set_same l i v zero_thread (omega (arith, r.size)))) a)
    by j hj (no ne) = rw (get_or-set_other l i j v zero_thread ne, en j ne, ex j ne) (r.at j hj)

-- ---- the persisted copies: p is what each line holds, of b head lines and n nodes

pub record KeptT (z b n : ℕ) (p : Line → Content) (h : List ℕ) (l : List Content) : Type 0 where
  pub size : length l ≡ 64
  pub heads : length h ≡ 8
  pub head : (k : ℕ) → k < b → p (of_head k) ≡ head_content (get_or h k 0)
  pub at : (i : ℕ) → i < n → p (of_node i) ≡ get_or l i no_content
  pub flag : (i : ℕ) → i < n → (p (of_node i)).linked ≤ 1
  pub narrow_head : (k : ℕ) → k < b → (p (of_head k)).index ≤ z
  pub narrow : (i : ℕ) → i < n → (p (of_node i)).index ≤ z

pub put_kepts : (z b n : ℕ) (p : Line → Content) (h : List ℕ) (l : List Content) → KeptT z b n p h l → n ≤ 64 → (i : ℕ) → i < n → (v : Content) → v.linked ≤ 1 → v.index ≤ z
    → KeptT z b n (put_line p (of_node i) v) h (set l i v)
put_kepts z b n p h l r hn i hi v fl nr = record {
  size = length-set l i v ∙ r.size;
  heads = r.heads;
  head = λ k hk. lines.put_other p (of_node i) v (of_head k) (λ e. lines.head_not_node k i e) ∙ r.head k hk;
  at = λ j hj. by j hj (ℕ_discrete j i);
  flag = λ j hj. lines.put_ind p (of_node i) v (λ k c. c.linked ≤ 1) (of_node j) fl (λ ne. r.flag j hj);
  narrow_head = λ k hk. lines.put_ind p (of_node i) v (λ k c. c.index ≤ z) (of_head k) nr (λ ne. r.narrow_head k hk);
  narrow = λ j hj. lines.put_ind p (of_node i) v (λ k c. c.index ≤ z) (of_node j) nr (λ ne. r.narrow j hj);
}
  where
    by : (j : ℕ) → j < n → Dec (j ≡ i) → put_line p (of_node i) v (of_node j) ≡ get_or (set l i v) j no_content
    by j hj (yes e) = lines.put_at p (of_node i) v (of_node j) (ap of_node e) ∙ sym (get_or-set_same l i v no_content (omega (arith, r.size))) ∙ ap (λ j. get_or (set l i v) j no_content) (sym e)
    by j hj (no ne) = lines.put_other p (of_node i) v (of_node j) (λ q. ne (let w : j ≡ i = cc in w)) ∙ r.at j hj ∙ sym (get_or-set_other l i j v no_content ne)

-- ---- what the threads have flushed, and the sets of threads: a is who has flushed since each did, h and o who is over each line

pub record FlushesT (z b n t : ℕ) (f : List Content) (a h o : List ℕ) : Type 0 where
  pub flag : (k : ℕ) → k < t → (get_or f k no_content).linked ≤ 1
  pub narrow : (k : ℕ) → k < t → (get_or f k no_content).index ≤ z
  pub late : (k : ℕ) → k < t → get_or a k 0 < 2 ^ t
  pub heads : (k : ℕ) → k < b → get_or h k 0 < 2 ^ t
  pub nodes : (i : ℕ) → i < n → get_or o i 0 < 2 ^ t

-- ---- the whole

pub record Sizes (f n t : ℕ) : Type 0 where
  pub form : known f ≡ true
  pub nodes_lo : 2 ≤ n
  pub nodes_hi : n ≤ 64
  pub threads_lo : 1 ≤ t
  pub threads_hi : t ≤ 8

pub record Tied (p : Line → Content) (m : Machine) (c : Core) : Type 0 where
  pub conf : c.conf ≡ conf_of m.form m.n m.t
  pub sizes : Sizes m.form m.n m.t
  pub hnode : c.hnode ≡ m.head
  pub heads : (k : ℕ) → k < head_lines (shape_of m) → line_ix (engine_if (per_desk m.form)) c.hidx c.marks k ≡ head_at m k
  pub narrow : (k : ℕ) → k < head_lines (shape_of m) → head_at m k ≤ top_of m.form
  pub eight : length m.heads ≡ 8
  pub tail : c.tail ≡ m.tail
  pub last : c.last ≡ m.last
  pub nodes : NodesT (top_of m.form) m.n m.t m.nodes c.node c.next c.wait
  pub free : FreeT m.n m.free c.free
  pub threads : ThreadsT m.form m.n m.t m.threads c.thr c.held
  pub kept : KeptT (top_of m.form) (head_lines (shape_of m)) m.n p m.kept_heads m.kept
  pub flushes : FlushesT (top_of m.form) (head_lines (shape_of m)) m.n m.t m.flushed m.late m.over_heads m.over
