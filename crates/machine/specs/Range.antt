-- 18: which records are turned away. Each test has a definition of its own.
use Rattle.std.specs.Prelude.{ℕ, ◌^◌, Bool, true, false, not, eqb, ltb, leb}
use Rattle.lists.specs.Find.{pick, both, any}
use Rattle.image.specs.Form.{known, top_of, head_lines}
use Rattle.image.specs.Refusals.{nodes_fit, threads_fit}
use Rattle.machine.specs.Record.{none, node, kept, head_at, kept_head, thread, flushed, late, over_head, over_node}
use Rattle.machine.specs.Stage.{A12, number, is_step, own, t, the_head, the_next, uses, stage}
use Rattle.machine.specs.Line.{shape_of}
use Rattle.machine.specs.declared.Machine.{Machine}

-- a node number; a node number or none
abbrev pub is_node : Machine → ℕ → Bool
is_node m x = ltb x m.n

abbrev pub is_link : Machine → ℕ → Bool
is_link m x = pick (eqb x none) true (is_node m x)

-- a flag is 0 or 1
abbrev pub is_flag : ℕ → Bool
is_flag x = leb x 1

-- "N, T": 2 to 64 nodes, 1 to 8 threads
abbrev pub sizes_fit : Machine → Bool
sizes_fit m = both (nodes_fit m.n) (threads_fit m.t)

-- Head, Tail and the one last handed out are nodes
abbrev pub ends_fit : Machine → Bool
ends_fit m = both (is_node m m.head) (both (is_node m m.tail) (is_node m m.last))

-- the free set holds nodes only
abbrev pub free_fits : Machine → Bool
free_fits m = ltb m.free (2 ^ m.n)

-- a node's link is a node or none, its flags are flags, it waits for threads only
unfoldable pub node_fits : Machine → ℕ → Bool
node_fits m i =
    both (is_link m (node m i).next)
    (both (is_flag (node m i).linked) (both (is_flag (kept m i).linked) (ltb (node m i).waits (2 ^ m.t))))

-- a number that a step reads is a node where the step uses it, and a node or none elsewhere
abbrev pub read_fits : Machine → Bool → ℕ → Bool
read_fits m true x = is_node m x
read_fits m false x = is_link m x

-- "t's next at A12": there is one
abbrev pub next_fits : Machine → Bool → ℕ → Bool
next_fits m true x = not (eqb (node m x).next none)
next_fits m false x = true

-- a thread's step is a step, and what it has read is in range
unfoldable pub thread_fits : Machine → ℕ → Bool
thread_fits m k =
    let v = thread m k in
    let s = stage m k in
    both (is_step m v.step)
    (both (read_fits m (uses s own) v.node)
    (both (read_fits m (uses s t) v.tail)
    (both (read_fits m (uses s the_head) v.head)
    (both (read_fits m (uses s the_next) v.next)
    (both (is_link m v.held) (next_fits m (eqb v.step (number A12)) v.tail))))))

-- N, T, and every node, line, thread and step number and count
unfoldable pub ranges_fit : Machine → Bool
ranges_fit m =
    both (sizes_fit m)
    (both (ends_fit m)
    (both (free_fits m)
    (both (not (any (λ i. not (node_fits m i)) m.n)) (not (any (λ k. not (thread_fits m k)) m.t)))))

-- ---- "A record's index above its width is 18"

abbrev pub is_index : Machine → ℕ → Bool
is_index m x = leb x (top_of m.form)

-- of a head line and of a node both copies
unfoldable pub head_fits : Machine → ℕ → Bool
head_fits m k = both (is_index m (head_at m k)) (is_index m (kept_head m k))

unfoldable pub index_fits : Machine → ℕ → Bool
index_fits m i = both (is_index m (node m i).index) (is_index m (kept m i).index)

-- the form is one that is read, and every index is within its width
unfoldable pub form_fits : Machine → Bool
form_fits m =
    both (known m.form)
    (both (not (any (λ k. not (head_fits m k)) (head_lines (shape_of m))))
    (both (not (any (λ i. not (index_fits m i)) m.n)) (not (any (λ k. not (is_index m (thread m k).index)) m.t))))

-- ---- #104: what the record gains

-- a set of threads
abbrev pub is_set : Machine → ℕ → Bool
is_set m w = ltb w (2 ^ m.t)

-- what thread k has flushed is a content: its flag is a flag, its index within the width; and those that flushed since are threads
unfoldable pub flush_fits : Machine → ℕ → Bool
flush_fits m k = both (is_flag (flushed m k).linked) (both (is_index m (flushed m k).index) (is_set m (late m k)))

-- those over a line are threads
unfoldable pub flushes_fit : Machine → Bool
flushes_fit m =
    both (not (any (λ k. not (flush_fits m k)) m.t))
    (both (not (any (λ k. not (is_set m (over_head m k))) (head_lines (shape_of m)))) (not (any (λ i. not (is_set m (over_node m i))) m.n)))

-- the whole record
unfoldable pub in_range : Machine → Bool
in_range m = both (ranges_fit m) (both (form_fits m) (flushes_fit m))
