-- The parts of the test for 18 and of the six counts, as the code takes them: over numbers and elements, and up to a place.
use Rattle.std.specs.Prelude.{ℕ, ◌^◌, Bool, true, not, List, get_or, eqb, ltb, leb}
use Rattle.lists.specs.Find.{pick, both}
use Rattle.image.specs.Form.{per_desk}
use Rattle.image.specs.Layout.{no_content}
use Rattle.image.specs.declared.Content.{Content}
use Rattle.image.specs.Refusals.{nodes_fit, threads_fit}
use Rattle.machine.specs.Record.{none, thread}
use Rattle.machine.specs.Stage.{D7, S6, F6, number, own, t, the_head, the_next, uses, stage_of, enqueue_owns, dequeue_owns}
use Rattle.machine.specs.Range.{is_flag, node_fits, thread_fits, is_index, head_fits, index_fits}
use Rattle.machine.specs.declared.Machine.{Machine}
use Rattle.machine.specs.declared.Node.{Node}
use Rattle.range.specs.declared.Used.{Used}

-- ---- 18

-- N and T
abbrev pub sizes_in : ℕ → ℕ → Bool
sizes_in n k = both (nodes_fit n) (threads_fit k)

-- of n nodes: Head, Tail and the one last handed out
abbrev pub ends_in : ℕ → ℕ → ℕ → ℕ → Bool
ends_in n h x l = both (ltb h n) (both (ltb x n) (ltb l n))

-- a node number or none; what a step reads, a node where the step uses it
abbrev pub link_in : ℕ → ℕ → Bool
link_in n x = pick (eqb x none) true (ltb x n)

abbrev pub read_in : ℕ → Bool → ℕ → Bool
read_in n u x = pick u (ltb x n) (link_in n x)

-- a node of n, its persisted copy, and k threads that it may wait for
unfoldable pub node_in : ℕ → ℕ → Node → Content → Bool
node_in n k v p =
    both (link_in n v.next) (both (is_flag v.linked) (both (is_flag p.linked) (ltb v.waits (2 ^ k))))

-- a step, by the form
abbrev pub step_in : ℕ → ℕ → Bool
step_in f s = pick (leb s (number D7)) true (pick (leb s (number S6)) (per_desk f) (leb s (number F6)))

-- what a step number says: which of the four numbers the step uses, and which node its operation owns
abbrev pub used_by : ℕ → Used
used_by s = record {
  own = uses (stage_of s) own;
  tail = uses (stage_of s) t;
  head = uses (stage_of s) the_head;
  next = uses (stage_of s) the_next;
  enqueue = enqueue_owns (stage_of s);
  dequeue = dequeue_owns (stage_of s);
}

unfoldable pub bad_node : Machine → ℕ → Bool
bad_node m i = not (node_fits m i)

unfoldable pub bad_thread : Machine → ℕ → Bool
bad_thread m k = not (thread_fits m k)

-- an index above the form's width: of a head line, of a node, of a thread
unfoldable pub wide_head : Machine → ℕ → Bool
wide_head m k = not (head_fits m k)

unfoldable pub wide_node : Machine → ℕ → Bool
wide_node m i = not (index_fits m i)

unfoldable pub wide_thread : Machine → ℕ → Bool
wide_thread m k = not (is_index m (thread m k).index)

-- #104: what a thread has flushed, with indices up to x and k threads; who has flushed since
unfoldable pub flush_in : ℕ → ℕ → Content → ℕ → Bool
flush_in x k c w = both (is_flag c.linked) (both (leb c.index x) (ltb w (2 ^ k)))

unfoldable pub bad_flush : ℕ → ℕ → List Content → List ℕ → ℕ → Bool
bad_flush x k fs ws i = not (flush_in x k (get_or fs i no_content) (get_or ws i 0))

-- a set that is not one of k threads
unfoldable pub bad_set : ℕ → List ℕ → ℕ → Bool
bad_set k ws i = not (ltb (get_or ws i 0) (2 ^ k))
