-- A machine record as 2,267 bytes, little-endian, every field of it: 18 for the mark "UQM", version 4 (16 bits) and what stands alone,
-- 8 for each of the 8 head lines' indices and 8 for each persisted copy of them, 28 for each of the 64 nodes with its persisted copy,
-- 18 for each of the 8 threads, and behind them 1 for the node last handed out. Then what is known of flushes: 13 for what each thread has flushed,
-- and sets of threads, a byte each: for each thread those that have flushed since, those over each of the 8 head lines, those over each of the 64 nodes.
use Rattle.std.specs.Prelude.{ℕ, ◌+◌, ◌*◌, Bool, true, false, not, List, [], ◌∷◌, ◌++◌, length, get_or, eqb, ltb}
use Rattle.lists.specs.Find.{pick}
use Rattle.lists.specs.Tab.{tab, joined, front, over}
use Rattle.answer.specs.Answers.{check, accepted, Answer, Taken, Length, Mark, Room}
use Rattle.image.specs.Bytes.{le, at_w, at1, at4, le4}
use Rattle.image.specs.Layout.{marked, no_content, no_contents, no_heads}
use Rattle.image.specs.declared.Content.{Content}
use Rattle.machine.specs.Record.{node, kept, thread, blank_nodes, idle_threads, no_flushed, no_sets}
use Rattle.machine.specs.Start.{blank_machine}
use Rattle.machine.specs.declared.Machine.{Machine}
use Rattle.machine.specs.declared.Node.{Node}
use Rattle.machine.specs.declared.Thread.{Thread}
use Rattle.machine.specs.declared.Out.{Out}

-- ---- numbers of 64 bits

abbrev pub le8 : ℕ → List ℕ
le8 = le 8

abbrev pub at8 : List ℕ → ℕ → ℕ
at8 = at_w 8

abbrev pub record_size : ℕ
record_size = 2267

-- the mark "UQM" and version 4: a host that holds bytes of another layout is told
abbrev pub is_record : List ℕ → Bool
is_record = marked 85 81 77 4

-- ---- to bytes

abbrev pub head_bytes : Machine → List ℕ
head_bytes m = 85 ∷ 81 ∷ 77 ∷ 4 ∷ 0 ∷ m.form ∷ m.n ∷ m.t ∷ m.head ∷ m.tail ∷ le8 m.free

abbrev pub node_bytes : Node → Content → List ℕ
node_bytes v p =
    le4 v.item
    ++ (v.next ∷ v.linked ∷ (le8 v.index ++ (v.waits ∷ p.linked ∷ (le8 p.index ++ le4 p.item))))

abbrev pub thread_bytes : Thread → List ℕ
thread_bytes v =
    v.step ∷ v.node ∷ v.tail ∷ v.head ∷ (le8 v.index ++ (v.next ∷ (le4 v.item ++ (v.held ∷ []))))

-- number k of a table of indices
unfoldable pub long_part : List ℕ → ℕ → List ℕ
long_part l k = le8 (get_or l k 0)

unfoldable pub node_part : Machine → ℕ → List ℕ
node_part m i = node_bytes (node m i) (kept m i)

unfoldable pub thread_part : Machine → ℕ → List ℕ
thread_part m k = thread_bytes (thread m k)

-- all but what is known of flushes: 2,083 bytes
unfoldable pub core_bytes : Machine → List ℕ
core_bytes m =
    head_bytes m
    ++ (joined (long_part m.heads) 8
    ++ (joined (long_part m.kept_heads) 8 ++ (joined (node_part m) 64 ++ (joined (thread_part m) 8 ++ (m.last ∷ [])))))

-- what a thread has flushed
abbrev pub flush_bytes : Content → List ℕ
flush_bytes c = c.linked ∷ (le8 c.index ++ le4 c.item)

unfoldable pub flush_part : List Content → ℕ → List ℕ
flush_part l k = flush_bytes (get_or l k no_content)

-- n sets of threads
unfoldable pub set_bytes : List ℕ → ℕ → List ℕ
set_bytes l n = tab (λ i. get_or l i 0) n

-- what is known of flushes: 184 bytes
unfoldable pub flushes_bytes : Machine → List ℕ
flushes_bytes m = joined (flush_part m.flushed) 8 ++ (set_bytes m.late 8 ++ (set_bytes m.over_heads 8 ++ set_bytes m.over 64))

unfoldable pub record_bytes : Machine → List ℕ
record_bytes m = core_bytes m ++ flushes_bytes m

-- ---- from bytes

abbrev pub read_node : List ℕ → ℕ → Node
read_node s at = record {
  item = at4 s at;
  next = at1 s (at + 4);
  linked = at1 s (at + 5);
  index = at8 s (at + 6);
  waits = at1 s (at + 14);
}

abbrev pub read_kept : List ℕ → ℕ → Content
read_kept s at = record { linked = at1 s (at + 15); index = at8 s (at + 16); item = at4 s (at + 24) }

abbrev pub read_thread : List ℕ → ℕ → Thread
read_thread s at = record {
  step = at1 s at;
  node = at1 s (at + 1);
  tail = at1 s (at + 2);
  head = at1 s (at + 3);
  index = at8 s (at + 4);
  next = at1 s (at + 12);
  item = at4 s (at + 13);
  held = at1 s (at + 17);
}

-- number k of those from a place on
unfoldable pub long_in : List ℕ → ℕ → ℕ → ℕ
long_in s at k = at8 s (at + k * 8)

unfoldable pub node_in : List ℕ → ℕ → Node
node_in s i = read_node s (146 + i * 28)

unfoldable pub kept_in : List ℕ → ℕ → Content
kept_in s i = read_kept s (146 + i * 28)

unfoldable pub thread_in : List ℕ → ℕ → Thread
thread_in s k = read_thread s (1938 + k * 18)

abbrev pub read_flush : List ℕ → ℕ → Content
read_flush s at = record { linked = at1 s at; index = at8 s (at + 1); item = at4 s (at + 9) }

unfoldable pub flush_in : List ℕ → ℕ → Content
flush_in s k = read_flush s (2083 + k * 13)

unfoldable pub set_in : List ℕ → ℕ → ℕ → ℕ
set_in s at i = at1 s (at + i)

unfoldable pub record_in : List ℕ → Machine
record_in s = record {
  form = at1 s 5;
  n = at1 s 6;
  t = at1 s 7;
  head = at1 s 8;
  heads = front (long_in s 18) 8 no_heads;
  tail = at1 s 9;
  free = at8 s 10;
  nodes = front (node_in s) 64 blank_nodes;
  kept_heads = front (long_in s 82) 8 no_heads;
  kept = front (kept_in s) 64 no_contents;
  threads = front (thread_in s) 8 idle_threads;
  last = at1 s 2082;
  flushed = front (flush_in s) 8 no_flushed;
  late = front (set_in s 2187) 8 (no_sets 8);
  over_heads = front (set_in s 2195) 8 (no_sets 8);
  over = front (set_in s 2203) 64 (no_sets 64);
}

-- ---- the two calls

-- 1, then 2: there are 2,267 bytes, and they begin with mark and version. The record itself is not tested here
unfoldable pub read_answer : List ℕ → Answer
read_answer s = check (not (eqb (length s) record_size)) Length (check (not (is_record s)) Mark Taken)

unfoldable pub read_record : List ℕ → Out
read_record s = record {
  answer = read_answer s;
  machine = pick (accepted (read_answer s)) (record_in s) blank_machine;
}

-- 17
unfoldable pub record_answer : ℕ → Answer
record_answer room = check (ltb room record_size) Room Taken

unfoldable pub record_written : Machine → List ℕ → List ℕ
record_written m b = pick (ltb (length b) record_size) b (over b 0 (record_bytes m))
