-- The machine record: what is read of it, and the record with one thing replaced.
use Rattle.std.specs.Prelude.{ℕ, List, get_or, set, replicate}
use Rattle.image.specs.declared.Content.{Content}
use Rattle.image.specs.Layout.{no_content}
use Rattle.machine.specs.declared.Machine.{Machine}
use Rattle.machine.specs.declared.Node.{Node}
use Rattle.machine.specs.declared.Thread.{Thread}

-- the number that stands for no node
abbrev pub none : ℕ
none = 255

-- ---- reading

-- what stands for an element beyond the table, where a definition looks there
abbrev pub zero_node : Node
zero_node = record { item = 0; next = 0; linked = 0; index = 0; waits = 0 }

abbrev pub zero_thread : Thread
zero_thread = record { step = 0; node = 0; tail = 0; head = 0; index = 0; next = 0; item = 0; held = 0 }

abbrev pub node : Machine → ℕ → Node
node m i = get_or m.nodes i zero_node

abbrev pub thread : Machine → ℕ → Thread
thread m k = get_or m.threads k zero_thread

abbrev pub kept : Machine → ℕ → Content
kept m i = get_or m.kept i no_content

-- the index in head line k, cached and persisted; that of line 0 is Head's
abbrev pub head_at : Machine → ℕ → ℕ
head_at m k = get_or m.heads k 0

abbrev pub kept_head : Machine → ℕ → ℕ
kept_head m k = get_or m.kept_heads k 0

-- what a node's line holds
abbrev pub content_of : Node → Content
content_of v = record { linked = v.linked; index = v.index; item = v.item }

-- ---- a place of the table that no node or thread has

abbrev pub blank_node : Node
blank_node = record { item = 0; next = 255; linked = 0; index = 0; waits = 0 }

unfoldable pub blank_nodes : List Node
blank_nodes = replicate 64 blank_node

-- a thread without an operation, that holds node x
abbrev pub idle_thread : ℕ → Thread
idle_thread x = record { step = 0; node = 255; tail = 255; head = 255; index = 0; next = 255; item = 0; held = x }

unfoldable pub idle_threads : List Thread
idle_threads = replicate 8 (idle_thread 255)

-- ---- one field of a node, of a thread, of the machine replaced

abbrev pub with_item : Node → ℕ → Node
with_item v x = record { item = x; next = v.next; linked = v.linked; index = v.index; waits = v.waits }

abbrev pub with_next : Node → ℕ → Node
with_next v x = record { item = v.item; next = x; linked = v.linked; index = v.index; waits = v.waits }

abbrev pub with_linked : Node → ℕ → Node
with_linked v x = record { item = v.item; next = v.next; linked = x; index = v.index; waits = v.waits }

abbrev pub with_index : Node → ℕ → Node
with_index v x = record { item = v.item; next = v.next; linked = v.linked; index = x; waits = v.waits }

abbrev pub with_waits : Node → ℕ → Node
with_waits v x = record { item = v.item; next = v.next; linked = v.linked; index = v.index; waits = x }

abbrev pub at_step : Thread → ℕ → Thread
at_step v x = record { step = x; node = v.node; tail = v.tail; head = v.head; index = v.index; next = v.next; item = v.item; held = v.held }

abbrev pub own_node : Thread → ℕ → Thread
own_node v x = record { step = v.step; node = x; tail = v.tail; head = v.head; index = v.index; next = v.next; item = v.item; held = v.held }

abbrev pub read_tail : Thread → ℕ → Thread
read_tail v x = record { step = v.step; node = v.node; tail = x; head = v.head; index = v.index; next = v.next; item = v.item; held = v.held }

abbrev pub read_next : Thread → ℕ → Thread
read_next v x = record { step = v.step; node = v.node; tail = v.tail; head = v.head; index = v.index; next = x; item = v.item; held = v.held }

abbrev pub read_item : Thread → ℕ → Thread
read_item v x = record { step = v.step; node = v.node; tail = v.tail; head = v.head; index = v.index; next = v.next; item = x; held = v.held }

abbrev pub read_head : Thread → ℕ → ℕ → Thread
read_head v h x = record { step = v.step; node = v.node; tail = v.tail; head = h; index = x; next = v.next; item = v.item; held = v.held }

abbrev pub put_tail : Machine → ℕ → Machine
put_tail m x = record { form = m.form; n = m.n; t = m.t; head = m.head; heads = m.heads; tail = x; free = m.free; nodes = m.nodes; kept_heads = m.kept_heads; kept = m.kept; threads = m.threads; last = m.last; flushed = m.flushed; late = m.late; over_heads = m.over_heads; over = m.over }

abbrev pub put_free : Machine → ℕ → Machine
put_free m x = record { form = m.form; n = m.n; t = m.t; head = m.head; heads = m.heads; tail = m.tail; free = x; nodes = m.nodes; kept_heads = m.kept_heads; kept = m.kept; threads = m.threads; last = m.last; flushed = m.flushed; late = m.late; over_heads = m.over_heads; over = m.over }

-- the persisted copy of a head line, and the threads over it (below)
abbrev pub put_kept_head : Machine → ℕ → ℕ → ℕ → Machine
put_kept_head m k x w = record { form = m.form; n = m.n; t = m.t; head = m.head; heads = m.heads; tail = m.tail; free = m.free; nodes = m.nodes; kept_heads = set m.kept_heads k x; kept = m.kept; threads = m.threads; last = m.last; flushed = m.flushed; late = m.late; over_heads = set m.over_heads k w; over = m.over }

-- #101: Head as a node number alone
abbrev pub put_head_node : Machine → ℕ → Machine
put_head_node m x = record { form = m.form; n = m.n; t = m.t; head = x; heads = m.heads; tail = m.tail; free = m.free; nodes = m.nodes; kept_heads = m.kept_heads; kept = m.kept; threads = m.threads; last = m.last; flushed = m.flushed; late = m.late; over_heads = m.over_heads; over = m.over }

-- the index in head line k
abbrev pub put_head_at : Machine → ℕ → ℕ → Machine
put_head_at m k x = record { form = m.form; n = m.n; t = m.t; head = m.head; heads = set m.heads k x; tail = m.tail; free = m.free; nodes = m.nodes; kept_heads = m.kept_heads; kept = m.kept; threads = m.threads; last = m.last; flushed = m.flushed; late = m.late; over_heads = m.over_heads; over = m.over }

abbrev pub put_head : Machine → ℕ → ℕ → Machine
put_head m h x = record { form = m.form; n = m.n; t = m.t; head = h; heads = set m.heads 0 x; tail = m.tail; free = m.free; nodes = m.nodes; kept_heads = m.kept_heads; kept = m.kept; threads = m.threads; last = m.last; flushed = m.flushed; late = m.late; over_heads = m.over_heads; over = m.over }

abbrev pub put_node : Machine → ℕ → Node → Machine
put_node m i v = record { form = m.form; n = m.n; t = m.t; head = m.head; heads = m.heads; tail = m.tail; free = m.free; nodes = set m.nodes i v; kept_heads = m.kept_heads; kept = m.kept; threads = m.threads; last = m.last; flushed = m.flushed; late = m.late; over_heads = m.over_heads; over = m.over }

-- and of a node
abbrev pub put_kept : Machine → ℕ → Content → ℕ → Machine
put_kept m i v w = record { form = m.form; n = m.n; t = m.t; head = m.head; heads = m.heads; tail = m.tail; free = m.free; nodes = m.nodes; kept_heads = m.kept_heads; kept = set m.kept i v; threads = m.threads; last = m.last; flushed = m.flushed; late = m.late; over_heads = m.over_heads; over = set m.over i w }

abbrev pub put_thread : Machine → ℕ → Thread → Machine
put_thread m i v = record { form = m.form; n = m.n; t = m.t; head = m.head; heads = m.heads; tail = m.tail; free = m.free; nodes = m.nodes; kept_heads = m.kept_heads; kept = m.kept; threads = set m.threads i v; last = m.last; flushed = m.flushed; late = m.late; over_heads = m.over_heads; over = m.over }

abbrev pub put_last : Machine → ℕ → Machine
put_last m x = record { form = m.form; n = m.n; t = m.t; head = m.head; heads = m.heads; tail = m.tail; free = m.free; nodes = m.nodes; kept_heads = m.kept_heads; kept = m.kept; threads = m.threads; last = x; flushed = m.flushed; late = m.late; over_heads = m.over_heads; over = m.over }

-- ---- #104: flushes. A set of threads is a word: thread u is in it where bit u is set

-- what thread k found in its line when it last flushed
abbrev pub flushed : Machine → ℕ → Content
flushed m k = get_or m.flushed k no_content

-- the threads that have flushed since thread k last did
abbrev pub late : Machine → ℕ → ℕ
late m k = get_or m.late k 0

-- the threads over a head line, over a node: those whose flush of it is no later than what is persisted there
abbrev pub over_head : Machine → ℕ → ℕ
over_head m k = get_or m.over_heads k 0

abbrev pub over_node : Machine → ℕ → ℕ
over_node m i = get_or m.over i 0

-- no thread has flushed
unfoldable pub no_flushed : List Content
no_flushed = replicate 8 no_content

-- c sets without a thread
unfoldable pub no_sets : ℕ → List ℕ
no_sets c = replicate c 0

abbrev pub put_over_head : Machine → ℕ → ℕ → Machine
put_over_head m k w = record { form = m.form; n = m.n; t = m.t; head = m.head; heads = m.heads; tail = m.tail; free = m.free; nodes = m.nodes; kept_heads = m.kept_heads; kept = m.kept; threads = m.threads; last = m.last; flushed = m.flushed; late = m.late; over_heads = set m.over_heads k w; over = m.over }

abbrev pub put_over_node : Machine → ℕ → ℕ → Machine
put_over_node m i w = record { form = m.form; n = m.n; t = m.t; head = m.head; heads = m.heads; tail = m.tail; free = m.free; nodes = m.nodes; kept_heads = m.kept_heads; kept = m.kept; threads = m.threads; last = m.last; flushed = m.flushed; late = m.late; over_heads = m.over_heads; over = set m.over i w }

-- what thread k has flushed, and who has flushed since each thread last did
abbrev pub put_flushed : Machine → ℕ → Content → List ℕ → Machine
put_flushed m k c l = record { form = m.form; n = m.n; t = m.t; head = m.head; heads = m.heads; tail = m.tail; free = m.free; nodes = m.nodes; kept_heads = m.kept_heads; kept = m.kept; threads = m.threads; last = m.last; flushed = set m.flushed k c; late = l; over_heads = m.over_heads; over = m.over }
