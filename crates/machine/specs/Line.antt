-- Lines of memory: the head lines, then the nodes. Each has a cached and a persisted copy.
use Rattle.std.specs.Prelude.{ℕ, ◌+◌, ◌-◌, Bool, true, false, eqb, ltb}
use Rattle.lists.specs.Find.{pick}
use Rattle.lists.specs.Word.{word_of}
use Rattle.image.specs.Form.{head_lines, own_threads, per_desk}
use Rattle.image.specs.declared.Content.{Content}
use Rattle.image.specs.declared.Image.{Image}
use Rattle.image.specs.declared.Shape.{Shape}
use Rattle.machine.specs.Record.{node, kept, head_at, kept_head, content_of, put_kept, put_kept_head, over_head, over_node, put_over_head, put_over_node}
use Rattle.machine.specs.declared.Machine.{Machine}
-- of a head line the index alone is a content
pub use Rattle.image.specs.Layout.{head_content}
-- a head line or a node's line
pub use Rattle.machine.specs.declared.Line.{Line}
pub use Rattle.machine.specs.declared.Line.TheVariants.{OfHead as of_head, OfNode as of_node}
-- what an event does to the lines' contents: nothing, a store to one line, the persist of one line at once; a thread's flush of one line, its fence
pub use Rattle.machine.specs.declared.Touch.{Touch}
pub use Rattle.machine.specs.declared.Touch.TheVariants.{Nothing as nothing, Store as a_store, Persist as a_persist, Flush as a_flush, Fence as a_fence}

-- ---- "Line 0 is Head, line i+1 is node i"; #101: "Lines are the T thread lines, then the nodes": the number of a line, by the shape

abbrev pub shape_of : Machine → Shape
shape_of m = record { form = m.form; n = m.n; t = m.t }

-- how many lines there are
abbrev pub line_count : Shape → ℕ
line_count z = head_lines z + z.n

-- the line numbered l; and back
unfoldable pub line_at : Shape → ℕ → Line
line_at z l = pick (ltb l (head_lines z)) (of_head l) (of_node (l - head_lines z))

abbrev pub number_of : Shape → Line → ℕ
number_of z (of_head k) = k
number_of z (of_node i) = head_lines z + i

-- the head line that thread k persists: Head's, or its own
abbrev pub own_head : Machine → ℕ → ℕ
own_head m k = pick (per_desk m.form) k 0

-- ---- tables over lines

abbrev pub same_line : Line → Line → Bool
same_line (of_head j) (of_head k) = eqb j k
same_line (of_head j) (of_node i) = false
same_line (of_node i) (of_head k) = false
same_line (of_node i) (of_node j) = eqb i j

-- the table f with a at line l
unfoldable pub put_line : {A : Type 0} → (Line → A) → Line → A → Line → A
put_line f l a j = pick (same_line j l) a (f j)

-- ---- the two copies

-- a line's cached content
abbrev pub cached_at : Machine → Line → Content
cached_at m (of_head k) = head_content (head_at m k)
cached_at m (of_node i) = content_of (node m i)

-- a line's persisted content
abbrev pub persisted_at : Machine → Line → Content
persisted_at m (of_head k) = head_content (kept_head m k)
persisted_at m (of_node i) = kept m i

-- #104: the threads over line l: those whose flush of it is no later than what is persisted there
abbrev pub over_at : Machine → Line → ℕ
over_at m (of_head k) = over_head m k
over_at m (of_node i) = over_node m i

abbrev pub put_over : Machine → Line → ℕ → Machine
put_over m (of_head k) w = put_over_head m k w
put_over m (of_node i) w = put_over_node m i w

-- line l's persisted copy becomes c, and w are the threads over it
abbrev pub keeping : Machine → Line → Content → ℕ → Machine
keeping m (of_head k) c w = put_kept_head m k c.index w
keeping m (of_node i) c w = put_kept m i c w

abbrev pub everyone : Machine → ℕ
everyone m = word_of (λ u. true) m.t

-- a line is written back whole; no flush is later than what is persisted then
abbrev pub persist : Machine → Line → Machine
persist m l = keeping m l (cached_at m l) (everyone m)

-- the persisted copies, as an image
abbrev pub persisted : Machine → Image
persisted m = record { form = m.form; n = m.n; t = own_threads (shape_of m); heads = m.kept_heads; nodes = m.kept }
