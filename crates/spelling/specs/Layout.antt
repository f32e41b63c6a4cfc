-- The one place where words meet the layout of a schedule: where its parts stand, how long they are, and their bytes, by the shape of its image.
use Rattle.std.specs.Prelude.{ℕ, ◌+◌, ◌*◌, ◌/◌, ◌%◌, List, ◌∷◌}
use Rattle.image.specs.Bytes.{le, le4}
use Rattle.image.specs.Form.{width_of, heads_at, head_lines, node_size, node_place}
use Rattle.image.specs.Layout.{node_bytes, mark_bytes}
use Rattle.image.specs.declared.Shape.{Shape}
use Rattle.spelling.specs.declared.Survey.{Survey}

abbrev pub event_span : ℕ
event_span = 6

-- the shape of the image that the lines say: N and T fit their bytes
abbrev pub said_shape : Survey → Shape
said_shape v = record { form = v.form; n = v.n % 256; t = v.t % 256 }

-- the schedule's eight bytes stand before the image
abbrev pub head_start : ℕ → ℕ → ℕ
head_start f k = 8 + (heads_at f + k * width_of f)

abbrev pub node_start : Shape → ℕ → ℕ
node_start g i = 8 + node_place g i

abbrev pub events_start : Shape → ℕ
events_start g = node_start g g.n

abbrev pub events_place : Survey → ℕ
events_place v = events_start (said_shape v)

abbrev pub size_of : Survey → ℕ
size_of v = events_place v + v.count * event_span

-- the bytes of all head lines, nodes and events
abbrev pub span_of : Shape → ℕ
span_of g = head_lines g * width_of g.form + g.n * node_size g.form

abbrev pub rest_of : Survey → ℕ
rest_of v = span_of (said_shape v) + v.count * event_span

-- what stands before the head lines
unfoldable pub head_of : Survey → List ℕ
head_of v = 85 ∷ 81 ∷ 83 ∷ 1 ∷ 0 ∷ v.t % 256 ∷ v.count % 256 ∷ v.count / 256 % 256 ∷ mark_bytes (said_shape v)

-- the head index, the node, and the event, that a line says
abbrev pub head_said : ℕ → ℕ → List ℕ
head_said f x = le (width_of f) x

abbrev pub node_said : ℕ → ℕ → ℕ → ℕ → List ℕ
node_said f l x v = node_bytes f (record { linked = l % 256; index = x; item = v % 4294967296 })

abbrev pub event_said : ℕ → ℕ → ℕ → List ℕ
event_said k n v = k % 256 ∷ n % 256 ∷ le4 v
