-- What a record shows: the values of the abstract machine that its numbers stand for.
use Rattle.std.specs.Prelude.{Bool, true, false, List, [], ◌∷◌, ℕ, zero, suc, ◌≤◌, ◌<◌, eqb, ltb}
use Rattle.std.proofs.Math.Option.{Option, none, some}
use Rattle.lists.specs.Word.{has}
use Rattle.answer.specs.Answers.{Answer, Taken, Done, Full, WornOut, Item, Empty}
use Rattle.image.specs.declared.Content.{Content}
use Rattle.image.specs.declared.Image.{Image}
use Rattle.image.specs.Layout.{content_at, image_shape, head_in}
use Rattle.image.specs.declared.Shape.{Shape}
use Rattle.image.specs.Form.{top_of, head_lines, per_desk}
use Rattle.tied.specs.Memory as memory
use Rattle.machine.specs.Stage.{Stage, no_step, A1, A2, A3, A4, A5, A6, A7, A8, A9, A10, A11, A12, D1, D2, D3, D4, D5, D6, D7, S3, S6, F10, F3, F6, stage_of}
use Rattle.machine.specs.declared.Thread.{Thread}
use Rattle.machine.specs.declared.Event.{Event}
use Rattle.machine.specs.Event.{Deed, unknown, enqueues, dequeues, steps, writes_back, crashes, deed_of}
use Rattle.model.specs.Basics.{sel}
use Rattle.model.specs.Lines.{Line, of_head, of_node, act, back}
use Rattle.model.specs.Conf.{Conf, Engine, shared, split, fenced}
use Rattle.model.specs.Choice.{rotation}
use Rattle.model.specs.Core as core
use Rattle.model.specs.Core.{Th, idle, a1, a2, a3, a4, a5, a6, a7, a8, a9, a10, a11, a12, d1, d2, d3, d4, d5, d6, d7, s3, s6, a10f, d3f, d6f, Ans}
use Rattle.model.specs.Recovery as recovery
use Rattle.model.specs.Machine as machine
use Rattle.model.specs.Steps.{enq, deq, move}

-- a content: a linked flag is set where it is 1
abbrev pub shown_content : Content → core.Node
shown_content c = record { linked = eqb c.linked 1; index = c.index; item = c.item }

-- a node number, where 255 is none
abbrev pub link_if : Bool → ℕ → Option ℕ
link_if true x = none
link_if false x = some x

abbrev pub link_of : ℕ → Option ℕ
link_of x = link_if (eqb x 255) x

abbrev pub also : Bool → ℕ → List ℕ → List ℕ
also true t l = t ∷ l
also false t l = l

-- the numbers below t that f holds of, highest first
unfoldable pub listed : (ℕ → Bool) → ℕ → List ℕ
listed f zero = []
listed f (suc t) = also (f t) t (listed f t)

-- the threads below t in the set w
abbrev pub members : ℕ → ℕ → List ℕ
members t w = listed (has w) t

-- a thread at a stage, with what it has read; i is the index that it has read with Head, which in #101 only the abstract thread remembers
abbrev pub thread_of : Stage → Thread → ℕ → Th
thread_of no_step v i = idle
thread_of A1 v i = a1 v.item
thread_of A2 v i = a2 v.item v.node
thread_of A3 v i = a3 v.item v.node
thread_of A4 v i = a4 v.item v.node
thread_of A5 v i = a5 v.item v.node
thread_of A6 v i = a6 v.item v.node v.tail
thread_of A7 v i = a7 v.item v.node v.tail
thread_of A8 v i = a8 v.item v.node v.tail
thread_of A9 v i = a9 v.item v.node v.tail
thread_of A10 v i = a10 v.item v.node v.tail
thread_of A11 v i = a11 v.item v.node v.tail
thread_of A12 v i = a12 v.item v.node v.tail
thread_of D1 v i = d1
thread_of D2 v i = d2 v.head i
thread_of D3 v i = d3 v.head i
thread_of D4 v i = d4 v.head i v.next
thread_of D5 v i = d5 v.head v.next
thread_of D6 v i = d6 v.head v.item
thread_of D7 v i = d7 v.head v.item
thread_of S3 v i = s3 v.head i
thread_of S6 v i = s6 v.head v.next v.item
thread_of F10 v i = a10f v.item v.node v.tail
thread_of F3 v i = d3f v.head i
thread_of F6 v i = d6f v.head v.item

abbrev pub shown_thread : Thread → ℕ → Th
shown_thread v i = thread_of (stage_of v.step) v i

-- one line for Head with its index; or, as #101 has it, an index line for each thread
abbrev pub engine_if : Bool → Engine
engine_if true = split
engine_if false = shared

-- N nodes, T threads, indices of the form's width, the form's engine, the free nodes handed out in rotation, a line persisted by a flush and a fence
abbrev pub conf_of : ℕ → ℕ → ℕ → Conf
conf_of f n t = record { nodes = n; threads = t; top = top_of f; engine = engine_if (per_desk f); chooser = rotation; mode = fenced }

-- a line
abbrev pub line_shown : memory.Line → Line
line_shown (memory.of_head k) = of_head k
line_shown (memory.of_node i) = of_node i

-- an image: nothing is there beyond its N nodes
unfoldable pub image_shown : Image → ℕ → recovery.Image
image_shown g t = record {
  conf = conf_of g.form g.n t;
  heads = head_in g;
  at = λ i. sel (ltb i g.n) (shown_content (content_at g.nodes i)) core.zero_node;
}

-- an event that is not refused, on a machine of shape z
abbrev pub event_by : Shape → Deed → Event → machine.Event
event_by z unknown e = machine.crash
event_by z enqueues e = machine.ev (act (enq e.number e.item))
event_by z dequeues e = machine.ev (act (deq e.number))
event_by z steps e = machine.ev (act (move e.number))
event_by z writes_back e = machine.ev (back (line_shown (memory.line_at z e.number)))
event_by z crashes e = machine.crash

abbrev pub event_shown : Shape → Event → machine.Event
event_shown z e = event_by z (deed_of e.kind) e

-- the answer of an operation, or none yet
abbrev pub answer_of : Ans → Answer
answer_of core.nothing = Taken
answer_of core.done = Done
answer_of core.full = Full
answer_of core.worn = WornOut
answer_of core.empty = Empty
answer_of (core.item v) = Item v

-- every index of an image is within its form's width, as acceptance says
pub record Narrow (g : Image) : Type 0 where
  pub head : (k : ℕ) → k < head_lines (image_shape g) → head_in g k ≤ top_of g.form
  pub at : (i : ℕ) → i < g.n → (content_at g.nodes i).index ≤ top_of g.form
