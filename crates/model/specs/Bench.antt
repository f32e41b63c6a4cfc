-- The bench: a machine with the book of the operations since the last start, the queue at that start, and the number of the next event.
use Rattle.std.specs.Prelude.{List, [], ◌∷◌, ℕ, suc}
use Rattle.model.specs.Basics.{upd}
use Rattle.model.specs.Lines.{act, back}
use Rattle.model.specs.Core.{Ans, nothing, done, full, worn, empty, item}
use Rattle.model.specs.Steps.{enq, deq, move}
use Rattle.model.specs.Recovery.{Image, items_of}
use Rattle.model.specs.Machine.{M, Event, ev, crash, event, answer, starts, persisted}
use Rattle.model.specs.Lawful.{Call, putting, taking, Op}

-- the operations since the last start, numbered in the order in which they began; and the last one of each thread
pub record Book : Type 0 where
  pub count : ℕ
  pub op : ℕ → Op
  pub cur : ℕ → ℕ

abbrev pub no_op : Op
no_op = record { call = taking; began = 0; said = nothing; ended = 0 }

abbrev pub new_book : Book
new_book = record { count = 0; op = λ k. no_op; cur = λ t. 0 }

-- event k begins an operation of thread t
abbrev pub opens : Book → ℕ → ℕ → Call → Book
opens b k t c = record {
  count = suc b.count;
  op = upd b.op b.count (record { call = c; began = k; said = nothing; ended = 0 });
  cur = upd b.cur t b.count;
}

-- event k answers the operation of thread t
abbrev pub closes : Book → ℕ → ℕ → Ans → Book
closes b k t a = record {
  count = b.count;
  op = upd b.op (b.cur t) (record { call = (b.op (b.cur t)).call; began = (b.op (b.cur t)).began; said = a; ended = k });
  cur = b.cur;
}

-- event k moved thread t, which answered or did not
abbrev pub note_move : Book → ℕ → ℕ → Ans → Book
note_move b k t nothing = b
note_move b k t done = closes b k t done
note_move b k t full = closes b k t full
note_move b k t worn = closes b k t worn
note_move b k t empty = closes b k t empty
note_move b k t (item v) = closes b k t (item v)

-- the book after event k; a start begins a new one
abbrev pub note : Book → ℕ → Event → Ans → Book
note b k (ev (act (enq t v))) a = opens b k t (putting v)
note b k (ev (act (deq t))) a = opens b k t taking
note b k (ev (act (move t))) a = note_move b k t a
note b k (ev (back l)) a = b
note b k crash a = new_book

-- first: the items in the queue at the last start; now: the number of the next event
pub record Bench : Type 0 where
  pub mach : M
  pub book : Book
  pub first : List ℕ
  pub now : ℕ

abbrev pub first_after : Bench → Event → List ℕ
first_after b (ev (act (enq t v))) = b.first
first_after b (ev (act (deq t))) = b.first
first_after b (ev (act (move t))) = b.first
first_after b (ev (back l)) = b.first
first_after b crash = items_of (persisted b.mach)

-- one event
abbrev pub turn : Bench → Event → Bench
turn b e = record {
  mach = event b.mach e;
  book = note b.book b.now e (answer b.mach e);
  first = first_after b e;
  now = suc b.now;
}

unfoldable pub bench : Bench → List Event → Bench
bench b [] = b
bench b (e ∷ l) = bench (turn b e) l

-- the bench begins by recovering the schedule's image
abbrev pub opening : Image → Bench
opening g = record { mach = starts g; book = new_book; first = items_of g; now = 0 }
