-- The row that a touch changes.
use Rattle.std.specs.Prelude.{ℕ, Bool, true, false, ltb}
use Rattle.lists.specs.Find.{pick}
use Rattle.image.specs.declared.Shape.{Shape}
use Rattle.machine.specs.Line.{number_of}
use Rattle.machine.specs.declared.Touch.{Touch}
use Rattle.machine.specs.declared.Touch.TheVariants.{Nothing as nothing, Store as a_store, Persist as a_persist, Flush as a_flush, Fence as a_fence}

-- the number of its line, 72 where there is none; the thread that flushes or fences it, 8 where none does; and whether the present content is then the only one
pub record Touched : Type 0 where
  pub line : ℕ
  pub thread : ℕ
  pub persisted : Bool

abbrev pub touching : ℕ → ℕ → Bool → Touched
touching l k p = record { line = l; thread = k; persisted = p }

abbrev pub touched_row : Shape → Touch → Touched
touched_row z nothing = touching 72 8 false
touched_row z (a_store l) = touching (number_of z l) 8 false
touched_row z (a_persist l) = touching (number_of z l) 8 true
touched_row z (a_flush k l) = touching (number_of z l) k true
touched_row z (a_fence k l) = touching (number_of z l) k false

-- one of four by what was touched: no line; a line stored to or written back; a line flushed; a line fenced
abbrev pub by_touch : {A : Type 0} → Touched → A → A → A → A → A
by_touch w a put flushed fenced = pick (ltb w.line 72) (pick (ltb w.thread 8) (pick w.persisted flushed fenced) put) a
