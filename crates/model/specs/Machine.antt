-- The machine: the core, and what each line has held at each time since the last start; events and runs.
use Rattle.std.specs.Prelude.{◌≡◌, List, [], ◌∷◌, ℕ, suc, ◌≤◌, eqb}
use Rattle.model.specs.Basics.{sel, upd}
use Rattle.model.specs.Lines.{Line, of_head, of_node, Touch, flushes, from_after, mark_after, Ev, act, back}
use Rattle.model.specs.Core.{Core, Node, Ans, nothing, content}
use Rattle.model.specs.Steps.{Act, does}
use Rattle.model.specs.Recovery.{Image, image_has, start}

-- past: the content of each line at each time. Time 0 is what was persisted at the last start, time 1 the content at its end; each event since
-- is one time more. from: the time from which a line's contents count, that of what is persisted; mark: the time of each thread's last flush;
-- now: the present time
pub record M : Type 0 where
  pub core : Core
  pub past : Line → ℕ → Node
  pub from : Line → ℕ
  pub mark : ℕ → ℕ
  pub now : ℕ

-- c is a content of line l: what is persisted, or a cached content since, the present one included
pub record Has (m : M) (l : Line) (c : Node) : Type 0 where
  pub time : ℕ
  pub since : m.from l ≤ time
  pub until : time ≤ m.now
  pub is : c ≡ m.past l time

-- c has been the content of line l since thread t's last flush, or at it
pub record Since (m : M) (t : ℕ) (l : Line) (c : Node) : Type 0 where
  pub time : ℕ
  pub since : m.mark t ≤ time
  pub until : time ≤ m.now
  pub is : c ≡ m.past l time

-- a start counts as one moment: what was persisted, then the content at its end
abbrev pub starts : Image → M
starts g = record { core = start g; past = λ l k. sel (eqb k 0) (image_has g l) (content (start g) l); from = λ l. 0; mark = λ t. 0; now = 1 }

-- the persisted copies: of each line the first content
abbrev pub persisted : M → Image
persisted m = record {
  conf = m.core.conf;
  heads = λ k. (m.past (of_head k) (m.from (of_head k))).index;
  at = λ n. m.past (of_node n) (m.from (of_node n));
}

-- an act, a write-back, a crash followed by recovery
pub data Event : Type 0 where
  ev : (e : Ev Act) → Event
  crash : Event

-- one time more: the core is c, and k is what was done to the lines
abbrev pub goes_on : M → Core → Touch → M
goes_on m c k = record {
  core = c;
  past = λ l. upd (m.past l) (suc m.now) (content c l);
  from = from_after k (suc m.now) m.mark m.from;
  mark = mark_after k (suc m.now) m.mark;
  now = suc m.now;
}

abbrev pub go_ev : M → Ev Act → M
go_ev m (act a) = goes_on m (does m.core a).core (does m.core a).touch
go_ev m (back l) = goes_on m m.core (flushes l)

abbrev pub event : M → Event → M
event m (ev e) = go_ev m e
event m crash = starts (persisted m)

abbrev pub answer : M → Event → Ans
answer m (ev (act a)) = (does m.core a).ans
answer m (ev (back l)) = nothing
answer m crash = nothing

unfoldable pub run : M → List Event → M
run m [] = m
run m (e ∷ l) = run (event m e) l

unfoldable pub answers : M → List Event → List Ans
answers m [] = []
answers m (e ∷ l) = answer m e ∷ answers (event m e) l
