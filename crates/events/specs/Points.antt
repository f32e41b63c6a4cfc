-- P1 to P5 up to their last event, which is a step in each: the inputs at which benches that cheat are shut out.
use Rattle.std.specs.Prelude.{ℕ, List, [], ◌∷◌, ◌++◌, replicate}
use Rattle.image.specs.declared.Content.{Content}
use Rattle.machine.specs.Record.{thread}
use Rattle.machine.specs.Line.{shape_of, line_at, persisted_at}
use Rattle.machine.specs.Start.{fresh_of}
use Rattle.machine.specs.Event.{event_on}
use Rattle.machine.specs.declared.Machine.{Machine}
use Rattle.machine.specs.declared.Event.{Event}
use Rattle.machine.specs.declared.Out.{Out}

-- on thread 0
abbrev pub enqueue : ℕ → Event
enqueue v = record { kind = 1; number = 0; item = v }

abbrev pub dequeue : Event
dequeue = record { kind = 2; number = 0; item = 0 }

abbrev pub step : Event
step = record { kind = 3; number = 0; item = 0 }

-- a bench: what it answers and leaves for a machine and an event; the machine after some events, one after the other
unfoldable pub leaves : (Machine → Event → Out) → Machine → List Event → Machine
leaves b m [] = m
leaves b m (e ∷ l) = leaves b (b m e).machine l

abbrev pub after : List Event → Machine
after l = leaves event_on (fresh_of 2 1) l

pub data Point : Type 0 where
  P1 P2 P3 P4 P5 : Point

-- N = 2, T = 1, all-zero image: the events before the last
abbrev pub before : Point → List Event
before P1 = enqueue 7 ∷ replicate 8 step
before P2 = enqueue 7 ∷ replicate 10 step
before P3 = enqueue 7 ∷ replicate 12 step ++ (dequeue ∷ replicate 2 step)
before P4 = enqueue 7 ∷ replicate 12 step ++ (dequeue ∷ replicate 5 step)
before P5 = enqueue 7 ∷ replicate 12 step ++ (dequeue ∷ replicate 7 step ++ (enqueue 8 ∷ []))

abbrev pub given : Point → Machine
given c = after (before c)

-- thread 0's step number before the last event and after it, and the operation's answer: at P5 it is Full
abbrev pub was : Point → ℕ
was P1 = 9
was P2 = 22
was P3 = 16
was P4 = 24
was P5 = 1

abbrev pub is : Point → ℕ
is P1 = 10
is P2 = 11
is P3 = 17
is P4 = 19
is P5 = 0

abbrev pub reply : Point → ℕ
reply P1 = 0
reply P2 = 0
reply P3 = 0
reply P4 = 0
reply P5 = 2

abbrev pub step_number : Machine → ℕ
step_number m = (thread m 0).step

-- what is persisted of line 2
abbrev pub line_two : Machine → Content
line_two m = persisted_at m (line_at (shape_of m) 2)
