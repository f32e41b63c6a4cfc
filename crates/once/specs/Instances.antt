-- Runs in which each of the five answers is given, and two machines of which the claim is false.
use Rattle.std.specs.Prelude.{ℕ, List, [], ◌∷◌, ◌++◌, replicate, set, eqb}
use Rattle.lists.specs.Find.{pick}
use Rattle.answer.specs.Answers.{Done, Full, WornOut, Item, Empty}
use Rattle.image.specs.Form.{top_of}
use Rattle.image.specs.Layout.{no_contents, no_heads}
use Rattle.machine.specs.Record.{thread}
use Rattle.machine.specs.Stage.{A9, number}
use Rattle.machine.specs.declared.Line.TheVariants.{OfNode as of_node}
use Rattle.machine.specs.Start.{start_of, fresh_of}
use Rattle.machine.specs.declared.Machine.{Machine}
use Rattle.machine.specs.declared.Event.{Event}
use Rattle.machine.specs.declared.Touch.{Touch}
use Rattle.machine.specs.declared.Touch.TheVariants.{Nothing as nothing, Persist as a_persist}
use Rattle.once.specs.Once.{touch_of, Answered, answered_by}

-- on thread 0
abbrev pub enqueue : ℕ → Event
enqueue v = record { kind = 1; number = 0; item = v }

abbrev pub dequeue : Event
dequeue = record { kind = 2; number = 0; item = 0 }

abbrev pub stepping : ℕ → List Event
stepping c = replicate c (record { kind = 3; number = 0; item = 0 })

abbrev pub crash : Event
crash = record { kind = 5; number = 0; item = 0 }

-- two nodes, one thread: an enqueue, a crash, a dequeue, an enqueue that finds no free node, a dequeue that finds no item
abbrev pub four : List Event
four = enqueue 7 ∷ stepping 12 ++ (crash ∷ dequeue ∷ stepping 7 ++ (enqueue 8 ∷ stepping 1 ++ (dequeue ∷ stepping 4)))

-- the same on the machine of #101, where each thread has a head line: a dequeue has a step more
abbrev pub four_desks : List Event
four_desks = enqueue 7 ∷ stepping 12 ++ (crash ∷ dequeue ∷ stepping 8 ++ (enqueue 8 ∷ stepping 1 ++ (dequeue ∷ stepping 5)))

abbrev pub desks : Machine
desks = start_of (record { form = 4; n = 2; t = 1; heads = no_heads; nodes = no_contents }) 1

-- the largest head index: an enqueue wears out
abbrev pub worn : Machine
worn = start_of (record { form = 1; n = 2; t = 0; heads = set no_heads 0 (top_of 1); nodes = no_contents }) 1

abbrev pub by0 : (ℕ → Machine → Event → Touch) → Machine → List Event → List Answered
by0 touches m l = answered_by touches 0 m (λ k. 0) l

-- a machine that persists at A9 already, and again behind A10; and one that persists nowhere
abbrev pub twice : ℕ → Machine → Event → Touch
twice p m e = pick (eqb (thread m e.number).step (number A9)) (a_persist (of_node (thread m e.number).node)) (touch_of p m e)

abbrev pub never : ℕ → Machine → Event → Touch
never p m e = nothing
