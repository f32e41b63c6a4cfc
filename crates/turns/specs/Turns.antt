-- Request 106: "Always taking the lowest free node wears the same cells." In rotation a node that is free is handed out before any other is handed
-- out twice: between two hand-outs of one node every other node that was free behind the first of them is handed out.
use Rattle.std.specs.Prelude.{ℕ, suc, ◌+◌, ◌<◌, ◌≡◌, Bool, true, false, List, [], ◌∷◌, ◌⊎◌, ◌≢◌, eqb, length}
use Rattle.lists.specs.Word.{has}
use Rattle.answer.specs.Answers.{accepted}
use Rattle.machine.specs.Stage.{A1, stage}
use Rattle.machine.specs.Retire.{next_free}
use Rattle.machine.specs.Event.{steps, crashes, deed_of, event_answer, event_at}
use Rattle.machine.specs.declared.Machine.{Machine}
use Rattle.machine.specs.declared.Event.{Event}

-- event e, at place p of a run, hands out node i: it is taken, it is a step, the thread stands at A1, a node is free, and i is the next one
pub record HandsOut (p : ℕ) (m : Machine) (e : Event) (i : ℕ) : Type 0 where
  pub taken : accepted (event_answer p m e (deed_of e.kind)) ≡ true
  pub step : deed_of e.kind ≡ steps
  pub at : stage m e.number ≡ A1
  pub some_free : eqb m.free 0 ≡ false
  pub node : next_free m ≡ i

-- the machine behind events in turn, the first of which has number p
unfoldable pub after_all : ℕ → Machine → List Event → Machine
after_all p m [] = m
after_all p m (e ∷ l) = after_all (suc p) (event_at p m e).machine l

-- one of them hands out node i
abbrev pub Handed : ℕ → ℕ → Machine → List Event → Type 0
Handed i p m [] = ⊥
Handed i p m (e ∷ l) = HandsOut p m e i ⊎ Handed i (suc p) (event_at p m e).machine l

-- none of them is a crash: a start makes every node but the queue's free and begins the round anew
abbrev pub NoCrash : List Event → Type 0
NoCrash [] = Unit {0}
NoCrash (e ∷ l) = (deed_of e.kind ≢ crashes) × NoCrash l

-- j has just been handed out and i is free; events in turn follow, and the next one hands out j again: one of them has handed out i
abbrev pub InTurn : ℕ → Machine → List Event → Event → ℕ → ℕ → Type 0
InTurn p m l e i j =
    m.last ≡ j → j < m.n → i < m.n → i ≢ j → has m.free i ≡ true → NoCrash l
    → HandsOut (p + length l) (after_all p m l) e j → Handed i p m l
