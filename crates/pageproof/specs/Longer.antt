-- A list of events with write-backs added, whatever is answered.
use Rattle.std.specs.Prelude.{ℕ, suc, ◌<◌, ◌≡◌, false, List, [], ◌∷◌, ◌++◌}
use Rattle.image.specs.declared.Image.{Image}
use Rattle.machine.specs.Line.{shape_of, line_count, line_at}
use Rattle.machine.specs.Event.{writes_back, deed_of, clean}
use Rattle.machine.specs.declared.Event.{Event}
use Rattle.schedule.specs.Layout.{schedule_in, events_in, schedule_shape}
use Rattle.schedule.specs.Run.{Bench, Ran, forward, opened}
use Rattle.lawful.specs.Added.{write_back, NoCrash, EndsInStart}
use Rattle.lawful.specs.Demand3.{run_of, image_left}

-- l' is l with write-backs of the first n lines added, any number, at any place
pub data Longer (n : ℕ) : List Event → List Event → Type 0 where
  ends : Longer n [] []
  keeps : {e : Event} {l l' : List Event} → Longer n l l' → Longer n (e ∷ l) (e ∷ l')
  adds : (k : ℕ) → k < n → {l l' : List Event} → Longer n l l' → Longer n l (write_back k ∷ l')

-- the events l, lengthened after the last start to l'
pub record LongerLate (n : ℕ) (l l' : List Event) : Type 0 where
  pub before : List Event
  pub since : List Event
  pub since' : List Event
  pub start : EndsInStart before
  pub free : NoCrash since
  pub adds : Longer n since since'
  pub is : l ≡ before ++ since
  pub is' : l' ≡ before ++ since'

-- "write-backs of changed lines only, none that makes a recorded one clean": each write-back among the events, added or recorded, is of a line that is not
-- clean when its turn comes. The first event has number p
abbrev pub Changed : ℕ → Bench → List Event → Type 0
Changed p b [] = Unit {0}
Changed p b (e ∷ l) =
    (deed_of e.kind ≡ writes_back → clean b.machine (line_at (shape_of b.machine) e.number) ≡ false) × Changed (suc p) (forward p b e) l

-- some list with write-backs added after the last start, all write-backs in it of changed lines, leaves the image
abbrev pub LeftLate : List ℕ → Image → Type 0
LeftLate s g =
    (l : List Event) × LongerLate (line_count (schedule_shape s)) (events_in s) l × Changed 0 (opened (schedule_in s)) l × (image_left (run_of s l).bench.machine ≡ g)
