-- Write-backs added to a schedule's events, anywhere after its last start. That each is of a changed line, and makes no recorded one clean, is said by the run that
-- has to be accepted (`Leaves`, in Demand3): 19 refuses every write-back of a clean line.
use Rattle.std.specs.Prelude.{ℕ, suc, ◌≤◌, ◌<◌, ◌≡◌, List, [], ◌∷◌, ◌++◌, ◌≢◌, ◌⊎◌}
use Rattle.answer.specs.Answers.{Answer}
use Rattle.machine.specs.Event.{Deed, crashes, deed_of}
use Rattle.machine.specs.declared.Event.{Event}

-- the write-back of line l
abbrev pub write_back : ℕ → Event
write_back l = record { kind = 4; number = l; item = 0 }

-- l' is l with write-backs of the first n lines added, any number, at any place; a and a' are the answers that the events of
-- the two gave, those of the recorded ones being the same
pub data Adds (n : ℕ) : List Event → List Answer → List Event → List Answer → Type 0 where
  ends : Adds n [] [] [] []
  keeps : {e : Event} {x : Answer} {l l' : List Event} {a a' : List Answer} → Adds n l a l' a' → Adds n (e ∷ l) (x ∷ a) (e ∷ l') (x ∷ a')
  adds : (k : ℕ) → k < n → {x : Answer} {l l' : List Event} {a a' : List Answer} → Adds n l a l' a' → Adds n l a (write_back k ∷ l') (x ∷ a')

abbrev pub NoCrash : List Event → Type 0
NoCrash [] = Unit {0}
NoCrash (e ∷ l) = (deed_of e.kind ≢ crashes) × NoCrash l

-- the last start is the beginning, or the crash that ends the list
abbrev pub EndsInStart : List Event → Type 0
EndsInStart [] = Unit {0}
EndsInStart (e ∷ []) = deed_of e.kind ≡ crashes
EndsInStart (e ∷ d ∷ l) = EndsInStart (d ∷ l)

-- the events l with their answers a, lengthened after the last start to l' with a'
pub record AddsLate (n : ℕ) (l : List Event) (a : List Answer) (l' : List Event) (a' : List Answer) : Type 0 where
  pub before : List Event
  pub told : List Answer
  pub since : List Event
  pub since' : List Event
  pub heard : List Answer
  pub heard' : List Answer
  pub start : EndsInStart before
  pub free : NoCrash since
  pub adds : Adds n since heard since' heard'
  pub is : l ≡ before ++ since
  pub is' : l' ≡ before ++ since'
  pub answers : a ≡ told ++ heard
  pub answers' : a' ≡ told ++ heard'
