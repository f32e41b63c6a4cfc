-- A step number as the step it names, and one table of what holds of each step.
use Rattle.std.specs.Prelude.{ℕ, Bool, true, false, not, List, [], ◌∷◌, get_or, eqb, leb}
use Rattle.lists.specs.Find.{pick}
use Rattle.image.specs.Form.{per_desk}
use Rattle.machine.specs.Record.{thread}
use Rattle.machine.specs.declared.Machine.{Machine}

-- the step that a thread is about to perform
pub data Stage : Type 0 where
  no_step A1 A2 A3 A4 A5 A6 A7 A8 A9 A10 A11 A12 D1 D2 D3 D4 D5 D6 D7 S3 S6 F10 F3 F6 : Stage

-- 0 is no operation, 1 to 12 are A1 to A12, 13 to 19 are D1 to D7; 20 and 21 are the stores before D3 and D6 that #101 has; 22 to 24 are the fences behind A10, D3
-- and D6 that #104 has
abbrev pub stages : List Stage
stages =
    no_step ∷ A1 ∷ A2 ∷ A3 ∷ A4 ∷ A5 ∷ A6 ∷ A7 ∷ A8 ∷ A9 ∷ A10 ∷ A11 ∷ A12 ∷ D1 ∷ D2 ∷ D3 ∷ D4 ∷ D5 ∷ D6 ∷ D7 ∷ S3 ∷ S6 ∷ F10 ∷ F3
    ∷ F6 ∷ []

abbrev pub stage_of : ℕ → Stage
stage_of s = get_or stages s no_step

-- ---- one table of what holds of each step: a new step is one row

pub record Row : Type 0 where
  -- the step's number
  pub number : ℕ
  -- which of the four node numbers that a thread may have read the step uses, whatever its test finds: its own node, t, the head read, the next read
  pub own : Bool
  pub t : Bool
  pub the_head : Bool
  pub the_next : Bool
  -- an enqueue owns its node from after A1 until its A8 links, A12 included
  pub enqueue_owns : Bool
  -- a dequeue owns the old dummy between D4 and D7
  pub dequeue_owns : Bool

abbrev pub facts : ℕ → Bool → Bool → Bool → Bool → Bool → Bool → Row
facts s o t h x e d = record { number = s; own = o; t = t; the_head = h; the_next = x; enqueue_owns = e; dequeue_owns = d }

--        number, own node, t, head, next, enqueue owns, dequeue owns
abbrev pub row : Stage → Row
row no_step = facts 0 false false false false false false
row A1 = facts 1 false false false false false false
row A2 = facts 2 true false false false true false
row A3 = facts 3 true false false false true false
row A4 = facts 4 true false false false true false
row A5 = facts 5 false false false false true false
row A6 = facts 6 false true false false true false
row A7 = facts 7 true true false false true false
row A8 = facts 8 true true false false true false
row A9 = facts 9 true false false false false false
row A10 = facts 10 true false false false false false
row A11 = facts 11 true true false false false false
row A12 = facts 12 false true false false true false
row D1 = facts 13 false false false false false false
row D2 = facts 14 false false true false false false
row D3 = facts 15 false false false false false false
row D4 = facts 16 false false true true false false
row D5 = facts 17 false false false true false true
row D6 = facts 18 false false false false false true
row D7 = facts 19 false false true false false true
row S3 = facts 20 false false true false false false
row S6 = facts 21 false false false true false true
row F10 = facts 22 true false false false false false
row F3 = facts 23 false false false false false false
row F6 = facts 24 false false false false false true

-- ---- its columns

abbrev pub number : Stage → ℕ
number s = (row s).number

-- whether a machine has a step of that number: the two stores are #101's alone
abbrev pub is_step : Machine → ℕ → Bool
is_step m s = pick (leb s (number D7)) true (pick (leb s (number S6)) (per_desk m.form) (leb s (number F6)))

abbrev pub enqueue_owns : Stage → Bool
enqueue_owns s = (row s).enqueue_owns

abbrev pub dequeue_owns : Stage → Bool
dequeue_owns s = (row s).dequeue_owns

pub data Register : Type 0 where
  own t the_head the_next : Register

abbrev pub uses : Stage → Register → Bool
uses s own = (row s).own
uses s t = (row s).t
uses s the_head = (row s).the_head
uses s the_next = (row s).the_next

abbrev pub stage : Machine → ℕ → Stage
stage m k = stage_of (thread m k).step

-- thread k has an operation: from its begin to its answer
abbrev pub busy : Machine → ℕ → Bool
busy m k = not (eqb (thread m k).step 0)
