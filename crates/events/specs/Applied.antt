-- "offer one that works on the machine record that it keeps, one event at a time": what the call on a kept record answers and leaves.
use Rattle.std.specs.Prelude.{◌≡◌}
use Rattle.answer.specs.Answers.{told, Answer}
use Rattle.machine.specs.Event.{event_on}
use Rattle.machine.specs.declared.Machine.{Machine}
use Rattle.machine.specs.declared.Event.{Event}
use Rattle.machine.specs.declared.Out.{Out}

-- m is the record before, r the answer, m' the record after.
-- "After it the record is what the present call would have handed back": the present call is on_event, whose definition is eventOn
pub record Applied (m : Machine) (e : Event) (r : Answer) (m' : Machine) : Type 0 where
  pub answers : told r ≡ told (event_on m e).answer
  pub machine : m' ≡ (event_on m e).machine
