-- An event whose kind is known: what each arm of the decision gives.
use Rattle.std.specs.Prelude.{ℕ}
use Rattle.machine.specs.Event.{Deed, event_answer, if_taken}
use Rattle.machine.specs.declared.Machine.{Machine}
use Rattle.machine.specs.declared.Event.{Event}
use Rattle.machine.specs.declared.Acted.{Acted}

unfoldable pub event_by : ℕ → Machine → Event → Deed → Acted
event_by p m e d = if_taken (event_answer p m e d) m e d
