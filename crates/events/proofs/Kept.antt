-- The call on a kept record, from its contract as the source has it. Assumes nothing.
use Prim.Native.Nat.{ℕ}
use mathlib.Core.Path.{◌≡◌, refl, sym, ap, ◌∙◌}
use mathlib.Core.Bool.{Bool, true, false}
use lib.Dec.{eqb}
use seplogic.Ra.Ura.{Ura}
use base.Logic.{SProp}
use prog.Memory.{Memory}
use prog.Routine.{Routine}
use types.Logic.{Logic}
use contract.Monad.{Fun, fact}
use contract.Lifetimes.{Lfts}
use denote.MutBor.{MutBor}
use Rattle.answer.specs.Answers.{told, accepted, Answer}
use Rattle.answer.specs.declared.Told.{Told}
use Rattle.answer.proofs.Injective.{told_injective}
use Rattle.machine.specs.declared.Machine.{Machine}
use Rattle.machine.specs.declared.Event.{Event}
use Rattle.machine.specs.declared.Out.{Out}
use Rattle.events.specs.Applied.{Applied}
use Rattle.events.proofs.Refused.{on_same}
use Rattle.events.proofs.on_event.Reads as on_event_lem
use Rattle.events.specs.contracts.apply as apply

-- all that the contract promises is `Applied` of the record before and the record after; it asks for nothing
module _ {M : Type 1} {𝓤 : Ura M} (𝓛 : Logic 𝓤) (mem : Memory → SProp 𝓤) (run : Routine → Fun 𝓤) (κs : Lfts 1) (m z : MutBor Machine) (e : Event) (r : Answer) where
  pub apply_says : (apply.clauses 𝓛 mem run κs (m, (e, tt))).ensures tt r (z, (e, tt)) ≡ fact 𝓤 (Applied m.now e r z.now)
  apply_says = refl

-- two results that it allows are equal: the answer and every field
pub apply_one : (m : Machine) (e : Event) (r s : Answer) (x y : Machine) → Applied m e r x → Applied m e s y → (r ≡ s) × (x ≡ y)
apply_one m e r s x y p q = (told_injective r s (p.answers ∙ sym q.answers), p.machine ∙ sym q.machine)

-- "After it the record is what the present call would have handed back": whatever the contract of `on_event` allows
pub apply_as_event :
    (m : Machine) (e : Event) (r : Answer) (x : Machine) (o : Out) →
    Applied m e r x → on_event_lem.Post tt (m, (e, tt)) o (m, (e, tt)) → (r ≡ o.answer) × (x ≡ o.machine)
apply_as_event m e r x o p q = (told_injective r o.answer (p.answers ∙ sym q.0), p.machine ∙ sym q.1)

-- "a refused event leaves every field unaltered"
pub apply_refused : (m : Machine) (e : Event) (r : Answer) (x : Machine) → Applied m e r x → accepted r ≡ false → x ≡ m
apply_refused m e r x p h = p.machine ∙ on_same m e (ap (λ (z : Told). eqb z.number 0) (sym p.answers) ∙ h)
