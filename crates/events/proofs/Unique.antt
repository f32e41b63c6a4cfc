-- Two results that a call's contract, as the source has it, allows are equal. Assumes nothing.
use Prim.Native.Nat.{ℕ}
use mathlib.Core.Path.{◌≡◌, sym, ap₂, ◌∙◌}
use mathlib.Core.List.{List}
use denote.MutBor.{MutBor}
use contract.Lifetimes.{Lfts}
use Rattle.std.specs.Prelude.{Result}
use Rattle.answer.specs.Answers.{Answer}
use Rattle.answer.specs.declared.Refusal.{Refusal}
use Rattle.answer.proofs.Injective.{told_injective}
use Rattle.machine.specs.Retire.{out}
use Rattle.machine.specs.declared.Machine.{Machine}
use Rattle.machine.specs.declared.Event.{Event}
use Rattle.machine.specs.declared.Out.{Out}
use Rattle.machine.specs.declared.Places.{Places}
use Rattle.events.proofs.on_event.Reads as on_event_lem
use Rattle.events.proofs.save.Reads as saving
use Rattle.events.proofs.count_places.Reads as counting

pub on_event_one :
    (m : Machine) (e : Event) (r s : Out) →
    on_event_lem.Post tt (m, (e, tt)) r (m, (e, tt)) → on_event_lem.Post tt (m, (e, tt)) s (m, (e, tt)) → r ≡ s
on_event_one m e r s p q =
    ap₂ (λ (a : Answer) (x : Machine). out a x) (told_injective r.answer s.answer (p.0 ∙ sym q.0)) (p.1 ∙ sym q.1)

pub save_one :
    (κs : Lfts 1) (m : Machine) (b z z' : MutBor (List ℕ)) (r s : Answer) →
    saving.Post κs (m, (b, tt)) r (m, (z, tt)) → saving.Post κs (m, (b, tt)) s (m, (z', tt)) → (r ≡ s) × (z.now ≡ z'.now)
save_one κs m b z z' r s p q = (told_injective r s (p.0 ∙ sym q.0), p.1 ∙ sym q.1)

pub count_places_one :
    (m : Machine) (r s : Result Places Refusal) →
    counting.Post tt (m, tt) r (m, tt) → counting.Post tt (m, tt) s (m, tt) → r ≡ s
count_places_one m r s p q = p ∙ sym q
