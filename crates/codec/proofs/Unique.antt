-- Two results that a public call's contract allows, as the source has it, are equal: the answer, what is handed out, and every byte of the lent buffer.
use Prim.Native.Nat.{ℕ}
use Rattle.std.specs.Prelude.{Result}
use mathlib.Core.Path.{◌≡◌, sym, ◌∙◌}
use mathlib.Core.List.{List}
use contract.Lifetimes.{Lfts}
use denote.Ref.{Bor}
use denote.MutBor.{MutBor}
use Rattle.answer.proofs.Injective.{told_injective}
use Rattle.answer.specs.Answers.{Answer}
use Rattle.answer.specs.declared.Refusal.{Refusal}
use Rattle.image.specs.declared.Image.{Image}
use Rattle.machine.specs.declared.Event.{Event}
use Rattle.schedule.specs.declared.Schedule.{Schedule}
use Rattle.codec.proofs.read_image.Reads as read
use Rattle.codec.proofs.read_schedule.Reads as schedule
use Rattle.codec.proofs.event_of.Reads as event
use Rattle.codec.proofs.writing.write_image.Reads as write

pub read_one : (κs : Lfts 1) (s : Bor (List ℕ)) (r r' : Result Image Refusal) → read.Post κs (s, tt) r (s, tt) → read.Post κs (s, tt) r' (s, tt) → r ≡ r'
read_one κs s r r' p q = p ∙ sym q

pub schedule_one :
    (κs : Lfts 1) (s : Bor (List ℕ)) (r r' : Result Schedule Refusal) → schedule.Post κs (s, tt) r (s, tt) → schedule.Post κs (s, tt) r' (s, tt) → r ≡ r'
schedule_one κs s r r' p q = p ∙ sym q

pub event_one :
    (κs : Lfts 1) (s : Bor (List ℕ)) (i : ℕ) (r r' : Result Event Refusal) → event.Post κs (s, (i, tt)) r (s, (i, tt)) → event.Post κs (s, (i, tt)) r' (s, (i, tt)) → r ≡ r'
event_one κs s i r r' p q = p ∙ sym q

pub write_one :
    (κs : Lfts 1) (g : Image) (b z z' : MutBor (List ℕ)) (r r' : Answer) →
    write.Post κs (g, (b, tt)) r (g, (z, tt)) → write.Post κs (g, (b, tt)) r' (g, (z', tt)) → (r ≡ r') × (z.now ≡ z'.now)
write_one κs g b z z' r r' p q = (told_injective r r' (p.0 ∙ sym q.0), p.1 ∙ sym q.1)
