-- Two results that a call's contract, as the source has it, allows are equal. Assumes nothing.
use Prim.Native.Nat.{ℕ}
use mathlib.Core.Path.{◌≡◌, sym, ◌∙◌}
use mathlib.Core.List.{List}
use denote.MutBor.{MutBor}
use denote.Ref.{Bor}
use contract.Lifetimes.{Lfts}
use Rattle.std.specs.Prelude.{Result}
use Rattle.answer.specs.Answers.{Answer}
use Rattle.answer.specs.declared.Refusal.{Refusal}
use Rattle.answer.proofs.Injective.{told_injective}
use Rattle.machine.specs.declared.Machine.{Machine}
use Rattle.record.proofs.read_record.Reads as reading
use Rattle.record.proofs.write_record.Reads as writing

pub read_record_one :
    (κs : Lfts 1) (s z z' : Bor (List ℕ)) (r r' : Result Machine Refusal) → reading.Post κs (s, tt) r (z, tt) → reading.Post κs (s, tt) r' (z', tt) → r ≡ r'
read_record_one κs s z z' r r' p q = p ∙ sym q

pub write_record_one :
    (κs : Lfts 1) (m : Machine) (b z z' : MutBor (List ℕ)) (r r' : Answer) →
    writing.Post κs (m, (b, tt)) r (m, (z, tt)) → writing.Post κs (m, (b, tt)) r' (m, (z', tt)) → (r ≡ r') × (z.now ≡ z'.now)
write_record_one κs m b z z' r r' p q = (told_injective r r' (p.0 ∙ sym q.0), p.1 ∙ sym q.1)
