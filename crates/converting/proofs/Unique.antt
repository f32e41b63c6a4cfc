-- Two results that a conversion's contract allows, as the source has it, are equal: the answer, and every byte of the lent buffer.
use Prim.Native.Nat.{ℕ}
use mathlib.Core.Path.{◌≡◌, sym, ◌∙◌}
use mathlib.Core.List.{List}
use contract.Lifetimes.{Lfts}
use denote.MutBor.{MutBor}
use denote.Ref.{Bor}
use Rattle.answer.proofs.Injective.{told_injective}
use Rattle.answer.specs.Answers.{Answer}
use Rattle.converting.proofs.widen.Reads as widening
use Rattle.converting.proofs.narrow.Reads as narrowing
use Rattle.converting.proofs.desks.import_desks.Reads as importing
use Rattle.converting.proofs.desks.export_desks.Reads as exporting

pub widen_one :
    (κs : Lfts 2) (s : Bor (List ℕ)) (b z z' : MutBor (List ℕ)) (r r' : Answer) →
    widening.Post κs (s, (b, tt)) r (s, (z, tt)) → widening.Post κs (s, (b, tt)) r' (s, (z', tt)) → (r ≡ r') × (z.now ≡ z'.now)
widen_one κs s b z z' r r' p q = (told_injective r r' (p.0 ∙ sym q.0), p.1 ∙ sym q.1)

pub narrow_one :
    (κs : Lfts 2) (s : Bor (List ℕ)) (b z z' : MutBor (List ℕ)) (r r' : Answer) →
    narrowing.Post κs (s, (b, tt)) r (s, (z, tt)) → narrowing.Post κs (s, (b, tt)) r' (s, (z', tt)) → (r ≡ r') × (z.now ≡ z'.now)
narrow_one κs s b z z' r r' p q = (told_injective r r' (p.0 ∙ sym q.0), p.1 ∙ sym q.1)

pub import_one :
    (κs : Lfts 2) (s : Bor (List ℕ)) (b z z' : MutBor (List ℕ)) (r r' : Answer) →
    importing.Post κs (s, (b, tt)) r (s, (z, tt)) → importing.Post κs (s, (b, tt)) r' (s, (z', tt)) → (r ≡ r') × (z.now ≡ z'.now)
import_one κs s b z z' r r' p q = (told_injective r r' (p.0 ∙ sym q.0), p.1 ∙ sym q.1)

pub export_one :
    (κs : Lfts 2) (s : Bor (List ℕ)) (b z z' : MutBor (List ℕ)) (t : ℕ) (r r' : Answer) →
    exporting.Post κs (s, (t, (b, tt))) r (s, (t, (z, tt))) → exporting.Post κs (s, (t, (b, tt))) r' (s, (t, (z', tt))) → (r ≡ r') × (z.now ≡ z'.now)
export_one κs s b z z' t r r' p q = (told_injective r r' (p.0 ∙ sym q.0), p.1 ∙ sym q.1)
