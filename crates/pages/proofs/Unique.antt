-- Two results that a page's call allows by its contract, as the source has it, are equal: the answer, the count, and every byte of the lent buffer.
use Prim.Native.Nat.{ℕ}
use mathlib.Core.Path.{◌≡◌, sym, ◌∙◌}
use mathlib.Core.List.{List}
use contract.Lifetimes.{Lfts}
use denote.Ref.{Bor}
use denote.MutBor.{MutBor}
use Rattle.answer.proofs.Injective.{told_injective}
use Rattle.std.specs.Prelude.{Result}
use Rattle.answer.specs.declared.Refusal.{Refusal}
use Rattle.answer.specs.Answers.{Answer}
use Rattle.pages.specs.declared.lines.LineContents.{LineContents}
use Rattle.pages.proofs.calls.count_endings.Reads as counting
use Rattle.pages.proofs.calls.ending_of.Reads as writing
use Rattle.pages.proofs.lines.line_contents.Reads as showing

pub count_one :
    (κs : Lfts 1) (s : Bor (List ℕ)) (r r' : Result ℕ Refusal) →
    counting.Post κs (s, tt) r (s, tt) → counting.Post κs (s, tt) r' (s, tt) → r ≡ r'
count_one κs s r r' p q = p ∙ sym q

pub ending_one :
    (κs : Lfts 2) (s : Bor (List ℕ)) (k : ℕ) (b z z' : MutBor (List ℕ)) (r r' : Answer) →
    writing.Post κs (s, (k, (b, tt))) r (s, (k, (z, tt))) → writing.Post κs (s, (k, (b, tt))) r' (s, (k, (z', tt))) → (r ≡ r') × (z.now ≡ z'.now)
ending_one κs s k b z z' r r' p q = (told_injective r r' (p.0 ∙ sym q.0), p.1 ∙ sym q.1)

pub line_one :
    (κs : Lfts 1) (s : Bor (List ℕ)) (l : ℕ) (r r' : Result LineContents Refusal) →
    showing.Post κs (s, (l, tt)) r (s, (l, tt)) → showing.Post κs (s, (l, tt)) r' (s, (l, tt)) → r ≡ r'
line_one κs s l r r' p q = p ∙ sym q
