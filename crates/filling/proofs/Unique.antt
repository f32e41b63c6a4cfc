-- Two results that a call allows by its contract, as the source has it, are equal: the answer, the numbers, and every byte of the lent buffer.
use Prim.Native.Nat.{ℕ}
use mathlib.Core.Path.{◌≡◌, sym, ◌∙◌}
use mathlib.Core.List.{List}
use contract.Lifetimes.{Lfts}
use denote.Ref.{Bor}
use denote.MutBor.{MutBor}
use Rattle.std.specs.Prelude.{Result}
use Rattle.answer.specs.declared.Refusal.{Refusal}
use Rattle.filling.specs.declared.calls.Lines.{Lines}
use Rattle.filling.proofs.calls.page_lines.Reads as lining
use Rattle.filling.proofs.calls.refusal_line.Reads as refusing

pub lines_one :
    (κs : Lfts 2) (s : Bor (List ℕ)) (k : ℕ) (b z z' : MutBor (List ℕ)) (r r' : Result Lines Refusal) →
    lining.Post κs (s, (k, (b, tt))) r (s, (k, (z, tt))) → lining.Post κs (s, (k, (b, tt))) r' (s, (k, (z', tt))) → (r ≡ r') × (z.now ≡ z'.now)
lines_one κs s k b z z' r r' p q = (p.0 ∙ sym q.0, p.1.0 ∙ sym q.1.0)

pub refusal_one :
    (κs : Lfts 1) (n p : ℕ) (b z z' : MutBor (List ℕ)) (r r' : Result ℕ Refusal) →
    refusing.Post κs (n, (p, (b, tt))) r (n, (p, (z, tt))) → refusing.Post κs (n, (p, (b, tt))) r' (n, (p, (z', tt))) → (r ≡ r') × (z.now ≡ z'.now)
refusal_one κs n p b z z' r r' x y = (x.0 ∙ sym y.0, x.1 ∙ sym y.1)
