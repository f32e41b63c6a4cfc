-- Two results that the call allows by its contract, as the source has it, are equal: the answer, the count, and every byte of the lent buffer. A refused call writes nothing.
use Prim.Native.Nat.{ℕ}
use mathlib.Core.Path.{◌≡◌, refl, sym, ◌∙◌}
use mathlib.Core.List.{List}
use contract.Lifetimes.{Lfts}
use denote.Ref.{Bor}
use denote.MutBor.{MutBor}
use lib.ListN.{length}
use Rattle.std.specs.Prelude.{Result, Err}
use Rattle.answer.specs.declared.Refusal.{Refusal}
use Rattle.answer.proofs.Results.{came_back, given_refused}
use Rattle.plainway.specs.Plainly.{plain_answer, plain_count}
use Rattle.plainway.proofs.WayLaws.{written_refused}
use Rattle.plainway.proofs.plain_page.Reads as plain

pub plain_one :
    (κs : Lfts 2) (s : Bor (List ℕ)) (b z z' : MutBor (List ℕ)) (r r' : Result ℕ Refusal) →
    plain.Post κs (s, (b, tt)) r (s, (z, tt)) → plain.Post κs (s, (b, tt)) r' (s, (z', tt)) → (r ≡ r') × (z.now ≡ z'.now)
plain_one κs s b z z' r r' p q = (p.0 ∙ sym q.0, p.1 ∙ sym q.1)

pub plain_refused :
    (κs : Lfts 2) (s : Bor (List ℕ)) (b z : MutBor (List ℕ)) (r : Result ℕ Refusal) (e : Refusal) →
    plain.Post κs (s, (b, tt)) r (s, (z, tt)) → r ≡ Err e → z.now ≡ b.now
plain_refused κs s b z r e p w =
    p.1 ∙ written_refused s.now b.now (came_back refl (given_refused (plain_answer s.now (length b.now)) (plain_count s.now (length b.now)) p.0 w))
