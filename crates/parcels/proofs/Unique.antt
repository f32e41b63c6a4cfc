-- Two results that the contract allows, as the source has it, are equal, and so is every lent byte; a refused call writes nothing.
use Prim.Native.Nat.{ℕ}
use mathlib.Core.Path.{◌≡◌, refl, sym, ◌∙◌}
use mathlib.Core.Bool.{false}
use mathlib.Core.List.{List}
use contract.Lifetimes.{Lfts}
use denote.MutBor.{MutBor}
use denote.Ref.{Bor}
use lib.ListN.{length}
use Rattle.std.specs.Prelude.{Result, Err}
use Rattle.answer.specs.Answers.{accepted}
use Rattle.answer.specs.declared.Refusal.{Refusal}
use Rattle.answer.proofs.Results.{given_refused, came_back}
use Rattle.parcels.specs.Despatch.{despatch_answer, despatch_count, despatch_written}
use Rattle.parcels.proofs.despatch.Reads as despatch

pub despatch_one :
    (κs : Lfts 2) (s : Bor (List ℕ)) (b z z' : MutBor (List ℕ)) (k : ℕ) (r r' : Result ℕ Refusal) →
    despatch.Post κs (s, (k, (b, tt))) r (s, (k, (z, tt))) → despatch.Post κs (s, (k, (b, tt))) r' (s, (k, (z', tt))) → (r ≡ r') × (z.now ≡ z'.now)
despatch_one κs s b z z' k r r' p q = (p.0 ∙ sym q.0, p.1 ∙ sym q.1)

pub refused_stays : (s : List ℕ) (k : ℕ) (b : List ℕ) → accepted (despatch_answer s k (length b)) ≡ false → despatch_written s k b ≡ b
unfolding despatch_written
refused_stays s k b h = rw h

pub refused_same :
    (κs : Lfts 2) (s : Bor (List ℕ)) (b z : MutBor (List ℕ)) (k : ℕ) (r : Result ℕ Refusal) (e : Refusal) →
    despatch.Post κs (s, (k, (b, tt))) r (s, (k, (z, tt))) → r ≡ Err e → z.now ≡ b.now
refused_same κs s b z k r e p was =
    let a = given_refused (despatch_answer s.now k (length b.now)) (despatch_count s.now k (length b.now)) p.0 was in
    p.1 ∙ refused_stays s.now k b.now (came_back refl a)
