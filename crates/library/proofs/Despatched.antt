-- The call on a schedule's list: its value, two results are equal, and a refused call writes nothing.
use Prim.Native.Nat.{ℕ, ◌/◌}
use mathlib.Core.Path.{◌≡◌, sym, ◌∙◌}
use mathlib.Core.Bool.{true}
use mathlib.Core.List.{List}
use contract.Lifetimes.{Lfts}
use denote.MutBor.{MutBor}
use denote.Ref.{Bor}
use lib.ListN.{length}
use Rattle.answer.specs.Answers.{told, accepted}
use Rattle.parcels.specs.Despatch.{despatch_answer, despatch_count}
use Rattle.parcels.proofs.Unique.{refused_stays}
use Rattle.parcelcalls.specs.Given.{despatch_given}
use Rattle.calls.proofs.Apart as apart
use Rattle.library.proofs.Refused.{Refused, not_taken}
use Rattle.library.proofs.despatch.uq_despatch.Reads as despatch

-- the value, where it is taken
pub despatch_value : (s : List ℕ) (k room : ℕ) → accepted (despatch_answer s k room) ≡ true → despatch_given s k room / 256 ≡ despatch_count s k room
despatch_value s k room h = apart.value_back (told (despatch_answer s k room)) (despatch_count s k room) h

-- ---- the contract as the source has it: two results are equal, and a refused call writes nothing

pub despatch_one :
    (κs : Lfts 2) (s : Bor (List ℕ)) (b z z' : MutBor (List ℕ)) (k r r' : ℕ) →
    despatch.Post κs (s, (k, (b, tt))) r (s, (k, (z, tt))) → despatch.Post κs (s, (k, (b, tt))) r' (s, (k, (z', tt))) → (r ≡ r') × (z.now ≡ z'.now)
despatch_one κs s b z z' k r r' p q = (p.0 ∙ sym q.0, p.1 ∙ sym q.1)

pub refused_writes_nothing :
    (κs : Lfts 2) (s : Bor (List ℕ)) (b z : MutBor (List ℕ)) (k r : ℕ) →
    despatch.Post κs (s, (k, (b, tt))) r (s, (k, (z, tt))) → Refused r → z.now ≡ b.now
refused_writes_nothing κs s b z k r p n =
    p.1 ∙ refused_stays s.now k b.now (not_taken (despatch_answer s.now k (length b.now)) _ r p.0 n)
