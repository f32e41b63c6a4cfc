-- The call of the plain way: its value, two results are equal, and a refused call writes nothing.
use Prim.Native.Nat.{ℕ, ◌/◌}
use mathlib.Core.Path.{◌≡◌, sym, ◌∙◌}
use mathlib.Core.Bool.{true}
use mathlib.Core.List.{List}
use contract.Lifetimes.{Lfts}
use denote.MutBor.{MutBor}
use denote.Ref.{Bor}
use lib.ListN.{length}
use Rattle.answer.specs.Answers.{told, accepted}
use Rattle.plainway.specs.Plainly.{plain_answer, plain_count}
use Rattle.plainway.proofs.WayLaws.{written_refused}
use Rattle.plaincalls.specs.Given.{plain_given}
use Rattle.calls.proofs.Apart as apart
use Rattle.library.proofs.Refused.{Refused, not_taken}
use Rattle.library.proofs.plain.uq_plain_page.Reads as plain

-- the value, where it is taken
pub plain_value : (s : List ℕ) (room : ℕ) → accepted (plain_answer s room) ≡ true → plain_given s room / 256 ≡ plain_count s room
plain_value s room h = apart.value_back (told (plain_answer s room)) (plain_count s room) h

-- ---- the contract as the source has it

pub plain_one :
    (κs : Lfts 2) (s : Bor (List ℕ)) (b z z' : MutBor (List ℕ)) (r r' : ℕ) →
    plain.Post κs (s, (b, tt)) r (s, (z, tt)) → plain.Post κs (s, (b, tt)) r' (s, (z', tt)) → (r ≡ r') × (z.now ≡ z'.now)
plain_one κs s b z z' r r' p q = (p.0 ∙ sym q.0, p.1 ∙ sym q.1)

pub refused_writes_nothing :
    (κs : Lfts 2) (s : Bor (List ℕ)) (b z : MutBor (List ℕ)) (r : ℕ) →
    plain.Post κs (s, (b, tt)) r (s, (z, tt)) → Refused r → z.now ≡ b.now
refused_writes_nothing κs s b z r p n =
    p.1 ∙ written_refused s.now b.now (not_taken (plain_answer s.now (length b.now)) _ r p.0 n)
