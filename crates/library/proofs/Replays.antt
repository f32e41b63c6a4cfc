-- The call on a probe file: its value, two results are equal, and a refused call writes nothing.
use Prim.Native.Nat.{ℕ, ◌/◌}
use mathlib.Core.Path.{◌≡◌, sym, ◌∙◌}
use mathlib.Core.Bool.{true}
use mathlib.Core.List.{List}
use contract.Lifetimes.{Lfts}
use denote.MutBor.{MutBor}
use denote.Ref.{Bor}
use lib.ListN.{length}
use Rattle.answer.specs.Answers.{told, accepted}
use Rattle.replaying.specs.Replay.{replay_of}
use Rattle.calls.specs.Probes.{replay_answered, odd_value, replay_given}
use Rattle.calls.proofs.Apart as apart
use Rattle.calls.proofs.ReplayLaws.{replay_stays}
use Rattle.library.proofs.Refused.{Refused, not_taken}
use Rattle.library.proofs.probes.uq_replay.Reads as replay

-- the value, where it is taken
pub replay_value : (s : List ℕ) (room : ℕ) → accepted (replay_answered s room) ≡ true → replay_given s room / 256 ≡ odd_value (replay_of s)
replay_value s room h = apart.value_back (told (replay_answered s room)) (odd_value (replay_of s)) h

-- ---- the contract as the source has it: two results are equal, and a refused call writes nothing

pub replay_one :
    (κs : Lfts 2) (s : Bor (List ℕ)) (b z z' : MutBor (List ℕ)) (r r' : ℕ) →
    replay.Post κs (s, (b, tt)) r (s, (z, tt)) → replay.Post κs (s, (b, tt)) r' (s, (z', tt)) → (r ≡ r') × (z.now ≡ z'.now)
replay_one κs s b z z' r r' p q = (p.0 ∙ sym q.0, p.1 ∙ sym q.1)

pub refused_writes_nothing :
    (κs : Lfts 2) (s : Bor (List ℕ)) (b z : MutBor (List ℕ)) (r : ℕ) →
    replay.Post κs (s, (b, tt)) r (s, (z, tt)) → Refused r → z.now ≡ b.now
refused_writes_nothing κs s b z r p n =
    p.1 ∙ replay_stays s.now b.now (not_taken (replay_answered s.now (length b.now)) _ r p.0 n)
