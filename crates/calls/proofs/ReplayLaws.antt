-- What the definitions of the call on a probe file come to, by the answers that the code has looked at.
use Prim.Native.Nat.{ℕ}
use mathlib.Core.Path.{◌≡◌, refl, sym, ap, ◌∙◌}
use mathlib.Core.Bool.{Bool, true, false}
use mathlib.Core.List.{List}
use Rattle.std.specs.Prelude.{Option, Some, None}
use lib.ListN.{length}
use lib.Dec.{ltb}
use Rattle.lists.specs.Find.{pick, both}
use Rattle.lists.specs.Tab.{over}
use Rattle.answer.specs.Answers.{told, check, accepted, Answer, Taken, Room}
use Rattle.replaying.specs.Replay.{replay_answer, replay_of, Replayed, difference_of, difference_in}
use Rattle.replaying.specs.declared.Difference.{Difference}
use Rattle.calls.specs.Probes.{replay_answered, both_bytes, replay_written}
use Rattle.calls.proofs.Laws as laws

-- what the call gives, by the definition's record
pub differs_some : (r : Replayed) (o : Option Difference) (d : Difference) → o ≡ difference_in r → o ≡ Some d → (r.differs ≡ true) × (d ≡ difference_of r)
differs_some r o d e w = by r.differs refl (sym e ∙ w)
  where
    by : (b : Bool) → r.differs ≡ b → pick b (Some (difference_of r)) None ≡ Some d → (r.differs ≡ true) × (d ≡ difference_of r)
    by true h q = (h, cc)
    by false h q = cc

pub differs_none : (r : Replayed) (o : Option Difference) → o ≡ difference_in r → o ≡ None → r.differs ≡ false
differs_none r o e w = by r.differs refl (sym e ∙ w)
  where
    by : (b : Bool) → r.differs ≡ b → ◌≡◌ {A = Option Difference} (pick b (Some (difference_of r)) None) None → r.differs ≡ false
    by true h q = cc
    by false h q = h

module _ (s : List ℕ) where
  abbrev room_for : ℕ → Answer
  room_for room = check (ltb room 10) Room Taken

  pub replay_refused : (room : ℕ) → accepted (replay_answer s) ≡ false → replay_answered s room ≡ replay_answer s
  unfolding replay_answered
  replay_refused room h = laws.and_refused (replay_answer s) (room_for room) h

  pub replay_short : (room : ℕ) → accepted (replay_answer s) ≡ true → ltb room 10 ≡ true → replay_answered s room ≡ Room
  unfolding replay_answered
  replay_short room h l = laws.and_taken (replay_answer s) (room_for room) h ∙ rw l

  pub replay_taken : (room : ℕ) → accepted (replay_answer s) ≡ true → ltb room 10 ≡ false → replay_answered s room ≡ Taken
  unfolding replay_answered
  replay_taken room h l = laws.and_taken (replay_answer s) (room_for room) h ∙ rw l

  pub replay_stays : (b : List ℕ) → accepted (replay_answered s (length b)) ≡ false → replay_written s b ≡ b
  unfolding replay_written
  replay_stays b h = rw h

  -- nothing is written where all agree
  pub replay_agrees : (b : List ℕ) → (replay_of s).differs ≡ false → replay_written s b ≡ b
  unfolding replay_written
  replay_agrees b d = ap (λ (t : Bool). pick (both (accepted (replay_answered s (length b))) t) (over b 0 (both_bytes (replay_of s))) b) d ∙ by (accepted (replay_answered s (length b)))
    where
      by : (x : Bool) → pick (both x false) (over b 0 (both_bytes (replay_of s))) b ≡ b
      by true = refl
      by false = refl

  pub replay_goes : (b : List ℕ) → accepted (replay_answered s (length b)) ≡ true → (replay_of s).differs ≡ true → replay_written s b ≡ over b 0 (both_bytes (replay_of s))
  unfolding replay_written
  replay_goes b h d = rw (h, d)
