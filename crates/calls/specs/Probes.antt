-- What the call on a probe file returns, and what it leaves in the lent bytes.
use Rattle.std.specs.Prelude.{ℕ, ◌+◌, List, ◌∷◌, ◌++◌, length, ltb}
use Rattle.lists.specs.Find.{pick, both}
use Rattle.lists.specs.Tab.{over}
use Rattle.answer.specs.Answers.{told, check, accepted, Answer, Taken, Room}
use Rattle.image.specs.Bytes.{le4}
use Rattle.page.specs.Refusals.{and_then}
use Rattle.replaying.specs.Replay.{Replayed, replay_answer, replay_of}
use Rattle.calls.specs.Packed.{packed}

-- the file's own refusals; then 17, where the buffer has fewer than ten bytes
unfoldable pub replay_answered : List ℕ → ℕ → Answer
replay_answered s room = and_then (replay_answer s) (check (ltb room 10) Room Taken)

-- 0 where all agree; else the number of the first event that differs, and one
abbrev pub odd_value : Replayed → ℕ
odd_value r = pick r.differs (r.event + 1) 0

abbrev pub replay_given : List ℕ → ℕ → ℕ
replay_given s room = packed (told (replay_answered s room)) (odd_value (replay_of s))

-- both answers: the observed one and its item, the machine's and its item
abbrev pub both_bytes : Replayed → List ℕ
both_bytes r = r.seen ∷ (le4 r.seen_item ++ (r.given ∷ le4 r.given_item))

-- in the first bytes, where they differ
unfoldable pub replay_written : List ℕ → List ℕ → List ℕ
replay_written s b = pick (both (accepted (replay_answered s (length b))) (replay_of s).differs) (over b 0 (both_bytes (replay_of s))) b
