-- What is longer than the longest probe file, 50,006 bytes, is refused, and as its first part is: the program looks at 65,536 bytes.
use Prim.Native.Nat.{ℕ, ◌≤◌, ◌<◌}
use mathlib.Core.Path.{◌≡◌, refl, sym, ap, ◌∙◌}
use mathlib.Core.Bool.{true, false}
use mathlib.Core.List.{List}
use native.Mathlib.Omega.{arith}
use lib.ListN.{length, take}
use lib.Seq.{length-take-le}
use Rattle.answer.specs.Answers.{accepted}
use Rattle.codec.proofs.Long.{file_long, file_same}
use Rattle.replaying.specs.Probe.{probe_answer}
use Rattle.replaying.specs.Replay.{nothing_odd, replay_of}
use Rattle.replaying.proofs.ReplayLaws as laws

pub long_refused : (s : List ℕ) → 50006 < length s → accepted (probe_answer s) ≡ false
unfolding probe_answer
long_refused s h = file_long 82 12 s (omega arith)

long_replay : (s : List ℕ) → 50006 < length s → replay_of s ≡ nothing_odd (probe_answer s)
long_replay s h = sym (laws.file_refused s (long_refused s h) (nothing_odd (probe_answer s)) refl)

answer_same : (s : List ℕ) (room : ℕ) → 50006 < room → room ≤ length s → probe_answer (take room s) ≡ probe_answer s
unfolding probe_answer
answer_same s room h l = file_same 82 12 s room (omega arith) l

pub long_same : (s : List ℕ) (room : ℕ) → 50006 < room → room ≤ length s → replay_of (take room s) ≡ replay_of s
long_same s room h l =
    long_replay (take room s) (omega (arith, length-take-le room s l)) ∙ ap nothing_odd (answer_same s room h l) ∙ sym (long_replay s (omega arith))
