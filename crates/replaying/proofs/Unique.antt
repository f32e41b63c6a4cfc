-- Two results that the public call's contract allows, as the source has it, are equal.
use Prim.Native.Nat.{ℕ}
use mathlib.Core.Path.{◌≡◌, sym, ◌∙◌}
use mathlib.Core.List.{List}
use contract.Lifetimes.{Lfts}
use denote.Ref.{Bor}
use Rattle.std.specs.Prelude.{Option, Result}
use Rattle.answer.specs.declared.Refusal.{Refusal}
use Rattle.replaying.specs.declared.Difference.{Difference}
use Rattle.replaying.proofs.replay.Reads as replay

pub replay_one : (κs : Lfts 1) (s : Bor (List ℕ)) (r r' : Result (Option Difference) Refusal) → replay.Post κs (s, tt) r (s, tt) → replay.Post κs (s, tt) r' (s, tt) → r ≡ r'
replay_one κs s r r' p q = p ∙ sym q
