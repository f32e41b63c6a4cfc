-- Two results that the public call's contract allows, as the source has it, are equal.
use Prim.Native.Nat.{ℕ}
use mathlib.Core.Path.{◌≡◌, sym, ◌∙◌}
use mathlib.Core.List.{List}
use contract.Lifetimes.{Lfts}
use denote.Ref.{Bor}
use Rattle.std.specs.Prelude.{Result}
use Rattle.answer.specs.declared.Refusal.{Refusal}
use Rattle.judging.specs.declared.Judgement.{Judgement}
use Rattle.judging.proofs.judge_history.Reads as judge

pub judge_one : (κs : Lfts 1) (h : Bor (List ℕ)) (r r' : Result Judgement Refusal) → judge.Post κs (h, tt) r (h, tt) → judge.Post κs (h, tt) r' (h, tt) → r ≡ r'
judge_one κs h r r' p q = p ∙ sym q
