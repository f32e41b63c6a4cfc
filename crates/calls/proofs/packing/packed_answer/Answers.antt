use Prim.Native.Nat.{ℕ}
use borrow.Author.Rules.{rules}
use Rattle.answer.specs.declared.Reply.{Reply}
use Rattle.calls.proofs.Gives as gives
use Rattle.calls.proofs.packing.packed_answer.Goals as goal

pub returns : goal.returns
returns c = gives.packs c.args.a 0 c.packed_result.ensures (gives.mapped c.args.a _ 0 (λ (x : Reply) (v : ℕ) h. search rules) c.map.ensures.cases)
