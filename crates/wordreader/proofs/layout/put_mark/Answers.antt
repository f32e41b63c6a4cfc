use mathlib.Core.List.{[], ◌∷◌}
use Prim.Native.Nat.{◌+◌, ◌-◌}
use mathlib.Core.Path.{refl}
use native.Mathlib.Omega.{arith}
use Rattle.wordreader.proofs.PutLaws as puts
use Rattle.wordreader.proofs.layout.put_mark.Goals as goal

pub returns : goal.returns
returns c = puts.put_part c.args.b.now c.copy_from_slice.new.self (85 ∷ 81 ∷ c.args.c ∷ c.args.version ∷ 0 ∷ []) c.args.at (c.args.at + 5 - c.args.at) c.copy_from_slice.ensures.after (omega arith) (omega arith)
