use mathlib.Core.Path.{◌∙◌}
use Prim.Native.Nat.{◌%◌}
use lib.ListN.{length-set}
use native.Mathlib.Omega.{arith}
use Rattle.wordreader.proofs.PutLaws as puts
use Rattle.wordreader.proofs.layout.put_event_at.Goals as goal

pub bounds-b-at-2 : goal.bounds-b-at-2
bounds-b-at-2 c = simp length-set (omega arith)

pub put_word-requires : goal.put_word-requires
put_word-requires c = simp length-set (omega arith)

pub returns : goal.returns
returns c = c.put_word.ensures ∙ puts.event_over c.args.b.now c.args.at (c.args.kind % 256) (c.args.number % 256) c.args.item
