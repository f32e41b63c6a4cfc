use mathlib.Core.Path.{refl, ap, ◌∙◌}
use native.Mathlib.Omega.{arith}
use lib.ListN.{length}
use Rattle.plain.proofs.running.run_all.Goals as goal

pub loop-k-init : goal.loop-k-init
loop-k-init g c = (omega arith, c.requires.1)

pub note_some-c-requires : goal.note_some-c-requires
note_some-c-requires g c = (c.requires.0, c.loop-k.invariant.1, omega arith, omega arith)
