use mathlib.Core.Path.{◌≡◌}
use Rattle.lists.specs.Tab.{front}
use Rattle.machine.specs.Record.{no_flushed}
use Rattle.record.specs.Layout.{flush_in}
use Rattle.record.proofs.reading.flushed_in.Given as goal

abbrev pub invariant-loop-i : goal.invariant-loop-i
invariant-loop-i l = l.l ≡ front (flush_in l.s) l.i no_flushed
