use mathlib.Core.Path.{◌≡◌}
use Rattle.lists.specs.Tab.{front}
use Rattle.machine.specs.Record.{idle_threads}
use Rattle.record.specs.Layout.{thread_in}
use Rattle.record.proofs.reading.threads_in.Given as goal

abbrev pub invariant-loop-i : goal.invariant-loop-i
invariant-loop-i l = l.l ≡ front (thread_in l.s) l.i idle_threads
