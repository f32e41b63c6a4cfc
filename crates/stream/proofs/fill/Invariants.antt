use Rattle.std.proofs.Common.{length, ◌-◌, ◌≤◌}
use Rattle.stream.proofs.fill.Given as goal

abbrev pub invariant-loop-bytes : goal.invariant-loop-bytes
invariant-loop-bytes g l = l.bytes ≤ length l.buffer

abbrev pub decreases-loop-bytes : goal.decreases-loop-bytes
decreases-loop-bytes g l = length l.initial.buffer - l.bytes
