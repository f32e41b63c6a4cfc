use Prim.Native.Nat.{◌+◌, ◌-◌, ◌*◌}
use Rattle.judging.specs.History.{count_in}
use Rattle.judging.proofs.standing.Standing.+carry_out_choose.Given as goal

abbrev pub decreases-carry_out : goal.decreases-carry_out
decreases-carry_out l = l.left * 34 + (count_in l.self.now.history.bytes.now - l.i) * 2

abbrev pub decreases-choose : goal.decreases-choose
decreases-choose l = l.left * 34 + (count_in l.self.now.history.bytes.now - l.i) * 2 + 1
