use Rattle.std.proofs.Common.{◌≡◌, ◌≤◌, arith}
use lib.ListN.{get_or-eq_default}
use Rattle.machine.specs.Stage.{stages, no_step, stage_of}
use Rattle.range.proofs.used_by.Goals as goal

pub returns-in-25-to-255 : goal.returns-in-25-to-255
returns-in-25-to-255 c =
    let s = c.args.s in
    let h : 25 ≤ s = grind arith in
    let e : stage_of s ≡ no_step = get_or-eq_default stages no_step h in
    rw e
