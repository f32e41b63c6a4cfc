use Rattle.std.proofs.Common.{arith, ◌≤◌, length}
use Rattle.std.proofs.lemmas.Grind.{common_steps}
use Rattle.image.specs.Form.{head_lines}
use Rattle.image.proofs.HeadLaws.{lines_few}
use Rattle.machine.specs.Line.{shape_of}
use Rattle.range.proofs.Narrow.{flushes_by, sets_by}
use Rattle.range.proofs.flushes.flushes_fit.Goals as goal

pub shared_ref_as_front-sets_fit : goal.shared_ref_as_front-sets_fit
shared_ref_as_front-sets_fit c = rw (c.head_lines-lines.ensures, c.shape.ensures) (lines_few _ c.requires.1)

pub returns-then-sets_fit : goal.returns-then-sets_fit
returns-then-sets_fit c =
    let m = c.args.m.now in
    let heads : head_lines (shape_of m) ≤ length m.over_heads = omega (arith, lines_few (shape_of m) c.requires.1) in
    let nodes : m.n ≤ length m.over = omega (arith, c.requires.0) in
    rw (flushes_by m, ← sets_by m.t (head_lines (shape_of m)) m.over_heads heads, ← sets_by m.t m.n m.over nodes) (grind (arith, common_steps))

pub returns-else-sets_fit : goal.returns-else-sets_fit
returns-else-sets_fit c =
    let m = c.args.m.now in
    let heads : head_lines (shape_of m) ≤ length m.over_heads = omega (arith, lines_few (shape_of m) c.requires.1) in
    rw (flushes_by m, ← sets_by m.t (head_lines (shape_of m)) m.over_heads heads) (grind (arith, common_steps))
