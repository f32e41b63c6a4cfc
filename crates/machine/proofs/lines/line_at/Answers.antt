use native.Mathlib.Omega.{arith}
use mathlib.Core.Path.{sym, ap, ◌∙◌}
use Rattle.machine.specs.Line.{of_node}
use Rattle.machine.proofs.LineLaws.{line_head, line_behind}
use Rattle.machine.proofs.lines.line_at.Goals as goal

pub overflow_cast-lines : goal.overflow_cast-lines
overflow_cast-lines c = omega (arith, c.head_lines-lines.ensures)

pub returns-then-l-lines : goal.returns-then-l-lines
returns-then-l-lines c = sym (line_head c.args.z c.args.l (omega (arith, c.head_lines-lines.ensures)))

pub returns : goal.returns
returns c = ap (λ k. of_node k) (omega (arith, c.head_lines-lines.ensures)) ∙ sym (line_behind c.args.z c.args.l (omega (arith, c.head_lines-lines.ensures)))
