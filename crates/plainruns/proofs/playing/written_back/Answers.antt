use mathlib.Core.Path.{ap, ◌∙◌}
use native.Mathlib.Omega.{arith}
use Rattle.image.proofs.HeadLaws.{lines_few}
use Rattle.machine.specs.Line.{shape_of, persist}
use Rattle.machine.specs.declared.Line.{Line}
use Rattle.plainruns.proofs.PlayLaws as laws
use Rattle.plainruns.proofs.playing.written_back.Goals as goal

pub line_at-requires : goal.line_at-requires
line_at-requires c = omega (arith, lines_few (shape_of c.args.m) c.requires.0.threads)

pub persist_line-requires : goal.persist_line-requires
persist_line-requires c = (c.requires.0.threads, laws.there c.args.m _ c.args.j c.requires.0 c.requires.1 c.line_at.ensures)

pub returns : goal.returns
returns c = c.persist_line.ensures ∙ ap (λ (l : Line). persist c.args.m l) c.line_at.ensures
