use Rattle.std.proofs.Common.{sym, ◌∙◌, arith}
use Rattle.std.proofs.lemmas.Grind.{common_steps}
use Rattle.machine.specs.Range.{in_range}
use Rattle.range.proofs.InRange.{ranges_sizes}
use Rattle.range.proofs.in_range.Goals as goal

pub form_fits-requires : goal.form_fits-requires
form_fits-requires c =
    let z = ranges_sizes c.args.m (sym c.ranges_fit.ensures ∙ c.if-ranges_fit.true) in
    (z.nodes_high, z.threads_high)

pub flushes_fit-requires : goal.flushes_fit-requires
flushes_fit-requires c =
    let z = ranges_sizes c.args.m (grind (arith, common_steps)) in
    (z.nodes_high, z.threads_high)

pub returns-then-form_fits : goal.returns-then-form_fits
unfolding in_range
returns-then-form_fits c = grind (arith, common_steps)

pub returns-else-form_fits : goal.returns-else-form_fits
unfolding in_range
returns-else-form_fits c = grind (arith, common_steps)
