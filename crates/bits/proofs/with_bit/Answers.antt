use Rattle.lists.proofs.WordLaws as laws
use Rattle.lists.specs.Word.{with}
use mathlib.Core.Path.{sym, ◌∙◌}
use Rattle.bits.proofs.with_bit.Goals as goal

pub returns-then-is_in : goal.returns-then-is_in
unfolding with
returns-then-is_in c = rw (sym c.is_in.ensures ∙ c.if-is_in.true)

pub overflow_add-result : goal.overflow_add-result
overflow_add-result c = record { fits = rw (laws.one_shifted 64 c.args.i c.requires) (laws.add_lt 64 c.args.w c.args.i c.requires c.ranges.w.fits (sym c.is_in.ensures ∙ c.if-is_in.false)) }

pub returns : goal.returns
unfolding with
returns c = rw (laws.one_shifted 64 c.args.i c.requires, sym c.is_in.ensures ∙ c.if-is_in.false)
