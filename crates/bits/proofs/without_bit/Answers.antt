use Rattle.lists.proofs.WordLaws as laws
use Rattle.lists.specs.Word.{without}
use mathlib.Core.Path.{sym, ◌∙◌}
use Rattle.bits.proofs.without_bit.Goals as goal

pub overflow_sub-result : goal.overflow_sub-result
overflow_sub-result c = rw (laws.one_shifted 64 c.args.i c.requires) (laws.has_le c.args.w c.args.i (sym c.is_in.ensures ∙ c.if-is_in.true))

pub returns-then-is_in : goal.returns-then-is_in
unfolding without
returns-then-is_in c = rw (laws.one_shifted 64 c.args.i c.requires, sym c.is_in.ensures ∙ c.if-is_in.true)

pub returns : goal.returns
unfolding without
returns c = rw (sym c.is_in.ensures ∙ c.if-is_in.false)
