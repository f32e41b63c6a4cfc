use Prim.Native.Nat.{◌/◌, ◌^◌}
use mathlib.Core.Path.{sym, ◌∙◌}
use native.Mathlib.Omega.{arith}
use native.Mathlib.Numerals.{add-one}
use Rattle.lists.specs.Word.{has}
use Rattle.lists.proofs.FindLaws as find
use Rattle.lists.proofs.WordLaws as laws
use Rattle.bits.proofs.after.Goals as goal

pub returns-then-behind-eq0 : goal.returns-then-behind-eq0
returns-then-behind-eq0 c = c.lowest.ensures ∙ sym (laws.around_over 64 c.args.w c.args.i c.requires (sym (laws.behind_half c.args.w c.args.i) ∙ c.if-behind-eq0.true))

pub overflow_add-result-2 : goal.overflow_add-result-2
overflow_add-result-2 c =
    let w = c.args.w / 2 ^ c.args.i / 2 in
    record { fits = omega (arith, laws.trailing_least 64 w, find.least_le (has w) 64 0) }

pub returns : goal.returns
returns c =
    let e = laws.behind_half c.args.w c.args.i in
    rw (e, add-one) (sym (laws.around_left 64 c.args.w c.args.i c.requires c.ranges.w.fits (omega arith) (omega (arith, e, c.if-behind-eq0.false))))
