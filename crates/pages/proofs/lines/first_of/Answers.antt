use mathlib.Core.Path.{◌≡◌}
use native.Mathlib.Omega.{arith}
use borrow.Author.Rules.{rules}
use lib.ListN.{length}
use Rattle.pages.proofs.LineLaws as laws
use Rattle.pages.proofs.lines.first_of.Goals as goal

pub returns : goal.returns
returns c =
    let n : length c.args.row ≡ 16 = search rules in
    rw (c.copy_from_slice.ensures.after, c.blank_row-contents.ensures) (laws.first_copied c.args.row c.args.n (omega arith))
