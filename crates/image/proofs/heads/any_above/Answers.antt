use mathlib.Core.Path.{◌≡◌}
use native.Mathlib.Omega.{arith}
use lib.Dec.{ltb}
use lib.ListN.{length}
use borrow.Author.Rules.{rules}
use borrow.Author.Tests.{tests}
use Rattle.lists.proofs.IterLaws.{any_sliced}
use Rattle.image.proofs.heads.any_above.Goals as goal

pub returns : goal.returns
returns c =
    let all : length c.args.heads ≡ 8 = search rules in
    any_sliced (λ x. ltb c.args.top x) c.args.heads 0 c.args.count _ _ _ c.any.result c.any.ensures.ran c.iter.ensures.rest (omega arith) (λ x b q k. search (rules, tests))
