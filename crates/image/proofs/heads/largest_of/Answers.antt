use Prim.Native.Nat.{ℕ, max}
use mathlib.Core.Path.{◌≡◌, ◌∙◌}
use native.Mathlib.Omega.{arith}
use lib.ListN.{length}
use borrow.Author.Rules.{rules}
use borrow.Author.Tests.{tests}
use Rattle.std.proofs.lemmas.Iterator.{YieldsList-from_slice}
use Rattle.std.proofs.lemmas.Iterator.Consumers.{fold_from_yields_List}
use Rattle.image.proofs.HeadLaws.{largest_fold}
use Rattle.image.proofs.heads.largest_of.Goals as goal

pub returns : goal.returns
returns c =
    let all : length c.args.heads ≡ 8 = search rules in
    fold_from_yields_List _ (λ (r x : ℕ). max r x) 0 c.fold.result c.fold.ensures.ran (YieldsList-from_slice _ c.iter.ensures.rest) (λ a x b q k. search (rules, tests))
    ∙ largest_fold c.args.heads c.args.count (omega arith)
