use mathlib.Core.Path.{◌≡◌}
use lib.ListN.{length}
use Rattle.record.proofs.Laws as laws
use borrow.Author.Rules.{rules}
use Rattle.record.proofs.writing.put_sets.Goals as goal

pub returns : goal.returns
returns c =
    let l : length c.args.late ≡ 8 = search rules in
    let h : length c.args.heads ≡ 8 = search rules in
    let n : length c.args.nodes ≡ 64 = search rules in
    rw (laws.sets_whole c.args.late 8 l, laws.sets_whole c.args.heads 8 h, laws.sets_whole c.args.nodes 64 n, c.copy-3.ensures, c.copy-2.ensures, c.copy.ensures)
