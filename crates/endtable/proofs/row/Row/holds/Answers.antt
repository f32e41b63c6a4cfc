use Rattle.moments.specs.Seats.{seat_of, is_at}
use native.Mathlib.Nat.{sub-zero}
use mathlib.Core.Path.{◌≡◌, sym, ◌∙◌}
use borrow.Author.Tests.{lt-ltb, le-ltb}
use Rattle.image.specs.Layout.{content_at}
use Rattle.image.proofs.EqualLaws.{equal_is}
use Rattle.lists.proofs.FindLaws as find
use native.Mathlib.Omega.{arith}
use Rattle.endtable.proofs.row.Row.holds.Goals as goal

pub loop-i-init : goal.loop-i-init
unfolding seat_of
loop-i-init c = rw sub-zero

pub returns-then-eq : goal.returns-then-eq
returns-then-eq c =
    let r = c.args.self.now in
    let same = sym (c.eq.ensures ∙ equal_is (content_at r.at c.loop-i.i) c.args.c) in
    let e : seat_of r.at r.count c.args.c ≡ c.loop-i.i = c.loop-i.invariant ∙ find.least_hit (is_at r.at c.args.c) r.count c.loop-i.i (omega arith) (same ∙ c.if-eq.true) in
    sym (lt-ltb _ _ (omega arith))

pub loop-i-preserved : goal.loop-i-preserved
loop-i-preserved c =
    let r = c.args.self.now in
    let same = sym (c.eq.ensures ∙ equal_is (content_at r.at c.loop-i.i) c.args.c) in
    c.loop-i.invariant ∙ find.least_next (is_at r.at c.args.c) r.count c.loop-i.i (omega arith) (same ∙ c.if-eq.false)

pub returns : goal.returns
returns c =
    let r = c.args.self.now in
    let e : seat_of r.at r.count c.args.c ≡ c.loop-i.i = c.loop-i.invariant ∙ find.least_end (is_at r.at c.args.c) r.count c.loop-i.i (omega arith) in
    sym (le-ltb _ _ (omega arith))
