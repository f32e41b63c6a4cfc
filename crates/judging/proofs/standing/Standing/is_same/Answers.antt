use native.Mathlib.Omega.{arith}
use borrow.Author.Tests.{eq-eqb, ne_eqb}
use Rattle.lists.proofs.FindLaws.{any_hit}
use Rattle.judging.specs.History.{last_count}
use Rattle.judging.specs.Place.{differs, same_queue}
use Rattle.judging.proofs.standing.Standing.is_same.Goals as goal

pub returns-then-item-word_at : goal.returns-then-item-word_at
unfolding same_queue
returns-then-item-word_at c =
    let s = c.args.self.now.history.bytes.now in
    let d = any_hit (differs s c.args.self.now.place) (last_count s) c.loop-p.p (omega arith) (rw (← c.item.ensures, ← c.word_at.ensures, ne_eqb _ _ c.if-item-word_at.true)) in
    rw (eq-eqb _ _ c.loop-p.invariant.1, d)
