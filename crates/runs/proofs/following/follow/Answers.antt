use mathlib.Core.Path.{sym, ap, ◌∙◌}
use native.Mathlib.Omega.{arith}
use Rattle.runs.specs.Rows.{line_in}
use Rattle.runs.proofs.RowLaws as laws
use Rattle.runs.proofs.following.follow.Goals as goal

pub number_of-l-requires : goal.number_of-l-requires
number_of-l-requires c = rw c.shape-z.ensures (omega arith)

pub is_over-requires : goal.is_over-requires
is_over-requires c = rw c.shape-z.ensures (omega arith, rw c.in-Fence.is at c.requires.1)

pub join_since-requires : goal.join_since-requires
join_since-requires c = rw c.shape-z.ensures (omega arith)

pub returns-in_default-clause-rows : goal.returns-in_default-clause-rows
returns-in_default-clause-rows c = (laws.left_nowhere c.args.rows.now c.args.since.now c.args.heads c.args.nodes c.args.m.now c.args.touch (sym c.line_in.ensures ∙ c.in_default.is)).0

pub returns-in_default-clause-since : goal.returns-in_default-clause-since
returns-in_default-clause-since c = (laws.left_nowhere c.args.rows.now c.args.since.now c.args.heads c.args.nodes c.args.m.now c.args.touch (sym c.line_in.ensures ∙ c.in_default.is)).1

pub returns-then-l-ge72-clause-rows : goal.returns-then-l-ge72-clause-rows
returns-then-l-ge72-clause-rows c = (laws.left_far c.args.rows.now c.args.since.now c.args.heads c.args.nodes c.args.m.now c.args.touch _ _ (sym c.line_in.ensures ∙ c.in-Some.is) (rw c.shape-z.ensures at c.number_of-l.ensures) c.if-l-ge72.true).0

pub returns-then-l-ge72-clause-since : goal.returns-then-l-ge72-clause-since
returns-then-l-ge72-clause-since c = (laws.left_far c.args.rows.now c.args.since.now c.args.heads c.args.nodes c.args.m.now c.args.touch _ _ (sym c.line_in.ensures ∙ c.in-Some.is) (rw c.shape-z.ensures at c.number_of-l.ensures) c.if-l-ge72.true).1

pub returns-then-is_over-clause-rows : goal.returns-then-is_over-clause-rows
returns-then-is_over-clause-rows c = (laws.left_later c.args.rows.now c.args.since.now c.args.heads c.args.nodes c.args.m.now c.args.touch _ _ (sym c.line_in.ensures ∙ c.in-Some.is) (rw c.shape-z.ensures at c.number_of-l.ensures) (omega arith) c.cached_at-c.result c.cached_at-c.ensures _ _ c.in-Fence.is c.requires.1 (sym (rw c.shape-z.ensures at c.is_over.ensures) ∙ c.if-is_over.true)).0

pub returns-then-is_over-clause-since : goal.returns-then-is_over-clause-since
returns-then-is_over-clause-since c = (laws.left_later c.args.rows.now c.args.since.now c.args.heads c.args.nodes c.args.m.now c.args.touch _ _ (sym c.line_in.ensures ∙ c.in-Some.is) (rw c.shape-z.ensures at c.number_of-l.ensures) (omega arith) c.cached_at-c.result c.cached_at-c.ensures _ _ c.in-Fence.is c.requires.1 (sym (rw c.shape-z.ensures at c.is_over.ensures) ∙ c.if-is_over.true)).1

pub returns-in-Nothing-clause-rows : goal.returns-in-Nothing-clause-rows
returns-in-Nothing-clause-rows c = (laws.left_nowhere c.args.rows.now c.args.since.now c.args.heads c.args.nodes c.args.m.now c.args.touch (ap line_in c.in-Nothing.is)).0

pub returns-in-Nothing-clause-since : goal.returns-in-Nothing-clause-since
returns-in-Nothing-clause-since c = (laws.left_nowhere c.args.rows.now c.args.since.now c.args.heads c.args.nodes c.args.m.now c.args.touch (ap line_in c.in-Nothing.is)).1

pub returns-in-Store-clause-rows : goal.returns-in-Store-clause-rows
returns-in-Store-clause-rows c = (laws.left_store c.args.rows.now c.args.since.now c.args.heads c.args.nodes c.args.m.now c.args.touch _ _ (sym c.line_in.ensures ∙ c.in-Some.is) (rw c.shape-z.ensures at c.number_of-l.ensures) (omega arith) c.cached_at-c.result c.cached_at-c.ensures _ c.in-Store.is _ c.joined.ensures _ (rw c.shape-z.ensures at c.join_since.ensures)).0

pub returns-in-Store-clause-since : goal.returns-in-Store-clause-since
returns-in-Store-clause-since c = (laws.left_store c.args.rows.now c.args.since.now c.args.heads c.args.nodes c.args.m.now c.args.touch _ _ (sym c.line_in.ensures ∙ c.in-Some.is) (rw c.shape-z.ensures at c.number_of-l.ensures) (omega arith) c.cached_at-c.result c.cached_at-c.ensures _ c.in-Store.is _ c.joined.ensures _ (rw c.shape-z.ensures at c.join_since.ensures)).1

pub returns-in-Persist-clause-rows : goal.returns-in-Persist-clause-rows
returns-in-Persist-clause-rows c = (laws.left_persist c.args.rows.now c.args.since.now c.args.heads c.args.nodes c.args.m.now c.args.touch _ _ (sym c.line_in.ensures ∙ c.in-Some.is) (rw c.shape-z.ensures at c.number_of-l.ensures) (omega arith) c.cached_at-c.result c.cached_at-c.ensures _ c.in-Persist.is _ c.joined-in-Persist.ensures).0

pub returns-in-Persist-clause-since : goal.returns-in-Persist-clause-since
returns-in-Persist-clause-since c = (laws.left_persist c.args.rows.now c.args.since.now c.args.heads c.args.nodes c.args.m.now c.args.touch _ _ (sym c.line_in.ensures ∙ c.in-Some.is) (rw c.shape-z.ensures at c.number_of-l.ensures) (omega arith) c.cached_at-c.result c.cached_at-c.ensures _ c.in-Persist.is _ c.joined-in-Persist.ensures).1

pub returns-in-Flush-clause-rows : goal.returns-in-Flush-clause-rows
returns-in-Flush-clause-rows c = (laws.left_flush c.args.rows.now c.args.since.now c.args.heads c.args.nodes c.args.m.now c.args.touch _ _ (sym c.line_in.ensures ∙ c.in-Some.is) (rw c.shape-z.ensures at c.number_of-l.ensures) (omega arith) c.cached_at-c.result c.cached_at-c.ensures _ _ c.in-Flush.is c.requires.1 _ c.of.ensures).0

pub returns-in-Flush-clause-since : goal.returns-in-Flush-clause-since
returns-in-Flush-clause-since c = (laws.left_flush c.args.rows.now c.args.since.now c.args.heads c.args.nodes c.args.m.now c.args.touch _ _ (sym c.line_in.ensures ∙ c.in-Some.is) (rw c.shape-z.ensures at c.number_of-l.ensures) (omega arith) c.cached_at-c.result c.cached_at-c.ensures _ _ c.in-Flush.is c.requires.1 _ c.of.ensures).1

pub returns-else-is_over-clause-rows : goal.returns-else-is_over-clause-rows
returns-else-is_over-clause-rows c = (laws.left_fence c.args.rows.now c.args.since.now c.args.heads c.args.nodes c.args.m.now c.args.touch _ _ (sym c.line_in.ensures ∙ c.in-Some.is) (rw c.shape-z.ensures at c.number_of-l.ensures) (omega arith) c.cached_at-c.result c.cached_at-c.ensures _ _ c.in-Fence.is c.requires.1 (sym (rw c.shape-z.ensures at c.is_over.ensures) ∙ c.if-is_over.false)).0

pub returns-else-is_over-clause-since : goal.returns-else-is_over-clause-since
returns-else-is_over-clause-since c = (laws.left_fence c.args.rows.now c.args.since.now c.args.heads c.args.nodes c.args.m.now c.args.touch _ _ (sym c.line_in.ensures ∙ c.in-Some.is) (rw c.shape-z.ensures at c.number_of-l.ensures) (omega arith) c.cached_at-c.result c.cached_at-c.ensures _ _ c.in-Fence.is c.requires.1 (sym (rw c.shape-z.ensures at c.is_over.ensures) ∙ c.if-is_over.false)).1
