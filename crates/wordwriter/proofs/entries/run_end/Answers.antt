use Rattle.wordwriter.proofs.EntryLaws as entries
use native.Mathlib.Omega.{arith}
use mathlib.Core.Path.{◌≡◌, sym, ap, ◌∙◌}
use Prim.Native.Nat.{◌+◌}
use Rattle.wordwriter.proofs.entries.run_end.Goals as goal

pub loop-i-init : goal.loop-i-init
loop-i-init c = (omega arith, entries.ends_first c.args.s.now c.args.j ∙ ap (λ n. entries.ends c.args.s.now n (c.args.j + 1)) (sym c.requires.1))

pub is_following-requires : goal.is_following-requires
is_following-requires c = let p = c.requires in (p.0, p.2, omega (arith, p.5))

pub returns-then-not-is_following : goal.returns-then-not-is_following
returns-then-not-is_following c = record { run = sym (c.loop-i.invariant.1 ∙ entries.ends_here c.args.s.now c.args.count c.loop-i.i (omega arith) (sym c.is_following.ensures ∙ c.if-not-is_following.true)); within = (omega arith, omega arith) }

pub loop-i-preserved : goal.loop-i-preserved
loop-i-preserved c = (omega arith, c.loop-i.invariant.1 ∙ entries.ends_next c.args.s.now c.args.count c.loop-i.i (omega arith) (sym c.is_following.ensures ∙ c.if-not-is_following.false))

pub returns : goal.returns
returns c =
    let e : c.loop-i.i ≡ c.args.count = omega arith in
    record { run = sym (c.loop-i.invariant.1 ∙ entries.ends_last c.args.s.now c.args.count c.loop-i.i (omega arith) ∙ e); within = (omega arith, omega arith) }
