use Prim.Native.Nat.{ℕ}
use mathlib.Core.Path.{◌≡◌, ap, ◌∙◌}
use native.Mathlib.Omega.{arith}
use lib.ListN.{length, length-replicate}
use Rattle.lists.specs.Tab.{front}
use Rattle.lists.proofs.TabLaws as tabs
use Rattle.machine.specs.Record.{no_sets}
use Rattle.record.specs.Layout.{set_in}
use Rattle.record.proofs.reading.sets_in.Goals as goal

whole : (n : ℕ) → length (no_sets n) ≡ n
unfolding no_sets
whole n = length-replicate n 0

pub loop-i-init : goal.loop-i-init
loop-i-init g c = c.no_sets-l.ensures ∙ tabs.front_none (set_in c.args.s.now c.args.at) (no_sets g.row.N)

pub loop-i-preserved : goal.loop-i-preserved
unfolding set_in
loop-i-preserved g c = rw c.loop-i.invariant (tabs.front_next (set_in c.args.s.now c.args.at) c.loop-i.i (no_sets g.row.N) (omega (arith, whole g.row.N)))

pub returns : goal.returns
returns g c =
    let e : c.loop-i.i ≡ g.row.N = omega arith in
    c.loop-i.invariant ∙ ap (λ (j : ℕ). front (set_in c.args.s.now c.args.at) j (no_sets g.row.N)) e
