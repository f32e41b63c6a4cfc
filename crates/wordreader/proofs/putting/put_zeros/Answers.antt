use mathlib.Core.Path.{◌≡◌, ap, ◌∙◌}
use lib.ListN.{length, replicate, length-replicate}
use native.Mathlib.Omega.{arith}
use Prim.Native.Nat.{ℕ, ◌+◌, ◌-◌}
use Rattle.wordreader.proofs.PutLaws as puts
use Rattle.wordreader.proofs.putting.put_zeros.Goals as goal

pub returns : goal.returns
returns c =
    let n = c.args.n in
    let l : length (replicate {A = ℕ} n 0) ≡ n = length-replicate {A = ℕ} n 0 in
    let e = c.fill.ensures.after (λ y e. e) in
    puts.put_part c.args.b.now c.fill.new.self (replicate n 0) c.args.at (c.args.at + n - c.args.at) (e ∙ ap (λ m. replicate m 0) (omega arith)) (omega arith) (omega arith)
