use native.Mathlib.Omega.{arith}
use Prim.Native.Nat.{◌+◌, ◌-◌}
use mathlib.Core.Path.{◌≡◌, refl}
use lib.ListN.{length}
use Rattle.printing.proofs.Written as laws
use Rattle.printing.proofs.put.Goals as goal

pub returns : goal.returns
returns c =
    let s = c.args.s.now in
    let at = c.args.at in
    let b = c.args.b.now in
    let n : at + length s - at ≡ length s = omega arith in
    (refl, rw (n, c.copy_from_slice.ensures.after) (laws.copied b at s (omega arith)))
