use Prim.Native.Nat.{◌-◌, ◌≤◌}
use lib.ListN.{length}
use Rattle.printing.proofs.Fittings as laws
use Rattle.page.specs.Printed.{ending_line}
use native.Mathlib.Omega.{arith}
use Rattle.printing.proofs.fitting.fit_ending.Goals as goal

pub returns : goal.returns
returns c =
    let h : length (ending_line c.args.k c.args.g) ≤ 731 = omega (arith, c.write_ending.ensures.place.0, c.write_ending.ensures.place.1) in
    let p = laws.put_all c.args.b.now c.args.at (length c.args.b.now - c.args.at) (ending_line c.args.k c.args.g) (omega arith) (c.write_ending.ensures.place.0, c.write_ending.ensures.bytes) in record { place = p.0; bytes = p.1; short = h }
