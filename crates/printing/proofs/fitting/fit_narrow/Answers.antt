use Prim.Native.Nat.{◌-◌}
use mathlib.Core.Path.{subst}
use lib.ListN.{length}
use Rattle.printing.proofs.Written as written
use Rattle.printing.specs.Lines.{if_fits}
use Rattle.page.specs.Printed.{ending_line}
use native.Mathlib.Omega.{arith}
use Rattle.printing.proofs.fitting.fit_narrow.Goals as goal

pub returns : goal.returns
returns c =
    let e = written.front_is _ c.write_ending-n.result c.write_ending-n.new.b (ending_line c.args.k c.args.g) (omega (arith, c.write_ending-n.ensures.place.1)) c.write_ending-n.ensures.place.0 c.write_ending-n.ensures.bytes in
    let p = subst (λ l. written.Put c.args.b.now c.args.at (if_fits (length c.args.b.now - c.args.at) l) c.fit_front.new.b c.fit_front.result) e (c.fit_front.ensures.place, c.fit_front.ensures.bytes) in record { place = p.0; bytes = p.1; short = omega (arith, c.write_ending-n.ensures.place.0, c.write_ending-n.ensures.place.1) }
