use Prim.Native.Nat.{◌-◌}
use mathlib.Core.Path.{subst}
use lib.ListN.{length}
use Rattle.printing.proofs.Written as written
use Rattle.printing.specs.Lines.{if_fits}
use Rattle.page.specs.Printed.{first_line}
use native.Mathlib.Omega.{arith}
use Rattle.printing.proofs.fitting.fit_first_line.Goals as goal

pub returns : goal.returns
returns c = let e = written.front_is _ c.write_first_line-q.result c.write_first_line-q.new.b (first_line c.args.t c.args.n c.args.events c.args.endings) (omega (arith, c.write_first_line-q.ensures.place.1)) c.write_first_line-q.ensures.place.0 c.write_first_line-q.ensures.bytes in record { place = (subst (λ l. written.Put c.args.b.now c.args.at (if_fits (length c.args.b.now - c.args.at) l) c.fit_front.new.b c.fit_front.result) e (c.fit_front.ensures.place, c.fit_front.ensures.bytes)).0; bytes = (subst (λ l. written.Put c.args.b.now c.args.at (if_fits (length c.args.b.now - c.args.at) l) c.fit_front.new.b c.fit_front.result) e (c.fit_front.ensures.place, c.fit_front.ensures.bytes)).1 }
