use mathlib.Core.Path.{sym}
use lib.Seq.{length-take-le}
use Rattle.printer.proofs.write_front.Goals as goal

pub slice_bounds-write_all-end : goal.slice_bounds-write_all-end
slice_bounds-write_all-end g c = sym (length-take-le c.args.n c.args.b.now c.requires.0)
