use native.Mathlib.Omega.{arith}
use Prim.Native.Nat.{◌-◌}
use mathlib.Core.Path.{sym}
use lib.ListN.{length, take}
use mathlib.Core.List.{◌++◌}
use lib.ListN.{length-append}
use lib.Seq.{length-take-le}
use Rattle.lists.specs.Text.{decimal}
use Rattle.printing.proofs.Fittings as fits
use Rattle.printing.proofs.Written as written
use Rattle.printing.proofs.Short as short
use Rattle.sheet.proofs.stretch.fit_line.Goals as goal

pub overflow_add-w : goal.overflow_add-w
overflow_add-w c = omega (arith, c.width_of-w.ensures, short.decimal_short 5 c.args.k (omega arith) (omega arith))

pub returns-then-b-at : goal.returns-then-b-at
returns-then-b-at c = let s = take c.args.n c.args.end.now in record { place = (fits.put_none c.args.b.now c.args.at (length c.args.b.now - c.args.at) (decimal c.args.k ++ s) (omega (arith, c.width_of-w.ensures, length-append (decimal c.args.k) s, length-take-le c.args.n c.args.end.now (omega arith)))).0; bytes = (fits.put_none c.args.b.now c.args.at (length c.args.b.now - c.args.at) (decimal c.args.k ++ s) (omega (arith, c.width_of-w.ensures, length-append (decimal c.args.k) s, length-take-le c.args.n c.args.end.now (omega arith)))).1 }

pub slice_bounds-put-end : goal.slice_bounds-put-end
slice_bounds-put-end c = sym (length-take-le c.args.n c.args.end.now (omega arith))

pub put-requires : goal.put-requires
put-requires c = omega (arith, c.put_decimal-p.ensures.0, c.put_decimal-p.auto.b, c.width_of-w.ensures, length-take-le c.args.n c.args.end.now (omega arith))

pub returns : goal.returns
returns c =
    let s = take c.args.n c.args.end.now in record {
      place = (fits.put_all c.args.b.now c.args.at (length c.args.b.now - c.args.at) (decimal c.args.k ++ s) (omega (arith, c.width_of-w.ensures, length-append (decimal c.args.k) s, length-take-le c.args.n c.args.end.now (omega arith)))
          (written.then c.args.b.now c.args.at (decimal c.args.k) s c.put_decimal-p.ensures c.put.ensures)).0;
      bytes = (fits.put_all c.args.b.now c.args.at (length c.args.b.now - c.args.at) (decimal c.args.k ++ s) (omega (arith, c.width_of-w.ensures, length-append (decimal c.args.k) s, length-take-le c.args.n c.args.end.now (omega arith)))
          (written.then c.args.b.now c.args.at (decimal c.args.k) s c.put_decimal-p.ensures c.put.ensures)).1;
    }
