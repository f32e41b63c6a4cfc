use mathlib.Core.Path.{◌≡◌}
use native.Mathlib.Omega.{arith}
use lib.ListN.{length}
use Rattle.lawful.specs.Demand3.{Bytes}
use Rattle.plainway.proofs.NoteLaws as notes
use Rattle.plainway.proofs.WayLaws as ways
use Rattle.plain.proofs.print_plain.Goals as goal

pub run_all-count-requires : goal.run_all-count-requires
run_all-count-requires g c =
    let s = c.args.s.now in
    let b = c.args.b.now in
    let y : Bytes s = λ j. omega (arith, c.shared_slice_known-1.given j) in
    let w = c.in-Ok.ensures in
    (w.1, notes.noted_none s y (ways.page_taken s (length b) w.0) b w.2)
