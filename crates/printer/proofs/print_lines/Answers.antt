use mathlib.Core.Path.{ap, ◌∙◌}
use native.Mathlib.Omega.{arith}
use lib.ListN.{length}
use Rattle.printing.proofs.Fittings as fits
use Rattle.filling.specs.Lines.{table_line}
use Rattle.page.specs.Printed.{printed}
use Rattle.printer.proofs.Parting as parts
use Rattle.printer.proofs.print_lines.Goals as goal

pub loop-next-init : goal.loop-next-init
loop-next-init g c =
    let f = table_line c.args.t c.args.counts c.args.z c.args.threads c.args.events c.args.count in
    (omega arith, omega (arith, c.requires.count_value.1, ap length (fits.on_none f 0)), omega (arith, c.requires.count_value.1))

pub fill_told-filled-requires : goal.fill_told-filled-requires
fill_told-filled-requires g c = let p = c.requires.n_bound in record { n_bound = (p.0, p.1, p.2, p.3, p.4, p.5, c.loop-next-test.true); sheet = (c.sheet_of-sheet.ensures.sheet, c.sheet_of-sheet.ensures.small) }

pub write_front-requires : goal.write_front-requires
write_front-requires g c =
    let f = table_line c.args.t c.args.counts c.args.z c.args.threads c.args.events c.args.count in
    let x = parts.lines_next f (printed c.args.s.now) c.loop-next.b c.fill_told-filled.new.b c.args.count c.loop-next.next c.fill_told-filled.result.next c.fill_told-filled.result.place c.loop-next.done c.requires.count_value.0 c.fill_told-filled.ensures.next c.fill_told-filled.ensures.place c.fill_told-filled.ensures.bytes c.loop-next-test.true c.requires.n_bound.5 (omega (arith, c.requires.n_bound.7, c.loop-next.auto.b)) c.loop-next.invariant.1 c.loop-next.invariant.2 in
    x.0

pub loop-next-preserved : goal.loop-next-preserved
loop-next-preserved g c =
    let f = table_line c.args.t c.args.counts c.args.z c.args.threads c.args.events c.args.count in
    let x = parts.lines_next f (printed c.args.s.now) c.loop-next.b c.fill_told-filled.new.b c.args.count c.loop-next.next c.fill_told-filled.result.next c.fill_told-filled.result.place c.loop-next.done c.requires.count_value.0 c.fill_told-filled.ensures.next c.fill_told-filled.ensures.place c.fill_told-filled.ensures.bytes c.loop-next-test.true c.requires.n_bound.5 (omega (arith, c.requires.n_bound.7, c.loop-next.auto.b)) c.loop-next.invariant.1 c.loop-next.invariant.2 in
    (x.3, c.in_ok-write_front.ensures ∙ x.1, omega (arith, c.in_ok-write_front.ensures, x.2, c.loop-next.invariant.2, c.fill_told-filled.ensures.onward (omega (arith, c.requires.n_bound.6, c.loop-next.auto.b))))
