use Prim.Native.Nat.{◌+◌, ◌-◌}
use mathlib.Core.Path.{◌≡◌, refl}
use lib.ListN.{length}
use Rattle.page.specs.Printed.{first_line}
use Rattle.printing.specs.Lines.{line_from}
use Rattle.printing.proofs.Fittings as fits
use Rattle.printing.proofs.Short as short
use Rattle.filling.specs.Lines.{table_line}
use Rattle.filling.proofs.Lined as laws
use native.Mathlib.Omega.{arith}
use Rattle.filling.proofs.table.fill_told.Goals as goal

pub write_told-w-requires : goal.write_told-w-requires
write_told-w-requires c = record { n_bound = (c.requires.n_bound.0, c.requires.n_bound.1, c.requires.n_bound.2, omega (arith, c.requires.n_bound.6), c.requires.n_bound.5, omega arith); sheet = (c.requires.sheet.0, c.requires.sheet.1) }

pub overflow_add-result : goal.overflow_add-result
overflow_add-result c = omega (arith, c.write_told-w.ensures.next, fits.fit_few (line_from c.args.t c.args.counts c.args.z) (c.args.count - (c.args.from - 1)) (c.args.from - 1) (length c.args.b.now - 0))

pub returns-then-from-gt0 : goal.returns-then-from-gt0
returns-then-from-gt0 c =
    let r = length c.args.b.now in
    let x = laws.lined_behind (table_line c.args.t c.args.counts c.args.z c.args.threads c.args.events c.args.count) (line_from c.args.t c.args.counts c.args.z) (laws.line_behind c.args.t c.args.counts c.args.z c.args.threads c.args.events c.args.count) c.args.b.now 0 (c.args.from - 1) c.args.count (r - 0) c.write_told-w.new.b c.write_told-w.result.next c.write_told-w.result.place (c.write_told-w.ensures.next, (c.write_told-w.ensures.place, c.write_told-w.ensures.bytes)) in
    let y = laws.lined_as (table_line c.args.t c.args.counts c.args.z c.args.threads c.args.events c.args.count) c.args.b.now 0 (c.args.from - 1 + 1) c.args.from (c.args.count + 1) (r - 0) r c.write_told-w.new.b (c.write_told-w.result.next + 1) c.write_told-w.result.place (omega arith) (omega arith) x in record { next = y.0; place = omega (arith, y.1.0); bytes = y.1.1; onward = λ h. omega (arith, c.write_told-w.ensures.next, fits.fit_some (line_from c.args.t c.args.counts c.args.z) (c.args.count - (c.args.from - 1)) (c.args.from - 1) (r - 0) (omega arith) (omega (arith, c.write_told-w.ensures.short (omega arith)))) }

pub returns-then-p-eq0 : goal.returns-then-p-eq0
unfolding table_line
returns-then-p-eq0 c =
    let r = length c.args.b.now in
    let l = fits.put_left c.args.b.now 0 (r - 0) (first_line c.args.threads c.args.z.n c.args.events c.args.count) (c.fit_first_line-p.ensures.place, c.fit_first_line-p.ensures.bytes) c.if-p-eq0.true (laws.first_some c.args.threads c.args.z.n c.args.events c.args.count) in
    let y = laws.lined_as (table_line c.args.t c.args.counts c.args.z c.args.threads c.args.events c.args.count) c.args.b.now 0 0 c.args.from (c.args.count + 1) r r c.fit_first_line-p.new.b 0 0 (omega arith) refl (laws.lined_none (table_line c.args.t c.args.counts c.args.z c.args.threads c.args.events c.args.count) c.args.b.now 0 0 (c.args.count + 1) r c.fit_first_line-p.new.b (omega (arith, l.0)) l.1) in record { next = y.0; place = omega (arith, y.1.0); bytes = y.1.1; onward = λ h. absurd (omega (arith, l.0, short.first_short c.args.threads c.args.z.n c.args.events c.args.count (omega arith) (omega arith) (omega arith) (omega arith))) }

pub write_told-w-requires-2 : goal.write_told-w-requires-2
write_told-w-requires-2 c =
    let h = fits.fits_within (length c.args.b.now - 0) (first_line c.args.threads c.args.z.n c.args.events c.args.count) in record { n_bound = (c.requires.n_bound.0, c.requires.n_bound.1, c.requires.n_bound.2, omega arith, c.requires.n_bound.5, omega (arith, c.fit_first_line-p.ensures.place, h, c.fit_first_line-p.auto.b)); sheet = (c.requires.sheet.0, c.requires.sheet.1) }

pub overflow_add-result-2 : goal.overflow_add-result-2
overflow_add-result-2 c = omega (arith, c.requires.n_bound.5, c.write_told-w-2.ensures.next, fits.fit_few (line_from c.args.t c.args.counts c.args.z) (c.args.count - 0) 0 (length c.fit_first_line-p.new.b - c.fit_first_line-p.result))

pub returns : goal.returns
unfolding table_line
returns c =
    let r = length c.args.b.now in
    let zero : c.args.from ≡ 0 = omega (arith, c.if-from-gt0.false) in
    let l = fits.put_taken c.args.b.now 0 (r - 0) (first_line c.args.threads c.args.z.n c.args.events c.args.count) (c.fit_first_line-p.ensures.place, c.fit_first_line-p.ensures.bytes) c.if-p-eq0.false in
    let x = laws.lined_behind (table_line c.args.t c.args.counts c.args.z c.args.threads c.args.events c.args.count) (line_from c.args.t c.args.counts c.args.z) (laws.line_behind c.args.t c.args.counts c.args.z c.args.threads c.args.events c.args.count) c.fit_first_line-p.new.b c.fit_first_line-p.result 0 c.args.count (length c.fit_first_line-p.new.b - c.fit_first_line-p.result) c.write_told-w-2.new.b c.write_told-w-2.result.next c.write_told-w-2.result.place (c.write_told-w-2.ensures.next, (c.write_told-w-2.ensures.place, c.write_told-w-2.ensures.bytes)) in
    let z = laws.lined_as (table_line c.args.t c.args.counts c.args.z c.args.threads c.args.events c.args.count) c.fit_first_line-p.new.b c.fit_first_line-p.result (0 + 1) (0 + 1) (c.args.count + 1) (length c.fit_first_line-p.new.b - c.fit_first_line-p.result) (r - length (first_line c.args.threads c.args.z.n c.args.events c.args.count)) c.write_told-w-2.new.b (c.write_told-w-2.result.next + 1) c.write_told-w-2.result.place refl (omega (arith, c.fit_first_line-p.auto.b, l.1.0)) x in
    let y = laws.lined_as (table_line c.args.t c.args.counts c.args.z c.args.threads c.args.events c.args.count) c.args.b.now 0 0 c.args.from (c.args.count + 1) r r c.write_told-w-2.new.b (c.write_told-w-2.result.next + 1) c.write_told-w-2.result.place (omega (arith, zero)) refl
    (laws.lined_first (table_line c.args.t c.args.counts c.args.z c.args.threads c.args.events c.args.count) c.args.b.now 0 0 (c.args.count + 1) r c.fit_first_line-p.new.b c.fit_first_line-p.result c.write_told-w-2.new.b (c.write_told-w-2.result.next + 1) c.write_told-w-2.result.place (omega arith) (omega (arith, l.0)) l.1 z) in record { next = y.0; place = omega (arith, y.1.0); bytes = y.1.1; onward = λ h. omega (arith, zero) }
