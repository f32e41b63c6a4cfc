use native.Mathlib.Omega.{arith}
use Prim.Native.Nat.{ℕ, ◌+◌, ◌-◌}
use mathlib.Core.Path.{◌≡◌, sym, subst, fun_ext, ◌∙◌}
use mathlib.Core.List.{List}
use lib.ListN.{length}
use Rattle.lists.specs.Tab.{over}
use Rattle.image.specs.Form.{head_lines}
use Rattle.page.specs.Filled.{lines_on, fitting}
use Rattle.sheet.proofs.SheetLaws as sheets
use Rattle.filling.proofs.table.write_told.Goals as goal

pub write_endings-requires : goal.write_endings-requires
write_endings-requires c =
    let one : head_lines c.args.z ≡ 1 = sym c.head_lines.ensures ∙ c.if-head_lines-eq1.true in
    let h = c.requires.sheet.0 in record { n_bound = (c.requires.n_bound.0, one, c.requires.n_bound.2, c.requires.n_bound.3, c.requires.n_bound.4, c.requires.n_bound.5); count_bound = (omega (arith, sheets.sheet_count c.args.t c.args.counts c.args.z.n c.args.ranks.now c.args.items.now c.args.slots.now c.args.starts.now c.args.told h, c.requires.n_bound.0), sheets.sheet_slots c.args.t c.args.counts c.args.z.n c.args.ranks.now c.args.items.now c.args.slots.now c.args.starts.now c.args.told h, h.begun) }

pub returns-then-head_lines-eq1 : goal.returns-then-head_lines-eq1
returns-then-head_lines-eq1 c =
    let one : head_lines c.args.z ≡ 1 = sym c.head_lines.ensures ∙ c.if-head_lines-eq1.true in
    let h = c.requires.sheet.0 in
    let q =
    subst (λ (f : ℕ → List ℕ). (c.write_endings.result.next ≡ c.args.from + fitting f c.args.from (c.args.to - c.args.from) (length c.args.b.now - c.args.at))
    × ((c.write_endings.result.place ≡ c.args.at + length (lines_on f c.args.from (c.write_endings.result.next - c.args.from)))
    × (c.write_endings.new.b ≡ over c.args.b.now c.args.at (lines_on f c.args.from (c.write_endings.result.next - c.args.from)))))
    (fun_ext (sheets.sheet_line c.args.t c.args.counts c.args.z one c.args.ranks.now c.args.items.now c.args.slots.now c.args.starts.now c.args.told h c.requires.n_bound.2)) (c.write_endings.ensures.next, (c.write_endings.ensures.place, c.write_endings.ensures.bytes)) in record { next = q.0; place = q.1.0; bytes = q.1.1; short = λ l. sheets.sheet_short c.args.t c.args.counts c.args.z one c.args.ranks.now c.args.items.now c.args.slots.now c.args.starts.now c.args.told h c.requires.n_bound.2 c.requires.sheet.1 c.requires.n_bound.0 c.args.from (omega (arith, l, c.requires.n_bound.4)) }

pub write_endings-requires-2 : goal.write_endings-requires-2
write_endings-requires-2 c = let p = c.requires.n_bound in (p.0, p.1, p.2, p.3, p.4, p.5)

pub returns : goal.returns
returns c = record { next = c.write_endings-2.ensures.next; place = c.write_endings-2.ensures.place; bytes = c.write_endings-2.ensures.bytes; short = c.write_endings-2.ensures.short }
