use native.Mathlib.Omega.{arith}
use borrow.Author.Rules.{rules}
use Prim.Native.Nat.{ℕ, ◌+◌, ◌-◌, ◌*◌}
use mathlib.Core.Path.{refl, ap}
use lib.ListN.{get_or}
use mir.Val.{Fits}
use mir.Syntax.{w32, w64}
use Rattle.sheet.specs.Order.{rank_in}
use Rattle.sheet.specs.declared.marks.Marks.{Marks}
use Rattle.sheet.proofs.OrderLaws as orders
use Rattle.sheet.proofs.PlaceLaws as places
use Rattle.sheet.proofs.SheetLaws as laws
use Rattle.sheet.proofs.sheet.sheet_of.Goals as goal

pub starts_of-starts-requires : goal.starts_of-starts-requires
starts_of-starts-requires c =
    let n = c.args.n in
    (omega (arith, c.ranked-count.ensures.count, orders.ordered_few (rank_in c.marks_of-m.result.ranks) 16 ((n + 1) * 16 - 16)), places.found_slots (rank_in c.marks_of-m.result.ranks) c.ranked-count.new.slots c.ranked-count.result 16 ((n + 1) * 16) (omega arith) (omega arith) c.ranked-count.ensures.count c.ranked-count.ensures.slots, omega arith)

pub returns : goal.returns
returns c =
    let x : (e : ℕ) → Fits w64 (get_or c.marks_of-m.result.ranks e 0) = λ e. search rules in
    let y : (e : ℕ) → Fits w32 (get_or c.marks_of-m.result.items e 0) = λ e. search rules in record { sheet = laws.sheet_made c.args.t c.args.counts c.args.n c.marks_of-m.result.ranks c.marks_of-m.result.items c.ranked-count.new.slots c.starts_of-starts.result c.ranked-count.result (c.args.n + 1) (ap (λ (m : Marks). m.ranks) c.marks_of-m.ensures) (ap (λ (m : Marks). m.items) c.marks_of-m.ensures) refl c.ranked-count.ensures.count c.ranked-count.ensures.slots c.starts_of-starts.ensures; small = λ e. (omega (arith, x e), omega (arith, y e)) }
