use native.Mathlib.Omega.{arith}
use Prim.Native.Nat.{ℕ, ◌/◌, ◌%◌}
use mathlib.Core.Path.{◌≡◌, ap, ap₂, ◌∙◌}
use mathlib.Core.List.{List, []}
use Rattle.image.specs.Layout.{content_at}
use lib.ListN.{get_or, set}
use Rattle.sheet.specs.Marks.{marks_of, items_in, slot_count}
use Rattle.sheet.proofs.MarkLaws as laws
use Rattle.sheet.proofs.marks.marks_of.Goals as goal

pub no_ranks-ranks-requires : goal.no_ranks-ranks-requires
no_ranks-ranks-requires c = tt

pub no_items-items-requires : goal.no_items-items-requires
no_items-items-requires c = tt

pub loop-e-init : goal.loop-e-init
loop-e-init c = (omega arith, c.no_ranks-ranks.ensures ∙ laws.marks_none c.args.t c.args.counts, c.no_items-items.ensures ∙ laws.items_none c.args.t)

pub mark_of-requires : goal.mark_of-requires
mark_of-requires c = tt

pub loop-e-preserved : goal.loop-e-preserved
loop-e-preserved c = (
  omega arith,
  ap₂ (λ (l : List ℕ) (x : ℕ). set l c.loop-e.e x) c.loop-e.invariant.1 c.mark_of.ensures ∙ laws.marks_next c.args.t c.args.counts c.loop-e.e (omega arith),
  ap (λ (l : List ℕ). set l c.loop-e.e (content_at (get_or c.args.t (c.loop-e.e / 16) []) (c.loop-e.e % 16)).item) c.loop-e.invariant.2 ∙ laws.items_next c.args.t c.loop-e.e (omega arith),
)

pub returns : goal.returns
returns c =
    let e : c.loop-e.e ≡ slot_count c.args.n = omega (arith, laws.slots_are c.args.n) in
    ap₂ (λ (r i : List ℕ). record { ranks = r; items = i }) (c.loop-e.invariant.1 ∙ ap (marks_of c.args.t c.args.counts) e) (c.loop-e.invariant.2 ∙ ap (items_in c.args.t) e)
