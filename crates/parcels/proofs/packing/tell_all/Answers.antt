use native.Mathlib.Omega.{arith}
use mathlib.Core.Path.{ap, ◌∙◌}
use mathlib.Core.List.{List}
use lib.ListN.{get_or, set}
use Rattle.parcels.specs.Parcel.{no_parcel, moved}
use Rattle.parcels.specs.declared.Parcel.{Parcel}
use Rattle.parcels.proofs.PackLaws as laws
use Rattle.parcels.proofs.packing.tell_all.Goals as goal

pub loop-p-init : goal.loop-p-init
loop-p-init c = laws.moved_none c.args.w c.args.parcels.now

pub loop-p-preserved : goal.loop-p-preserved
loop-p-preserved c =
    let i = c.loop-p.p-index in
    ap (λ (l : List Parcel). set l i c.moved.result) c.loop-p.invariant
    ∙ laws.moved_next c.args.w c.args.parcels.now i (omega arith) c.moved.result (c.moved.ensures ∙ ap (λ (l : List Parcel). moved c.args.w (get_or l i no_parcel)) c.loop-p.invariant)

pub returns : goal.returns
returns c = c.loop-p.invariant ∙ laws.moved_all c.args.w c.args.parcels.now c.loop-p.p-index (omega arith)
