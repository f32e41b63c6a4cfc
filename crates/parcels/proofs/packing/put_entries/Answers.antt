use mathlib.Core.Path.{refl, ap, ◌∙◌}
use mathlib.Core.List.{List}
use Prim.Native.Nat.{ℕ, ◌*◌}
use lib.ListN.{get_or}
use Rattle.lists.specs.Tab.{over}
use Rattle.parcels.specs.Parcel.{no_parcel}
use Rattle.parcels.specs.Despatch.{entry_bytes}
use Rattle.parcels.proofs.WriteLaws as outs
use Rattle.parcels.proofs.packing.put_entries.Goals as goal

pub loop-i-init : goal.loop-i-init
loop-i-init c = outs.packed_none c.args.end c.args.parcels.now c.args.b.now

pub loop-i-preserved : goal.loop-i-preserved
loop-i-preserved c =
    let l = c.args.parcels.now in
    c.put_entry.ensures ∙ ap (λ (x : List ℕ). over x (c.loop-i.i * 8) (entry_bytes (get_or l c.loop-i.i no_parcel) c.group_of.result)) c.loop-i.invariant
    ∙ outs.packed_over c.args.end l c.args.b.now c.loop-i.i (get_or l c.loop-i.i no_parcel) c.group_of.result refl c.group_of.ensures
