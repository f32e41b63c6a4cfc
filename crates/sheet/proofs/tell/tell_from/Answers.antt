use native.Mathlib.Omega.{arith}
use mathlib.Core.Path.{refl}
use lib.ListN.{get_or}
use Rattle.sheet.proofs.TellLaws as laws
use Rattle.sheet.proofs.tell.tell_from.Goals as goal

pub close-requires : goal.close-requires
close-requires c = omega (arith, c.tell_slots-p.ensures.place, c.tell_slots-p.ensures.told.short c.args.count (omega arith), c.tell_slots-p.auto.end)

pub returns : goal.returns
returns c =
    let h = c.tell_slots-p.ensures.told.short c.args.count (omega arith) in
    let w = laws.told_closed c.args.ranks.now c.args.items.now c.args.slots.now c.args.picks.now c.args.head c.args.count c.tell_slots-p.new.end c.tell_slots-p.new.ends c.close.new.end c.tell_slots-p.result (get_or c.tell_slots-p.new.ends 0 0) c.close.result c.tell_slots-p.ensures.told c.tell_slots-p.ensures.place refl (omega (arith, c.tell_slots-p.ensures.place, h, c.tell_slots-p.auto.end)) c.close.ensures in record { told = w.0; line = (omega (arith, w.1.0, c.tell_slots-p.ensures.place, h), w.1.1) }
