use native.Mathlib.Omega.{arith}
use Prim.Native.Nat.{ℕ, ◌≤◌}
use mathlib.Core.Path.{◌≡◌, subst}
use lib.ListN.{get_or, take}
use lib.ListN.{length-set}
use Rattle.sheet.specs.Told.{Told, told_end}
use Rattle.sheet.proofs.TellLaws as laws
use Rattle.sheet.proofs.tell.tell_anew.Goals as goal

pub offset_bounds-ranks-h : goal.offset_bounds-ranks-h
offset_bounds-ranks-h c = omega (arith, c.wide-h.ensures.1)

pub bounds-ranks-h : goal.bounds-ranks-h
bounds-ranks-h c = omega (arith, c.wide-h.ensures.1)

pub tell_from-requires : goal.tell_from-requires
tell_from-requires c = let r = length-set c.args.ends.now 0 c.put_head-p.result in record { from_le_count = (omega arith, omega arith, c.requires.1, omega (arith, c.put_head-p.auto.end), omega (arith, r)); told_2 = laws.told_first c.args.ranks.now c.args.items.now c.args.slots.now c.args.picks.now (get_or c.args.ranks.now c.wide-h.result 0) c.args.end.now c.args.ends.now c.put_head-p.result c.put_head-p.new.end c.put_head-p.ensures.place.0 c.put_head-p.ensures.bytes c.put_head-p.ensures.place.1 (omega (arith, c.put_head-p.ensures.place.1)) (omega arith) }

pub returns : goal.returns
returns c = let e = c.wide-h.ensures.0 in record { told = (subst (λ (h : ℕ). Told c.args.ranks.now c.args.items.now c.args.slots.now c.args.picks.now (get_or c.args.ranks.now h 0) c.args.count c.tell_from.new.end c.tell_from.new.ends × ((c.tell_from.result ≤ 11468) × (take c.tell_from.result c.tell_from.new.end ≡ told_end c.args.ranks.now c.args.items.now c.args.slots.now c.args.picks.now (get_or c.args.ranks.now h 0) c.args.count))) e (c.tell_from.ensures.told, c.tell_from.ensures.line)).0; line = (subst (λ (h : ℕ). Told c.args.ranks.now c.args.items.now c.args.slots.now c.args.picks.now (get_or c.args.ranks.now h 0) c.args.count c.tell_from.new.end c.tell_from.new.ends × ((c.tell_from.result ≤ 11468) × (take c.tell_from.result c.tell_from.new.end ≡ told_end c.args.ranks.now c.args.items.now c.args.slots.now c.args.picks.now (get_or c.args.ranks.now h 0) c.args.count))) e (c.tell_from.ensures.told, c.tell_from.ensures.line)).1 }
