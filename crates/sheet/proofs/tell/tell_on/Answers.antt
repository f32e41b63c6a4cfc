use native.Mathlib.Omega.{arith}
use Prim.Native.Nat.{ℕ, ◌≤◌}
use mathlib.Core.Path.{◌≡◌, sym, subst}
use lib.ListN.{get_or, take}
use Rattle.sheet.specs.Told.{Told, told_end}
use Rattle.sheet.proofs.tell.tell_on.Goals as goal

pub tell_anew-requires : goal.tell_anew-requires
tell_anew-requires c = (omega arith, c.requires.count_bound.1, omega arith, omega arith)

pub offset_bounds-ranks-h : goal.offset_bounds-ranks-h
offset_bounds-ranks-h c = omega (arith, c.wide-h.ensures.1)

pub bounds-ranks-h : goal.bounds-ranks-h
bounds-ranks-h c = omega (arith, c.wide-h.ensures.1)

pub tell_from-requires : goal.tell_from-requires
tell_from-requires c =
    let p = c.requires.i_bound c.if-i-eq0.false in
    let e = c.wide-h.ensures.0 in record { from_le_count = (p.0, omega arith, c.requires.count_bound.1, omega arith, omega arith); told_2 = subst (λ (h : ℕ). Told c.args.ranks.now c.args.items.now c.args.slots.now c.args.picks.now (get_or c.args.ranks.now h 0) (get_or c.args.starts.now c.args.i 0) c.args.end.now c.args.ends.now) (sym e) p.1 }

pub returns : goal.returns
returns c = let e = c.wide-h.ensures.0 in record { told = (subst (λ (h : ℕ). Told c.args.ranks.now c.args.items.now c.args.slots.now c.args.picks.now (get_or c.args.ranks.now h 0) c.args.count c.tell_from.new.end c.tell_from.new.ends × ((c.tell_from.result ≤ 11468) × (take c.tell_from.result c.tell_from.new.end ≡ told_end c.args.ranks.now c.args.items.now c.args.slots.now c.args.picks.now (get_or c.args.ranks.now h 0) c.args.count))) e (c.tell_from.ensures.told, c.tell_from.ensures.line)).0; line = (subst (λ (h : ℕ). Told c.args.ranks.now c.args.items.now c.args.slots.now c.args.picks.now (get_or c.args.ranks.now h 0) c.args.count c.tell_from.new.end c.tell_from.new.ends × ((c.tell_from.result ≤ 11468) × (take c.tell_from.result c.tell_from.new.end ≡ told_end c.args.ranks.now c.args.items.now c.args.slots.now c.args.picks.now (get_or c.args.ranks.now h 0) c.args.count))) e (c.tell_from.ensures.told, c.tell_from.ensures.line)).1 }
