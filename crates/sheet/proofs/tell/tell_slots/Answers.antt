use native.Mathlib.Omega.{arith}
use Prim.Native.Nat.{ℕ, ◌+◌}
use mathlib.Core.Path.{◌≡◌, refl, sym, ap, subst, ◌∙◌}
use lib.ListN.{get_or}
use lib.ListN.{length-set}
use Rattle.sheet.specs.Told.{piece_at, Told}
use lib.Seq.{get_or-set_same}
use Rattle.sheet.proofs.TellLaws as laws
use Rattle.sheet.proofs.tell.tell_slots.Goals as goal

pub loop-c-init : goal.loop-c-init
loop-c-init c =
    let p = c.requires in
    (omega arith, omega arith, refl, p.told_2.short c.args.from (omega arith), p.told_2, omega arith, omega arith)

pub bounds-picks-e : goal.bounds-picks-e
bounds-picks-e c = omega (arith, c.requires.from_le_count.2 c.loop-c.c (omega arith))

pub offset_bounds-ranks-e : goal.offset_bounds-ranks-e
offset_bounds-ranks-e c = omega (arith, c.requires.from_le_count.2 c.loop-c.c (omega arith))

pub bounds-ranks-e : goal.bounds-ranks-e
bounds-ranks-e c = c.requires.from_le_count.2 c.loop-c.c (omega arith)

pub offset_bounds-items-e : goal.offset_bounds-items-e
offset_bounds-items-e c = omega (arith, c.requires.from_le_count.2 c.loop-c.c (omega arith))

pub bounds-items-e : goal.bounds-items-e
bounds-items-e c = c.requires.from_le_count.2 c.loop-c.c (omega arith)

pub loop-c-preserved : goal.loop-c-preserved
unfolding piece_at
loop-c-preserved c =
    let t = laws.told_next c.args.ranks.now c.args.items.now c.args.slots.now c.args.picks.now c.args.head c.loop-c.c c.loop-c.p c.put_piece-q.result c.loop-c.end c.loop-c.ends c.put_piece-q.new.end (piece_at c.args.ranks.now c.args.items.now c.args.slots.now c.args.picks.now c.args.head c.loop-c.c) c.loop-c.invariant.4 c.loop-c.invariant.2 refl c.put_piece-q.ensures.place.0 c.put_piece-q.ensures.bytes (omega (arith, c.put_piece-q.ensures.place.0, c.put_piece-q.ensures.place.1)) (omega arith) c.put_piece-q.ensures.place.1 in
    (omega arith, omega arith, sym (get_or-set_same c.loop-c.ends (c.loop-c.c + 1) c.put_piece-q.result 0 (omega arith)), omega (arith, c.put_piece-q.ensures.place.1), t, c.put_piece-q.auto.end ∙ c.loop-c.invariant.5, length-set c.loop-c.ends (c.loop-c.c + 1) c.put_piece-q.result ∙ c.loop-c.invariant.6)

pub returns : goal.returns
returns c = let e : c.loop-c.c ≡ c.args.count = omega arith in record { told = subst (λ (k : ℕ). Told c.args.ranks.now c.args.items.now c.args.slots.now c.args.picks.now c.args.head k c.loop-c.end c.loop-c.ends) e c.loop-c.invariant.4; place = c.loop-c.invariant.2 ∙ ap (λ (k : ℕ). get_or c.loop-c.ends k 0) e }
