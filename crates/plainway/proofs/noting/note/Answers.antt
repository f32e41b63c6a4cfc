use Prim.Native.Nat.{ℕ, ◌^◌}
use mathlib.Core.Path.{sym, ap₂, ◌∙◌}
use native.Mathlib.Omega.{arith}
use lib.ListN.{length-replicate}
use lib.Seq.{length-take-le}
use Rattle.lawful.specs.Demand3.{Bytes}
use Rattle.plainway.proofs.RunLaws as laws
use Rattle.plainway.proofs.noting.note.Goals as goal

pub turn_of-picks-requires : goal.turn_of-picks-requires
turn_of-picks-requires c =
    let y : Bytes c.args.s.now = λ j. omega (arith, c.shared_slice_known-1.given j) in
    let l = c.requires.0 in
    (omega (arith, l.base), omega (arith, l.base, l.short), omega (arith, l.lines, l.few), l.runs ∙ sym (ap₂ (λ (x y : ℕ). x ^ y) l.base l.lines), c.requires.2)

pub run_picked-m-requires : goal.run_picked-m-requires
run_picked-m-requires c =
    let l = c.requires.0 in
    (l.planned, l.lines, omega (arith, l.lines, l.few), omega (arith, l.planned.since, l.short))

pub put_image-requires : goal.put_image-requires
put_image-requires c =
    let y : Bytes c.args.s.now = λ j. omega (arith, c.shared_slice_known-1.given j) in
    laws.image_fits c.args.s.now y c.args.w c.requires.0 c.args.k c.args.c c.args.b.now c.requires.1 c.requires.2 c.turn_of-picks.result c.turn_of-picks.ensures c.run_picked-m.result c.run_picked-m.ensures c.kept_image-g.result c.kept_image-g.ensures

pub is_noted-requires : goal.is_noted-requires
is_noted-requires c =
    let y : Bytes c.args.s.now = λ j. omega (arith, c.shared_slice_known-1.given j) in
    (laws.noted_fit c.args.s.now y c.args.w c.requires.0 c.args.k c.args.c c.args.b.now c.requires.1 c.requires.2, omega (arith, laws.size_fits c.args.s.now y c.args.w c.requires.0 c.args.k c.args.c c.args.b.now c.requires.1 c.requires.2, laws.x_long c.args.s.now y c.args.w c.requires.0 c.args.k c.args.c c.args.b.now c.requires.1 c.requires.2 c.turn_of-picks.result c.turn_of-picks.ensures c.run_picked-m.result c.run_picked-m.ensures c.kept_image-g.result c.kept_image-g.ensures c.put_image.new.b _ c.put_image.ensures (length-replicate {A = ℕ} 846 0)))

pub returns-then-is_noted : goal.returns-then-is_noted
returns-then-is_noted c =
    let y : Bytes c.args.s.now = λ j. omega (arith, c.shared_slice_known-1.given j) in
    laws.run_yes c.args.s.now y c.args.w c.requires.0 c.args.k c.args.c c.args.b.now c.requires.1 c.requires.2 c.turn_of-picks.result c.turn_of-picks.ensures c.run_picked-m.result c.run_picked-m.ensures c.kept_image-g.result c.kept_image-g.ensures c.put_image.new.b _ c.put_image.ensures (length-replicate {A = ℕ} 846 0) (sym c.is_noted.ensures ∙ c.if-is_noted.true)

pub overflow_mul-c : goal.overflow_mul-c
overflow_mul-c c =
    let y : Bytes c.args.s.now = λ j. omega (arith, c.shared_slice_known-1.given j) in
    omega (arith, laws.run_room c.args.s.now y c.args.w c.requires.0 c.args.k c.args.c c.args.b.now c.requires.1 c.requires.2 c.turn_of-picks.result c.turn_of-picks.ensures c.run_picked-m.result c.run_picked-m.ensures c.kept_image-g.result c.kept_image-g.ensures c.put_image.new.b _ c.put_image.ensures (length-replicate {A = ℕ} 846 0) (sym c.is_noted.ensures ∙ c.if-is_noted.false))

pub slice_bounds-x-end : goal.slice_bounds-x-end
slice_bounds-x-end c =
    let y : Bytes c.args.s.now = λ j. omega (arith, c.shared_slice_known-1.given j) in
    omega (arith, laws.size_fits c.args.s.now y c.args.w c.requires.0 c.args.k c.args.c c.args.b.now c.requires.1 c.requires.2, laws.x_long c.args.s.now y c.args.w c.requires.0 c.args.k c.args.c c.args.b.now c.requires.1 c.requires.2 c.turn_of-picks.result c.turn_of-picks.ensures c.run_picked-m.result c.run_picked-m.ensures c.kept_image-g.result c.kept_image-g.ensures c.put_image.new.b _ c.put_image.ensures (length-replicate {A = ℕ} 846 0))

pub slice_bounds-put-end : goal.slice_bounds-put-end
slice_bounds-put-end c =
    let y : Bytes c.args.s.now = λ j. omega (arith, c.shared_slice_known-1.given j) in
    sym (length-take-le c.args.w.size c.put_image.new.b (omega (arith, laws.size_fits c.args.s.now y c.args.w c.requires.0 c.args.k c.args.c c.args.b.now c.requires.1 c.requires.2, laws.x_long c.args.s.now y c.args.w c.requires.0 c.args.k c.args.c c.args.b.now c.requires.1 c.requires.2 c.turn_of-picks.result c.turn_of-picks.ensures c.run_picked-m.result c.run_picked-m.ensures c.kept_image-g.result c.kept_image-g.ensures c.put_image.new.b _ c.put_image.ensures (length-replicate {A = ℕ} 846 0))))

pub put-requires : goal.put-requires
put-requires c =
    let y : Bytes c.args.s.now = λ j. omega (arith, c.shared_slice_known-1.given j) in
    omega (arith, length-take-le c.args.w.size c.put_image.new.b (omega (arith, laws.size_fits c.args.s.now y c.args.w c.requires.0 c.args.k c.args.c c.args.b.now c.requires.1 c.requires.2, laws.x_long c.args.s.now y c.args.w c.requires.0 c.args.k c.args.c c.args.b.now c.requires.1 c.requires.2 c.turn_of-picks.result c.turn_of-picks.ensures c.run_picked-m.result c.run_picked-m.ensures c.kept_image-g.result c.kept_image-g.ensures c.put_image.new.b _ c.put_image.ensures (length-replicate {A = ℕ} 846 0))), laws.run_room c.args.s.now y c.args.w c.requires.0 c.args.k c.args.c c.args.b.now c.requires.1 c.requires.2 c.turn_of-picks.result c.turn_of-picks.ensures c.run_picked-m.result c.run_picked-m.ensures c.kept_image-g.result c.kept_image-g.ensures c.put_image.new.b _ c.put_image.ensures (length-replicate {A = ℕ} 846 0) (sym c.is_noted.ensures ∙ c.if-is_noted.false))

pub overflow_add-result : goal.overflow_add-result
overflow_add-result c =
    let y : Bytes c.args.s.now = λ j. omega (arith, c.shared_slice_known-1.given j) in
    omega (arith, laws.run_count c.args.s.now y c.args.w c.requires.0 c.args.k c.args.c c.args.b.now c.requires.1 c.requires.2 c.turn_of-picks.result c.turn_of-picks.ensures c.run_picked-m.result c.run_picked-m.ensures c.kept_image-g.result c.kept_image-g.ensures c.put_image.new.b _ c.put_image.ensures (length-replicate {A = ℕ} 846 0) (sym c.is_noted.ensures ∙ c.if-is_noted.false))

pub returns : goal.returns
returns c =
    let y : Bytes c.args.s.now = λ j. omega (arith, c.shared_slice_known-1.given j) in
    laws.run_no c.args.s.now y c.args.w c.requires.0 c.args.k c.args.c c.args.b.now c.requires.1 c.requires.2 c.turn_of-picks.result c.turn_of-picks.ensures c.run_picked-m.result c.run_picked-m.ensures c.kept_image-g.result c.kept_image-g.ensures c.put_image.new.b _ c.put_image.ensures (length-replicate {A = ℕ} 846 0) (sym c.is_noted.ensures ∙ c.if-is_noted.false) c.put.new.b c.put.ensures.1
