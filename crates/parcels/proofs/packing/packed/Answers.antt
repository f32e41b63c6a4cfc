use Prim.Native.Nat.{ℕ, ◌<◌, ◌≤◌}
use mathlib.Core.Path.{◌≡◌, sym, ap}
use native.Mathlib.Omega.{arith}
use mathlib.Core.List.{List}
use lib.Seq.{length-take-le}
use Rattle.schedule.specs.Layout.{schedule_in, count_in}
use Rattle.schedule.specs.declared.Schedule.{Schedule}
use Rattle.lawful.specs.Demand3.{Bytes}
use Rattle.parcels.proofs.PackLaws as laws
use Rattle.parcels.proofs.WriteLaws as outs
use Rattle.parcels.proofs.packing.packed.Goals.{in-1, in-3, in-5, in_default}
use Rattle.parcels.proofs.packing.packed.Goals as goal

count-in : (s : List ℕ) (d : Schedule) → d ≡ schedule_in s → d.count ≡ count_in s
unfolding schedule_in
count-in s d e = ap (λ (x : Schedule). x.count) e

pub loop-i-init : goal.loop-i-init
loop-i-init c =
    let s = c.args.s.now in
    let y : Bytes s = λ j. omega (arith, c.type_inv.s j) in
    (count-in s c.args.d c.requires.1, laws.under_start s y c.requires.0 c.args.d c.requires.1 c.start_from.ensures c.in_ok-m.was c.no_parcels-parcels.result c.no_parcels-parcels.ensures)

pub returns-in_err-m : goal.returns-in_err-m
returns-in_err-m c =
    let s = c.args.s.now in
    let y : Bytes s = λ j. omega (arith, c.type_inv.s j) in
    absurd (laws.start_never s y c.requires.0 c.args.d c.requires.1 c.start_from.ensures c.in_err-m.was)

pub returns-in_err-e : goal.returns-in_err-e
returns-in_err-e c =
    let s = c.args.s.now in
    let y : Bytes s = λ j. omega (arith, c.type_inv.s j) in
    absurd (laws.event_never s y c.requires.0 c.loop-i.i (omega arith) c.event_of.ensures c.in_err-e.was)

pub bounds-parcels-count : goal.bounds-parcels-count
bounds-parcels-count c = omega (arith, laws.count_small c.args.s.now c.requires.0)

pub slice_bounds-parcels-end : goal.slice_bounds-parcels-end
slice_bounds-parcels-end c = omega (arith, laws.count_small c.args.s.now c.requires.0)

pub slice_bounds-tell_all-end : goal.slice_bounds-tell_all-end
slice_bounds-tell_all-end c = sym (length-take-le c.loop-i.count c.loop-i.parcels (omega (arith, laws.count_small c.args.s.now c.requires.0)))

pub loop-i-preserved : goal.loop-i-preserved
loop-i-preserved c =
    let s = c.args.s.now in
    let i = c.loop-i.i in
    let l = c.loop-i.parcels in
    let count = c.loop-i.count in
    let y : Bytes s = λ j. omega (arith, c.type_inv.s j) in
    let a = c.requires.0 in
    let u = c.loop-i.invariant.1 in
    let h : i < count_in s = omega arith in
    let e = c.in_ok-e.e in
    let ee = laws.event_is s y a i h c.event_of.ensures c.in_ok-e.was in
    let o = c.on_event-out.result in
    let w = laws.acted_is s y a i h c.loop-i.m u.machine e ee o c.on_event-out.ensures.answers c.on_event-out.ensures.machine in (
      c.loop-i.invariant.0,
      elim c.match-e.branch [
        | in-1 b ↦ laws.under_is b.parcels-is b.count-is (laws.under_begun s y a i c.loop-i.m l count u h e ee o.machine w.1 b.in-1.is b.fresh.result b.fresh.ensures)
        | in-3 b ↦ laws.under_is b.parcels-is b.count-is
            (laws.under_told s y a i c.loop-i.m l count u h e ee o.machine w.1 b.in-3.is o w.0 w.1 b.news_of.result b.news_of.ensures b.tell_all.new.parcels b.tell_all.ensures)
        | in-5 b ↦ laws.under_is b.parcels-is b.count-is (laws.under_crash s y a i c.loop-i.m l count u h e ee o.machine w.1 b.in-5.is)
        | in_default b ↦ laws.under_is b.parcels-is b.count-is
            (laws.under_quiet s y a i c.loop-i.m l count u h e ee o.machine w.1 (λ (k : e.kind ≡ 1). omega arith) (λ (k : e.kind ≡ 5). omega arith) (λ (k : e.kind ≡ 3). omega arith))
      ],
    )

pub returns-then-b-count : goal.returns-then-b-count
returns-then-b-count c =
    let s = c.args.s.now in
    let y : Bytes s = λ j. omega (arith, c.type_inv.s j) in
    let h : count_in s ≤ c.loop-i.i = omega arith in
    outs.packed_short s c.args.end c.args.b.now c.loop-i.count (laws.count_is s y c.requires.0 c.loop-i.i c.loop-i.m c.loop-i.parcels c.loop-i.count c.loop-i.invariant.1 h) c.if-b-count.true

pub slice_bounds-parcels-end-2 : goal.slice_bounds-parcels-end-2
slice_bounds-parcels-end-2 c = omega (arith, laws.count_small c.args.s.now c.requires.0)

pub slice_bounds-put_entries-end : goal.slice_bounds-put_entries-end
slice_bounds-put_entries-end c = sym (length-take-le c.loop-i.count c.loop-i.parcels (omega (arith, laws.count_small c.args.s.now c.requires.0)))

pub returns : goal.returns
returns c =
    let s = c.args.s.now in
    let y : Bytes s = λ j. omega (arith, c.type_inv.s j) in
    let h : count_in s ≤ c.loop-i.i = omega arith in
    let u = c.loop-i.invariant.1 in
    outs.packed_all s c.args.end c.args.b.now c.loop-i.count (laws.count_is s y c.requires.0 c.loop-i.i c.loop-i.m c.loop-i.parcels c.loop-i.count u h) c.if-b-count.false _
    (laws.all_are s y c.requires.0 c.loop-i.i c.loop-i.m c.loop-i.parcels c.loop-i.count u h) _ c.put_entries.ensures
