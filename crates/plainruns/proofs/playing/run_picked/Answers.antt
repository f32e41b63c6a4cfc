use Prim.Native.Nat.{◌+◌, ◌<◌}
use mathlib.Core.Path.{◌≡◌, sym, ap, ap₂, subst, ◌∙◌}
use native.Mathlib.Omega.{arith}
use Rattle.machine.specs.Line.{shape_of, line_count}
use Rattle.machine.specs.declared.Machine.{Machine}
use Rattle.machine.specs.declared.Event.{Event}
use Rattle.lawful.specs.Demand3.{Bytes}
use Rattle.plainproof.specs.Plain.{start_machine, since_count, event_since, lines_in, played, played_at}
use Rattle.plainproof.proofs.Since as since
use Rattle.pageproof.proofs.Holds.{page_ran, page_schedule}
use Rattle.codec.proofs.Accepted as codec
use Rattle.onward.proofs.Reached as reached
use Rattle.plainruns.specs.Playable.{Small, Playable}
use Rattle.plainruns.proofs.PlayLaws as laws
use Rattle.plainruns.proofs.playing.run_picked.Goals as goal

pub back-m-requires : goal.back-m-requires
back-m-requires c =
    let s = c.args.s.now in
    let y : Bytes s = λ j. omega (arith, c.type_inv.s j) in
    let k = c.requires.0 in (
      subst Small (sym k.machine) (laws.start_small s y k.taken),
      omega (arith, c.requires.1, laws.start_lines s y k.taken, ap (λ (m : Machine). line_count (shape_of m)) k.machine),
      c.requires.2,
      omega arith,
    )

pub loop-i-init : goal.loop-i-init
loop-i-init c = c.back-m.ensures ∙ laws.run_begin c.args.picks (event_since c.args.s.now) c.args.p.machine (start_machine c.args.s.now) c.args.n (lines_in c.args.s.now) c.requires.0.machine c.requires.1

pub overflow_add-i : goal.overflow_add-i
overflow_add-i c =
    let s = c.args.s.now in
    let k = c.requires.0 in
    omega (arith, k.at, k.since, laws.since_end s (λ j. omega (arith, c.type_inv.s j)) k.taken c.args.picks c.loop-i.i (omega (arith, k.since)), (codec.schedule_taken s (page_schedule s k.taken)).count)

pub event_at-e-requires : goal.event_at-e-requires
event_at-e-requires c =
    let s = c.args.s.now in
    let k = c.requires.0 in
    reached.event_lies s _ (c.loop-i.i + c.args.p.at) (ap shape_of k.machine ∙ since.start_shape s (page_ran s k.taken)) (page_schedule s k.taken)
    (omega (arith, k.at, laws.since_end s (λ j. omega (arith, c.type_inv.s j)) k.taken c.args.picks c.loop-i.i (omega (arith, k.since))))

pub play-requires : goal.play-requires
play-requires c =
    let s = c.args.s.now in
    let k = c.requires.0 in
    let e = c.event_at-e.ensures ∙ laws.event_since_lem s _ c.args.p.at c.loop-i.i (ap shape_of k.machine ∙ since.start_shape s (page_ran s k.taken)) k.at in
    subst (λ (x : Machine). Playable x c.event_at-e.result) (sym c.loop-i.invariant)
    (subst (λ (x : Event). Playable (played_at c.args.picks (lines_in s) (start_machine s) (event_since s) c.loop-i.i) x) (sym e)
    (laws.playable_at s (λ j. omega (arith, c.type_inv.s j)) k.taken c.args.picks c.loop-i.i (omega (arith, k.since))))

pub back-m-requires-in-loop-i : goal.back-m-requires-in-loop-i
back-m-requires-in-loop-i c =
    let s = c.args.s.now in
    let k = c.requires.0 in
    let y : Bytes s = λ j. omega (arith, c.type_inv.s j) in
    let lt : c.loop-i.i < since_count s = omega (arith, k.since) in
    let e = c.event_at-e.ensures ∙ laws.event_since_lem s _ c.args.p.at c.loop-i.i (ap shape_of k.machine ∙ since.start_shape s (page_ran s k.taken)) k.at in
    let x : c.play.result ≡ played (played_at c.args.picks (lines_in s) (start_machine s) (event_since s) c.loop-i.i) (event_since s c.loop-i.i) = c.play.ensures ∙ ap₂ played c.loop-i.invariant e in (
      subst Small (sym x) (laws.next_small s y k.taken c.args.picks c.loop-i.i lt),
      omega (arith, c.requires.1, ap (λ (m : Machine). line_count (shape_of m)) x, ap line_count (laws.next_shape s y k.taken c.args.picks c.loop-i.i lt)),
      c.requires.2,
      omega (arith, c.loop-i-test.true, c.requires.3),
    )

pub loop-i-preserved : goal.loop-i-preserved
loop-i-preserved c =
    let s = c.args.s.now in
    let k = c.requires.0 in
    let e = c.event_at-e.ensures ∙ laws.event_since_lem s _ c.args.p.at c.loop-i.i (ap shape_of k.machine ∙ since.start_shape s (page_ran s k.taken)) k.at in
    let x : c.play.result ≡ played (played_at c.args.picks (lines_in s) (start_machine s) (event_since s) c.loop-i.i) (event_since s c.loop-i.i) = c.play.ensures ∙ ap₂ played c.loop-i.invariant e in
    c.back-m-in-loop-i.ensures ∙ laws.run_next c.args.picks (event_since s) (start_machine s) c.play.result c.args.n (lines_in s) c.loop-i.i c.requires.1 x

pub returns : goal.returns
returns c =
    let s = c.args.s.now in
    c.loop-i.invariant ∙ ap (played_at c.args.picks (lines_in s) (start_machine s) (event_since s)) (let e : c.loop-i.i ≡ since_count s = omega (arith, c.requires.0.since) in e)
