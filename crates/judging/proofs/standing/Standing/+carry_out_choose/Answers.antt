use Prim.Native.Nat.{◌-◌, ◌+◌, ◌<◌}
use mathlib.Core.Path.{refl, sym, ap, ◌∙◌}
use native.Mathlib.Omega.{arith}
use Rattle.judging.specs.declared.Place.{Place}
use Rattle.judging.specs.Judged.{said_of, searched_at}
use Rattle.judging.proofs.Choosing as choosing
use Rattle.judging.proofs.Turns as turns
use Rattle.judging.proofs.standing.Standing.+carry_out_choose.Goals as goal

pub carry_out-invariant_of-next : goal.carry_out-invariant_of-next
carry_out-invariant_of-next t c =
    let s = c.args.self.now.history.bytes.now in
    let z = choosing.ready_next s c.args.left c.args.self.now.place c.take.result c.args.i c.requires.3 c.requires.0 c.requires.2 c.take.ensures in
    record { room = omega (arith, z.put, z.left, z.whole.count) }

pub carry_out-returns-then-is_finished-clause-same : goal.carry_out-returns-then-is_finished-clause-same
carry_out-returns-then-is_finished-clause-same t c =
    let s = c.args.self.now.history.bytes.now in
    let z = choosing.ready_next s c.args.left c.args.self.now.place c.take.result c.args.i c.requires.3 c.requires.0 c.requires.2 c.take.ensures in
    c.say_lawful.ensures ∙ turns.ends s (c.args.left - 1) c.take.result z (c.args.tries + 1) (sym c.is_finished.ensures ∙ c.if-is_finished.true)
    ∙ ap (λ (u : Place). said_of (searched_at s (c.args.left - 1) u (c.args.tries + 1))) c.take.ensures

pub carry_out-choose-requires : goal.carry_out-choose-requires
carry_out-choose-requires t c =
    let s = c.args.self.now.history.bytes.now in
    let z = choosing.ready_next s c.args.left c.args.self.now.place c.take.result c.args.i c.requires.3 c.requires.0 c.requires.2 c.take.ensures in
    (omega (arith, c.decreases, z.whole.count), (omega arith, omega arith, z))

pub carry_out-returns-clause-same : goal.carry_out-returns-clause-same
carry_out-returns-clause-same t c =
    let s = c.args.self.now.history.bytes.now in
    let z = choosing.ready_next s c.args.left c.args.self.now.place c.take.result c.args.i c.requires.3 c.requires.0 c.requires.2 c.take.ensures in
    c.choose.ensures.same ∙ sym (ap said_of (turns.goes_on_lem s (c.args.left - 1) c.take.result z _ (c.args.tries + 1) refl (sym c.is_finished.ensures ∙ c.if-is_finished.false)))
    ∙ ap (λ (u : Place). said_of (searched_at s (c.args.left - 1) u (c.args.tries + 1))) c.take.ensures

pub choose-returns-then-left-eq0-clause-same : goal.choose-returns-then-left-eq0-clause-same
choose-returns-then-left-eq0-clause-same t c =
    c.say.ensures ∙ choosing.none_left c.args.self.now.history.bytes.now c.args.left c.args.self.now.place c.requires.2 c.args.i c.args.tries c.requires.0 c.if-left-eq0.true

pub choose-returns-in_default-clause-same : goal.choose-returns-in_default-clause-same
choose-returns-in_default-clause-same t c =
    c.say-in_default.ensures
    ∙ choosing.none_eligible c.args.self.now.history.bytes.now c.args.left c.args.self.now.place c.requires.2 c.args.i c.args.tries c.requires.0 (omega (arith, c.if-left-eq0.false))
    c.next_eligible.result c.next_eligible.ensures c.in_default.is

pub choose-returns-then-tries-eq1000000-clause-same : goal.choose-returns-then-tries-eq1000000-clause-same
choose-returns-then-tries-eq1000000-clause-same t c =
    c.say-then-tries-eq1000000.ensures
    ∙ choosing.stops c.args.self.now.history.bytes.now c.args.left c.args.self.now.place c.requires.2 c.args.i c.args.tries c.requires.0 (omega (arith, c.if-left-eq0.false))
    c.next_eligible.result c.next_eligible.ensures c.in-Some.j c.in-Some.is (omega (arith, c.if-tries-eq1000000.true))

pub choose-carry_out-r-requires : goal.choose-carry_out-r-requires
choose-carry_out-r-requires t c =
    let s = c.args.self.now.history.bytes.now in
    let z : 0 < c.args.left = omega (arith, c.if-left-eq0.false) in
    let n = c.next_eligible in
    let w = choosing.within s c.args.left c.args.self.now.place c.requires.2 c.args.i c.args.tries c.requires.0 z n.result n.ensures c.in-Some.j c.in-Some.is in
    let a = choosing.after s c.args.left c.args.self.now.place c.requires.2 c.args.i c.args.tries c.requires.0 z n.result n.ensures c.in-Some.j c.in-Some.is in
    let e = choosing.eligible s c.args.left c.args.self.now.place c.requires.2 c.args.i c.args.tries c.requires.0 z n.result n.ensures c.in-Some.j c.in-Some.is in
    (omega (arith, c.decreases, a), (w, omega arith, z, c.requires.2, e))

pub choose-choose-requires : goal.choose-choose-requires
choose-choose-requires t c =
    let s = c.args.self.now.history.bytes.now in
    let z : 0 < c.args.left = omega (arith, c.if-left-eq0.false) in
    let n = c.next_eligible in
    let w = choosing.within s c.args.left c.args.self.now.place c.requires.2 c.args.i c.args.tries c.requires.0 z n.result n.ensures c.in-Some.j c.in-Some.is in
    let a = choosing.after s c.args.left c.args.self.now.place c.requires.2 c.args.i c.args.tries c.requires.0 z n.result n.ensures c.in-Some.j c.in-Some.is in
    (omega (arith, c.decreases, a, w), (omega (arith, w), c.carry_out-r.ensures.bounded, c.requires.2))

pub choose-returns-in-Unlawful-clause-same : goal.choose-returns-in-Unlawful-clause-same
choose-returns-in-Unlawful-clause-same t c =
    let n = c.next_eligible in
    choosing.misses c.args.self.now.history.bytes.now c.args.left c.args.self.now.place c.requires.2 c.args.i c.args.tries c.requires.0 (omega (arith, c.if-left-eq0.false))
    n.result n.ensures c.in-Some.j c.in-Some.is (omega arith) c.carry_out-r.result c.carry_out-r.ensures.same c.in-Unlawful.is c.choose.result c.choose.ensures.same

pub choose-returns-in-Lawful : goal.choose-returns-in-Lawful
choose-returns-in-Lawful t c =
    let n = c.next_eligible in
    record {
      same = choosing.hits c.args.self.now.history.bytes.now c.args.left c.args.self.now.place c.requires.2 c.args.i c.args.tries c.requires.0 (omega (arith, c.if-left-eq0.false))
          n.result n.ensures c.in-Some.j c.in-Some.is (omega arith) c.carry_out-r.result c.carry_out-r.ensures.same c.in-Lawful.is;
      bounded = c.carry_out-r.ensures.bounded;
    }
