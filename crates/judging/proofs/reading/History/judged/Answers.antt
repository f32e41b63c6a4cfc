use mathlib.Core.Path.{refl, sym, ap, ◌∙◌}
use native.Mathlib.Omega.{arith}
use Rattle.judging.specs.History.{count_in}
use Rattle.judging.specs.Judged.{said_of, searched_at}
use Rattle.judging.specs.declared.Place.{Place}
use Rattle.judging.proofs.Choosing.{ready_first}
use Rattle.judging.proofs.Turns as turns
use Rattle.judging.proofs.reading.History.judged.Goals as goal

pub invariant_of-start : goal.invariant_of-start
invariant_of-start c =
    let z = ready_first c.args.self.bytes.now c.fresh_place.result c.args.self.in_range c.args.self.whole c.requires c.fresh_place.ensures in
    record { room = omega (arith, z.put, z.left, z.whole.count) }

pub returns-then-is_finished : goal.returns-then-is_finished
returns-then-is_finished c =
    let s = c.args.self.bytes.now in
    let x = c.fresh_place in
    let z = ready_first s x.result c.args.self.in_range c.args.self.whole c.requires x.ensures in
    c.say_lawful.ensures ∙ turns.ends s (count_in s) x.result z 0 (sym c.is_finished.ensures ∙ c.if-is_finished.true)
    ∙ ap (λ (u : Place). said_of (searched_at s (count_in s) u 0)) x.ensures ∙ ap said_of (turns.begins s)

pub choose-requires : goal.choose-requires
choose-requires c =
    let s = c.args.self.bytes.now in
    let z = ready_first s c.fresh_place.result c.args.self.in_range c.args.self.whole c.requires c.fresh_place.ensures in
    (omega arith, omega arith, rw c.count.ensures z)

pub returns : goal.returns
returns c =
    let s = c.args.self.bytes.now in
    let x = c.fresh_place in
    let z = ready_first s x.result c.args.self.in_range c.args.self.whole c.requires x.ensures in
    rw c.count.ensures at c.choose.ensures.same
    ∙ sym (ap said_of (turns.goes_on_lem s (count_in s) x.result z (count_in s) 0 refl (sym c.is_finished.ensures ∙ c.if-is_finished.false)))
    ∙ ap (λ (u : Place). said_of (searched_at s (count_in s) u 0)) x.ensures ∙ ap said_of (turns.begins s)
