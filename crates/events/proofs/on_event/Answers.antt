use mathlib.Core.Path.{refl, sym, ◌∙◌}
use Rattle.events.proofs.ByAnswer as by
use Rattle.events.proofs.on_event.Goals as goal

pub returns-then-not-in_range : goal.returns-then-not-in_range
returns-then-not-in_range c =
    let e = by.on_out c.args.m c.args.e (sym c.in_range.ensures ∙ c.if-not-in_range.true) in
    record { answers = rw e refl; machine = rw e refl }

pub returns : goal.returns
returns c =
    let e = by.on_in c.args.m c.args.e (sym c.in_range.ensures ∙ c.if-not-in_range.false) in
    record { answers = rw (e, c.from.ensures, c.act-r.ensures) refl; machine = rw (e, c.from.ensures, c.act-r.ensures) refl }
