use borrow.Author.Rules.{rules}
use Rattle.printing.proofs.Short as short
use Rattle.filling.proofs.Answers as answers
use Rattle.filling.proofs.calls.refusal_line.Goals as goal

pub returns-in-0 : goal.returns-in-0
returns-in-0 c =
    let w = answers.refusal_room c.args.number c.args.place c.args.b.now (c.fit_number_place.ensures.place, c.fit_number_place.ensures.bytes) (short.refused_some c.args.number c.args.place) c.in-0.is in
    record { answers = w.0; written = w.1 }

pub returns-in_default : goal.returns-in_default
returns-in_default c =
    let w = answers.refusal_taken c.args.number c.args.place c.args.b.now (c.fit_number_place.ensures.place, c.fit_number_place.ensures.bytes) (search rules) in
    record { answers = w.0; written = w.1 }
