use mir.Syntax.{w32}
use mir.Val.{Fits}
use Rattle.page.specs.Printed.{refused_line}
use Rattle.printing.specs.Lines.{refused_text}
use Rattle.printing.proofs.Written as written
use native.Mathlib.Omega.{arith}
use mathlib.Core.Path.{ap, subst}
use Rattle.printing.proofs.Short as short
use borrow.Author.Rules.{rules}
use Rattle.printing.proofs.whole.write_refused.Goals as goal

pub put_number_place-requires : goal.put_number_place-requires
put_number_place-requires c =
    let p : Fits w32 c.told_of-t.result.place = search rules in
    omega (arith, ap (λ t. t.number) c.told_of-t.ensures, short.number_small c.args.a, short.refused_short c.told_of-t.result.number c.told_of-t.result.place (omega (arith, ap (λ t. t.number) c.told_of-t.ensures, short.number_small c.args.a)) (omega (arith, p)))

pub returns : goal.returns
unfolding refused_line refused_text
returns c =
    let p : Fits w32 c.told_of-t.result.place = search rules in
    let w = subst (λ t. written.Put c.args.b.now c.args.at (refused_text t.number t.place) c.put_number_place.new.b c.put_number_place.result) c.told_of-t.ensures c.put_number_place.ensures in record { place = (w.0, omega (arith, w.0, short.answer_short c.args.a (omega (arith, p, ap (λ t. t.place) c.told_of-t.ensures)))); bytes = w.1 }
