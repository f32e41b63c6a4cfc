use mir.Val.{Fits}
use mir.Syntax.{w32}
use Rattle.printing.proofs.Short as short
use Prim.Native.Nat.{◌-◌}
use mathlib.Core.Path.{subst}
use lib.ListN.{length}
use Rattle.printing.proofs.Written as written
use Rattle.printing.specs.Lines.{if_fits, refused_text}
use native.Mathlib.Omega.{arith}
use borrow.Author.Rules.{rules}
use Rattle.printing.proofs.fitting.fit_number_place.Goals as goal

pub put_number_place-n-requires : goal.put_number_place-n-requires
put_number_place-n-requires c =
    let n : Fits w32 c.args.number = search rules in
    let m : Fits w32 c.args.place = search rules in
    let h = short.refused_wide c.args.number c.args.place (omega (arith, n)) (omega (arith, m)) in
    omega (arith, h)

pub fit_front-requires : goal.fit_front-requires
fit_front-requires c =
    let n : Fits w32 c.args.number = search rules in
    let m : Fits w32 c.args.place = search rules in
    let h = short.refused_wide c.args.number c.args.place (omega (arith, n)) (omega (arith, m)) in
    (omega arith, omega (arith, h, c.put_number_place-n.ensures.0, c.put_number_place-n.auto.b))

pub returns : goal.returns
returns c =
    let n : Fits w32 c.args.number = search rules in
    let m : Fits w32 c.args.place = search rules in
    let h = short.refused_wide c.args.number c.args.place (omega (arith, n)) (omega (arith, m)) in
    let e = written.front_is _ c.put_number_place-n.result c.put_number_place-n.new.b (refused_text c.args.number c.args.place) (omega (arith, h)) c.put_number_place-n.ensures.0 c.put_number_place-n.ensures.1 in record { place = (subst (λ l. written.Put c.args.b.now c.args.at (if_fits (length c.args.b.now - c.args.at) l) c.fit_front.new.b c.fit_front.result) e (c.fit_front.ensures.place, c.fit_front.ensures.bytes)).0; bytes = (subst (λ l. written.Put c.args.b.now c.args.at (if_fits (length c.args.b.now - c.args.at) l) c.fit_front.new.b c.fit_front.result) e (c.fit_front.ensures.place, c.fit_front.ensures.bytes)).1 }
