use Prim.Native.Nat.{◌+◌}
use mathlib.Core.Path.{◌≡◌, sym, ap, ◌∙◌}
use mathlib.Core.List.{[], append-nil}
use lib.ListN.{length}
use native.Mathlib.Omega.{arith}
use Rattle.std.specs.Prelude.{Err}
use Rattle.std.proofs.lemmas.Result.{IfOk-weaker}
use Rattle.page.specs.Printed.{printed, refused_line}
use Rattle.printer.proofs.Parting as parts
use Rattle.printer.proofs.print_refused.Goals as goal

pub write_front-requires : goal.write_front-requires
write_front-requires g c = parts.part_next _ [] (refused_line (Err c.args.e)) [] _ c.write_refused-place.new.b _ c.write_refused-place.result (sym c.requires.0 ∙ sym (append-nil (refused_line (Err c.args.e)))) c.requires.1 c.write_refused-place.ensures.place.0 (omega (arith, c.write_refused-place.ensures.place, c.write_refused-place.auto.b)) c.write_refused-place.ensures.bytes (omega (arith, c.write_refused-place.ensures.place.1, c.requires.1))

pub returns : goal.returns
returns g c = IfOk-weaker _ (λ _. c.write_front.new.done ≡ c.args.done.now + c.write_refused-place.result) (λ _. c.write_front.new.done ≡ length (printed c.args.s.now)) (λ _ h. omega (arith, h, c.requires.1, c.write_refused-place.ensures.place.0, ap length c.requires.0)) c.write_front.ensures
