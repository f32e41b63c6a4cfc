use mathlib.Core.Bool.{true, false}
use mathlib.Core.Path.{◌≡◌, refl, sym, ap, ◌∙◌}
use lib.ListN.{length}
use Rattle.answer.proofs.Results.{went_on, came_back, returned}
use Rattle.answer.specs.Answers.{told, accepted}
use Rattle.image.specs.Form.{known}
use Rattle.converting.specs.Desks.{desks_answer}
use Rattle.converting.proofs.DeskLaws as laws
use native.Mathlib.Omega.{arith}
use Rattle.converting.proofs.desks.import_desks.Goals as goal

pub returns-in_err-check_desks : goal.returns-in_err-check_desks
returns-in_err-check_desks c =
    let e = c.check_desks.ensures in
    let h : accepted (desks_answer c.args.s.now) ≡ false = came_back e c.in_err-check_desks.was in record { answers = ap told (returned e c.in_err-check_desks.was c.from_residual.ensures.1 ∙ sym (laws.import_refused c.args.s.now (length c.args.b.now) h)); bytes = sym (laws.imported_refused c.args.s.now c.args.b.now h) }

pub put_as-requires : goal.put_as-requires
unfolding known
put_as-requires c =
    let s = c.args.s.now in
    let h : accepted (desks_answer s) ≡ true = went_on c.check_desks.ensures c.in_ok-check_desks.was in
    record { lies = (laws.desks_taken s h).lies; form = refl; threads = omega arith }

pub returns : goal.returns
returns c = let h : accepted (desks_answer c.args.s.now) ≡ true = went_on c.check_desks.ensures c.in_ok-check_desks.was in record { answers = ap told (c.put_as.ensures.answers ∙ sym (laws.import_then c.args.s.now (length c.args.b.now) h)); bytes = c.put_as.ensures.bytes ∙ sym (laws.imported_then c.args.s.now c.args.b.now h) }
