use mathlib.Core.Path.{◌≡◌, refl, sym, ap, ◌∙◌}
use mathlib.Core.Bool.{true}
use native.Mathlib.Omega.{arith}
use lib.ListN.{length}
use Rattle.answer.specs.Answers.{accepted}
use Rattle.answer.proofs.Results.{came_back, given_taken, given_refused, handed_on}
use Rattle.answer.proofs.Injective.{told_injective}
use Rattle.lists.proofs.BoolLaws.{no_way}
use Rattle.image.specs.Refusals.{image_answer}
use Rattle.image.specs.Layout.{image_in}
use Rattle.machine.specs.Start.{start_from}
use Rattle.record.specs.Layout.{record_answer, record_written}
use Rattle.calls.proofs.Laws as laws
use Rattle.recordcalls.proofs.put_start.Goals as goal

pub returns-then-not-threads_fit : goal.returns-then-not-threads_fit
returns-then-not-threads_fit c =
    let s = c.args.image.now in
    let k = c.args.threads in
    let b = c.args.bytes.now in
    let f = sym c.threads_fit.ensures ∙ c.if-not-threads_fit.true in
    record { answers = sym (laws.start_threads s k (length b) f); written = sym (laws.start_threads_stay s k b f) }

pub returns-in_err-g : goal.returns-in_err-g
returns-in_err-g c =
    let s = c.args.image.now in
    let k = c.args.threads in
    let b = c.args.bytes.now in
    let f = sym c.threads_fit.ensures ∙ c.if-not-threads_fit.false in
    let h = came_back (sym (given_refused (image_answer k 0 s) (image_in s) c.read_part.ensures c.in_err-g.was)) refl in
    record {
      answers = handed_on (image_answer k 0 s) (image_in s) c.read_part.ensures c.in_err-g.was c.from_residual.ensures.1 ∙ sym (laws.start_image s k f (length b) h);
      written = sym (laws.start_image_stays s k f b h);
    }

pub returns-in_err-m : goal.returns-in_err-m
returns-in_err-m c =
    let s = c.args.image.now in
    let k = c.args.threads in
    let f = sym c.threads_fit.ensures ∙ c.if-not-threads_fit.false in
    let t = given_taken (image_answer k 0 s) (image_in s) c.read_part.ensures c.in_ok-g.was in
    let a : accepted (start_from (image_in s) k).answer ≡ true = laws.start_taken s k f (λ j. omega (arith, c.shared_slice_known-1.given j)) t.0 in
    no_way (sym a ∙ ap (λ g. accepted (start_from g k).answer) (sym t.1) ∙ came_back (sym (given_refused _ _ c.start_from.ensures c.in_err-m.was)) refl)

pub returns : goal.returns
returns c =
    let s = c.args.image.now in
    let k = c.args.threads in
    let b = c.args.bytes.now in
    let f = sym c.threads_fit.ensures ∙ c.if-not-threads_fit.false in
    let t = given_taken (image_answer k 0 s) (image_in s) c.read_part.ensures c.in_ok-g.was in
    let m = (given_taken _ _ c.start_from.ensures c.in_ok-m.was).1 ∙ ap (λ g. (start_from g k).machine) t.1 ∙ laws.start_machine s k f (λ j. omega (arith, c.shared_slice_known-1.given j)) t.0 in
    record {
      answers = told_injective c.write_record.result (record_answer (length b)) c.write_record.ensures.answers ∙ sym (laws.start_room s k f (length b) t.0);
      written = c.write_record.ensures.bytes ∙ ap (λ m. record_written m b) m ∙ sym (laws.start_written_lem s k f b t.0);
    }
