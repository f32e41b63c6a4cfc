use mathlib.Core.Path.{refl, sym, ap, ◌∙◌}
use lib.ListN.{length}
use Rattle.answer.proofs.Results.{came_back, given_taken, given_refused, handed_on}
use Rattle.answer.proofs.Injective.{told_injective}
use Rattle.machine.specs.Saved.{save_answer, saved}
use Rattle.record.specs.Layout.{read_record}
use Rattle.calls.proofs.Laws as laws
use Rattle.recordcalls.proofs.put_saved.Goals as goal

pub returns-in_err-m : goal.returns-in_err-m
returns-in_err-m c =
    let s = c.args.bytes.now in
    let b = c.args.buffer.now in
    let r = read_record s in
    let h = came_back (sym (given_refused r.answer r.machine c.read_record.ensures c.in_err-m.was)) refl in
    record {
      answers = handed_on r.answer r.machine c.read_record.ensures c.in_err-m.was c.from_residual.ensures.1 ∙ sym (laws.save_unread s (length b) h);
      written = sym (laws.save_stays s b h);
    }

pub returns : goal.returns
returns c =
    let s = c.args.bytes.now in
    let b = c.args.buffer.now in
    let r = read_record s in
    let t = given_taken r.answer r.machine c.read_record.ensures c.in_ok-m.was in
    let m = t.1 ∙ laws.record_read s t.0 in
    record {
      answers = told_injective _ _ c.save.ensures.answers ∙ ap (λ m. save_answer m (length b)) m ∙ sym (laws.save_answer_lem s (length b) t.0);
      written = c.save.ensures.bytes ∙ ap (λ m. saved m b) m ∙ sym (laws.save_goes s b t.0);
    }
