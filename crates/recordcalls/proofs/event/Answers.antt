use mathlib.Core.Path.{◌≡◌, refl, sym, ap, ◌∙◌}
use Prim.Native.Nat.{ℕ}
use Rattle.answer.specs.Answers.{Answer, accepted, told}
use Rattle.answer.proofs.Results.{went_on, came_back, given_taken, given_refused}
use Rattle.answer.proofs.Injective.{told_injective}
use Rattle.machine.specs.Event.{event_on}
use Rattle.record.specs.Layout.{read_record, record_written}
use Rattle.calls.specs.Calls.{event_given}
use Rattle.calls.specs.Packed.{packed, reply_of}
use Rattle.calls.proofs.Laws as laws
use Rattle.recordcalls.proofs.event.Goals as goal

-- an answer as one number
abbrev one : Answer → ℕ
one a = packed (told a) (reply_of (told a))

pub returns-in-Err : goal.returns-in-Err
returns-in-Err c =
    let b = c.args.bytes.now in
    let e = event_given c.args.kind c.args.number c.args.item in
    let r = read_record b in
    let a = given_refused r.answer r.machine c.read_record.ensures c.in-Err.is in
    let h = came_back (sym a) refl in
    let u = laws.event_unread b e h in
    record { answers = c.packed_event.ensures ∙ ap one (sym a ∙ sym u); written = sym (laws.event_stays b e (ap accepted u ∙ h)) }

pub returns-in-Err-answer : goal.returns-in-Err-answer
returns-in-Err-answer c =
    let b = c.args.bytes.now in
    let e = event_given c.args.kind c.args.number c.args.item in
    let r = read_record b in
    let t = given_taken r.answer r.machine c.read_record.ensures c.in-Ok.is in
    let m = t.1 ∙ laws.record_read b t.0 in
    let w = told_injective _ _ c.on_event-out.ensures.answers ∙ ap (λ m. (event_on m e).answer) m ∙ sym (laws.event_answer_lem b e t.0) in
    record { answers = c.packed_event-in-Err-answer.ensures ∙ ap one (sym c.in-Err-answer.is ∙ w); written = sym (laws.event_stays b e (came_back w c.in-Err-answer.is)) }

pub returns-in-Ok-answer : goal.returns-in-Ok-answer
returns-in-Ok-answer c =
    let b = c.args.bytes.now in
    let e = event_given c.args.kind c.args.number c.args.item in
    let r = read_record b in
    let t = given_taken r.answer r.machine c.read_record.ensures c.in-Ok.is in
    let m = t.1 ∙ laws.record_read b t.0 in
    let w = told_injective _ _ c.on_event-out.ensures.answers ∙ ap (λ m. (event_on m e).answer) m ∙ sym (laws.event_answer_lem b e t.0) in
    let g = c.on_event-out.ensures.machine ∙ ap (λ m. (event_on m e).machine) m in
    record {
      answers = c.packed_event-in-Ok-answer.ensures ∙ ap one (sym c.in-Ok-answer.is ∙ w);
      written = c.write_record.ensures.bytes ∙ ap (λ m. record_written m b) g ∙ sym (laws.event_goes b e (went_on w c.in-Ok-answer.is));
    }
