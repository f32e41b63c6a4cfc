use mathlib.Core.Path.{refl, sym, ap, ◌∙◌}
use lib.ListN.{length}
use borrow.Author.Tests.{lt-ltb, le-ltb}
use Rattle.answer.specs.Answers.{accepted}
use Rattle.answer.proofs.Results.{came_back, given_taken, given_refused, handed_on}
use Rattle.lists.specs.Tab.{over}
use Rattle.machine.specs.Place.{count_places}
use Rattle.record.specs.Layout.{read_record}
use Rattle.calls.specs.Calls.{place_bytes}
use Rattle.calls.proofs.Laws as laws
use Rattle.recordcalls.proofs.put_counts.Goals as goal

pub returns-in_err-m : goal.returns-in_err-m
returns-in_err-m c =
    let s = c.args.bytes.now in
    let b = c.args.buffer.now in
    let r = read_record s in
    let h = came_back (sym (given_refused r.answer r.machine c.read_record.ensures c.in_err-m.was)) refl in
    let u = laws.places_unread s (length b) h in
    record {
      answers = handed_on r.answer r.machine c.read_record.ensures c.in_err-m.was c.from_residual.ensures.1 ∙ sym u;
      written = sym (laws.places_stay s b (ap accepted u ∙ h));
    }

pub returns-in_err-p : goal.returns-in_err-p
returns-in_err-p c =
    let s = c.args.bytes.now in
    let b = c.args.buffer.now in
    let r = read_record s in
    let t = given_taken r.answer r.machine c.read_record.ensures c.in_ok-m.was in
    let m = t.1 ∙ laws.record_read s t.0 in
    let a = given_refused _ _ c.count_places.ensures c.in_err-p.was in
    let n = ap (λ m. (count_places m).answer) m in
    let h = came_back (sym a ∙ n) refl in
    let u = laws.places_refused s (length b) t.0 h in
    record {
      answers = handed_on _ _ c.count_places.ensures c.in_err-p.was c.from_residual-in_err-p.ensures.1 ∙ n ∙ sym u;
      written = sym (laws.places_stay s b (ap accepted u ∙ h));
    }

pub returns-then-buffer-lt6 : goal.returns-then-buffer-lt6
returns-then-buffer-lt6 c =
    let s = c.args.bytes.now in
    let b = c.args.buffer.now in
    let r = read_record s in
    let t = given_taken r.answer r.machine c.read_record.ensures c.in_ok-m.was in
    let m = t.1 ∙ laws.record_read s t.0 in
    let k = given_taken _ _ c.count_places.ensures c.in_ok-p.was in
    let g = ap (λ m. accepted (count_places m).answer) (sym m) ∙ k.0 in
    let u = laws.places_short s (length b) t.0 g (lt-ltb (length b) 6 c.if-buffer-lt6.true) in
    record { answers = sym u; written = sym (laws.places_stay s b (ap accepted u)) }

pub returns : goal.returns
returns c =
    let s = c.args.bytes.now in
    let b = c.args.buffer.now in
    let r = read_record s in
    let t = given_taken r.answer r.machine c.read_record.ensures c.in_ok-m.was in
    let m = t.1 ∙ laws.record_read s t.0 in
    let k = given_taken _ _ c.count_places.ensures c.in_ok-p.was in
    let g = ap (λ m. accepted (count_places m).answer) (sym m) ∙ k.0 in
    let u = laws.places_taken s (length b) t.0 g (le-ltb (length b) 6 c.if-buffer-lt6.false) in
    record {
      answers = sym u;
      written = c.put_places.ensures ∙ ap (λ p. over b 0 (place_bytes p)) (k.1 ∙ ap (λ m. (count_places m).places) m) ∙ sym (laws.places_go s b (ap accepted u));
    }
