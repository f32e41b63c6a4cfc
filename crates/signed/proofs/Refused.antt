-- "A refused event changes nothing; a refused request writes nothing into the memory it was lent": of whatever the Rattle calls' contracts allow.
use Prim.Native.Nat.{ℕ}
use mathlib.Core.Path.{◌≡◌, refl, sym, ap, ◌∙◌}
use mathlib.Core.Bool.{Bool, true, false}
use mathlib.Core.List.{List, []}
use contract.Lifetimes.{Lfts}
use denote.MutBor.{MutBor}
use denote.Ref.{Bor}
use lib.ListN.{length}
use Rattle.std.specs.Prelude.{Result, Err}
use Rattle.answer.specs.Answers.{accepted, Answer}
use Rattle.answer.specs.declared.Refusal.{Refusal}
use Rattle.answer.proofs.Results.{given_refused, came_back}
use Rattle.answer.proofs.Injective.{told_injective}
use Rattle.image.specs.Refusals.{write_answer, written}
use Rattle.image.specs.declared.Image.{Image}
use Rattle.machine.specs.Range.{in_range}
use Rattle.machine.specs.Event.{event_on}
use Rattle.machine.specs.Saved.{save_answer}
use Rattle.machine.specs.declared.Machine.{Machine}
use Rattle.machine.specs.declared.Event.{Event}
use Rattle.machine.specs.declared.Out.{Out}
use Rattle.page.specs.Refusals.{ending_answer}
use Rattle.page.specs.Filled.{lines_answer}
use Rattle.filling.specs.Lines.{lines_said, refusal_answer, refusal_bytes}
use Rattle.filling.specs.declared.calls.Lines.{Lines}
use Rattle.events.proofs.Refused.{on_same}
use Rattle.codec.proofs.write_image.Reads as write
use Rattle.events.proofs.on_event.Reads as event
use Rattle.events.proofs.save.Reads as save
use Rattle.pages.proofs.calls.ending_of.Reads as ending
use Rattle.filling.proofs.calls.page_lines.Reads as lines
use Rattle.filling.proofs.calls.refusal_line.Reads as line
use Rattle.library.proofs.Refused.{ending_stays, lines_stay, line_stays, saved_stays}

-- what is told alike is answered alike
refusal : (r a : Answer) → r ≡ a → accepted r ≡ false → accepted a ≡ false
refusal r a e h = ap accepted (sym e) ∙ h

-- "A refused event changes nothing"
pub event_refused : (m : Machine) (e : Event) (r : Out) → event.Post tt (m, (e, tt)) r (m, (e, tt)) → accepted r.answer ≡ false → r.machine ≡ m
event_refused m e r p h = p.1 ∙ on_same m e (refusal r.answer (event_on m e).answer (told_injective r.answer (event_on m e).answer p.0) h)

write_stays : (g : Image) (b : List ℕ) → accepted (write_answer g (length b)) ≡ false → written g b ≡ b
write_stays g b h = rw h

pub write_refused :
    (κs : Lfts 1) (g : Image) (b z : MutBor (List ℕ)) (r : Answer) →
    write.Post κs (g, (b, tt)) r (g, (z, tt)) → accepted r ≡ false → z.now ≡ b.now
write_refused κs g b z r p h =
    p.1 ∙ write_stays g b.now (refusal r (write_answer g (length b.now)) (told_injective r (write_answer g (length b.now)) p.0) h)

pub save_refused :
    (κs : Lfts 1) (m : Machine) (b z : MutBor (List ℕ)) (r : Answer) →
    save.Post κs (m, (b, tt)) r (m, (z, tt)) → accepted r ≡ false → z.now ≡ b.now
save_refused κs m b z r p h =
    p.1 ∙ saved_stays m b.now (in_range m) refl (refusal r (save_answer m (length b.now)) (told_injective r (save_answer m (length b.now)) p.0) h)

pub ending_refused :
    (κs : Lfts 2) (s : Bor (List ℕ)) (k : ℕ) (b z : MutBor (List ℕ)) (r : Answer) →
    ending.Post κs (s, (k, (b, tt))) r (s, (k, (z, tt))) → accepted r ≡ false → z.now ≡ b.now
ending_refused κs s k b z r p h =
    let a = ending_answer s.now k (length b.now) in
    p.1 ∙ ending_stays s.now k b.now (refusal r a (told_injective r a p.0) h)

pub page_lines_refused :
    (κs : Lfts 2) (s : Bor (List ℕ)) (k : ℕ) (b z : MutBor (List ℕ)) (r : Result Lines Refusal) (e : Refusal) →
    lines.Post κs (s, (k, (b, tt))) r (s, (k, (z, tt))) → r ≡ Err e → z.now ≡ b.now
page_lines_refused κs s k b z r e p was =
    let a = given_refused (lines_answer s.now k (length b.now)) (lines_said s.now k (length b.now)) p.0 was in
    p.1.0 ∙ lines_stay s.now k b.now (came_back refl a)

pub refusal_line_refused :
    (κs : Lfts 1) (i v : ℕ) (b z : MutBor (List ℕ)) (r : Result ℕ Refusal) (e : Refusal) →
    line.Post κs (i, (v, (b, tt))) r (i, (v, (z, tt))) → r ≡ Err e → z.now ≡ b.now
refusal_line_refused κs i v b z r e p was =
    let a = given_refused (refusal_answer i v (length b.now)) (length (refusal_bytes i v (length b.now))) p.0 was in
    p.1 ∙ line_stays i v b.now (came_back refl a)
