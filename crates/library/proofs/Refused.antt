-- What a refused call leaves: where the returned number has 1 to 18 in its lowest byte, every lent byte is as it was. From the contracts as the
-- source has them.
use Prim.Native.Nat.{ℕ, ◌*◌, ◌%◌}
use mathlib.Core.Path.{◌≡◌, refl, sym, ap, ◌∙◌}
use mathlib.Core.Bool.{Bool, true, false}
use mathlib.Core.List.{List, []}
use contract.Lifetimes.{Lfts}
use denote.MutBor.{MutBor}
use denote.Ref.{Bor}
use native.Mathlib.Omega.{arith}
use lib.ListN.{length}
use lib.Dec.{eqb, ltb}
use Rattle.lists.specs.Find.{pick}
use Rattle.lists.specs.Tab.{joined, over}
use Rattle.lists.proofs.BoolLaws as bools
use Rattle.answer.specs.Answers.{told, check, accepted, Answer, Taken, Room}
use Rattle.image.specs.Refusals.{image_answer, write_answer, written}
use Rattle.machine.specs.Line.{persisted}
use Rattle.machine.specs.Range.{in_range}
use Rattle.machine.specs.Saved.{save_answer, saved}
use Rattle.image.specs.Refusals.{threads_fit}
use Rattle.machine.specs.declared.Machine.{Machine}
use Rattle.page.specs.Refusals.{ending_answer, ending_written}
use Rattle.page.specs.Filled.{lines_on, lines_answer, lines_taken, lines_bytes, lines_written}
use Rattle.printing.specs.Lines.{refused_text, if_fits}
use Rattle.filling.specs.Lines.{refusal_answer, refusal_bytes, refusal_written}
use Rattle.record.specs.Layout.{record_size, read_record, record_in, record_answer, record_written, record_bytes}
use Rattle.calls.specs.Packed.{packed, reply_of}
use Rattle.calls.specs.Calls.{event_given, start_answered, start_written, event_answered, save_answered, save_written, places_answered}
use Rattle.calls.specs.Judging.{judge_answered}
use Rattle.calls.specs.Line.{line_answered}
use Rattle.calls.proofs.Laws as laws
use Rattle.calls.proofs.LineLaws as lines
use Rattle.library.proofs.schedules.uq_ending.Reads as ending
use Rattle.library.proofs.texts.uq_page_lines.Reads as page_lines
use Rattle.library.proofs.texts.uq_refusal_line.Reads as refusal_line
use Rattle.library.proofs.records.uq_start.Reads as start
use Rattle.library.proofs.records.uq_event.Reads as event
use Rattle.library.proofs.records.uq_save.Reads as save
use Rattle.library.proofs.records.uq_places.Reads as places
use Rattle.library.proofs.histories.uq_judge.Reads as judge
use Rattle.library.proofs.line.uq_line.Reads as line

abbrev pub Refused : ℕ → Type 0
Refused r = r % 256 ≡ 0 → ⊥

-- a returned number that is a refusal's comes of a refusal
pub not_taken : (a : Answer) (v r : ℕ) → r ≡ packed (told a) v → Refused r → accepted a ≡ false
unfolding packed
not_taken a v r p n = by (accepted a) refl
  where
    by : (x : Bool) → accepted a ≡ x → accepted a ≡ false
    by false e = e
    by true e =
        let z : r ≡ v * 256 = p ∙ rw e in
        absurd (n (omega arith))

-- ---- what each definition leaves

pub ending_stays : (s : List ℕ) (k : ℕ) (b : List ℕ) → accepted (ending_answer s k (length b)) ≡ false → ending_written s k b ≡ b
unfolding ending_written
ending_stays s k b h = rw (h, ending_written)

none_over : (b : List ℕ) → over b 0 [] ≡ b
unfolding over
none_over b = refl

pub lines_stay : (s : List ℕ) (k : ℕ) (b : List ℕ) → accepted (lines_answer s k (length b)) ≡ false → lines_written s k b ≡ b
unfolding lines_written lines_bytes lines_taken lines_on joined
lines_stay s k b h = rw (h, lines_taken) (none_over b)

line_by : (l b : List ℕ) (x : Bool) → ltb (length b) (length l) ≡ x → accepted (check x Room Taken) ≡ false → over b 0 (if_fits (length b) l) ≡ b
unfolding if_fits
line_by l b true e h = rw (e, if_fits) (none_over b)
line_by l b false e h = bools.false_true (sym h)

pub line_stays : (n p : ℕ) (b : List ℕ) → accepted (refusal_answer n p (length b)) ≡ false → refusal_written n p b ≡ b
unfolding refusal_answer refusal_bytes refusal_written
line_stays n p b h = line_by (refused_text n p) b (ltb (length b) (length (refused_text n p))) refl h

record_by : (m : Machine) (b : List ℕ) (x : Bool) → accepted (check x Room Taken) ≡ false → pick x b (over b 0 (record_bytes m)) ≡ b
record_by m b true h = refl
record_by m b false h = bools.false_true (sym h)

record_stays : (m : Machine) (b : List ℕ) → accepted (record_answer (length b)) ≡ false → record_written m b ≡ b
unfolding record_answer record_written
record_stays m b h = record_by m b (ltb (length b) record_size) h

start_stays : (s : List ℕ) (t : ℕ) (b : List ℕ) → accepted (start_answered s t (length b)) ≡ false → start_written s t b ≡ b
start_stays s t b h = threads (threads_fit t) refl
  where
    image : threads_fit t ≡ true → (x : Bool) → accepted (image_answer t 0 s) ≡ x → start_written s t b ≡ b
    image f false e = laws.start_image_stays s t f b e
    image f true e =
        laws.start_written_lem s t f b e ∙ record_stays _ b (ap accepted (sym (laws.start_room s t f (length b) e)) ∙ h)

    threads : (x : Bool) → threads_fit t ≡ x → start_written s t b ≡ b
    threads false e = laws.start_threads_stay s t b e
    threads true e = image e (accepted (image_answer t 0 s)) refl

pub saved_stays : (m : Machine) (b : List ℕ) (x : Bool) → in_range m ≡ x → accepted (save_answer m (length b)) ≡ false → saved m b ≡ b
unfolding saved save_answer
saved_stays m b true e h =
    let f : accepted (write_answer (persisted m) (length b)) ≡ false = rw (e, save_answer) at h in
    rw (e, saved) (rw f)
saved_stays m b false e h = rw (e, saved)

save_stays : (s b : List ℕ) → accepted (save_answered s (length b)) ≡ false → save_written s b ≡ b
save_stays s b h = by (accepted (read_record s).answer) refl
  where
    by : (x : Bool) → accepted (read_record s).answer ≡ x → save_written s b ≡ b
    by false e = laws.save_stays s b e
    by true e =
        laws.save_goes s b e
        ∙ saved_stays (record_in s) b (in_range (record_in s)) refl (ap accepted (sym (laws.save_answer_lem s (length b) e)) ∙ h)

-- ---- the calls

pub ending_refused :
    (κs : Lfts 2) (s : Bor (List ℕ)) (k : ℕ) (b z : MutBor (List ℕ)) (r : ℕ) →
    ending.Post κs (s, (k, (b, tt))) r (s, (k, (z, tt))) → Refused r → z.now ≡ b.now
ending_refused κs s k b z r p n =
    p.1 ∙ ending_stays s.now k b.now (not_taken (ending_answer s.now k (length b.now)) 0 r p.0 n)

pub page_lines_refused :
    (κs : Lfts 2) (s : Bor (List ℕ)) (k : ℕ) (b z : MutBor (List ℕ)) (r : ℕ) →
    page_lines.Post κs (s, (k, (b, tt))) r (s, (k, (z, tt))) → Refused r → z.now ≡ b.now
page_lines_refused κs s k b z r p n =
    p.1 ∙ lines_stay s.now k b.now (not_taken (lines_answer s.now k (length b.now)) _ r p.0 n)

pub refusal_line_refused :
    (κs : Lfts 1) (i v : ℕ) (b z : MutBor (List ℕ)) (r : ℕ) →
    refusal_line.Post κs (i, (v, (b, tt))) r (i, (v, (z, tt))) → Refused r → z.now ≡ b.now
refusal_line_refused κs i v b z r p n =
    p.1 ∙ line_stays i v b.now (not_taken (refusal_answer i v (length b.now)) _ r p.0 n)

pub start_refused :
    (κs : Lfts 2) (s : Bor (List ℕ)) (t : ℕ) (b z : MutBor (List ℕ)) (r : ℕ) →
    start.Post κs (s, (t, (b, tt))) r (s, (t, (z, tt))) → Refused r → z.now ≡ b.now
start_refused κs s t b z r p n =
    p.1 ∙ start_stays s.now t b.now (not_taken (start_answered s.now t (length b.now)) 0 r p.0 n)

pub event_refused :
    (κs : Lfts 1) (b : MutBor (List ℕ)) (k i v : ℕ) (z : MutBor (List ℕ)) (r : ℕ) →
    event.Post κs (b, (k, (i, (v, tt)))) r (z, (k, (i, (v, tt)))) → Refused r → z.now ≡ b.now
event_refused κs b k i v z r p n =
    let e = event_given k i v in
    let a = event_answered b.now e in
    p.1 ∙ laws.event_stays b.now e (not_taken a (reply_of (told a)) r p.0 n)

pub save_refused :
    (κs : Lfts 2) (s : Bor (List ℕ)) (b z : MutBor (List ℕ)) (r : ℕ) →
    save.Post κs (s, (b, tt)) r (s, (z, tt)) → Refused r → z.now ≡ b.now
save_refused κs s b z r p n =
    p.1 ∙ save_stays s.now b.now (not_taken (save_answered s.now (length b.now)) 0 r p.0 n)

pub places_refused :
    (κs : Lfts 2) (s : Bor (List ℕ)) (b z : MutBor (List ℕ)) (r : ℕ) →
    places.Post κs (s, (b, tt)) r (s, (z, tt)) → Refused r → z.now ≡ b.now
places_refused κs s b z r p n =
    p.1 ∙ laws.places_stay s.now b.now (not_taken (places_answered s.now (length b.now)) 0 r p.0 n)

pub judge_refused :
    (κs : Lfts 2) (s : Bor (List ℕ)) (b z : MutBor (List ℕ)) (r : ℕ) →
    judge.Post κs (s, (b, tt)) r (s, (z, tt)) → Refused r → z.now ≡ b.now
judge_refused κs s b z r p n =
    p.1 ∙ laws.judge_stays s.now b.now (not_taken (judge_answered s.now (length b.now)) _ r p.0 n)

pub line_refused :
    (κs : Lfts 2) (s : Bor (List ℕ)) (l : ℕ) (b z : MutBor (List ℕ)) (r : ℕ) →
    line.Post κs (s, (l, (b, tt))) r (s, (l, (z, tt))) → Refused r → z.now ≡ b.now
line_refused κs s l b z r p n =
    p.1 ∙ lines.line_stays s.now l b.now (not_taken (line_answered s.now l (length b.now)) _ r p.0 n)
