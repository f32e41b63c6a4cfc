-- Two results that a call of the library allows by its contract, as the source has it, are equal: the number and every lent byte.
use Prim.Native.Nat.{ℕ}
use mathlib.Core.Path.{◌≡◌, sym, ◌∙◌}
use mathlib.Core.List.{List}
use contract.Lifetimes.{Lfts}
use denote.MutBor.{MutBor}
use denote.Ref.{Bor}
use Rattle.library.proofs.schedules.uq_check_image.Reads as check_image
use Rattle.library.proofs.schedules.uq_check_schedule.Reads as check_schedule
use Rattle.library.proofs.schedules.uq_count_endings.Reads as count_endings
use Rattle.library.proofs.schedules.uq_ending.Reads as ending
use Rattle.library.proofs.texts.uq_page_lines.Reads as page_lines
use Rattle.library.proofs.texts.uq_refusal_line.Reads as refusal_line
use Rattle.library.proofs.records.uq_start.Reads as start
use Rattle.library.proofs.records.uq_event.Reads as event
use Rattle.library.proofs.records.uq_save.Reads as save
use Rattle.library.proofs.records.uq_places.Reads as places
use Rattle.library.proofs.histories.uq_judge.Reads as judge
use Rattle.library.proofs.line.uq_line.Reads as line

pub check_image_one :
    (κs : Lfts 1) (s : Bor (List ℕ)) (r r' : ℕ) →
    check_image.Post κs (s, tt) r (s, tt) → check_image.Post κs (s, tt) r' (s, tt) → r ≡ r'
check_image_one κs s r r' p q = p ∙ sym q

pub check_schedule_one :
    (κs : Lfts 1) (s : Bor (List ℕ)) (r r' : ℕ) →
    check_schedule.Post κs (s, tt) r (s, tt) → check_schedule.Post κs (s, tt) r' (s, tt) → r ≡ r'
check_schedule_one κs s r r' p q = p ∙ sym q

pub count_endings_one :
    (κs : Lfts 1) (s : Bor (List ℕ)) (r r' : ℕ) →
    count_endings.Post κs (s, tt) r (s, tt) → count_endings.Post κs (s, tt) r' (s, tt) → r ≡ r'
count_endings_one κs s r r' p q = p ∙ sym q

pub ending_one :
    (κs : Lfts 2) (s : Bor (List ℕ)) (k : ℕ) (b z z' : MutBor (List ℕ)) (r r' : ℕ) →
    ending.Post κs (s, (k, (b, tt))) r (s, (k, (z, tt))) → ending.Post κs (s, (k, (b, tt))) r' (s, (k, (z', tt))) → (r ≡ r') × (z.now ≡ z'.now)
ending_one κs s k b z z' r r' p q = (p.0 ∙ sym q.0, p.1 ∙ sym q.1)

pub page_lines_one :
    (κs : Lfts 2) (s : Bor (List ℕ)) (k : ℕ) (b z z' : MutBor (List ℕ)) (r r' : ℕ) →
    page_lines.Post κs (s, (k, (b, tt))) r (s, (k, (z, tt))) → page_lines.Post κs (s, (k, (b, tt))) r' (s, (k, (z', tt))) → (r ≡ r') × (z.now ≡ z'.now)
page_lines_one κs s k b z z' r r' p q = (p.0 ∙ sym q.0, p.1 ∙ sym q.1)

pub refusal_line_one :
    (κs : Lfts 1) (n p : ℕ) (b z z' : MutBor (List ℕ)) (r r' : ℕ) →
    refusal_line.Post κs (n, (p, (b, tt))) r (n, (p, (z, tt))) → refusal_line.Post κs (n, (p, (b, tt))) r' (n, (p, (z', tt))) → (r ≡ r') × (z.now ≡ z'.now)
refusal_line_one κs n p b z z' r r' x y = (x.0 ∙ sym y.0, x.1 ∙ sym y.1)

pub start_one :
    (κs : Lfts 2) (s : Bor (List ℕ)) (t : ℕ) (b z z' : MutBor (List ℕ)) (r r' : ℕ) →
    start.Post κs (s, (t, (b, tt))) r (s, (t, (z, tt))) → start.Post κs (s, (t, (b, tt))) r' (s, (t, (z', tt))) → (r ≡ r') × (z.now ≡ z'.now)
start_one κs s t b z z' r r' p q = (p.0 ∙ sym q.0, p.1 ∙ sym q.1)

pub event_one :
    (κs : Lfts 1) (b : MutBor (List ℕ)) (k n i : ℕ) (z z' : MutBor (List ℕ)) (r r' : ℕ) →
    event.Post κs (b, (k, (n, (i, tt)))) r (z, (k, (n, (i, tt)))) → event.Post κs (b, (k, (n, (i, tt)))) r' (z', (k, (n, (i, tt)))) →
    (r ≡ r') × (z.now ≡ z'.now)
event_one κs b k n i z z' r r' p q = (p.0 ∙ sym q.0, p.1 ∙ sym q.1)

pub save_one :
    (κs : Lfts 2) (s : Bor (List ℕ)) (b z z' : MutBor (List ℕ)) (r r' : ℕ) →
    save.Post κs (s, (b, tt)) r (s, (z, tt)) → save.Post κs (s, (b, tt)) r' (s, (z', tt)) → (r ≡ r') × (z.now ≡ z'.now)
save_one κs s b z z' r r' p q = (p.0 ∙ sym q.0, p.1 ∙ sym q.1)

pub places_one :
    (κs : Lfts 2) (s : Bor (List ℕ)) (b z z' : MutBor (List ℕ)) (r r' : ℕ) →
    places.Post κs (s, (b, tt)) r (s, (z, tt)) → places.Post κs (s, (b, tt)) r' (s, (z', tt)) → (r ≡ r') × (z.now ≡ z'.now)
places_one κs s b z z' r r' p q = (p.0 ∙ sym q.0, p.1 ∙ sym q.1)

pub judge_one :
    (κs : Lfts 2) (s : Bor (List ℕ)) (b z z' : MutBor (List ℕ)) (r r' : ℕ) →
    judge.Post κs (s, (b, tt)) r (s, (z, tt)) → judge.Post κs (s, (b, tt)) r' (s, (z', tt)) → (r ≡ r') × (z.now ≡ z'.now)
judge_one κs s b z z' r r' p q = (p.0 ∙ sym q.0, p.1 ∙ sym q.1)

pub line_one :
    (κs : Lfts 2) (s : Bor (List ℕ)) (l : ℕ) (b z z' : MutBor (List ℕ)) (r r' : ℕ) →
    line.Post κs (s, (l, (b, tt))) r (s, (l, (z, tt))) → line.Post κs (s, (l, (b, tt))) r' (s, (l, (z', tt))) → (r ≡ r') × (z.now ≡ z'.now)
line_one κs s l b z z' r r' p q = (p.0 ∙ sym q.0, p.1 ∙ sym q.1)
