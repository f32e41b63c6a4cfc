-- From the code's run to the page's answers and bytes.
use Prim.Native.Nat.{ℕ, ◌<◌, ◌≤◌}
use mathlib.Core.Path.{◌≡◌, refl, sym, ap, subst, ◌∙◌}
use mathlib.Core.Bool.{Bool, true, false}
use mathlib.Core.List.{List}
use native.Mathlib.Omega.{arith}
use lib.ListN.{length}
use lib.Dec.{ltb, leb}
use borrow.Author.Tests.{lt-ltb, le-ltb, le-leb, lt-leb}
use Rattle.lists.specs.Tab.{over}
use Rattle.lists.proofs.BoolLaws.{yes_of, no_of}
use Rattle.std.specs.Prelude.{Result, Ok, Err}
use Rattle.std.specs.Result.{IsErrAnd}
use Rattle.answer.specs.declared.Refusal.{Refusal}
use Rattle.answer.specs.Answers.{check, accepted, Taken, NoEnding, Room, Contents, Endings}
use Rattle.image.specs.Form.{known, head_lines, own_threads, image_size}
use Rattle.image.specs.Layout.{image_shape, shape_in, image_in, image_bytes}
use Rattle.image.specs.declared.Content.{Content}
use Rattle.image.specs.declared.Shape.{Shape}
use Rattle.machine.specs.Line.{shape_of, line_count}
use Rattle.machine.specs.declared.Machine.{Machine}
use Rattle.schedule.specs.Layout.{schedule_in, events_in, schedule_answer}
use Rattle.schedule.specs.Run.{Bench, opened, ran}
use Rattle.machine.specs.Start.{start_with}
use Rattle.codec.proofs.Accepted as codec
use Rattle.pageproof.proofs.Form as runs
use Rattle.pageproof.proofs.Holds as holds
use Rattle.page.specs.Contents.{table_of}
use Rattle.page.specs.Refusals.{table_in, table_answer, page_answer, ending_count, ending_in, ending_answer, ending_written}
use Rattle.endtable.specs.Picks.{crowded_at, prod, capped, counts_answer, Counted, Filled, Ready, picks_of, picked_image, ending_from}
use Rattle.endtable.specs.Tables.{Tables}
use Rattle.endtable.proofs.Pages as endings
use Rattle.runs.specs.Rows.{ats_of, counts_of}
use Rattle.runs.specs.Going.{RunTaken}
use Rattle.runs.specs.Paged.{PageTaken, PageIs, count_of}
use Rattle.runs.specs.declared.running.Run.{Run}

-- ---- the page's answer, in its order

pub page_bytes : (s : List ℕ) → accepted (schedule_answer s) ≡ false → schedule_answer s ≡ page_answer s
unfolding page_answer
page_bytes s h = sym (no_of _ (schedule_answer s) (accepted (schedule_answer s)) h)

pub page_events : (s : List ℕ) → accepted (schedule_answer s) ≡ true → accepted (ran s).answer ≡ false → (ran s).answer ≡ page_answer s
unfolding page_answer
page_events s h e = sym (yes_of _ (schedule_answer s) (accepted (schedule_answer s)) h ∙ no_of (table_answer (table_in s)) (ran s).answer (accepted (ran s).answer) e)

pub page_table : (s : List ℕ) → accepted (schedule_answer s) ≡ true → accepted (ran s).answer ≡ true → table_answer (table_in s) ≡ page_answer s
unfolding page_answer
page_table s h e = sym (yes_of _ (schedule_answer s) (accepted (schedule_answer s)) h ∙ yes_of (table_answer (table_in s)) (ran s).answer (accepted (ran s).answer) e)

pub refused_page : (s : List ℕ) (r : Result Run Refusal) (x : Refusal) → IsErrAnd r (λ y. y ≡ x) → Err x ≡ page_answer s → PageIs s r
refused_page s (Ok v) x h e = absurd h
refused_page s (Err y) x h e = ap Err h ∙ e

-- the counts' limits are met, or are not
pub counts_taken : (cs : List ℕ) (n : ℕ) → accepted (counts_answer cs n) ≡ true → counts_answer cs n ≡ Taken
unfolding counts_answer
counts_taken cs n = by (ltb (crowded_at cs n) n) (ltb 65536 (prod cs n))
  where
    by : (x y : Bool) → accepted (check x (Contents (crowded_at cs n)) (check y Endings Taken)) ≡ true → check x (Contents (crowded_at cs n)) (check y Endings Taken) ≡ Taken
    by true y h = absurd (cc)
    by false true h = absurd (cc)
    by false false h = refl

-- ---- from the rows

module _ (s : List ℕ) (r : Run) (g : RunTaken s r) where
  all_taken : accepted (ran s).answer ≡ true
  all_taken = ap accepted (sym g.answer)

  held : Tables (ats_of r.rows) (counts_of r.rows) (table_of (ran s).bench)
  unfolding table_in
  held = g.tables

  size : line_count (shape_of r.machine) ≡ line_count (shape_of (ran s).bench.machine)
  size = ap (λ (x : Machine). line_count (shape_of x)) g.machine

  pub rows_counted : Counted (counts_of r.rows) (line_count (shape_of r.machine))
  rows_counted = subst (Counted (counts_of r.rows)) (sym size) (endings.bench_counted (ran s).bench (ats_of r.rows) (counts_of r.rows) held)

  table_is : counts_answer (counts_of r.rows) (line_count (shape_of r.machine)) ≡ table_answer (table_in s)
  unfolding table_in
  table_is = ap (counts_answer (counts_of r.rows)) size ∙ endings.bench_answer (ran s).bench (ats_of r.rows) (counts_of r.rows) held

  pub page_limits : accepted (schedule_answer s) ≡ true → counts_answer (counts_of r.rows) (line_count (shape_of r.machine)) ≡ page_answer s
  page_limits h = table_is ∙ page_table s h all_taken

  pub page_taken : accepted (schedule_answer s) ≡ true → counts_answer (counts_of r.rows) (line_count (shape_of r.machine)) ≡ Taken → PageTaken s r
  page_taken h e = record {
    answer = sym e ∙ page_limits h;
    machine = g.machine;
    small = subst (λ (x : Machine). (x.n ≤ 64) × (head_lines (shape_of x) ≤ 8)) g.machine g.small;
    tables = g.tables;
    limits = ap accepted (sym table_is ∙ e);
  }

-- a page that is not refused is a schedule that is taken
page_schedule : (s : List ℕ) → accepted (page_answer s) ≡ true → accepted (schedule_answer s) ≡ true
page_schedule s h = by (accepted (schedule_answer s)) refl
  where
    by : (b : Bool) → accepted (schedule_answer s) ≡ b → b ≡ true
    by true e = refl
    by false e = sym e ∙ ap accepted (page_bytes s e) ∙ h

-- ---- the calls

pub count_refused : (s : List ℕ) → accepted (page_answer s) ≡ false → 0 ≡ count_of s
unfolding count_of
count_refused s h = rw h

module _ (s : List ℕ) (r : Run) (t : PageTaken s r) where
  abbrev cs : List ℕ
  cs = counts_of r.rows

  abbrev b : Bench
  b = (ran s).bench

  held' : Tables (ats_of r.rows) cs (table_of b)
  unfolding table_in
  held' = t.tables

  fits' : accepted (table_answer (table_of b)) ≡ true
  unfolding table_in
  fits' = t.limits

  shapes_are : shape_of r.machine ≡ shape_of b.machine
  shapes_are = ap shape_of t.machine

  forms_are : r.machine.form ≡ b.machine.form
  forms_are = ap (λ (x : Machine). x.form) t.machine

  lines_are : line_count (shape_of r.machine) ≡ line_count (shape_of b.machine)
  lines_are = ap line_count shapes_are

  pub page_small : (r.machine.n ≤ 64) × (head_lines (shape_of r.machine) ≤ 8)
  page_small = subst (λ (x : Machine). (x.n ≤ 64) × (head_lines (shape_of x) ≤ 8)) (sym t.machine) t.small

  pub page_counted : Counted cs (line_count (shape_of r.machine))
  page_counted = subst (Counted cs) (sym lines_are) (endings.bench_counted b (ats_of r.rows) cs held')

  pub page_count : capped (prod cs (line_count (shape_of r.machine))) ≡ ending_count s
  unfolding ending_count table_in
  page_count = ap (λ (n : ℕ). capped (prod cs n)) lines_are ∙ endings.bench_count b (ats_of r.rows) cs held' fits'

  pub page_yes : accepted (page_answer s) ≡ true
  page_yes = ap accepted (sym t.answer)

  -- the form is that of the schedule's image, and so one that is read
  pub page_form : known r.machine.form ≡ true
  unfolding ran schedule_in image_in shape_in start_with
  page_form =
      let h = page_schedule s page_yes in
      rw (forms_are, runs.run_form (events_in s) 0 (opened (schedule_in s)) (holds.page_ran s page_yes)) (codec.schedule_taken s h).part.mark

  pub count_taken : capped (prod cs (line_count (shape_of r.machine))) ≡ count_of s
  unfolding count_of
  count_taken = page_count ∙ rw page_yes

  -- picking an ending
  pub page_ready : Ready cs (line_count (shape_of r.machine))
  page_ready = subst (λ (z : Shape). Ready cs (line_count z)) (sym shapes_are) (endings.bench_ready b (ats_of r.rows) cs held' fits')

  pub page_filled : (k : ℕ) → Filled (picks_of cs (shape_of r.machine) k) (line_count (shape_of r.machine))
  page_filled k = subst (λ (z : Shape). Filled (picks_of cs z k) (line_count z)) (sym shapes_are) (endings.bench_filled b (ats_of r.rows) cs held' fits' k)

  pub page_ending : (k : ℕ) → k < ending_count s → picked_image (ats_of r.rows) (picks_of cs (shape_of r.machine) k) (shape_of r.machine) ≡ ending_in s k
  unfolding ending_in ending_count table_in ending_from
  page_ending k h =
      ap (λ (z : Shape). picked_image (ats_of r.rows) (picks_of cs z k) z) shapes_are ∙ endings.bench_ending b (ats_of r.rows) cs held' fits' k h

  places_are : image_size (shape_of r.machine) ≡ image_size (shape_of b.machine)
  places_are = ap image_size shapes_are

  -- ---- the answers of an ending, in their order

  ending_tests : (k room : ℕ) → ending_answer s k room ≡ check (leb (ending_count s) k) NoEnding (check (ltb room (image_size (shape_of b.machine))) Room Taken)
  unfolding ending_answer
  ending_tests k room = yes_of _ (page_answer s) (accepted (page_answer s)) page_yes

  pub ending_none : (k room : ℕ) → ending_count s ≤ k → NoEnding ≡ ending_answer s k room
  ending_none k room h = sym (ending_tests k room ∙ rw (le-leb (ending_count s) k h))

  pub ending_room : (k room : ℕ) → k < ending_count s → room < image_size (shape_of r.machine) → Room ≡ ending_answer s k room
  ending_room k room h l = sym (ending_tests k room ∙ rw (lt-leb (ending_count s) k h, lt-ltb room (image_size (shape_of b.machine)) (omega (arith, places_are))))

  pub ending_taken : (k room : ℕ) → k < ending_count s → image_size (shape_of r.machine) ≤ room → Taken ≡ ending_answer s k room
  ending_taken k room h l = sym (ending_tests k room ∙ rw (lt-leb (ending_count s) k h, le-ltb room (image_size (shape_of b.machine)) (omega (arith, places_are))))

pub ending_refused : (s : List ℕ) (k room : ℕ) → accepted (page_answer s) ≡ false → page_answer s ≡ ending_answer s k room
unfolding ending_answer
ending_refused s k room h = sym (no_of _ (page_answer s) (accepted (page_answer s)) h)

-- what the buffer holds
pub same_bytes : (s : List ℕ) (k : ℕ) (b : List ℕ) → accepted (ending_answer s k (length b)) ≡ false → b ≡ ending_written s k b
unfolding ending_written
same_bytes s k b h = sym (no_of _ b (accepted (ending_answer s k (length b))) h)

pub ending_bytes : (s : List ℕ) (k : ℕ) (b : List ℕ) → accepted (ending_answer s k (length b)) ≡ true → over b 0 (image_bytes (ending_in s k)) ≡ ending_written s k b
unfolding ending_written
ending_bytes s k b h = sym (yes_of (over b 0 (image_bytes (ending_in s k))) b (accepted (ending_answer s k (length b))) h)

pub picked_shape : (t : List (List Content)) (ps : List ℕ) (z : Shape) → image_shape (picked_image t ps z) ≡ record { form = z.form; n = z.n; t = own_threads z }
unfolding picked_image
picked_shape t ps z = refl
