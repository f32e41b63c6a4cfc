-- A page that is not refused: its numbers, as the code reads them.
use Prim.Native.Nat.{ℕ, ◌≤◌}
use mathlib.Core.Path.{◌≡◌, refl, sym, ap, subst, ◌∙◌}
use mathlib.Core.Bool.{Bool, true, false}
use mathlib.Core.List.{List}
use native.Mathlib.Omega.{arith}
use lib.ListN.{length}
use lib.Dec.{ltb}
use borrow.Author.Tests.{ltb-false}
use Rattle.answer.specs.Answers.{accepted, Contents, Endings, Taken}
use Rattle.image.specs.Layout.{shape_in, image_in}
use Rattle.image.specs.declared.Shape.{Shape}
use Rattle.machine.specs.Line.{shape_of, line_count}
use Rattle.image.specs.declared.Content.{Content}
use Rattle.machine.specs.Start.{start_of, start_with}
use Rattle.machine.specs.declared.Machine.{Machine}
use Rattle.image.proofs.ShapeLaws as shapes
use Rattle.schedule.specs.Layout.{schedule_answer, schedule_in, threads_in, count_in, nodes_in, events_in, schedule_shape}
use Rattle.schedule.specs.Run.{ran, begins}
use Rattle.schedule.specs.declared.Schedule.{Schedule}
use Rattle.page.specs.Endings.{product}
use Rattle.page.specs.Refusals.{table_in, table_answer, page_answer, ending_count, first_crowded}
use Rattle.endtable.specs.Picks.{prod, capped}
use Rattle.codec.proofs.Accepted as codec
use Rattle.pageproof.proofs.Runs as runs
use Rattle.pageproof.proofs.Holds as holds
use Rattle.runs.specs.Rows.{counts_of}
use Rattle.runs.specs.Paged.{PageTaken}
use Rattle.runs.specs.declared.running.Run.{Run}
use Rattle.runs.proofs.PageLaws as laws

-- its schedule is not refused
pub schedule_first : (s : List ℕ) → accepted (page_answer s) ≡ true → accepted (schedule_answer s) ≡ true
schedule_first s h = by (accepted (schedule_answer s)) refl
  where
    by : (b : Bool) → accepted (schedule_answer s) ≡ b → b ≡ true
    by true e = refl
    by false e = sym e ∙ ap accepted (laws.page_bytes s e) ∙ h

-- at most 65,536 endings
limit : (t : List (List Content)) → accepted (table_answer t) ≡ true → product t ≤ 65536
unfolding table_answer
limit t h =
    let a = codec.check_true (ltb (first_crowded t) (length t)) (Contents (first_crowded t)) _ refl h in
    let b = codec.check_true (ltb 65536 (product t)) Endings Taken refl a.1 in
    ltb-false _ _ b.0

pub count_few : (s : List ℕ) → accepted (page_answer s) ≡ true → ending_count s ≤ 65536
unfolding ending_count
count_few s h = limit (table_in s) (ap accepted (laws.page_table s (schedule_first s h) (holds.page_ran s h)) ∙ h)

-- T and the event count
pub opened_numbers : (s : List ℕ) (d : Schedule) → d ≡ schedule_in s → (d.t ≡ threads_in s) × (d.count ≡ count_in s)
unfolding schedule_in
opened_numbers s d e = (ap (λ (x : Schedule). x.t) e, ap (λ (x : Schedule). x.count) e)

pub opened_limits : (s : List ℕ) (d : Schedule) → d ≡ schedule_in s → accepted (schedule_answer s) ≡ true → (d.t ≤ 8) × (d.count ≤ 4096)
opened_limits s d e h =
    let n = opened_numbers s d e in
    let k = codec.schedule_taken s h in
    (omega (arith, n.0, (shapes.threads_range (threads_in s) k.threads).1), omega (arith, n.1, k.count))

-- the shape stays what it was
abbrev first : List ℕ → Machine
first s = start_of (schedule_in s).image (schedule_in s).t

first_shape : (s : List ℕ) → shape_of (first s) ≡ schedule_shape s
unfolding schedule_in image_in shape_in start_with
first_shape s = refl

pub ran_shape : (s : List ℕ) → accepted (ran s).answer ≡ true → shape_of (ran s).bench.machine ≡ schedule_shape s
unfolding ran
ran_shape s h =
    runs.run_size (events_in s) 0 (begins (first s)) h ∙ first_shape s

pub ran_nodes : (s : List ℕ) → accepted (ran s).answer ≡ true → (ran s).bench.machine.n ≡ nodes_in s
ran_nodes s h = ap (λ (z : Shape). z.n) (ran_shape s h)

module _ (s : List ℕ) (r : Run) (p : PageTaken s r) where
  pub page_yes : accepted (page_answer s) ≡ true
  page_yes = laws.page_yes s r p

  pub schedule_yes : accepted (schedule_answer s) ≡ true
  schedule_yes = schedule_first s page_yes

  pub count_limit : capped (prod (counts_of r.rows) (line_count (shape_of r.machine))) ≤ 65536
  unfolding ending_count
  count_limit = subst (λ (x : ℕ). x ≤ 65536) (sym (laws.page_count s r p)) (limit (table_in s) p.limits)

  pub page_nodes : r.machine.n ≡ nodes_in s
  page_nodes = ap (λ (x : Machine). x.n) p.machine ∙ ran_nodes s (holds.page_ran s page_yes)
