-- Demand 3's second half: each ending of a page that is not refused recovers, and to a lawful queue.
use mathlib.Core.Path.{◌≡◌, refl, sym, ap, subst, ◌∙◌}
use mathlib.Core.Bool.{Bool, true, false}
use mathlib.Core.List.{List, []}
use Prim.Native.Nat.{ℕ, ◌<◌}
use native.Mathlib.Omega.{arith}
use lib.ListN.{get_or}
use Rattle.lists.proofs.BoolLaws.{no_way}
use Rattle.lists.proofs.TabLaws.{length_tab, get_or_tab}
use Rattle.answer.specs.Answers.{accepted, Answer}
use Rattle.image.specs.declared.Content.{Content}
use Rattle.image.specs.Layout.{content_at}
use Rattle.machine.specs.Line.{shape_of, line_count, line_at, number_of}
use Rattle.machine.proofs.LineLaws.{number_in, line_number}
use Rattle.schedule.specs.Layout.{schedule_in, schedule_answer, events_in, threads_in}
use Rattle.schedule.specs.Run.{Bench, Ran, ran}
use Rattle.page.specs.Contents.{contents_of, table_of}
use Rattle.page.specs.Endings.{choices, product, image_of, ending}
use Rattle.page.specs.Refusals.{table_in, table_answer, page_answer, ending_count, ending_in}
use Rattle.page.specs.Printed.{items_of}
use Rattle.lawful.specs.Operation.{operations}
use Rattle.lawful.specs.Lawful.{Lawful}
use Rattle.lawful.specs.Demand3.{Bytes, Recovers, PageLawful, first_queue}
use Rattle.tied.specs.Always.{Among}
use Rattle.tied.proofs.Schedules.{schedule_starts, schedule_narrow}
use Rattle.lawproof.proofs.Choices.{choice_picks}
use Rattle.lawproof.proofs.Walk.{queue_start}
use Rattle.lawproof.proofs.Endings.{Chosen, ending_starts, ending_lawful}

-- a page that is not refused: neither were the schedule's bytes nor its events
pub page_parts : (s : List ℕ) → accepted (page_answer s) ≡ true → (accepted (schedule_answer s) ≡ true) × (accepted (ran s).answer ≡ true)
unfolding page_answer
page_parts s = by (accepted (schedule_answer s)) refl (accepted (ran s).answer) refl
  where
    by : (x : Bool) → accepted (schedule_answer s) ≡ x → (y : Bool) → accepted (ran s).answer ≡ y
        → accepted (elim x as (λ _. Answer) [ true ↦ elim y as (λ _. Answer) [ true ↦ table_answer (table_in s) | false ↦ (ran s).answer ] | false ↦ schedule_answer s ]) ≡ true
        → (accepted (schedule_answer s) ≡ true) × (accepted (ran s).answer ≡ true)
    by true e true f a = (e, f)
    by true e false f a = no_way (sym a ∙ f)
    by false e y f a = no_way (sym a ∙ e)

-- a choice of the table is one content a line
pub table_chosen : (b : Bench) (k : ℕ) → k < product (table_of b) → Chosen b (get_or (choices (table_of b)) k [])
unfolding table_of
table_chosen b k h line hl =
    let z = shape_of b.machine in
    let l = number_of z line in
    let f : ℕ → List Content = λ l. contents_of b (line_at z l) in
    subst (Among (content_at (get_or (choices (table_of b)) k []) l)) (get_or_tab f (line_count z) l [] (number_in z line hl) ∙ ap (contents_of b) (line_number z line hl))
    (choice_picks (table_of b) k h l (omega (arith, number_in z line hl, length_tab f (line_count z))))

-- of the schedule alone: its bytes and its events are accepted, and the choice may be any
module _ (s : List ℕ) (bytes : Bytes s) (a : accepted (schedule_answer s) ≡ true) (all : accepted (ran s).answer ≡ true) where
  pub chosen_recovers : (c : List Content) → Chosen (ran s).bench c → Recovers s (image_of (shape_of (ran s).bench.machine) c)
  unfolding ran schedule_in
  chosen_recovers c pick = record {
    starts = ending_starts (schedule_in s).image (schedule_in s).t (schedule_starts s bytes a) (schedule_narrow s bytes) (events_in s) all c pick;
    lawful = ending_lawful (schedule_in s).image (schedule_in s).t (schedule_starts s bytes a) (schedule_narrow s bytes) (events_in s) all c pick;
  }

  pub endings_recover : PageLawful s
  unfolding ending_count ending_in ending table_in
  endings_recover k h = chosen_recovers (get_or (choices (table_of (ran s).bench)) k []) (table_chosen (ran s).bench k h)

pub page_lawful : (s : List ℕ) → Bytes s → accepted (page_answer s) ≡ true → PageLawful s
page_lawful s bytes a = let p = page_parts s a in endings_recover s bytes p.0 p.1

-- the items on an ending's line are a lawful queue: they are those that it recovers to
pub line_lawful : (s : List ℕ) → Bytes s → accepted (page_answer s) ≡ true → (k : ℕ) → k < ending_count s
    → Lawful (operations 0 (events_in s) (ran s).replies []) (first_queue s) (items_of (ending_in s k))
unfolding items_of
line_lawful s y a k h =
    let r = page_lawful s y a k h in
    subst (Lawful (operations 0 (events_in s) (ran s).replies []) (first_queue s)) (queue_start (ending_in s k) (threads_in s) r.starts) r.lawful
