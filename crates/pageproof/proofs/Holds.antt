-- Demand 3, its first half: a page that is not refused holds each image that a crash can leave, once, and no other.
-- It is proved on the record's own run and not through the abstract machine: between two starts no event looks at a persisted copy, but for 19 of a write-back, and a
-- fence looks at moments alone, so this half asks nothing of the queue, and events, answers and images need no translation.
use Prim.Native.Nat.{ℕ, ◌≤◌, ◌<◌}
use mathlib.Core.Path.{◌≡◌, refl, sym, ◌∙◌}
use mathlib.Core.Bool.{Bool, true, false, not}
use mathlib.Core.List.{List, []}
use native.Mathlib.Omega.{arith}
use lib.Dec.{ltb}
use lib.ListN.{length, length-map}
use Rattle.lists.proofs.BoolLaws.{no_way}
use Rattle.answer.specs.Answers.{accepted, check, Answer, Length, Mark, Threads, Events}
use Rattle.image.specs.Layout.{shape_in, image_in}
use Rattle.image.specs.Refusals.{threads_fit, image_answer}
use Rattle.image.proofs.ShapeLaws.{shape_is, threads_range, shaped_lines}
use Rattle.image.specs.declared.Image.{Image}
use Rattle.machine.specs.Line.{shape_of}
use Rattle.machine.specs.Start.{start_of, start_with}
use Rattle.machine.specs.declared.Machine.{Machine}
use Rattle.schedule.specs.Layout.{is_file, threads_in, count_in, image_part, schedule_in, events_in, schedule_shape, schedule_answer}
use Rattle.schedule.specs.Run.{Bench, begins, ran}
use Rattle.page.specs.Contents.{table_of}
use Rattle.page.specs.Endings.{choices, product, image_of, endings, ending}
use Rattle.page.specs.Refusals.{table_in, table_answer, page_answer, ending_count, ending_in}
use Rattle.lawful.specs.Demand3.{Bytes, Leaves, PageHolds}
use Rattle.moments.proofs.Blocks as blocks
use Rattle.moments.proofs.Choices as choices
use Rattle.moments.proofs.Distinct as distinct
use Rattle.moments.proofs.Known.{Known, known_start}
use Rattle.pageproof.proofs.Page.{leaves, only}

-- ---- each image once

pub ending_once : (b : Bench) (i j : ℕ) → i < product (table_of b) → j < product (table_of b)
    → ending (shape_of b.machine) (table_of b) i ≡ ending (shape_of b.machine) (table_of b) j → i ≡ j
unfolding endings ending
ending_once b i j p q e =
    let all = choices (table_of b) in
    let z = shape_of b.machine in
    let len = choices.choices_length (table_of b) in
    distinct.bench_distinct b i j (omega (arith, length-map all (image_of z))) (omega (arith, length-map all (image_of z)))
    (blocks.get_or_map_in (image_of z) all i [] distinct.no_image (omega arith) ∙ e ∙ sym (blocks.get_or_map_in (image_of z) all j [] distinct.no_image (omega arith)))

-- ---- a page that is not refused

-- its bytes were accepted, and its events were all taken
page_parts : (s : List ℕ) → accepted (page_answer s) ≡ true → (accepted (schedule_answer s) ≡ true) × (accepted (ran s).answer ≡ true)
unfolding page_answer
page_parts s h = by (accepted (schedule_answer s)) (accepted (ran s).answer) refl refl h
  where
    by : (x y : Bool) → accepted (schedule_answer s) ≡ x → accepted (ran s).answer ≡ y
        → accepted (elim x as (λ _. Answer) [ true ↦ elim y as (λ _. Answer) [ true ↦ table_answer (table_in s) | false ↦ (ran s).answer ] | false ↦ schedule_answer s ]) ≡ true
        → (x ≡ true) × (y ≡ true)
    by true true p q z = (refl, refl)
    by true false p q z = no_way (sym z ∙ q)
    by false y p q z = no_way (sym z ∙ p)

pub page_ran : (s : List ℕ) → accepted (page_answer s) ≡ true → accepted (ran s).answer ≡ true
page_ran s h = (page_parts s h).1

pub page_schedule : (s : List ℕ) → accepted (page_answer s) ≡ true → accepted (schedule_answer s) ≡ true
page_schedule s h = (page_parts s h).0

check_passed : (b : Bool) (w rest : Answer) → accepted w ≡ false → accepted (check b w rest) ≡ true → (b ≡ false) × (accepted rest ≡ true)
check_passed true w rest n e = no_way (sym e ∙ n)
check_passed false w rest n e = (refl, e)

not_no : (b : Bool) → not b ≡ false → b ≡ true
not_no true e = refl
not_no false e = no_way e

-- an accepted schedule has T of at most 8 and N of at most 64
few_small : (s : List ℕ) → accepted (schedule_answer s) ≡ true → ((schedule_in s).t ≤ 8) × ((schedule_in s).image.n ≤ 64)
unfolding schedule_answer schedule_in image_answer image_in
few_small s a =
    let x = check_passed (ltb (length s) 8) Length _ refl a in
    let y = check_passed (not (is_file 83 s)) Mark _ refl x.1 in
    let t = check_passed (not (threads_fit (threads_in s))) Threads _ refl y.1 in
    let w = check_passed (ltb 4096 (count_in s)) Events _ refl t.1 in
    let v = check_passed (ltb (length (image_part s)) 10) Length _ refl w.1 in
    let z = shape_is (threads_in s) (shape_in (image_part s)) _ v.1 in
    ((threads_range (threads_in s) (not_no (threads_fit (threads_in s)) t.0)).1, (shaped_lines (threads_in s) (shape_in (image_part s)) z.0).0)

-- the machine at the schedule's start
abbrev first : List ℕ → Machine
first s = start_of (schedule_in s).image (schedule_in s).t

first_size : (s : List ℕ) → shape_of (first s) ≡ schedule_shape s
unfolding schedule_in image_in shape_in start_with
first_size s = refl

-- T and N as acceptance has them
first_known : (s : List ℕ) → accepted (schedule_answer s) ≡ true → Known (begins (first s))
first_known s a = let z = few_small s a in known_start (schedule_in s).image (schedule_in s).t z.0 z.1

module _ (s : List ℕ) (a : accepted (schedule_answer s) ≡ true) (h : accepted (ran s).answer ≡ true) where
  there : (k : ℕ) → k < ending_count s → Leaves s (ending_in s k)
  unfolding ran table_in ending_count ending_in
  there k lt =
      let r = leaves (schedule_shape s) (first s) (first_known s a) (first_size s) (events_in s) h k lt in
      record { events = r.events; taken = r.taken; added = r.added; left = r.left }

  pub back : (g : Image) → Leaves s g → (k : ℕ) × (k < ending_count s) × (ending_in s k ≡ g)
  unfolding ran table_in ending_count ending_in
  back g r =
      only (schedule_shape s) (first s) (first_known s a) (first_size s) (events_in s) h g
      (record { events = r.events; taken = r.taken; added = r.added; left = r.left })

  once : (j k : ℕ) → j < ending_count s → k < ending_count s → ending_in s j ≡ ending_in s k → j ≡ k
  unfolding table_in ending_count ending_in
  once j k p q e = ending_once (ran s).bench j k p q e

-- the theorem
pub page_holds : (s : List ℕ) → Bytes s → accepted (page_answer s) ≡ true → PageHolds s
page_holds s y h =
    let r = page_ran s h in
    let a = page_schedule s h in
    (λ g. (λ k. from g k, back s a r g), once s a r)
  where
    from : (g : Image) → (k : ℕ) × (k < ending_count s) × (ending_in s k ≡ g) → Leaves s g
    from g k = rw (sym k.2) (there s (page_schedule s h) (page_ran s h) k.0 k.1)
