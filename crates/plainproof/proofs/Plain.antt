-- The plain way gives the page's images in the page's order, for every page that is not refused: no bound on its sizes.
use Prim.Native.Nat.{ℕ, ◌+◌}
use mathlib.Core.Path.{◌≡◌, sym, ap, ◌∙◌}
use mathlib.Core.Bool.{true}
use mathlib.Core.List.{List, map}
use lib.ListN.{length, replicate, length-map}
use Rattle.answer.specs.Answers.{accepted}
use Rattle.image.specs.declared.Image.{Image}
use Rattle.image.specs.declared.Shape.{Shape}
use Rattle.machine.specs.Line.{shape_of, line_count}
use Rattle.schedule.specs.Run.{Bench, ran}
use Rattle.schedule.specs.Running.{bench_to}
use Rattle.page.specs.Contents.{table_of}
use Rattle.page.specs.Endings.{choices, image_of, endings}
use Rattle.page.specs.Refusals.{table_in, page_answer, ending_count}
use Rattle.moments.proofs.Choices.{choices_length}
use Rattle.pageproof.proofs.Holds.{page_ran, page_schedule}
use Rattle.lawful.specs.Demand3.{image_left}
use Rattle.plainproof.specs.Once.{once, choices_of, same_image}
use Rattle.plainproof.specs.Plain.{last_start, start_machine, since_count, event_since, picks_of, played_at, left_by, plain_images}
use Rattle.plainproof.proofs.Since as since
use Rattle.plainproof.proofs.Images.{picks_are}

module _ (s : List ℕ) (h : accepted (page_answer s) ≡ true) where
  -- "it must give the page's images in the page's order"
  pub plain_is : plain_images s ≡ endings (shape_of (ran s).bench.machine) (table_in s)
  unfolding plain_images left_by table_in
  plain_is =
      let r = page_ran s h in
      ap (λ (z : Shape). once same_image (map (λ π. image_left (played_at π (line_count z) (start_machine s) (event_since s) (since_count s))) (choices_of (replicate (line_count z) (picks_of (since_count s)))))) (sym (since.start_shape s r))
      ∙ picks_are (start_machine s) (event_since s) (since_count s) (λ i. bench_to s (i + last_start s)) (since.since_recorded s r (page_schedule s h))
      ∙ ap (λ (b : Bench). endings (shape_of b.machine) (table_of b)) (since.since_end s r)

  -- as many as the page has
  pub plain_count_lem : length (plain_images s) ≡ ending_count s
  unfolding endings ending_count
  plain_count_lem = ap length plain_is ∙ length-map (choices (table_in s)) (image_of (shape_of (ran s).bench.machine)) ∙ choices_length (table_in s)
