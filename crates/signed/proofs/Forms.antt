-- Request 107: "endings keep the start image's form", of every page that is not refused.
use Prim.Native.Nat.{ℕ}
use mathlib.Core.Path.{◌≡◌}
use mathlib.Core.Bool.{true}
use mathlib.Core.List.{List}
use Rattle.answer.specs.Answers.{accepted}
use Rattle.image.specs.Layout.{form_in, shape_in, image_in}
use Rattle.machine.specs.Start.{start_of, start_with}
use Rattle.schedule.specs.Layout.{image_part, schedule_in, events_in}
use Rattle.schedule.specs.Run.{begins, ran}
use Rattle.page.specs.Endings.{image_of, ending}
use Rattle.page.specs.Refusals.{page_answer, ending_in}
use Rattle.pageproof.proofs.Form.{run_form}
use Rattle.pageproof.proofs.Holds.{page_ran}

pub ending_form : (s : List ℕ) → accepted (page_answer s) ≡ true → (k : ℕ) → (ending_in s k).form ≡ form_in (image_part s)
unfolding ran ending_in ending image_of schedule_in image_in shape_in start_with
ending_form s h k = run_form (events_in s) 0 (begins (start_of (schedule_in s).image (schedule_in s).t)) (page_ran s h)
