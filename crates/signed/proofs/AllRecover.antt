-- Every image that a crash can leave recovers to a lawful queue, of an accepted schedule whatever its page's size.
use Prim.Native.Nat.{ℕ}
use mathlib.Core.Path.{◌≡◌, subst}
use mathlib.Core.Bool.{true}
use mathlib.Core.List.{List}
use Rattle.answer.specs.Answers.{accepted}
use Rattle.image.specs.declared.Image.{Image}
use Rattle.schedule.specs.Layout.{schedule_answer}
use Rattle.schedule.specs.Run.{Ran, ran}
use Rattle.lawful.specs.Demand3.{Bytes, Leaves, Recovers}
use Rattle.pageproof.proofs.Holds.{back}
use Rattle.lawproof.proofs.Lawful3.{endings_recover}

pub all_recover : (s : List ℕ) → Bytes s → accepted (schedule_answer s) ≡ true → accepted (ran s).answer ≡ true → (g : Image) → Leaves s g → Recovers s g
all_recover s y a h g r = let z = back s a h g r in subst (Recovers s) z.2 (endings_recover s y a h z.0 z.1)
