-- An event asked for: its answer in each of the three cases.
use Prim.Native.Nat.{ℕ, ◌≤◌, ◌<◌}
use mathlib.Core.Path.{◌≡◌, ◌∙◌}
use mathlib.Core.Bool.{true, false}
use mathlib.Core.List.{List}
use borrow.Author.Tests.{le-leb, lt-leb}
use Rattle.lists.proofs.BoolLaws.{yes_of, no_of}
use Rattle.answer.specs.Answers.{accepted, Taken, NoEnding}
use Rattle.schedule.specs.Layout.{schedule_answer, count_in}
use Rattle.codec.specs.Parts.{event_asked}

module _ (s : List ℕ) (i : ℕ) where
  pub asked_refused : accepted (schedule_answer s) ≡ false → event_asked s i ≡ schedule_answer s
  unfolding event_asked
  asked_refused h = no_of _ (schedule_answer s) (accepted (schedule_answer s)) h

  pub asked_none : accepted (schedule_answer s) ≡ true → count_in s ≤ i → event_asked s i ≡ NoEnding
  unfolding event_asked
  asked_none h l = yes_of _ (schedule_answer s) (accepted (schedule_answer s)) h ∙ rw (le-leb (count_in s) i l)

  pub asked_taken : accepted (schedule_answer s) ≡ true → i < count_in s → event_asked s i ≡ Taken
  unfolding event_asked
  asked_taken h l = yes_of _ (schedule_answer s) (accepted (schedule_answer s)) h ∙ rw (lt-leb (count_in s) i l)
