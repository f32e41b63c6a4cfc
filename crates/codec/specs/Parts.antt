-- What the calls of this crate hand out, where images and schedules do not say it already.
use Rattle.std.specs.Prelude.{ℕ, ◌+◌, ◌≤◌, ◌≡◌, true, false, not, List, length, eqb, ltb, leb}
use Rattle.lists.specs.Find.{pick, both}
use Rattle.answer.specs.Answers.{check, accepted, Answer, Taken, Length, NoEnding}
use Rattle.image.specs.Form.{known, image_size}
use Rattle.image.specs.Layout.{shape_in, image_in}
use Rattle.image.specs.Refusals.{own_fit, shape_answer, image_answer, blank_image, Read}
use Rattle.image.specs.declared.Shape.{Shape}
use Rattle.machine.specs.declared.Event.{Event}
use Rattle.schedule.specs.Layout.{count_in, event_in, schedule_answer}

-- an image of shape z, its head lines and nodes, lies in the bytes
pub record Lies (s : List ℕ) (z : Shape) : Type 0 where
  pub shape : z ≡ shape_in s
  pub form : known z.form ≡ true
  pub nodes : z.n ≤ 64
  pub own : own_fit z ≡ true
  pub long : image_size z ≤ length s

-- 1, 2, 3, 4, 1: what is asked of an image for t threads with `more` bytes behind it before its nodes are looked at, with what follows
unfoldable pub shape : ℕ → ℕ → List ℕ → Answer → Answer
shape t more s rest =
    check (ltb (length s) 10) Length
    (shape_answer t (shape_in s) (check (not (eqb (length s) (image_size (shape_in s) + more))) Length rest))

-- an image for t threads with `more` bytes behind it, as `read_image` reads one alone
unfoldable pub read_part : ℕ → ℕ → List ℕ → Read
read_part t more s = record {
  answer = image_answer t more s;
  image = pick (accepted (image_answer t more s)) (image_in s) blank_image;
}

-- what is handed out where there is no such event
abbrev pub no_event : Event
no_event = record { kind = 0; number = 0; item = 0 }

-- event i of a schedule: the refusals of its bytes, then 16 where it has no event of that number
unfoldable pub event_asked : List ℕ → ℕ → Answer
event_asked s i = elim (accepted (schedule_answer s)) [ true ↦ check (leb (count_in s) i) NoEnding Taken | false ↦ schedule_answer s ]

-- what is handed out: the zero event beside a refusal
unfoldable pub event_of : List ℕ → ℕ → Event
event_of s i = pick (both (accepted (schedule_answer s)) (ltb i (count_in s))) (event_in s i) no_event
