-- Images noted in a buffer, run after run.
use Rattle.std.specs.Prelude.{ℕ, suc, ◌+◌, ◌*◌, ◌^◌, ◌≤◌, ◌≡◌, Bool, true, not, List, length, get_or, take, eqb, Result, Ok, Err}
use Rattle.lists.specs.Find.{any}
use Rattle.lists.specs.Tab.{tab}
use Rattle.answer.specs.Answers.{accepted}
use Rattle.answer.specs.declared.Refusal.{Refusal}
use Rattle.image.specs.Form.{image_size}
use Rattle.image.specs.declared.Image.{Image}
use Rattle.schedule.specs.Layout.{schedule_shape}
use Rattle.plainproof.specs.Once.{once, same_image}
use Rattle.plainproof.specs.Plain.{lines_in, since_count, left_by}
use Rattle.plainruns.specs.Playable.{Planned}
use Rattle.plainruns.specs.Turns.{turn_of}
use Rattle.plainway.specs.Plainly.{plain_answer, plain_room, all_bytes}
use Rattle.plainway.specs.declared.way.Way.{Way}

-- whether one of the first n bytes of x is not the one in b, from a place on; whether all are
unfoldable pub differs : List ℕ → ℕ → List ℕ → ℕ → Bool
differs b at x n = any (λ i. not (eqb (get_or b (at + i) 0) (get_or x i 0))) n

unfoldable pub same_at : List ℕ → ℕ → List ℕ → ℕ → Bool
same_at b at x n = not (differs b at x n)

-- whether one of the first c pieces of n bytes is x
unfoldable pub is_noted : List ℕ → ℕ → List ℕ → ℕ → Bool
is_noted b c x n = any (λ i. same_at b (i * n) x n) c

-- how many picks a line has, and how many runs there are
abbrev pub base_in : List ℕ → ℕ
base_in s = suc (suc (since_count s))

abbrev pub runs_in : List ℕ → ℕ
runs_in s = base_in s ^ lines_in s

-- the image that run k leaves, and those of the first k runs, repeats after the first dropped
abbrev pub image_at : List ℕ → ℕ → Image
image_at s k = left_by s (turn_of (base_in s) (lines_in s) k)

unfoldable pub images_to : List ℕ → ℕ → List Image
images_to s k = once same_image (tab (image_at s) k)

-- w is laid out for the schedule s
pub record Laid (s : List ℕ) (w : Way) : Type 0 where
  pub planned : Planned s w.plan
  pub lines : w.lines ≡ lines_in s
  pub few : lines_in s ≤ 6
  pub short : since_count s ≤ 12
  pub size : w.size ≡ image_size (schedule_shape s)
  pub base : w.base ≡ base_in s
  pub runs : w.runs ≡ runs_in s

-- all that the runs need, and the images fit into `room` bytes, where that is answered; else the refusal
abbrev pub WayIs : List ℕ → ℕ → Result Way Refusal → Type 0
WayIs s room (Ok w) = (accepted (plain_answer s room) ≡ true) × Laid s w × (plain_room s ≤ room)
WayIs s room (Err e) = plain_answer s room ≡ Err e

-- the buffer b has the c images of the first k runs in front, and room for all
pub record NotedTo (s : List ℕ) (k : ℕ) (b : List ℕ) (c : ℕ) : Type 0 where
  pub within : k ≤ runs_in s
  pub count : c ≡ length (images_to s k)
  pub front : take (length (all_bytes (images_to s k))) b ≡ all_bytes (images_to s k)
  pub room : plain_room s ≤ length b
