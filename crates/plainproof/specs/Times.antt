-- What a pick leaves, by times. All that is proved above leans on `ByTimes` and on nothing else of how lines are persisted.
use Rattle.std.specs.Prelude.{ℕ, zero, suc, max, ◌<◌, ◌≤◌, ◌≡◌, true, List, ◌≢◌, get_or}
use Rattle.answer.specs.Answers.{accepted}
use Rattle.image.specs.declared.Content.{Content}
use Rattle.machine.specs.Line.{shape_of, line_count, line_at, cached_at, persisted_at}
use Rattle.machine.specs.Start.{blank_machine}
use Rattle.machine.specs.Event.{crashes, deed_of, event_at}
use Rattle.machine.specs.declared.Line.{Line}
use Rattle.machine.specs.declared.Machine.{Machine}
use Rattle.machine.specs.declared.Event.{Event}
use Rattle.machine.specs.declared.Acted.{Acted}
use Rattle.schedule.specs.Run.{Bench, begins, forward}
use Rattle.moments.proofs.Known.{Known}
use Rattle.plainproof.specs.Plain.{played_at}

-- a recorded run of e events from a start, none of them a crash, each of them taken: B r is the bench at moment r, f r the event behind it
pub record Recorded (m : Machine) (f : ℕ → Event) (e : ℕ) (B : ℕ → Bench) : Type 0 where
  pub known : Known (begins m)
  pub first : B 0 ≡ begins m
  pub free : (r : ℕ) → r < e → deed_of (f r).kind ≢ crashes
  pub next : (r : ℕ) → r < e → (p : ℕ) × (accepted (event_at p (B r).machine (f r)).answer ≡ true) × (B (suc r) ≡ forward p (B r) (f r))

-- nothing leaves what the recorded run leaves; a pick of moment q leaves the line with its content at the larger of q and the moment from which its contents count
abbrev pub pick_leaves : Bench → Line → ℕ → Content
pick_leaves b l zero = persisted_at b.machine l
pick_leaves b l (suc q) = cached_at (get_or b.past (max q (b.from l)) blank_machine) l

abbrev pub ByTimes : Type 0
ByTimes =
    (m : Machine) (f : ℕ → Event) (e : ℕ) (B : ℕ → Bench) → Recorded m f e B → (π : List ℕ) → (j : ℕ) → j < line_count (shape_of m) → get_or π j 0 ≤ suc e
    → persisted_at (played_at π (line_count (shape_of m)) m f e) (line_at (shape_of m) j) ≡ pick_leaves (B e) (line_at (shape_of m) j) (get_or π j 0)
