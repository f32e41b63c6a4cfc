-- What holds of every bench of a run: its moments and those from which contents count.
use Rattle.std.specs.Prelude.{ℕ, ◌≤◌, ◌≡◌, List, [], ◌∷◌, ◌++◌, length}
use Rattle.machine.specs.declared.Line.{Line}
use Rattle.machine.specs.declared.Machine.{Machine}
use Rattle.schedule.specs.Run.{Bench}

pub record Timed (b : Bench) : Type 0 where
  -- the moments before the present one
  pub before : List Machine
  pub now : b.past ≡ before ++ (b.machine ∷ [])
  -- every line counts from some moment that has been
  pub early : (l : Line) → b.from l ≤ length before
  -- and every thread's last flush was at one
  pub marks : (t : ℕ) → b.mark t ≤ length before
