-- What is so of every record of a run, as types.
use Rattle.std.specs.Prelude.{◌≡◌, Bool, true, List, [], ◌∷◌, map, ◌⊎◌, ℕ, ◌+◌, ◌≤◌, ◌<◌, get_or, length}
use Rattle.image.specs.declared.Content.{Content}
use Rattle.image.specs.Form.{head_lines}
use Rattle.machine.specs.Line.{shape_of, cached_at, persisted_at}
use Rattle.machine.specs.declared.Line.{Line}
use Rattle.machine.specs.declared.Line.TheVariants.{OfHead as of_head}
use Rattle.machine.specs.Place.{in_queue, is_free, is_waiting, is_held, in_enqueue, in_dequeue, places_of}
use Rattle.machine.specs.Start.{blank_machine}
use Rattle.machine.specs.declared.Machine.{Machine}
use Rattle.machine.specs.declared.Places.{Places}
use Rattle.schedule.specs.Run.{Bench}

-- ---- the six places

pub data SixPlaces : Type 0 where
  queue free waiting held enqueue dequeue : SixPlaces

abbrev pub is_in : SixPlaces → Machine → ℕ → Bool
is_in queue = in_queue
is_in free = is_free
is_in waiting = is_waiting
is_in held = is_held
is_in enqueue = in_enqueue
is_in dequeue = in_dequeue

-- "At every moment each node is in exactly one place"
abbrev pub ExactlyOne : Machine → ℕ → Type 0
ExactlyOne m i = (k : SixPlaces) × (is_in k m i ≡ true) × ((j : SixPlaces) → is_in j m i ≡ true → k ≡ j)

abbrev pub sum_of : Places → ℕ
sum_of p = p.queue + p.free + p.waiting + p.held + p.enqueue + p.dequeue

-- "the six numbers add up to N"
abbrev pub AddUp : Machine → Type 0
AddUp m = sum_of (places_of m) ≡ m.n

-- ---- "the persisted copy is always some earlier or present content"

abbrev pub Among : Content → List Content → Type 0
Among c [] = ⊥
Among c (d ∷ l) = (c ≡ d) ⊎ Among c l

-- the machine at the last start
abbrev pub at_start : Bench → Machine
at_start b = get_or b.past 0 b.machine

-- line l's persisted copy is what was persisted at the last start, or a cached content since
abbrev pub WasThere : Bench → Line → Type 0
WasThere b l = Among (persisted_at b.machine l) (persisted_at (at_start b) l ∷ map (λ m. cached_at m l) b.past)

-- ---- what the head lines do in the course of time

-- from one moment to a later one since the last start the index of none falls
abbrev pub Rises : Bench → Type 0
Rises b = (k : ℕ) → k < head_lines (shape_of b.machine) → (i j : ℕ) → i ≤ j → j < length b.past
    → (cached_at (get_or b.past i blank_machine) (of_head k)).index ≤ (cached_at (get_or b.past j blank_machine) (of_head k)).index
