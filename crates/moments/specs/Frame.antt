-- What an event leaves alone: all contents but those of the line that it touches.
use Rattle.std.specs.Prelude.{ℕ, ◌≡◌, List, length}
use Rattle.image.specs.declared.Content.{Content}
use Rattle.machine.specs.Line.{shape_of, cached_at, persist}
use Rattle.machine.specs.Flush.{flush, fence}
use Rattle.machine.specs.declared.Line.{Line}
use Rattle.machine.specs.declared.Touch.{Touch}
use Rattle.machine.specs.declared.Touch.TheVariants.{Nothing as nothing, Store as a_store, Persist as a_persist, Flush as a_flush, Fence as a_fence}
use Rattle.machine.specs.declared.Machine.{Machine}

-- the touch w is a store to line l
abbrev pub StoresTo : Touch → Line → Type 0
StoresTo nothing l = ⊥
StoresTo (a_store x) l = l ≡ x
StoresTo (a_persist x) l = ⊥
StoresTo (a_flush k x) l = ⊥
StoresTo (a_fence k x) l = ⊥

-- the touch w persists line l at once
abbrev pub Persists : Touch → Line → Type 0
Persists nothing l = ⊥
Persists (a_store x) l = ⊥
Persists (a_persist x) l = l ≡ x
Persists (a_flush k x) l = ⊥
Persists (a_fence k x) l = ⊥

-- the touch w is a fence of line l
abbrev pub FencesTo : Touch → Line → Type 0
FencesTo nothing l = ⊥
FencesTo (a_store x) l = ⊥
FencesTo (a_persist x) l = ⊥
FencesTo (a_flush k x) l = ⊥
FencesTo (a_fence k x) l = l ≡ x

-- the touch w is part of the persisting of line l
abbrev pub WritesBack : Touch → Line → Type 0
WritesBack nothing l = ⊥
WritesBack (a_store x) l = ⊥
WritesBack (a_persist x) l = l ≡ x
WritesBack (a_flush k x) l = l ≡ x
WritesBack (a_fence k x) l = l ≡ x

-- each line has as many persisted copies as cached ones
abbrev pub Even : Machine → Type 0
Even m = (length m.kept ≡ length m.nodes) × (length m.kept_heads ≡ length m.heads)

-- the persisted copies, and what the record knows of flushes
pub record Keeps : Type 0 where
  pub heads : List ℕ
  pub nodes : List Content
  pub flushed : List Content
  pub late : List ℕ
  pub over_heads : List ℕ
  pub over : List ℕ

abbrev pub keeps_of : Machine → Keeps
keeps_of m = record {
  heads = m.kept_heads;
  nodes = m.kept;
  flushed = m.flushed;
  late = m.late;
  over_heads = m.over_heads;
  over = m.over;
}

-- the machine behind a touch alone; a store is another thing for each step
abbrev pub touched : Machine → Touch → Machine
touched m nothing = m
touched m (a_store l) = m
touched m (a_persist l) = persist m l
touched m (a_flush k l) = flush m k l
touched m (a_fence k l) = fence m k l

-- m' is m after an event that touched w: only a line that was stored to has another cached content, and what is persisted and what is known of flushes is what the
-- touch alone makes of it
pub record Frame (m m' : Machine) (w : Touch) : Type 0 where
  pub shape : shape_of m' ≡ shape_of m
  pub cached : (l : Line) → (StoresTo w l → ⊥) → cached_at m' l ≡ cached_at m l
  pub kept : keeps_of m' ≡ keeps_of (touched m w)
