-- #104: when a thread is at its fence, and of which line.
use Rattle.std.specs.Prelude.{ℕ, ◌≤◌, ◌≡◌, eqb, List, [], map, get_or, drop}
use Rattle.lists.specs.Find.{pick}
use Rattle.image.specs.declared.Content.{Content}
use Rattle.image.specs.Form.{per_desk}
use Rattle.machine.specs.Record.{thread}
use Rattle.machine.specs.Stage.{F10, number}
use Rattle.machine.specs.Line.{cached_at}
use Rattle.machine.specs.Start.{blank_machine}
use Rattle.machine.specs.declared.Line.{Line}
use Rattle.machine.specs.declared.Line.TheVariants.{OfHead as of_head, OfNode as of_node}
use Rattle.machine.specs.declared.Machine.{Machine}
use Rattle.machine.specs.declared.Thread.{Thread}
use Rattle.machine.specs.declared.Touch.{Touch}
use Rattle.machine.specs.declared.Touch.TheVariants.{Nothing as nothing, Store as a_store, Persist as a_persist, Flush as a_flush, Fence as a_fence}
use Rattle.schedule.specs.Run.{Bench}
use Rattle.page.specs.Contents.{gathered}

-- the line that thread k, which is v, fences in form f
abbrev pub fence_line : ℕ → ℕ → Thread → Line
fence_line f k v = pick (eqb v.step (number F10)) (of_node v.node) (of_head (pick (per_desk f) k 0))

-- thread k's next step is its fence of line l
abbrev pub Waits : Machine → ℕ → Line → Type 0
Waits m k l = (number F10 ≤ (thread m k).step) × (l ≡ fence_line m.form k (thread m k))

-- the touch w is a flush by thread u
abbrev pub FlushesBy : Touch → ℕ → Type 0
FlushesBy nothing u = ⊥
FlushesBy (a_store l) u = ⊥
FlushesBy (a_persist l) u = ⊥
FlushesBy (a_flush k l) u = u ≡ k
FlushesBy (a_fence k l) u = ⊥

-- the touch w is the fence of line l by thread u
abbrev pub FencesBy : Touch → ℕ → Line → Type 0
FencesBy nothing u l = ⊥
FencesBy (a_store x) u l = ⊥
FencesBy (a_persist x) u l = ⊥
FencesBy (a_flush k x) u l = ⊥
FencesBy (a_fence k x) u l = (u ≡ k) × (l ≡ x)

-- the content of line l at moment i
abbrev pub at_moment : Bench → ℕ → Line → Content
at_moment b i l = cached_at (get_or b.past i blank_machine) l

-- the contents that line l has had since thread k's last flush, that of the flush first
unfoldable pub since_of : Bench → ℕ → Line → List Content
since_of b k l = gathered [] (map (λ m. cached_at m l) (drop (b.mark k) b.past))
