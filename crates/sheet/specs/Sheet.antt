-- All that the lines of a page with one head line are told from, and a line.
use Rattle.std.specs.Prelude.{ℕ, ◌+◌, ◌*◌, ◌<◌, ◌≡◌, List, ◌++◌, length, get_or, take}
use Rattle.lists.specs.Text.{decimal}
use Rattle.image.specs.declared.Content.{Content}
use Rattle.image.specs.declared.Shape.{Shape}
use Rattle.endtable.specs.Picks.{picks_of}
use Rattle.sheet.specs.Marks.{marks_of, items_in, slot_count}
use Rattle.sheet.specs.Order.{ordered, rank_in, starts_of}
use Rattle.sheet.specs.Told.{head_mark, told_end}

-- the line of ending k, told by the first c slots
unfoldable pub line_told : List ℕ → List ℕ → List ℕ → ℕ → List ℕ → Shape → ℕ → List ℕ
line_told ranks items slots c cs z k = decimal k ++ told_end ranks items slots (picks_of cs z k) (head_mark ranks (picks_of cs z k)) c

-- each of the first c slots is one of a machine of n nodes
abbrev pub SlotsOf : ℕ → List ℕ → ℕ → Type 0
SlotsOf n slots c = (p : ℕ) → p < c → get_or slots p 0 < slot_count n

-- the slots of the table t with its counts: marks, items, the order of those that may be recovered, and from where a turn changes it
pub record IsSheet (t : List (List Content)) (cs : List ℕ) (n : ℕ) (ranks items slots starts : List ℕ) (count : ℕ) : Type 0 where
  pub ranked : ranks ≡ marks_of t cs (slot_count n)
  pub itemed : items ≡ items_in t (slot_count n)
  pub counted : count ≡ length (ordered (rank_in ranks) 16 (n * 16))
  pub placed : take count slots ≡ ordered (rank_in ranks) 16 (n * 16)
  pub begun : starts ≡ starts_of slots count cs (1 + n)

-- indices fit 64 bits, items 32
abbrev pub Small : List ℕ → List ℕ → Type 0
Small ranks items = (e : ℕ) → (get_or ranks e 0 < 18446744073709551616) × (get_or items e 0 < 4294967296)
