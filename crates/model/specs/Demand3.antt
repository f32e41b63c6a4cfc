-- Demand 3's second half as a type: every ending recovers to a lawful queue.
use Rattle.std.specs.Prelude.{◌≡◌, true, false, List, [], ◌∷◌, ◌≢◌, ℕ, ◌≤◌, ◌<◌}
use Rattle.model.specs.Lines.{Line, act, back}
use Rattle.model.specs.Conf.{Conf, head_lines, Within}
use Rattle.model.specs.Core.{Core, Node, busy}
use Rattle.model.specs.Steps.{Act, enq, deq, move}
use Rattle.model.specs.Recovery.{Image, image_has, head_of, recovered, items_of}
use Rattle.model.specs.Machine.{M, Event, ev, crash, event, starts, Has}
use Rattle.model.specs.Lawful.{Lawful}
use Rattle.model.specs.Bench.{bench, opening}

-- ---- endings

-- an ending: for each line one of its contents, where hs says what these are
pub record Ending (hs : Line → Node → Type 0) (c : Conf) (e : Image) : Type 0 where
  pub conf : e.conf ≡ c
  pub lines : (l : Line) → Within c l → hs l (image_has e l)

-- ---- what is taken: none of 10, 11, 12 refuses the event

abbrev pub TakesAct : Core → Act → Type 0
TakesAct m (enq t v) = (t < m.conf.threads) × (busy (m.thr t) ≡ false)
TakesAct m (deq t) = (t < m.conf.threads) × (busy (m.thr t) ≡ false)
TakesAct m (move t) = (t < m.conf.threads) × (busy (m.thr t) ≡ true)

abbrev pub Takes : M → Event → Type 0
Takes m (ev (act a)) = TakesAct m.core a
Takes m (ev (back l)) = Within m.core.conf l
Takes m crash = Unit {0}

abbrev pub TakesAll : M → List Event → Type 0
TakesAll m [] = Unit {0}
TakesAll m (e ∷ l) = Takes m e × TakesAll (event m e) l

-- an image that a start accepts: there is a head line; no two recovered nodes with one index (7); some node is not recovered (8)
pub record Fit (g : Image) : Type 0 where
  pub lined : 0 < head_lines g.conf
  pub twins : (n k : ℕ) → n < g.conf.nodes → k < n
      → recovered (head_of g) (g.at n) ≡ true → recovered (head_of g) (g.at k) ≡ true → (g.at n).index ≢ (g.at k).index
  pub spare : (n : ℕ) × (n < g.conf.nodes) × (recovered (head_of g) (g.at n) ≡ false)

-- an image holds nothing beyond its N nodes
abbrev pub Tidy : Image → Type 0
Tidy g = (n : ℕ) → g.conf.nodes ≤ n → (g.at n).linked ≡ false

-- 3b: every ending recovers to a queue that the operations since the last start may lawfully leave
abbrev pub Demand3b : Type 0
Demand3b = (g : Image) → Fit g → Tidy g → (l : List Event) → TakesAll (starts g) l → (e : Image) →
    let b = bench (opening g) l in
    Ending (Has b.mach) b.mach.core.conf e → Fit e × Lawful b.book.op b.book.count b.first (items_of e)
