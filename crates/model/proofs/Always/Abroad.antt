-- A step on another queue over the same table keeps the plain facts, and with the invariant of this queue every number in its range.
use mathlib.Core.Path.{◌≡◌}
use mathlib.Core.Bool.{Bool, true}
use mathlib.Core.List.{List}
use mathlib.Core.Option.{Option, some}
use Prim.Native.Nat.{ℕ, suc, ◌<◌}
use Rattle.model.specs.Basics.{upd}
use Rattle.model.specs.Core.{Core, content}
use Rattle.model.specs.Changes.{set_free}
use Rattle.model.specs.Steps.{retire_held}
use Rattle.model.specs.Bench.{Book}
use Rattle.model.specs.Always.{InRange}
use Rattle.model.proofs.Times.{Hist, Grown}
use Rattle.model.proofs.Layer3.All.{All}
use Rattle.model.proofs.Layer3.Foreign.{Deed, begins, unseen, takes, puts, links, persists, flushing, fencing, answers, returns, retires}
use Rattle.model.proofs.Layer3.Foreign.{abroad, lent_after, deed_touch, Allowed, foreign_all}
use Rattle.model.proofs.Always.Plain.{Plain, left, linked, retired}
use Rattle.model.proofs.Always.Range.{free_below, ranged}

-- a link set there leads to a node of the table
abbrev pub InTable : Deed → Core → Type 0
InTable begins m = Unit {0}
InTable unseen m = Unit {0}
InTable (takes n) m = Unit {0}
InTable (puts n c) m = Unit {0}
InTable (links n o) m = (y : ℕ) → o ≡ some y → y < m.conf.nodes
InTable (persists l) m = Unit {0}
InTable flushing m = Unit {0}
InTable (fencing l) m = Unit {0}
InTable answers m = Unit {0}
InTable (returns n) m = Unit {0}
InTable (retires n) m = Unit {0}

module _ (ls : ℕ → Bool) (hs : Hist) (m : Core) (b : Book) (q₀ : List ℕ) (now : ℕ) (a : All ls hs m b q₀ now) (p : Plain m) (u : ℕ) where
  pub foreign_plain : (d : Deed) → Allowed d ls m u → InTable d m → Plain (abroad d m u)
  foreign_plain begins k t = p
  foreign_plain unseen k t = p
  foreign_plain (takes n) k t = record { last = free_below ls hs m b q₀ now a n k; links = p.links; waits = p.waits; holds = p.holds }
  foreign_plain (puts n c) k t = p
  foreign_plain (links n o) k t = linked m u p n o t
  foreign_plain (persists l) k t = p
  foreign_plain flushing k t = p
  foreign_plain (fencing l) k t = p
  foreign_plain answers k t = left m u p
  foreign_plain (returns n) k t = left (set_free m (upd m.free n true) m.wait) u p
  foreign_plain (retires n) k t = left (retire_held m u (some n)) u (retired m u p (some n) (a.inv.alive.range u (rw k.0)))

  pub foreign_range : (hs' : Hist) (d : Deed) → Allowed d ls m u → InTable d m → Grown (deed_touch d u) (content (abroad d m u)) hs hs' → InRange (abroad d m u)
  foreign_range hs' d k t w = ranged (lent_after d ls) hs' (abroad d m u) b q₀ (suc now) (foreign_all ls hs hs' m b q₀ now a u d k w) (foreign_plain d k t)
