-- "every item enqueued since the last start, in begin order", said of the events alone.
use Rattle.std.specs.Prelude.{ℕ, zero, suc, ◌<◌, ◌≡◌, List, [], ◌∷◌, ◌++◌, map, ◌≢◌}
use Rattle.machine.specs.Event.{Deed, unknown, enqueues, dequeues, steps, writes_back, crashes, deed_of}
use Rattle.schedule.specs.Layout.{event_in}
use Rattle.parcels.specs.declared.Parcel.{Parcel}

-- event j of the first n begins an enqueue, and no event behind it is a crash
pub record Since (s : List ℕ) (j n : ℕ) : Type 0 where
  pub before : j < n
  pub begins : deed_of (event_in s j).kind ≡ enqueues
  pub lasts : (k : ℕ) → j < k → k < n → deed_of (event_in s k).kind ≢ crashes

-- the numbers of these events
abbrev pub begun_by : ℕ → List ℕ → Deed → List ℕ
begun_by i l unknown = l
begun_by i l enqueues = l ++ (i ∷ [])
begun_by i l dequeues = l
begun_by i l steps = l
begun_by i l writes_back = l
begun_by i l crashes = []

unfoldable pub begins_to : List ℕ → ℕ → List ℕ
begins_to s zero = []
begins_to s (suc i) = begun_by i (begins_to s i) (deed_of (event_in s i).kind)

-- the parcels l are those of the events js, one for each, in their order, with the events' threads and items
pub record Stands (s : List ℕ) (l : List Parcel) (js : List ℕ) : Type 0 where
  pub began : map (λ (p : Parcel). p.began) l ≡ js
  pub threads : map (λ (p : Parcel). p.thread) l ≡ map (λ j. (event_in s j).number) js
  pub items : map (λ (p : Parcel). p.item) l ≡ map (λ j. (event_in s j).item) js
