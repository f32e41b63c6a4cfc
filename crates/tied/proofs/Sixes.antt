-- Each node of a record of a run is in exactly one of the six places, and the six numbers add up to N.
use mathlib.Core.Path.{◌≡◌, refl, sym, ap, ap₂, subst, ◌∙◌}
use mathlib.Core.Bool.{Bool, true}
use mathlib.Core.List.{List, map}
use Prim.Native.Nat.{ℕ, ◌+◌, ◌<◌}
use Rattle.lists.specs.Find.{count}
use Rattle.machine.specs.Place as place
use Rattle.machine.specs.Place.{places_of}
use Rattle.machine.specs.Line.{persisted_at}
use Rattle.machine.specs.declared.Machine.{Machine}
use Rattle.schedule.specs.Run as schedule
use Rattle.model.specs.Core.{Core}
use Rattle.model.specs.Recovery as recovery
use Rattle.model.specs.Machine as machine
use Rattle.model.specs.Machine.{starts, run}
use Rattle.model.specs.Bench.{bench, opening}
use Rattle.model.specs.Demand3.{Fit, Tidy, TakesAll}
use Rattle.model.specs.Places.{PlaceKind, in_queue, is_waiting, in_deq, is_held, in_enq, is_free}
use Rattle.model.specs.Always.{placed, six_total, count_below}
use Rattle.model.proofs.Always.Runs.{bench_run, conf_run, conf_starts, always_in_range}
use Rattle.model.proofs.Always.Numbers.{one_place_always, places_tested, six_add_up}
use Rattle.tied.specs.Always.{SixPlaces, queue, free, waiting, held, enqueue, dequeue, is_in, ExactlyOne, AddUp}
use Rattle.tied.proofs.Relation.{Tied}
use Rattle.tied.proofs.Changes.{count_n, count_t}
use Rattle.tied.proofs.Bench.{BenchT}
use Rattle.tied.proofs.Places.{kind_of, count_same, same_places}

abbrev back : PlaceKind → SixPlaces
back in_queue = queue
back is_free = free
back is_waiting = waiting
back is_held = held
back in_enq = enqueue
back in_deq = dequeue

kind_back : (k : PlaceKind) → kind_of (back k) ≡ k
kind_back in_queue = refl
kind_back is_free = refl
kind_back is_waiting = refl
kind_back is_held = refl
kind_back in_enq = refl
kind_back in_deq = refl

back_kind : (k : SixPlaces) → back (kind_of k) ≡ k
back_kind queue = refl
back_kind free = refl
back_kind waiting = refl
back_kind held = refl
back_kind enqueue = refl
back_kind dequeue = refl

module _ (g : recovery.Image) (f : Fit g) (t : Tidy g) (l : List machine.Event) (k : TakesAll (starts g) l) (b : schedule.Bench) (r : BenchT b (bench (opening g) l)) where
  abbrev m : Machine
  m = b.machine

  abbrev c : Core
  c = (run (starts g) l).core

  d : Tied (persisted_at m) m c
  d = subst (λ M. Tied (persisted_at m) m M.core) (bench_run l (opening g)) r.tied

  pub size_run : g.conf.nodes ≡ m.n
  size_run = ap (λ z. z.nodes) (sym (conf_run l (starts g) ∙ conf_starts g)) ∙ count_n _ m c d

  pub threads_run : g.conf.threads ≡ m.t
  threads_run = ap (λ z. z.threads) (sym (conf_run l (starts g) ∙ conf_starts g)) ∙ count_t _ m c d

  same : (k' : SixPlaces) (i : ℕ) → i < m.n → is_in k' m i ≡ placed c (kind_of k') i
  same = same_places _ m c d (always_in_range g f t l k) (λ i h j w. (places_tested g f t l k i in_queue).1 (j, w))

  pub exactly_one : (i : ℕ) → i < m.n → ExactlyOne m i
  exactly_one i h =
      let w = one_place_always g f t l k i (subst (λ n. i < n) (sym size_run) h) in (
        back w.0,
        same (back w.0) i h ∙ ap (λ z. placed c z i) (kind_back w.0) ∙ (places_tested g f t l k i w.0).1 w.1,
        λ j e. ap back (w.2 (kind_of j) ((places_tested g f t l k i (kind_of j)).0 (sym (same j i h) ∙ e))) ∙ back_kind j,
      )

  numbers : (k' : SixPlaces) → count (is_in k' m) m.n ≡ count_below (placed c (kind_of k')) g.conf.nodes
  numbers k' = count_same (is_in k' m) (placed c (kind_of k')) m.n (same k') ∙ ap (count_below (placed c (kind_of k'))) (sym size_run)

  pub add_up : AddUp m
  unfolding places_of
  add_up =
      ap₂ ◌+◌ (ap₂ ◌+◌ (ap₂ ◌+◌ (ap₂ ◌+◌ (ap₂ ◌+◌ (numbers queue) (numbers free)) (numbers waiting)) (numbers held)) (numbers enqueue)) (numbers dequeue)
      ∙ six_add_up g f t l k ∙ size_run
