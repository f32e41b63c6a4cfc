-- The invariant with the four plain facts, through every run; and that every number is in its range.
use mathlib.Core.Path.{◌≡◌, refl, subst, ◌∙◌}
use mathlib.Core.Bool.{false}
use mathlib.Core.List.{List, [], ◌∷◌}
use Rattle.model.specs.Lines.{act, back}
use Rattle.model.specs.Steps.{enq, deq, move}
use Rattle.model.specs.Recovery.{Image, start'}
use Rattle.model.specs.Machine.{M, Event, ev, crash, event, starts, persisted, run}
use Rattle.model.specs.Bench.{Bench, turn, bench, opening}
use Rattle.model.specs.Demand3.{Fit, Tidy, Takes, TakesAll}
use Rattle.model.specs.Always.{InRange, AlwaysInRange}
use Rattle.model.proofs.Times.{hist_of, Timed, start_timed}
use Rattle.model.proofs.Layer3.All.{All}
use Rattle.model.proofs.Demand3.Endings.{fit}
use Rattle.model.proofs.Demand3.ThreeB.{stays_put, turn_all, turn_timed, open_all}
use Rattle.model.proofs.Page.Frame.{conf_same}
use Rattle.model.proofs.Always.Plain.{Plain, step_plain, start_plain}
use Rattle.model.proofs.Always.Range.{free_below, own_e, ranged}

-- the bench runs the machine
pub bench_run : (l : List Event) (b : Bench) → (bench b l).mach ≡ run b.mach l
unfolding bench run
bench_run [] b = refl
bench_run (e ∷ l) b = bench_run l (turn b e)

-- the table's shape stays
pub conf_event : (m : M) (e : Event) → (event m e).core.conf ≡ m.core.conf
unfolding start'
conf_event m (ev (act a)) = conf_same m.core a
conf_event m (ev (back l)) = refl
conf_event m crash = refl

pub conf_run : (l : List Event) (m : M) → (run m l).core.conf ≡ m.core.conf
unfolding run
conf_run [] m = refl
conf_run (e ∷ l) m = conf_run l (event m e) ∙ conf_event m e

pub conf_starts : (g : Image) → (starts g).core.conf ≡ g.conf
unfolding start'
conf_starts g = refl

-- all that is kept through a run
pub record Kept (b : Bench) : Type 0 where
  pub timed : Timed b.mach
  pub all : All (λ n. false) (hist_of b.mach) b.mach.core b.book b.first b.now
  pub plain : Plain b.mach.core

pub open_kept : (g : Image) → Fit g → Tidy g → Kept (opening g)
open_kept g f t = record { timed = start_timed g; all = open_all g f t; plain = start_plain g f }

pub turn_kept : (b : Bench) (e : Event) → Kept b → Takes b.mach e → Kept (turn b e)
turn_kept b e k t = record {
  timed = turn_timed b.mach b.book b.first b.now k.all k.timed e;
  all = turn_all b.mach b.book b.first b.now k.all k.timed e t;
  plain = by e t;
}
  where
    by : (e : Event) → Takes b.mach e → Plain (event b.mach e).core
    by (ev (act (enq u v))) t = k.plain
    by (ev (act (deq u))) t = k.plain
    by (ev (act (move u))) t = step_plain b.mach.core u k.plain (free_below _ _ _ _ _ _ k.all) (own_e _ _ _ _ _ _ k.all u)
        (k.all.inv.alive.range u) (b.mach.core.thr u) refl
    by (ev (back l)) t = k.plain
    by crash t = start_plain (persisted b.mach) (fit _ _ _ _ _ _ k.all (persisted b.mach) (stays_put b.mach _ _ _ k.all k.timed))

pub bench_kept : (b : Bench) (l : List Event) → Kept b → TakesAll b.mach l → Kept (bench b l)
unfolding bench
bench_kept b [] k t = k
bench_kept b (e ∷ l) k t = bench_kept (turn b e) l (turn_kept b e k t.0) t.1

pub kept_range : (b : Bench) → Kept b → InRange b.mach.core
kept_range b k = ranged _ _ _ _ _ _ k.all k.plain

pub always_in_range : AlwaysInRange
always_in_range g f t l k = subst (λ m. InRange m.core) (bench_run l (opening g))
    (kept_range (bench (opening g) l) (bench_kept (opening g) l (open_kept g f t) k))
