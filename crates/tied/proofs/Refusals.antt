-- Which numbers an event of a run is refused by: a crash by neither 7 nor 8, nor any other event.
use mathlib.Core.Path.{◌≡◌, sym, subst}
use mathlib.Core.Bool.{Bool, true, false, not}
use mathlib.Core.Logic.{◌≢◌}
use Prim.Native.Nat.{ℕ, ◌<◌}
use native.Mathlib.Omega.{arith}
use Rattle.answer.specs.Answers.{told, check, Answer, Taken, Kind, Number, Busy, Idle, NotZero, Clean}
use Rattle.image.specs.Refusals.{startable}
use Rattle.machine.specs.Line.{shape_of, line_at, persisted}
use Rattle.machine.specs.Event.{Deed, unknown, enqueues, dequeues, steps, writes_back, crashes, event_answer, thread_too_large, line_too_large, item_not_zero, clean}
use Rattle.machine.specs.Stage as stage
use Rattle.lists.specs.Find.{pick}
use lib.Dec.{eqb}
use Rattle.machine.specs.declared.Machine.{Machine}
use Rattle.machine.specs.declared.Event.{Event}
use Rattle.schedule.specs.Run as run
use Rattle.model.specs.Machine as machine
use Rattle.model.specs.Bench.{Bench}
use Rattle.tied.proofs.Accepted.{startable_yes}
use Rattle.tied.proofs.Bench.{BenchT}
use Rattle.tied.proofs.Turn.{persisted_t, persisted_fit}

-- the answer's number is 0, or 9 and above
pub record Late (a : Answer) : Type 0 where
  pub late : (x : ℕ) → 0 < x → x < 9 → (told a).number ≢ x

one_check : (b : Bool) (w rest : Answer) → Late w → Late rest → Late (check b w rest)
one_check true w rest h k = h
one_check false w rest h k = k

kind_late : (q : ℕ) → Late (Kind q)
kind_late q = record { late = λ x a b e. omega arith }

number_late : (q : ℕ) → Late (Number q)
number_late q = record { late = λ x a b e. omega arith }

zero_late : (q : ℕ) → Late (NotZero q)
zero_late q = record { late = λ x a b e. omega arith }

busy_late : (q : ℕ) → Late (Busy q)
busy_late q = record { late = λ x a b e. omega arith }

idle_late : (q : ℕ) → Late (Idle q)
idle_late q = record { late = λ x a b e. omega arith }

clean_late : (q : ℕ) → Late (Clean q)
clean_late q = record { late = λ x a b e. omega arith }

pub taken_late : Late Taken
taken_late = record { late = λ x a b e. omega arith }

module _ (b : run.Bench) (B : Bench) (r : BenchT b B) where
  abbrev m : Machine
  m = b.machine

  -- a crash passes 7 and 8
  pub crash_starts : (rest : Answer) → startable (persisted m) rest ≡ rest
  crash_starts = startable_yes (persisted m) m.t (machine.persisted B.mach) (persisted_t b B r) (persisted_fit b B r)

  -- no event is refused by a number below 9
  pub refused_late : (q : ℕ) (e : Event) (δ : Deed) → Late (event_answer q m e δ)
  refused_late q e unknown = kind_late q
  refused_late q e enqueues = one_check (thread_too_large m e) _ _ (number_late q) (one_check (stage.busy m e.number) _ _ (busy_late q) taken_late)
  refused_late q e dequeues = one_check (thread_too_large m e) _ _ (number_late q)
      (one_check (item_not_zero e) _ _ (zero_late q) (one_check (stage.busy m e.number) _ _ (busy_late q) taken_late))
  refused_late q e steps = one_check (thread_too_large m e) _ _ (number_late q)
      (one_check (item_not_zero e) _ _ (zero_late q) (one_check (not (stage.busy m e.number)) _ _ (idle_late q) taken_late))
  refused_late q e writes_back = one_check (line_too_large m e) _ _ (number_late q)
      (one_check (item_not_zero e) _ _ (zero_late q) (one_check (clean m (line_at (shape_of m) e.number)) _ _ (clean_late q) taken_late))
  refused_late q e crashes = one_check (pick (eqb e.number 0) (item_not_zero e) true) _ _ (zero_late q) (subst Late (sym (crash_starts Taken)) taken_late)
