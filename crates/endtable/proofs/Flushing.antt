-- #104: a flush is one of a thread that there is.
use Prim.Native.Nat.{ℕ, ◌<◌}
use mathlib.Core.Path.{◌≡◌}
use mathlib.Core.Bool.{Bool, true, false}
use native.Mathlib.Omega.{arith}
use lib.Dec.{eqb, leb}
use Rattle.lists.specs.Find.{pick, both}
use Rattle.answer.specs.Answers.{accepted}
use Rattle.image.specs.Form.{top_of, per_desk}
use Rattle.machine.specs.Record.{none, node, thread, head_at}
use Rattle.machine.specs.Stage.{Stage, no_step, A1, A2, A3, A4, A5, A6, A7, A8, A9, A10, A11, A12, D1, D2, D3, D4, D5, D6, D7, S3, S6, F10, F3, F6, stage}
use Rattle.machine.specs.Event.{Deed, unknown, enqueues, dequeues, steps, writes_back, crashes, deed_of, event_answer, stepped, done, event_at}
use Rattle.machine.specs.declared.Machine.{Machine}
use Rattle.machine.specs.declared.Event.{Event}
use Rattle.machine.specs.declared.Acted.{Acted}
use Rattle.machine.specs.declared.Touch.{Touch}
use Rattle.moments.specs.Marked.{FlushesBy}
use Rattle.moments.proofs.Steps.{event_done, event_answer_lem, number_fits}

abbrev pub Flushing : Machine → Touch → Type 0
Flushing m w = (u : ℕ) → FlushesBy w u → u < m.t

module _ (m : Machine) (k : ℕ) where
  -- no flush but of thread k
  abbrev Own : Touch → Type 0
  Own w = (u : ℕ) → FlushesBy w u → u ≡ k

  either : (t : Bool) (a b : Acted) → Own a.touch → Own b.touch → Own (pick t a b).touch
  either true a b p q = p
  either false a b p q = q

  own_step : (s : Stage) → Own (stepped m k s).touch
  own_step no_step = λ u z. absurd z
  own_step A1 = either (eqb m.free 0) _ _ (λ u z. absurd z) (λ u z. absurd z)
  own_step A2 = λ u z. absurd z
  own_step A3 = λ u z. absurd z
  own_step A4 = λ u z. absurd z
  own_step A5 = λ u z. absurd z
  own_step A6 = λ u z. absurd z
  own_step A7 = either (leb (top_of m.form) (node m (thread m k).tail).index) _ _ (λ u z. absurd z) (λ u z. absurd z)
  own_step A8 = either (eqb (node m (thread m k).tail).next none) _ _ (λ u z. absurd z) (λ u z. absurd z)
  own_step A9 = λ u z. absurd z
  own_step A10 = λ u z. z
  own_step A11 = λ u z. absurd z
  own_step A12 = λ u z. absurd z
  own_step D1 = λ u z. absurd z
  own_step D2 = λ u z. absurd z
  own_step D3 = λ u z. z
  own_step D4 =
      either (both (eqb m.head (thread m k).head) (pick (per_desk m.form) true (eqb (head_at m 0) (thread m k).index))) _ _
      (either (per_desk m.form) _ _ (λ u z. absurd z) (λ u z. absurd z)) (λ u z. absurd z)
  own_step D5 = λ u z. absurd z
  own_step D6 = λ u z. z
  own_step D7 = λ u z. absurd z
  own_step S3 = λ u z. absurd z
  own_step S6 = λ u z. absurd z
  own_step F10 = λ u z. absurd z
  own_step F3 = λ u z. absurd z
  own_step F6 = λ u z. absurd z

flushing_done : (p : ℕ) (m : Machine) (e : Event) (d : Deed) → accepted (event_answer p m e d) ≡ true → Flushing m (done m e d).touch
flushing_done p m e unknown h = λ u z. absurd z
flushing_done p m e enqueues h = λ u z. absurd z
flushing_done p m e dequeues h = λ u z. absurd z
flushing_done p m e steps h = λ u z. omega (arith, own_step m e.number (stage m e.number) u z, number_fits p m e h)
flushing_done p m e writes_back h = λ u z. absurd z
flushing_done p m e crashes h = λ u z. absurd z

pub flushing_event : (p : ℕ) (m : Machine) (e : Event) → accepted (event_at p m e).answer ≡ true → Flushing m (event_at p m e).touch
flushing_event p m e a = rw (event_done p m e a) (flushing_done p m e (deed_of e.kind) (event_answer_lem p m e a))
