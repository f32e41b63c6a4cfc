-- Every step of a thread, and the begin of an operation: the same in the record and in the core.
use mathlib.Core.Path.{◌≡◌, refl, sym, ap, subst}
use mathlib.Core.Logic.{inl, inr}
use Prim.Native.Nat.{ℕ, ◌≤◌, ◌<◌}
use native.Mathlib.Omega.{arith}
use Rattle.image.specs.declared.Content.{Content}
use Rattle.tied.specs.Memory as memory
use Rattle.machine.specs.Record.{thread}
use Rattle.machine.specs.Stage.{Stage, no_step, A1, A2, A3, A4, A5, A6, A7, A8, A9, A10, A11, A12, D1, D2, D3, D4, D5, D6, D7, S3, S6, F10, F3, F6, stage}
use Rattle.machine.specs.Event.{stepped, begun}
use Rattle.machine.specs.declared.Machine.{Machine}
use Rattle.model.specs.Core.{Core, a1, d1}
use Rattle.model.specs.Changes.{set_th}
use Rattle.model.specs.Steps.{step, does, move}
use Rattle.model.specs.Always.{InRange}
use Rattle.tied.specs.Shown.{thread_of}
use Rattle.tied.proofs.Relation.{step_in_lem, Tied}
use Rattle.tied.proofs.Changes.{move_t}
use Rattle.tied.proofs.Stepping.{StepT, seen}
use Rattle.tied.proofs.Enqueue.{s_a1, s_a2, s_a3, s_a4, s_a5, s_a6, s_a7, s_a8, s_a9, s_a10, s_a11, s_a12, s_f10}
use Rattle.tied.proofs.Dequeue.{s_d1, s_d2, s_d3, s_d4, s_d5, s_d6, s_d7, s_s3, s_s6, s_f3, s_f6}

module _ (p : memory.Line → Content) (m : Machine) (c : Core) (d : Tied p m c) (r : InRange c) (k : ℕ) (hk : k < m.t) where
  step_by : (s : Stage) → stage m k ≡ s → StepT p m (stepped m k s) (step c k (thread_of s (thread m k) (seen p m c d k hk)))
  step_by no_step e = record { tied = d; says = refl; touch = tt }
  step_by A1 e = s_a1 p m c d r k hk e
  step_by A2 e = s_a2 p m c d r k hk e
  step_by A3 e = s_a3 p m c d r k hk e
  step_by A4 e = s_a4 p m c d r k hk e
  step_by A5 e = s_a5 p m c d r k hk e
  step_by A6 e = s_a6 p m c d r k hk e
  step_by A7 e = s_a7 p m c d r k hk e
  step_by A8 e = s_a8 p m c d r k hk e
  step_by A9 e = s_a9 p m c d r k hk e
  step_by A10 e = s_a10 p m c d r k hk e
  step_by A11 e = s_a11 p m c d r k hk e
  step_by A12 e = s_a12 p m c d r k hk e
  step_by D1 e = s_d1 p m c d r k hk e
  step_by D2 e = s_d2 p m c d r k hk e
  step_by D3 e = s_d3 p m c d r k hk e
  step_by D4 e = s_d4 p m c d r k hk e
  step_by D5 e = s_d5 p m c d r k hk e
  step_by D6 e = s_d6 p m c d r k hk e
  step_by D7 e = s_d7 p m c d r k hk e
  step_by S3 e = s_s3 p m c d r k hk e
  step_by S6 e = s_s6 p m c d r k hk e
  step_by F10 e = s_f10 p m c d r k hk e
  step_by F3 e = s_f3 p m c d r k hk e
  step_by F6 e = s_f6 p m c d r k hk e

  -- a thread moves by one step
  pub step_t : StepT p m (stepped m k (stage m k)) (does c (move k))
  step_t = subst (λ s. StepT p m (stepped m k (stage m k)) (step c k s)) (sym (d.threads.at k hk).stage) (step_by (stage m k) refl)

  -- an operation begins
  pub enqueues_t : (v : ℕ) → Tied p (begun m k 1 v) (set_th c k (a1 v))
  enqueues_t v = move_t p m c d k hk (record { step = 1; node = 255; tail = 255; head = 255; index = 0; next = 255; item = v; held = (thread m k).held }) (a1 v) (record {
    seen = 0;
    own = λ e. refl;
    stage = refl;
    holds = (d.threads.at k hk).holds;
    regs = record { step = step_in_lem m.form 1 (omega arith); node = inr refl; tail = inr refl; head = inr refl; next = inr refl; held = (d.threads.at k hk).regs.held; index = omega arith };
  })

  pub dequeues_t : Tied p (begun m k 13 0) (set_th c k d1)
  dequeues_t = move_t p m c d k hk (record { step = 13; node = 255; tail = 255; head = 255; index = 0; next = 255; item = 0; held = (thread m k).held }) d1 (record {
    seen = 0;
    own = λ e. refl;
    stage = refl;
    holds = (d.threads.at k hk).holds;
    regs = record { step = step_in_lem m.form 13 (omega arith); node = inr refl; tail = inr refl; head = inr refl; next = inr refl; held = (d.threads.at k hk).regs.held; index = omega arith };
  })
