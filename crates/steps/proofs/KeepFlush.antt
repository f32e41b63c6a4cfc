-- Every step keeps what 18's test says of flushes: a flush and a fence alone change any of it.
use Prim.Native.Nat.{ℕ, zero, suc, ◌+◌, ◌<◌}
use mathlib.Core.Path.{◌≡◌}
use mathlib.Core.Bool.{Bool, true, false}
use lib.Dec.{eqb, leb}
use Rattle.lists.specs.Find.{pick, both}
use Rattle.image.specs.Form.{top_of, per_desk}
use Rattle.machine.specs.Record.{none, node, thread, head_at, own_node, with_next, with_index, put_node, put_tail, put_head, put_head_node}
use Rattle.machine.specs.Stage.{Stage, no_step, A1, A2, A3, A4, A5, A6, A7, A8, A9, A10, A11, A12, D1, D2, D3, D4, D5, D6, D7, S3, S6, F10, F3, F6, stage}
use Rattle.machine.specs.Line.{own_head}
use Rattle.machine.specs.Flush.{flush, fence}
use Rattle.machine.specs.Retire.{released_at, released, left, freed, retired}
use Rattle.machine.specs.Event.{stepped}
use Rattle.machine.specs.declared.Line.{Line}
use Rattle.machine.specs.declared.Line.TheVariants.{OfHead as of_head, OfNode as of_node}
use Rattle.machine.specs.declared.Machine.{Machine}
use Rattle.machine.specs.declared.Acted.{Acted}
use Rattle.steps.proofs.Fit.{Fit, Narrow, Used}
use Rattle.steps.proofs.Flushes.{Flushes, flushes_flush, flushes_fence}
use Rattle.steps.proofs.KeepIndex.{own_in}

-- ---- answering, retiring, and one of two

flushes_released : (m : Machine) (k c : ℕ) → Flushes m → Flushes (released m k c)
unfolding released released_at
flushes_released m k zero g = g
flushes_released m k (suc c) g = flushes_released m k c g

flushes_left : (m : Machine) (k x : ℕ) → Flushes m → Flushes (left m k x)
flushes_left m k x g = flushes_released m k m.n g

flushes_retired : (m : Machine) (k x : ℕ) → Flushes m → Flushes (retired m k x)
unfolding retired
flushes_retired m k x g = g

either : (b : Bool) (x y : Machine) → Flushes x → Flushes y → Flushes (pick b x y)
either true x y p q = p
either false x y p q = q

either_acted : (b : Bool) (x y : Acted) → Flushes x.machine → Flushes y.machine → Flushes (pick b x y).machine
either_acted true x y p q = p
either_acted false x y p q = q

-- ---- each step

module _ (m : Machine) (k : ℕ) (f : Fit m) (w : Narrow m) (g : Flushes m) (u : Used m k) (l : k < m.t) where
  pub flushes_step : (s : Stage) → stage m k ≡ s → Flushes (stepped m k s).machine
  flushes_step no_step e = g
  flushes_step A1 e = either_acted (eqb m.free 0) _ _ (flushes_left m k (thread m k).held g) g
  flushes_step A2 e = g
  flushes_step A3 e = g
  flushes_step A4 e = g
  flushes_step A5 e = g
  flushes_step A6 e = g
  flushes_step A7 e = either_acted (leb (top_of m.form) (node m (thread m k).tail).index) _ _ (flushes_left (freed m (thread m k).node) k (thread m k).held g) g
  flushes_step A8 e = either_acted (eqb (node m (thread m k).tail).next none) _ _ g g
  flushes_step A9 e = g
  flushes_step A10 e = flushes_flush m k g l (of_node (thread m k).node) f w (u.own_in (rw e))
  flushes_step A11 e = let r = pick (eqb m.tail (thread m k).tail) (put_tail m (thread m k).node) m in flushes_left r k (thread r k).held (either (eqb m.tail (thread m k).tail) (put_tail m (thread m k).node) m g g)
  flushes_step A12 e = either (eqb m.tail (thread m k).tail) (put_tail m (node m (thread m k).tail).next) m g g
  flushes_step D1 e = g
  flushes_step D2 e = g
  flushes_step D3 e = flushes_flush m k g l (of_head (own_head m k)) f w (own_in m k l)
  flushes_step D4 e =
      let d = per_desk m.form in
      either_acted (both (eqb m.head (thread m k).head) (pick d true (eqb (head_at m 0) (thread m k).index))) _ _ (either_acted d _ _ g g) g
  flushes_step D5 e = g
  flushes_step D6 e = flushes_flush m k g l (of_head (own_head m k)) f w (own_in m k l)
  flushes_step D7 e =
      let r = pick (eqb (thread m k).held none) m (retired m k (thread m k).held) in
      flushes_left r k (thread m k).head (either (eqb (thread m k).held none) m (retired m k (thread m k).held) g (flushes_retired m k (thread m k).held g))
  flushes_step S3 e = g
  flushes_step S6 e = g
  flushes_step F10 e = flushes_fence m k g l (of_node (thread m k).node)
  flushes_step F3 e = let r = fence m k (of_head (own_head m k)) in flushes_left r k (thread r k).held (flushes_fence m k g l (of_head (own_head m k)))
  flushes_step F6 e = flushes_fence m k g l (of_head (own_head m k))
