-- The form stays: no event alters it, and a start takes it from the image.
use Prim.Native.Nat.{ℕ, zero, suc, ◌+◌}
use mathlib.Core.Path.{◌≡◌, refl, ap, ◌∙◌}
use mathlib.Core.Bool.{Bool, true, false}
use mathlib.Core.List.{List, [], ◌∷◌}
use lib.Dec.{eqb, leb}
use Rattle.lists.specs.Find.{pick, both}
use Rattle.image.specs.Form.{top_of, per_desk}
use Rattle.machine.specs.Record.{none, node, thread, head_at, put_tail}
use Rattle.image.specs.declared.Shape.{Shape}
use Rattle.machine.specs.Line.{shape_of, line_at, own_head, cached_at, everyone, persist}
use Rattle.machine.specs.Flush.{flush, fence}
use Rattle.machine.specs.declared.Line.{Line}
use Rattle.machine.specs.declared.Line.TheVariants.{OfHead as of_head, OfNode as of_node}
use Rattle.machine.specs.Stage.{Stage, no_step, A1, A2, A3, A4, A5, A6, A7, A8, A9, A10, A11, A12, D1, D2, D3, D4, D5, D6, D7, S3, S6, F10, F3, F6, stage}
use Rattle.machine.specs.Retire.{freed, released_at, released, left, retired, retired_held}
use Rattle.machine.specs.Start.{start_with}
use Rattle.machine.specs.Event.{Deed, unknown, enqueues, dequeues, steps, writes_back, crashes, deed_of, stepped, done}
use Rattle.machine.specs.declared.Machine.{Machine}
use Rattle.machine.specs.declared.Event.{Event}
use Rattle.machine.specs.declared.Acted.{Acted}
use Rattle.schedule.specs.Run.{Bench, run, turned}
use Rattle.moments.proofs.Frame.{keeping_shape, flush_shape, fence_shape}
use Rattle.pageproof.proofs.Events.{onto}
use Rattle.pageproof.proofs.Runs.{Accepts, run_first, run_rest, run_bench, run_nothing}

form_released : (m : Machine) (k c : ℕ) → (released m k c).form ≡ m.form
unfolding released released_at
form_released m k zero = refl
form_released m k (suc c) = form_released m k c

form_left : (m : Machine) (k x : ℕ) → (left m k x).form ≡ m.form
form_left m k x = form_released m k m.n

form_held : (m : Machine) (k : ℕ) (b : Bool) → (pick b m (retired m k (thread m k).held)).form ≡ m.form
unfolding retired
form_held m k true = refl
form_held m k false = refl

form_tail : (m : Machine) (b : Bool) (x : ℕ) → (pick b (put_tail m x) m).form ≡ m.form
form_tail m true x = refl
form_tail m false x = refl

form_pick : (f : ℕ) (b : Bool) (x y : Acted) → x.machine.form ≡ f → y.machine.form ≡ f → (pick b x y).machine.form ≡ f
form_pick f true x y p q = p
form_pick f false x y p q = q

form_persist : (m : Machine) (l : Line) → (persist m l).form ≡ m.form
form_persist m l = ap (λ (z : Shape). z.form) (keeping_shape m l (cached_at m l) (everyone m))

form_flush : (m : Machine) (k : ℕ) (l : Line) → (flush m k l).form ≡ m.form
form_flush m k l = ap (λ (z : Shape). z.form) (flush_shape m k l)

form_fence : (m : Machine) (k : ℕ) (l : Line) → (fence m k l).form ≡ m.form
form_fence m k l = ap (λ (z : Shape). z.form) (fence_shape m k l)

module _ (m : Machine) (k : ℕ) where
  form_step : (s : Stage) → (stepped m k s).machine.form ≡ m.form
  form_step no_step = refl
  form_step A1 = form_pick m.form (eqb m.free 0) _ _ (form_left m k (thread m k).held) refl
  form_step A2 = refl
  form_step A3 = refl
  form_step A4 = refl
  form_step A5 = refl
  form_step A6 = refl
  form_step A7 = form_pick m.form (leb (top_of m.form) (node m (thread m k).tail).index) _ _ (form_left (freed m (thread m k).node) k (thread m k).held) refl
  form_step A8 = form_pick m.form (eqb (node m (thread m k).tail).next none) _ _ refl refl
  form_step A9 = refl
  form_step A10 = form_flush m k (of_node (thread m k).node)
  form_step A11 =
      let b = eqb m.tail (thread m k).tail in
      form_left (pick b (put_tail m (thread m k).node) m) k (thread (pick b (put_tail m (thread m k).node) m) k).held ∙ form_tail m b (thread m k).node
  form_step A12 = form_tail m (eqb m.tail (thread m k).tail) (node m (thread m k).tail).next
  form_step D1 = refl
  form_step D2 = refl
  form_step D3 = form_flush m k (of_head (own_head m k))
  form_step D4 =
      form_pick m.form (both (eqb m.head (thread m k).head) (pick (per_desk m.form) true (eqb (head_at m 0) (thread m k).index))) _ _
      (form_pick m.form (per_desk m.form) _ _ refl refl) refl
  form_step D5 = refl
  form_step D6 = form_flush m k (of_head (own_head m k))
  form_step D7 = form_left (retired_held m k) k (thread m k).head ∙ form_held m k (eqb (thread m k).held none)
  form_step S3 = refl
  form_step S6 = refl
  form_step F10 = form_fence m k (of_node (thread m k).node)
  form_step F3 = let x = fence m k (of_head (own_head m k)) in form_left x k (thread x k).held ∙ form_fence m k (of_head (own_head m k))
  form_step F6 = form_fence m k (of_head (own_head m k))

form_turned : (b : Bench) (e : Event) (d : Deed) → (turned b (done b.machine e d) d).machine.form ≡ b.machine.form
unfolding start_with
form_turned b e unknown = refl
form_turned b e enqueues = refl
form_turned b e dequeues = refl
form_turned b e steps = form_step b.machine e.number (stage b.machine e.number)
form_turned b e writes_back = form_persist b.machine (line_at (shape_of b.machine) e.number)
form_turned b e crashes = refl

pub run_form : (l : List Event) (p : ℕ) (b : Bench) → Accepts p b l → (run p b l).bench.machine.form ≡ b.machine.form
run_form [] p b h = ap (λ (x : Bench). x.machine.form) (run_nothing p b)
run_form (e ∷ l) p b h =
    ap (λ (x : Bench). x.machine.form) (run_bench p b e l (run_first p b e l h))
    ∙ run_form l (suc p) (onto b e) (run_rest p b e l h)
    ∙ form_turned b e (deed_of e.kind)
