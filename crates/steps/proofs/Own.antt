-- The persisted image of a machine has the machine's shape: T where the form holds it.
use Prim.Native.Nat.{ℕ}
use mathlib.Core.Path.{◌≡◌, refl}
use mathlib.Core.Bool.{Bool, true, false}
use lib.Dec.{eqb}
use borrow.Author.Tests.{eq-eqb, eqb-true}
use Rattle.lists.specs.Find.{pick}
use Rattle.image.specs.Form.{known, per_desk, head_lines, own_threads}
use Rattle.image.specs.Layout.{image_shape}
use Rattle.image.specs.Refusals.{nodes_fit, threads_fit, own_fit, agree}
use Rattle.image.specs.declared.Shape.{Shape}
use Rattle.image.proofs.HeadLaws.{lines_same}
use Rattle.image.proofs.ShapeLaws.{Shaped}
use Rattle.machine.specs.Line.{shape_of, persisted}
use Rattle.machine.specs.declared.Machine.{Machine}

pub own_threads_lem : (z : Shape) → per_desk z.form ≡ true → own_threads z ≡ z.t
unfolding per_desk own_threads
own_threads_lem z e = rw (eqb-true z.form 4 e)

pub own_lines : (m : Machine) → head_lines (image_shape (persisted m)) ≡ head_lines (shape_of m)
own_lines m = lines_same m.form m.n (own_threads (shape_of m)) m.n m.t (own_threads_lem (shape_of m))

pub own_shaped : (m : Machine) → known m.form ≡ true → nodes_fit m.n ≡ true → threads_fit m.t ≡ true → Shaped m.t (image_shape (persisted m))
own_shaped m k n t = record { form = k; nodes = n; own = own (per_desk m.form) refl; agrees = agrees (per_desk m.form) refl }
  where
    own : (b : Bool) → per_desk m.form ≡ b → pick b (threads_fit (own_threads (shape_of m))) true ≡ true
    own true e = rw (own_threads_lem (shape_of m) e) t
    own false e = refl

    agrees : (b : Bool) → per_desk m.form ≡ b → pick b (eqb (own_threads (shape_of m)) m.t) true ≡ true
    agrees true e = eq-eqb (own_threads (shape_of m)) m.t (own_threads_lem (shape_of m) e)
    agrees false e = refl
