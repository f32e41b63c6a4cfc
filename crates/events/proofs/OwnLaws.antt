-- T as an image holds it, by the form.
use Prim.Native.Nat.{ℕ, zero, suc}
use mathlib.Core.Path.{◌≡◌, refl}
use mathlib.Core.Logic.{◌≢◌}
use Rattle.image.specs.Form.{form_of, held_threads, own_threads}
use Rattle.image.specs.declared.Shape.{Shape}

pub own_desks : (z : Shape) → z.form ≡ 4 → z.t ≡ own_threads z
unfolding own_threads
own_desks z e = rw e

pub own_none : (z : Shape) → z.form ≢ 4 → 0 ≡ own_threads z
unfolding own_threads
own_none z ne = by z.form ne
  where
    by : (f : ℕ) → f ≢ 4 → 0 ≡ held_threads (form_of f) z.t
    by zero n = refl
    by (suc zero) n = refl
    by (suc (suc zero)) n = refl
    by (suc (suc (suc zero))) n = refl
    by (suc (suc (suc (suc zero)))) n = absurd (n refl)
    by (suc (suc (suc (suc (suc f))))) n = refl
