-- An ending's image has the shape that its machine has, but for T where an image does not hold it: as many head lines, and as many bytes.
use Prim.Native.Nat.{ℕ, ◌+◌, ◌*◌, ◌≤◌}
use mathlib.Core.Path.{◌≡◌, refl, ap}
use mathlib.Core.Bool.{true}
use mathlib.Core.Logic.{◌⊎◌, inl, inr}
use native.Mathlib.Omega.{arith}
use Rattle.image.specs.Form.{known, Form, plain, wide, pair, desks, form_of, head_count, held_threads, head_lines, own_threads, heads_at, width_of, node_size, header_size, node_place, image_size}
use Rattle.image.specs.declared.Shape.{Shape}
use Rattle.image.proofs.FormLaws.{known_is, place_plain, place_wide, place_desks}
use Rattle.image.proofs.HeadLaws.{lines_desks}

abbrev pub owned : Shape → Shape
owned z = record { form = z.form; n = z.n; t = own_threads z }

pub own_lines : (z : Shape) → head_lines (owned z) ≡ head_lines z
unfolding head_lines own_threads
own_lines z = by (form_of z.form)
  where
    by : (f : Form) → head_count f (held_threads f z.t) ≡ head_count f z.t
    by plain = refl
    by wide = refl
    by pair = refl
    by desks = refl

pub own_size : (z : Shape) → image_size (owned z) ≡ image_size z
unfolding image_size node_place header_size
own_size z = ap (λ (h : ℕ). heads_at z.form + h * width_of z.form + z.n * node_size z.form) (own_lines z)

-- an image has at most 846 bytes
pub size_few : (z : Shape) → known z.form ≡ true → z.n ≤ 64 → head_lines z ≤ 8 → image_size z ≤ 846
unfolding image_size
size_few z k l h = by (known_is z.form k)
  where
    by : (z.form ≡ 1) ⊎ (z.form ≡ 2) ⊎ (z.form ≡ 4) → image_size z ≤ 846
    by (inl e) = omega (arith, place_plain z z.n k (λ q. omega (arith, e, q)) (λ q. omega (arith, e, q)))
    by (inr (inl e)) = omega (arith, place_wide z z.n e)
    by (inr (inr e)) = omega (arith, place_desks z z.n e, lines_desks z e)
