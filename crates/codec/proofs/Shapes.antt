-- What a shape fixes of an image's bytes: the mark, where the head lines stand, the size; and the shape that bytes have.
use Prim.Native.Nat.{ℕ, zero, suc, ◌+◌, ◌*◌, ◌≤◌, ◌<◌}
use mathlib.Core.Path.{◌≡◌, refl, sym, ap, ◌∙◌}
use mathlib.Core.Bool.{true}
use mathlib.Core.List.{List, [], ◌∷◌}
use mathlib.Core.Logic.{◌≢◌}
use native.Mathlib.Omega.{arith}
use native.Mathlib.Nat.{add-mul, one-mul, mul-le-mul_right}
use lib.ListN.{length}
use Rattle.image.specs.Bytes.{at1}
use Rattle.image.specs.Form.{Form, plain, wide, pair, desks, form_of, known, held_threads, thread_bytes, letter, version}
use Rattle.image.specs.Form.{width_of, heads_at, node_size, head_lines, own_threads, header_size, node_place, image_size, per_desk}
use Rattle.image.specs.Layout.{form_in, shape_in, mark_bytes}
use Rattle.image.specs.Refusals.{own_fit}
use Rattle.image.specs.declared.Shape.{Shape}
use Rattle.image.proofs.FormLaws.{by_form, place_most}
use Rattle.image.proofs.HeadLaws.{lines_same}

-- ---- the shape that bytes have

pub form_of_lem : (s : List ℕ) → (shape_in s).form ≡ form_in s
unfolding shape_in
form_of_lem s = refl

pub nodes_of : (s : List ℕ) → (shape_in s).n ≡ at1 s 5
unfolding shape_in
nodes_of s = refl

held_none : (f : Form) → held_threads f 0 ≡ 0
held_none plain = refl
held_none wide = refl
held_none pair = refl
held_none desks = refl

held_twice : (f : Form) (t : ℕ) → held_threads f (held_threads f t) ≡ held_threads f t
held_twice plain t = refl
held_twice wide t = refl
held_twice pair t = refl
held_twice desks t = refl

-- T is in "UQP" alone
held_other : (f t : ℕ) → f ≢ 4 → 0 ≡ held_threads (form_of f) t
held_other zero t a = refl
held_other (suc zero) t a = refl
held_other (suc (suc zero)) t a = refl
held_other (suc (suc (suc zero))) t a = refl
held_other (suc (suc (suc (suc zero)))) t a = absurd (a refl)
held_other (suc (suc (suc (suc (suc f))))) t a = refl

-- the shape as the code finds it
pub shape_desks : (s : List ℕ) (f : ℕ) → f ≡ form_in s → f ≡ 4 → record { form = f; n = at1 s 5; t = at1 s 6 } ≡ shape_in s
unfolding shape_in
shape_desks s f e h = rw (← e, h)

pub shape_other : (s : List ℕ) (f : ℕ) → f ≡ form_in s → f ≢ 4 → record { form = f; n = at1 s 5; t = 0 } ≡ shape_in s
unfolding shape_in
shape_other s f e h = rw (← e, ← held_other f (at1 s 6) h)

-- there is no T in fewer than seven bytes
pub shape_short : (s : List ℕ) → at1 s 6 ≡ 0 → 0 ≡ (shape_in s).t
unfolding shape_in
shape_short s e = sym (ap (held_threads (form_of (form_in s))) e ∙ held_none (form_of (form_in s)))

-- it is held as it was read
pub own_in : (s : List ℕ) → own_threads (shape_in s) ≡ (shape_in s).t
unfolding own_threads shape_in
own_in s = held_twice (form_of (form_in s)) (at1 s 6)

-- ---- the mark

pub mark_desks : (z : Shape) → z.form ≡ 4 → mark_bytes z ≡ 85 ∷ 81 ∷ 80 ∷ 1 ∷ 0 ∷ z.n ∷ z.t ∷ []
unfolding mark_bytes
mark_desks z e = rw e

pub mark_plain : (z : Shape) → known z.form ≡ true → z.form ≢ 4 → mark_bytes z ≡ 85 ∷ 81 ∷ 73 ∷ z.form ∷ 0 ∷ z.n ∷ []
unfolding mark_bytes
mark_plain z k ne =
    by_form
    (λ f. f ≢ 4 → 85 ∷ 81 ∷ letter (form_of f) ∷ version (form_of f) ∷ 0 ∷ z.n ∷ thread_bytes (form_of f) z.t ≡ 85 ∷ 81 ∷ 73 ∷ f ∷ 0 ∷ z.n ∷ [])
    z.form
    k
    (λ a. refl)
    (λ a. refl)
    (λ a. absurd (a refl))
    ne

pub mark_length : (z : Shape) → known z.form ≡ true → length (mark_bytes z) ≡ heads_at z.form
unfolding mark_bytes heads_at
mark_length z k =
    by_form
    (λ f. length (85 ∷ 81 ∷ letter (form_of f) ∷ version (form_of f) ∷ 0 ∷ z.n ∷ thread_bytes (form_of f) z.t) ≡ heads_at f)
    z.form
    k
    refl
    refl
    refl

-- ---- where head line k begins

pub line_wide : (f k : ℕ) → f ≡ 2 → 6 + k * 8 ≡ heads_at f + k * width_of f
unfolding heads_at width_of
line_wide f k e = rw e

pub line_desks : (f k : ℕ) → f ≡ 4 → 7 + k * 4 ≡ heads_at f + k * width_of f
unfolding heads_at width_of
line_desks f k e = rw e

pub line_plain : (f k : ℕ) → known f ≡ true → f ≢ 2 → f ≢ 4 → 6 + k * 4 ≡ heads_at f + k * width_of f
unfolding heads_at width_of
line_plain f k h =
    by_form (λ f. f ≢ 2 → f ≢ 4 → 6 + k * 4 ≡ heads_at f + k * width_of f) f h (λ a b. refl) (λ a b. absurd (a refl)) (λ a b. absurd (b refl))

pub line_within : (z : Shape) (k : ℕ) → k < head_lines z → heads_at z.form + k * width_of z.form + width_of z.form ≤ header_size z
unfolding header_size
line_within z k h =
    let w = width_of z.form in
    let e : (k + 1) * w ≤ head_lines z * w = mul-le-mul_right w (omega arith) in
    omega (arith, add-mul k 1 w, one-mul w, e)

-- ---- the size

pub size_from : (z : Shape) → image_size z ≡ header_size z + z.n * (node_size z.form)
unfolding image_size node_place
size_from z = refl

pub size_place : (z : Shape) → image_size z ≡ node_place z z.n
unfolding image_size
size_place z = refl

pub size_most : (z : Shape) → known z.form ≡ true → z.n ≤ 64 → own_fit z ≡ true → (10 ≤ image_size z) × (image_size z ≤ 846)
unfolding image_size
size_most z k l o = place_most z z.n k l o

-- it goes by the form and N, and by T where each desk has a line
pub size_same : (f n t u : ℕ) → (per_desk f ≡ true → t ≡ u) → image_size (record { form = f; n = n; t = t }) ≡ image_size (record { form = f; n = n; t = u })
unfolding image_size node_place header_size
size_same f n t u h = rw (lines_same f n t n u h)

pub heads_desks : (f : ℕ) → f ≡ 4 → heads_at f ≡ 7
unfolding heads_at
heads_desks f e = rw e
