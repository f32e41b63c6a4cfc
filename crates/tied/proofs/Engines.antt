-- The engine of a form: how many head lines it has, and that the abstract machine's shape says which form it is.
use mathlib.Core.Path.{◌≡◌, refl, sym, ap, ◌∙◌}
use mathlib.Core.Bool.{Bool, true, false}
use mathlib.Core.Logic.{◌⊎◌, inl, inr}
use Prim.Native.Nat.{ℕ}
use native.Mathlib.Omega.{arith}
use lib.Dec.{eqb}
use borrow.Author.Tests.{eqb-true, eqb-false, eq-eqb}
use Rattle.lists.specs.Find.{pick}
use Rattle.image.specs.declared.Shape.{Shape}
use Rattle.image.specs.Form.{known, top_of, per_desk, head_lines, own_threads}
use Rattle.image.specs.Refusals.{agree}
use Rattle.image.proofs.HeadLaws.{lines_desks, lines_one, lines_same}
use Rattle.image.proofs.FormLaws.{known_is, top_long, top_short}
use Rattle.model.specs.Conf as model
use Rattle.model.specs.Conf.{Conf, line_count, line_of}
use Rattle.tied.specs.Shown.{engine_if, conf_of}

pub lines_split : (z : Shape) → per_desk z.form ≡ true → head_lines z ≡ z.t
unfolding per_desk
lines_split z e = sym (lines_desks z (eqb-true z.form 4 e))

pub lines_shared : (z : Shape) → known z.form ≡ true → per_desk z.form ≡ false → head_lines z ≡ 1
unfolding per_desk
lines_shared z k e = sym (lines_one z (eqb-false z.form 4 e) (λ w. by w (known_is z.form k)))
  where
    by : z.form ≡ 3 → (z.form ≡ 1) ⊎ (z.form ≡ 2) ⊎ (z.form ≡ 4) → ⊥
    by w (inl a) = omega (arith, w, a)
    by w (inr (inl a)) = omega (arith, w, a)
    by w (inr (inr a)) = omega (arith, w, a)

-- as many as the abstract machine has
pub lines_shown : (f n t : ℕ) → known f ≡ true → model.head_lines (conf_of f n t) ≡ head_lines (record { form = f; n = n; t = t })
lines_shown f n t k = by (per_desk f) refl
  where
    by : (b : Bool) → per_desk f ≡ b → line_count (engine_if b) t ≡ head_lines (record { form = f; n = n; t = t })
    by true e = sym (lines_split (record { form = f; n = n; t = t }) e)
    by false e = sym (lines_shared (record { form = f; n = n; t = t }) k e)

-- T as an image holds it is the machine's where each desk has a line
own_held : (z : Shape) → per_desk z.form ≡ true → own_threads z ≡ z.t
unfolding per_desk own_threads
own_held z e = rw (eqb-true z.form 4 e)

pub own_agrees : (z : Shape) → agree z.t (record { form = z.form; n = z.n; t = own_threads z }) ≡ true
own_agrees z = by (per_desk z.form) refl
  where
    by : (b : Bool) → per_desk z.form ≡ b → pick b (eqb (own_threads z) z.t) true ≡ true
    by true e = eq-eqb (own_threads z) z.t (own_held z e)
    by false e = refl

-- and an image of that shape has the machine's head lines
pub own_lines : (z : Shape) → head_lines z ≡ head_lines (record { form = z.form; n = z.n; t = own_threads z })
own_lines z = lines_same z.form z.n z.t z.n (own_threads z) (λ e. sym (own_held z e))

-- the line that a thread persists
pub line_of_lem : (b : Bool) (k : ℕ) → line_of (engine_if b) k ≡ pick b k 0
line_of_lem true k = refl
line_of_lem false k = refl

engine_one : (a b : Bool) → engine_if a ≡ engine_if b → a ≡ b
engine_one true true e = refl
engine_one true false e = let z : ◌≡◌ {A = ℕ} 0 1 = cc in absurd (omega arith)
engine_one false true e = let z : ◌≡◌ {A = ℕ} 0 1 = cc in absurd (omega arith)
engine_one false false e = refl

-- the largest index and the engine are of one form that is read
pub same_form : (f g n m t u : ℕ) → known f ≡ true → known g ≡ true → conf_of f n t ≡ conf_of g m u → f ≡ g
unfolding per_desk
same_form f g n m t u k l e = by (known_is f k) (known_is g l) (ap (λ (z : Conf). z.top) e) (engine_one (per_desk f) (per_desk g) (ap (λ (z : Conf). z.engine) e))
  where
    apart : f ≡ 4 → eqb f 4 ≡ eqb g 4 → g ≡ 4
    apart a z = eqb-true g 4 (sym z ∙ ap (λ x. eqb x 4) a)

    turned : g ≡ 4 → eqb f 4 ≡ eqb g 4 → f ≡ 4
    turned a z = eqb-true f 4 (z ∙ ap (λ x. eqb x 4) a)

    by : (f ≡ 1) ⊎ (f ≡ 2) ⊎ (f ≡ 4) → (g ≡ 1) ⊎ (g ≡ 2) ⊎ (g ≡ 4) → top_of f ≡ top_of g → eqb f 4 ≡ eqb g 4 → f ≡ g
    by (inl a) (inl b) h z = a ∙ sym b
    by (inl a) (inr (inl b)) h z = absurd (omega (arith, h, top_short f (λ w. omega (arith, w, a)) (λ w. omega (arith, w, a)), top_long g b))
    by (inl a) (inr (inr b)) h z = turned b z ∙ sym b
    by (inr (inl a)) (inl b) h z = absurd (omega (arith, h, top_long f a, top_short g (λ w. omega (arith, w, b)) (λ w. omega (arith, w, b))))
    by (inr (inl a)) (inr (inl b)) h z = a ∙ sym b
    by (inr (inl a)) (inr (inr b)) h z = turned b z ∙ sym b
    by (inr (inr a)) y h z = a ∙ sym (apart a z)
