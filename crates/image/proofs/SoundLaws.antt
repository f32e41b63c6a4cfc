-- The refusals 6, 7, 8 and 20 in front of what follows: it follows where they accept, and they stand where they refuse.
use Prim.Native.Nat.{ℕ, ◌≤◌, ◌<◌}
use mathlib.Core.Path.{◌≡◌, refl, sym, ap, ◌∙◌}
use mathlib.Core.Bool.{Bool, true, false}
use native.Mathlib.Omega.{arith}
use borrow.Author.Tests.{ltb-false, le-ltb}
use lib.Dec.{eqb, ltb}
use Rattle.lists.proofs.BoolLaws.{no_way}
use Rattle.lists.specs.Find.{least}
use Rattle.lists.proofs.FindLaws as find
use Rattle.answer.specs.Answers.{check, accepted, Answer, Taken, Linked, Twin, NoDummy, Narrow}
use Rattle.image.specs.declared.Image.{Image}
use Rattle.image.specs.Form.{top_of, head_lines}
use Rattle.image.specs.Layout.{content_at, image_shape, head_in}
use Rattle.image.specs.Recovered.{first_unclear, first_twin, dummy_of, too_wide, head_too_wide, first_too_wide}
use Rattle.image.specs.Refusals.{startable, sound, fitting, whole}

sound_by : (x y z : Bool) (i j : ℕ) (rest : Answer) → accepted (check x (Linked i) (check y (Twin j) (check z NoDummy Taken))) ≡ true
    → check x (Linked i) (check y (Twin j) (check z NoDummy rest)) ≡ rest
sound_by true y z i j rest h = no_way (sym h)
sound_by false true z i j rest h = no_way (sym h)
sound_by false false true i j rest h = no_way (sym h)
sound_by false false false i j rest h = refl

unsound_by : (x y z : Bool) (i j : ℕ) (rest : Answer) → accepted (check x (Linked i) (check y (Twin j) (check z NoDummy Taken))) ≡ false
    → check x (Linked i) (check y (Twin j) (check z NoDummy rest)) ≡ check x (Linked i) (check y (Twin j) (check z NoDummy Taken))
unsound_by true y z i j rest h = refl
unsound_by false true z i j rest h = refl
unsound_by false false true i j rest h = refl
unsound_by false false false i j rest h = no_way h

pub sound_then : (g : Image) (rest : Answer) → accepted (sound g Taken) ≡ true → sound g rest ≡ rest
unfolding sound startable
sound_then g rest h = sound_by (ltb (first_unclear g) g.n) (ltb (first_twin g) g.n) (eqb (dummy_of g) g.n) (first_unclear g) (first_twin g) rest h

pub sound_else : (g : Image) (rest : Answer) → accepted (sound g Taken) ≡ false → sound g rest ≡ sound g Taken
unfolding sound startable
sound_else g rest h = unsound_by (ltb (first_unclear g) g.n) (ltb (first_twin g) g.n) (eqb (dummy_of g) g.n) (first_unclear g) (first_twin g) rest h

-- ---- 20

fitting_by : (x y : Bool) (i j : ℕ) (rest : Answer) → accepted (check x (Narrow i) (check y (Narrow j) Taken)) ≡ true
    → (x ≡ false) × (y ≡ false) × (check x (Narrow i) (check y (Narrow j) rest) ≡ rest)
fitting_by true y i j rest h = no_way (sym h)
fitting_by false true i j rest h = no_way (sym h)
fitting_by false false i j rest h = (refl, refl, refl)

narrow_by : (x y : Bool) (i j : ℕ) (rest : Answer) → accepted (check x (Narrow i) (check y (Narrow j) Taken)) ≡ false
    → check x (Narrow i) (check y (Narrow j) rest) ≡ check x (Narrow i) (check y (Narrow j) Taken)
narrow_by true y i j rest h = refl
narrow_by false true i j rest h = refl
narrow_by false false i j rest h = no_way h

pub fitting_then : (g : Image) (rest : Answer) → accepted (fitting g Taken) ≡ true → fitting g rest ≡ rest
unfolding fitting
fitting_then g rest h = (fitting_by (head_too_wide g) (ltb (first_too_wide g) g.n) g.n (first_too_wide g) rest h).2

pub fitting_else : (g : Image) (rest : Answer) → accepted (fitting g Taken) ≡ false → fitting g rest ≡ fitting g Taken
unfolding fitting
fitting_else g rest h = narrow_by (head_too_wide g) (ltb (first_too_wide g) g.n) g.n (first_too_wide g) rest h

-- every index is at most the largest of the form
pub record Fitting (g : Image) : Type 0 where
  pub head : (k : ℕ) → k < head_lines (image_shape g) → head_in g k ≤ top_of g.form
  pub at : (i : ℕ) → i < g.n → (content_at g.nodes i).index ≤ top_of g.form

pub fitting_is : (g : Image) → accepted (fitting g Taken) ≡ true → Fitting g
unfolding fitting first_too_wide head_too_wide
fitting_is g h =
    let r = fitting_by (head_too_wide g) (ltb (first_too_wide g) g.n) g.n (first_too_wide g) Taken h in
    let all = ltb-false (first_too_wide g) g.n r.1 in
    record {
      head = λ k a. ltb-false (top_of g.form) (head_in g k) (find.any_clear (λ k. too_wide g (head_in g k)) (head_lines (image_shape g)) k r.0 a);
      at = λ i a. ltb-false (top_of g.form) (content_at g.nodes i).index (find.least_clear (λ i. too_wide g (content_at g.nodes i).index) g.n 0 (omega arith) i (omega arith) (omega arith));
    }

-- and where they are, nothing is refused by 20
pub is_fitting : (g : Image) (rest : Answer) → Fitting g → fitting g rest ≡ rest
unfolding fitting first_too_wide head_too_wide
is_fitting g rest f =
    let a = find.any_none (λ k. too_wide g (head_in g k)) (head_lines (image_shape g)) (λ k l. le-ltb (top_of g.form) (head_in g k) (f.head k l)) in
    let b = find.least_none (λ i. too_wide g (content_at g.nodes i).index) g.n 0 (λ i l h. le-ltb (top_of g.form) (content_at g.nodes i).index (f.at i (omega arith))) in
    rw (a, le-ltb (least (λ i. too_wide g (content_at g.nodes i).index) g.n 0) g.n (omega (arith, b)))

-- ---- 6, 7, 8, 20

pub whole_then : (g : Image) (rest : Answer) → accepted (whole g Taken) ≡ true → whole g rest ≡ rest
unfolding whole
whole_then g rest h = by (accepted (sound g Taken)) refl
  where
    by : (b : Bool) → accepted (sound g Taken) ≡ b → sound g (fitting g rest) ≡ rest
    by true e = sound_then g (fitting g rest) e ∙ fitting_then g rest (sym (ap accepted (sound_then g (fitting g Taken) e)) ∙ h)
    by false e = no_way (sym (sym (ap accepted (sound_else g (fitting g Taken) e) ∙ e) ∙ h))

pub whole_else : (g : Image) (rest : Answer) → accepted (whole g Taken) ≡ false → whole g rest ≡ whole g Taken
unfolding whole
whole_else g rest h = by (accepted (sound g Taken)) refl
  where
    by : (b : Bool) → accepted (sound g Taken) ≡ b → sound g (fitting g rest) ≡ sound g (fitting g Taken)
    by true e =
        let f = sound_then g (fitting g Taken) e in
        sound_then g (fitting g rest) e ∙ fitting_else g rest (sym (ap accepted f) ∙ h) ∙ sym f
    by false e = sound_else g (fitting g rest) e ∙ sym (sound_else g (fitting g Taken) e)

-- where 6, 7, 8 refuse, and where they do not
pub whole_unsound : (g : Image) → accepted (sound g Taken) ≡ false → whole g Taken ≡ sound g Taken
unfolding whole
whole_unsound g = sound_else g (fitting g Taken)

pub whole_sound : (g : Image) → accepted (sound g Taken) ≡ true → whole g Taken ≡ fitting g Taken
unfolding whole
whole_sound g = sound_then g (fitting g Taken)

pub record Whole (g : Image) : Type 0 where
  pub sound : accepted (sound g Taken) ≡ true
  pub fits : Fitting g

pub whole_is : (g : Image) → accepted (whole g Taken) ≡ true → Whole g
unfolding whole
whole_is g h = by (accepted (sound g Taken)) refl
  where
    by : (b : Bool) → accepted (sound g Taken) ≡ b → Whole g
    by true e = record { sound = e; fits = fitting_is g (sym (ap accepted (sound_then g (fitting g Taken) e)) ∙ h) }
    by false e = no_way (sym (sym (ap accepted (sound_else g (fitting g Taken) e) ∙ e) ∙ h))
