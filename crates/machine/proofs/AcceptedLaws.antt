-- What an accepted start knows of its image and of T. Assumes nothing.
use Prim.Native.Nat.{ℕ, ◌≤◌, ◌<◌}
use mathlib.Core.Path.{◌≡◌, refl, sym, ◌∙◌}
use mathlib.Core.Bool.{Bool, true, false, not}
use mathlib.Core.Logic.{◌≢◌}
use native.Mathlib.Omega.{arith}
use borrow.Author.Tests.{ltb-false, eqb-false, eq-eqb, not-true, not-false}
use lib.Dec.{eqb, ltb}
use Rattle.lists.proofs.BoolLaws.{no_way}
use Rattle.lists.proofs.FindLaws as find
use Rattle.answer.specs.Answers.{check, accepted, Taken, Threads, Linked, Twin, NoDummy}
use Rattle.image.specs.declared.Image.{Image}
use Rattle.image.specs.Layout.{content_at, image_shape}
use Rattle.image.specs.Recovered.{recovered_at, twins, has_twin, first_unclear, first_twin, dummy_of}
use Rattle.image.specs.Form.{known}
use Rattle.image.specs.Refusals.{threads_fit, shape_answer, startable, sound, whole}
use Rattle.image.proofs.ShapeLaws.{Shaped, shape_is, nodes_range, threads_range}
use Rattle.image.proofs.SoundLaws.{Fitting, whole_then, whole_is}
use Rattle.machine.specs.Start.{start_answer}
use Rattle.machine.proofs.AnswerLaws.{answer_whole}
use Rattle.machine.proofs.TableLaws.{dummy_le}

-- ---- the answer is Taken

tests : (u w z : Bool) (i j : ℕ) → accepted (check u (Linked i) (check w (Twin j) (check z NoDummy Taken))) ≡ true
    → (u ≡ false) × (w ≡ false) × (z ≡ false)
tests true w z i j e = no_way (sym e)
tests false true z i j e = no_way (sym e)
tests false false true i j e = no_way (sym e)
tests false false false i j e = (refl, refl, refl)

pub passed : (g : Image) (t : ℕ) → accepted (start_answer g t) ≡ true
    → (threads_fit t ≡ true) × Shaped t (image_shape g) × (accepted (whole g Taken) ≡ true)
unfolding start_answer
passed g t e = by (threads_fit t) refl e
  where
    by : (b : Bool) → threads_fit t ≡ b → accepted (check (not b) Threads (shape_answer t (image_shape g) (whole g Taken))) ≡ true
        → (threads_fit t ≡ true) × Shaped t (image_shape g) × (accepted (whole g Taken) ≡ true)
    by false f h = no_way (sym h)
    by true f h = let r = shape_is t (image_shape g) (whole g Taken) h in (f, r.0, r.1)

-- an accepted start is Taken
pub taken_start : (g : Image) (t : ℕ) → accepted (start_answer g t) ≡ true → start_answer g t ≡ Taken
taken_start g t e = let r = passed g t e in answer_whole g t r.0 r.1 ∙ whole_then g Taken r.2

-- in the words of the refusals: T and N in range, a form that is read, no unclear linked byte, no twins, a node for the dummy, every index
-- within the form's width
pub record Accepted (g : Image) (t : ℕ) : Type 0 where
  pub threads : (1 ≤ t) × (t ≤ 8)
  pub form : known g.form ≡ true
  pub shaped : Shaped t (image_shape g)
  pub nodes : (2 ≤ g.n) × (g.n ≤ 64)
  pub fits : Fitting g
  pub clear : (i : ℕ) → i < g.n → (content_at g.nodes i).linked ≤ 1
  pub single : (i j : ℕ) → i < g.n → j < i → recovered_at g i ≡ true → recovered_at g j ≡ true → (content_at g.nodes i).index ≢ (content_at g.nodes j).index
  pub dummy : dummy_of g < g.n

no_twins : (g : Image) → g.n ≤ first_twin g → (i j : ℕ) → i < g.n → j < i → twins g i j ≡ false
unfolding first_twin has_twin
no_twins g h i j a b = find.any_clear (twins g i) i j (find.least_clear (has_twin g) g.n 0 (omega arith) i (omega arith) (omega arith)) b

twin_free : (g : Image) (i j : ℕ) → twins g i j ≡ false → recovered_at g i ≡ true → recovered_at g j ≡ true → (content_at g.nodes i).index ≢ (content_at g.nodes j).index
unfolding twins
twin_free g i j e p q s =
    let x : eqb (content_at g.nodes i).index (content_at g.nodes j).index ≡ false = rw (p, q) at e in
    no_way (sym (eq-eqb (content_at g.nodes i).index (content_at g.nodes j).index s) ∙ x)

clear_at : (g : Image) → g.n ≤ first_unclear g → (i : ℕ) → i < g.n → (content_at g.nodes i).linked ≤ 1
unfolding first_unclear
clear_at g h i a =
    ltb-false 1 (content_at g.nodes i).linked
    (find.least_clear (λ i. ltb 1 (content_at g.nodes i).linked) g.n 0 (omega arith) i (omega arith) (omega arith))

pub accepted_start : (g : Image) (t : ℕ) → accepted (start_answer g t) ≡ true → Accepted g t
unfolding sound startable
accepted_start g t e =
    let p = passed g t e in
    let w = whole_is g p.2 in
    let r = tests (ltb (first_unclear g) g.n) (ltb (first_twin g) g.n) (eqb (dummy_of g) g.n) (first_unclear g) (first_twin g) w.sound in
    let ne = eqb-false (dummy_of g) g.n r.2 in
    record {
      threads = threads_range t p.0;
      form = p.1.form;
      shaped = p.1;
      nodes = nodes_range g.n p.1.nodes;
      fits = w.fits;
      clear = clear_at g (ltb-false (first_unclear g) g.n r.0);
      single = λ i j a b. twin_free g i j (no_twins g (ltb-false (first_twin g) g.n r.1) i j a b);
      dummy = omega (arith, dummy_le g, ne);
    }

-- "The lowest-numbered node that is not recovered becomes the dummy"
pub dummy_spare : (g : Image) → dummy_of g < g.n → recovered_at g (dummy_of g) ≡ false
unfolding dummy_of
dummy_spare g h = not-true (recovered_at g (dummy_of g)) (find.least_found (λ i. not (recovered_at g i)) g.n 0 (omega arith))

pub dummy_lowest : (g : Image) (j : ℕ) → j < dummy_of g → recovered_at g j ≡ true
unfolding dummy_of
dummy_lowest g j h = not-false (recovered_at g j) (find.least_before (λ i. not (recovered_at g i)) g.n 0 j (omega arith) h)
