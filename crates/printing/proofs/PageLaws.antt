-- The lines of a page by their numbers.
use Prim.Native.Nat.{ℕ, suc, ◌+◌, ◌<◌}
use mathlib.Core.Path.{◌≡◌, refl, ap₂, subst, ◌∙◌}
use mathlib.Core.Bool.{true, false}
use mathlib.Core.List.{List, [], ◌∷◌, ◌++◌}
use native.Mathlib.Omega.{arith}
use native.Mathlib.Nat.{add-zero}
use lib.ListN.{length, get_or, length-map, get_or-map}
use Rattle.image.specs.declared.Image.{Image}
use Rattle.image.specs.declared.Content.{Content}
use Rattle.image.specs.declared.Shape.{Shape}
use Rattle.answer.specs.Answers.{accepted}
use Rattle.schedule.specs.Layout.{threads_in, nodes_in, count_in, schedule_shape}
use Rattle.page.specs.Endings.{endings, ending, image_of, choices, product}
use Rattle.page.specs.Refusals.{table_in, page_answer, ending_count}
use Rattle.page.specs.Printed.{ending_line, lines_from, first_line, refused_line, printed}
use Rattle.page.specs.Filled.{lines_on}
use Rattle.moments.proofs.Choices as choosing
use Rattle.printing.proofs.Fittings as fits

-- the lines of a list of images, where f gives the line of each by its number
pub lines_are : (f : ℕ → List ℕ) (d : Image) (l : List Image) (k : ℕ)
    → ((i : ℕ) → i < length l → f (k + i) ≡ ending_line (k + i) (get_or l i d)) → lines_on f k (length l) ≡ lines_from k l
unfolding lines_from
lines_are f d [] k h = fits.on_none f k
lines_are f d (g ∷ l) k h =
    fits.on_cons f k (length l)
    ∙ ap₂ ◌++◌ (subst (λ n. f n ≡ ending_line n g) (add-zero k) (h 0 (omega arith)))
    (lines_are f d l (suc k) (λ i q. let s : k + suc i ≡ suc k + i = omega arith in subst (λ n. f n ≡ ending_line n (get_or l i d)) s (h (suc i) (omega arith))))

-- ---- the page's endings, and the page

pub ending_at : (z : Shape) (table : List (List Content)) (k : ℕ) → get_or (endings z table) k (image_of z []) ≡ ending z table k
unfolding endings ending
ending_at z table k = get_or-map (image_of z) (choices table) k []

pub endings_length : (z : Shape) (lists : List (List Content)) → length (endings z lists) ≡ product lists
unfolding endings
endings_length z lists = length-map (choices lists) (image_of z) ∙ choosing.choices_length lists

pub printed_taken : (s : List ℕ) → accepted (page_answer s) ≡ true
    → printed s ≡ first_line (threads_in s) (nodes_in s) (count_in s) (ending_count s) ++ lines_from 0 (endings (schedule_shape s) (table_in s))
unfolding printed
printed_taken s e = rw (e, printed) refl

pub printed_refused : (s : List ℕ) → accepted (page_answer s) ≡ false → printed s ≡ refused_line (page_answer s)
unfolding printed
printed_refused s e = rw (e, printed) refl
