-- The parts of a page, as the printer hands them on.
use Prim.Native.Nat.{ℕ, suc, ◌+◌, ◌-◌, ◌*◌, ◌≤◌, ◌<◌}
use mathlib.Core.Path.{◌≡◌, refl, sym, ap, ap₂, ◌∙◌}
use mathlib.Core.List.{List, [], ◌∷◌, ◌++◌}
use native.Mathlib.Omega.{arith}
use native.Mathlib.Numerals.{add-one}
use lib.ListN.{length, take, drop, length-append}
use Rattle.lists.specs.Tab.{over}
use Rattle.image.specs.declared.Content.{Content}
use Rattle.machine.specs.Line.{shape_of}
use Rattle.schedule.specs.Layout.{threads_in, count_in}
use Rattle.page.specs.Printed.{printed}
use Rattle.page.specs.Refusals.{ending_count}
use Rattle.page.specs.Filled.{lines_on, fitting, page_line}
use Rattle.printing.proofs.Fittings as fits
use Rattle.printing.proofs.Written as written
use Rattle.runs.specs.Rows.{ats_of, counts_of}
use Rattle.runs.specs.Paged.{PageTaken}
use Rattle.runs.specs.declared.running.Run.{Run}
use Rattle.filling.specs.Lines.{table_line}
use Rattle.filling.proofs.Numbers as numbers
use Rattle.filling.proofs.Tables as tables
use Rattle.filling.proofs.Joined as joins
use Rattle.printer.specs.Parts.{NextPart}

take_front : (y z : List ℕ) → take (length y) (y ++ z) ≡ y
take_front [] z = refl
take_front (v ∷ y) z = ap (λ r. v ∷ r) (take_front y z)

drop_front : (x y : List ℕ) → drop (length x) (x ++ y) ≡ y
drop_front [] y = refl
drop_front (v ∷ x) y = drop_front x y

-- y written to the front of b is the next part of a text where it stands behind the bytes that are written
pub part_next : (t x y z b m : List ℕ) (done n : ℕ) → t ≡ x ++ (y ++ z) → done ≡ length x → n ≡ 0 + length y → length y ≤ length b → m ≡ over b 0 y
    → done + n < 18446744073709551616 → NextPart t done m n
part_next t x y z b m done n e d q h g l =
    let n' : n ≡ length y = omega (arith, q) in
    let o = ap₂ take n' (ap₂ drop d e ∙ drop_front x (y ++ z)) ∙ take_front y z in (
      omega (arith, n', h, written.same_room b 0 y g),
      omega (arith, n', d, ap length e, length-append x (y ++ z), length-append y z),
      written.front_is b n m y h q g ∙ sym o,
      l,
    )

-- ---- lines

-- those before, those from `next` to `to`, those behind
pub lines_parted : (f : ℕ → List ℕ) (next to last : ℕ) → next ≤ to → to ≤ last
    → lines_on f 0 last ≡ lines_on f 0 next ++ (lines_on f next (to - next) ++ lines_on f to (last - to))
lines_parted f next to last h g =
    let a : last ≡ next + (last - next) = omega arith in
    let b : last - next ≡ (to - next) + (last - to) = omega arith in
    let c : next + (to - next) ≡ to = omega arith in
    let z : 0 + next ≡ next = omega arith in
    ap (lines_on f 0) a
    ∙ fits.on_join f 0 next (last - next)
    ∙ ap (λ n. lines_on f 0 next ++ lines_on f n (last - next)) z
    ∙ ap (λ n. lines_on f 0 next ++ lines_on f next n) b
    ∙ ap (λ r. lines_on f 0 next ++ r) (fits.on_join f next (to - next) (last - to) ∙ ap (λ n. lines_on f next (to - next) ++ lines_on f n (last - to)) c)

pub lines_length : (f : ℕ → List ℕ) (next to : ℕ) → next ≤ to → length (lines_on f 0 to) ≡ length (lines_on f 0 next) + length (lines_on f next (to - next))
lines_length f next to h =
    let z : to - to ≡ 0 = omega arith in
    omega (
      arith,
      ap length (lines_parted f next to to h (omega arith)),
      length-append (lines_on f 0 next) (lines_on f next (to - next) ++ lines_on f to (to - to)),
      length-append (lines_on f next (to - next)) (lines_on f to (to - to)),
      ap (λ n. length (lines_on f to n)) z,
      ap length (fits.on_none f to),
    )

-- a buffer b that is filled with the lines from `next` on, up to line `to`, and is m then, holds the next part of a text of count + 1 lines
pub lines_next : (f : ℕ → List ℕ) (t b m : List ℕ) (count next to place done : ℕ)
    → lines_on f 0 (count + 1) ≡ t
    → to ≡ next + fitting f next (count + 1 - next) (length b) → place ≡ length (lines_on f next (to - next)) → m ≡ over b 0 (lines_on f next (to - next))
    → next ≤ count → count ≤ 65536 → length b ≤ 65536 → done ≡ length (lines_on f 0 next) → done ≤ next * 65536
    → NextPart t done m place × (done + place ≡ length (lines_on f 0 to)) × (place ≤ 65536) × (to ≤ count + 1)
lines_next f t b m count next to place done e g q h k l r d u =
    let c : to - next ≡ fitting f next (count + 1 - next) (length b) = omega (arith, g) in
    let w : length (lines_on f next (to - next)) ≤ length b = omega (arith, ap (λ n. length (lines_on f next n)) c, fits.fit_within f (count + 1 - next) next (length b)) in
    let v : to ≤ count + 1 = omega (arith, g, fits.fit_few f (count + 1 - next) next (length b)) in
    let x : next ≤ to = omega (arith, g) in (
      part_next t (lines_on f 0 next) (lines_on f next (to - next)) (lines_on f to (count + 1 - to)) b m done place
          (sym e ∙ lines_parted f next to (count + 1) x v) d (omega (arith, q)) w h (omega (arith, q, w, u, k, l, r)),
      omega (arith, lines_length f next to x, d, q),
      omega (arith, q, w, r),
      v,
    )

-- ---- the lines of the code's table are the page

module _ (s : List ℕ) (r : Run) (p : PageTaken s r) where
  pub page_is : (t : List (List Content)) (cs : List ℕ) (threads events count : ℕ)
      → t ≡ ats_of r.rows → cs ≡ counts_of r.rows → threads ≡ threads_in s → events ≡ count_in s → count ≡ ending_count s
      → lines_on (table_line t cs (shape_of r.machine) threads events count) 0 (count + 1) ≡ printed s
  page_is t cs threads events count e₁ e₂ e₃ e₄ e₅ =
      ap₂ (λ x y. lines_on (table_line x y (shape_of r.machine) threads events count) 0 (count + 1)) e₁ e₂
      ∙ ap₂ (λ x y. lines_on (table_line (ats_of r.rows) (counts_of r.rows) (shape_of r.machine) x y count) 0 (count + 1)) e₃ e₄
      ∙ ap (λ x. lines_on (table_line (ats_of r.rows) (counts_of r.rows) (shape_of r.machine) (threads_in s) (count_in s) x) 0 (x + 1)) e₅
      ∙ ap (lines_on (table_line (ats_of r.rows) (counts_of r.rows) (shape_of r.machine) (threads_in s) (count_in s) (ending_count s)) 0) (add-one (ending_count s))
      ∙ fits.on_same _ (page_line s) (suc (ending_count s)) 0 0 (λ i q. tables.line_is s r p (0 + i) (omega arith))
      ∙ joins.page_lines s (numbers.page_yes s r p)
