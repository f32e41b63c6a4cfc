-- The lines of the code's table are the lines of the page.
use Prim.Native.Nat.{ℕ, zero, suc, ◌+◌, ◌<◌}
use mathlib.Core.Path.{◌≡◌, ap, ap₂, subst, ◌∙◌}
use mathlib.Core.List.{List}
use native.Mathlib.Omega.{arith}
use native.Mathlib.Numerals.{add-one}
use Rattle.image.specs.declared.Content.{Content}
use Rattle.machine.specs.Line.{shape_of}
use Rattle.schedule.specs.Layout.{threads_in, count_in}
use Rattle.page.specs.Printed.{first_line, ending_line}
use Rattle.page.specs.Refusals.{ending_count}
use Rattle.page.specs.Filled.{page_line}
use Rattle.endtable.specs.Picks.{ending_from}
use Rattle.printing.specs.Lines.{line_from}
use Rattle.runs.specs.Rows.{ats_of, counts_of}
use Rattle.runs.specs.Paged.{PageTaken}
use Rattle.runs.specs.declared.running.Run.{Run}
use Rattle.runs.proofs.PageLaws as laws
use Rattle.filling.specs.Lines.{table_line}
use Rattle.filling.proofs.Lined.{Lined, lined_same}
use Rattle.filling.proofs.Numbers as numbers

module _ (s : List ℕ) (r : Run) (p : PageTaken s r) where
  abbrev t : List (List Content)
  t = ats_of r.rows

  abbrev cs : List ℕ
  cs = counts_of r.rows

  pub line_is : (i : ℕ) → i < suc (ending_count s) → table_line t cs (shape_of r.machine) (threads_in s) (count_in s) (ending_count s) i ≡ page_line s i
  unfolding table_line page_line line_from ending_from
  line_is zero h = ap (λ (n : ℕ). first_line (threads_in s) n (count_in s) (ending_count s)) (numbers.page_nodes s r p)
  line_is (suc k) h =
      ap (ending_line k) (laws.page_ending s r p k (omega arith))

  pub page_lined : (t' : List (List Content)) (cs' : List ℕ) (threads events count : ℕ)
      → t' ≡ t → cs' ≡ cs → threads ≡ threads_in s → events ≡ count_in s → count ≡ ending_count s
      → (b : List ℕ) (k room : ℕ) (m : List ℕ) (n q : ℕ)
      → Lined (table_line t' cs' (shape_of r.machine) threads events count) b 0 k (count + 1) room m n q → Lined (page_line s) b 0 k (suc (ending_count s)) room m n q
  page_lined t' cs' threads events count e₁ e₂ e₃ e₄ e₅ b k room m n q x =
      lined_same (table_line t cs (shape_of r.machine) (threads_in s) (count_in s) (ending_count s)) (page_line s) b 0 k (suc (ending_count s)) room m n q line_is
      (subst (λ c. Lined (table_line t cs (shape_of r.machine) (threads_in s) (count_in s) (ending_count s)) b 0 k c room m n q) (ap (λ x. x + 1) e₅ ∙ add-one (ending_count s))
      (subst (λ f. Lined f b 0 k (count + 1) room m n q) same x))
    where
      same : table_line t' cs' (shape_of r.machine) threads events count ≡ table_line t cs (shape_of r.machine) (threads_in s) (count_in s) (ending_count s)
      same =
          ap (λ z. table_line z cs' (shape_of r.machine) threads events count) e₁
          ∙ ap (λ z. table_line t z (shape_of r.machine) threads events count) e₂
          ∙ ap (λ z. table_line t cs (shape_of r.machine) z events count) e₃
          ∙ ap₂ (λ y z. table_line t cs (shape_of r.machine) (threads_in s) y z) e₄ e₅
