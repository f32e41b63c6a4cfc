-- From the code's run to the contents of one line.
use Prim.Native.Nat.{ℕ, ◌+◌, ◌<◌, ◌≤◌}
use mathlib.Core.Path.{◌≡◌, refl, sym, ap, ap₂, ◌∙◌}
use mathlib.Core.Bool.{false}
use mathlib.Core.List.{List, [], ◌++◌}
use native.Mathlib.Omega.{arith}
use lib.ListN.{length, get_or, take, drop}
use lib.Dec.{leb}
use borrow.Author.Tests.{le-leb, lt-leb}
use Rattle.lists.specs.Tab.{front}
use Rattle.lists.proofs.BoolLaws.{yes_of, no_of}
use Rattle.lists.proofs.TabLaws as tabs
use Rattle.answer.specs.Answers.{check, accepted, Taken, Number}
use Rattle.image.specs.Layout.{no_content, content_at}
use Rattle.image.specs.declared.Content.{Content}
use Rattle.machine.specs.Line.{shape_of, line_count}
use Rattle.machine.specs.declared.Machine.{Machine}
use Rattle.schedule.specs.Run.{ran}
use Rattle.page.specs.Refusals.{table_in, page_answer}
use Rattle.endtable.specs.Tables.{Held}
use Rattle.moments.proofs.Moments as moments
use Rattle.endtable.specs.Rows.{no_row}
use Rattle.pages.specs.Lines.{line_answer, line_in, line_shown, blank_row, first_of, sixteen}
use Rattle.runs.specs.Paged.{PageTaken}
use Rattle.runs.specs.declared.running.Run.{Run}
use Rattle.runs.proofs.RowLaws.{at_of, count_of_lem}
use Rattle.runs.proofs.PageLaws as pages

-- ---- the first contents, copied

pub length_blank : length blank_row ≡ 16
unfolding blank_row
length_blank = refl

first_none : (c : List Content) → blank_row ≡ first_of c 0
unfolding first_of
first_none c = tabs.front_none (content_at c) blank_row

pub first_copied : (c : List Content) (n : ℕ) → n ≤ length c → take n c ++ drop n blank_row ≡ first_of c n
unfolding first_of front
first_copied c n h =
    ap (λ (x : List Content). x ++ drop n blank_row)
    (tabs.take_drop_tab c no_content 0 n (omega arith) ∙ tabs.tab_same (λ j. content_at c (0 + j)) (content_at c) n (λ j q. ap (content_at c) (let e : 0 + j ≡ j = omega arith in e)))

-- ---- a refusal has no contents

module _ (s : List ℕ) (l : ℕ) where
  pub line_refused : accepted (page_answer s) ≡ false → page_answer s ≡ line_answer s l
  unfolding line_answer
  line_refused h = sym (no_of _ (page_answer s) (accepted (page_answer s)) h)

  module _ (h : accepted (line_answer s l) ≡ false) where
    pub no_contents_lem : line_in s l ≡ []
    unfolding line_in
    no_contents_lem = rw h

    pub no_count : 0 ≡ length (line_in s l)
    no_count = ap length (sym no_contents_lem)

    pub no_row_lem : blank_row ≡ sixteen (line_in s l)
    no_row_lem = first_none [] ∙ ap sixteen (sym no_contents_lem)

-- ---- a line that is there

module _ (s : List ℕ) (r : Run) (t : PageTaken s r) (l : ℕ) where
  lines_are : length (table_in s) ≡ line_count (shape_of r.machine)
  unfolding table_in
  lines_are = moments.table_length (ran s).bench ∙ sym (ap (λ (m : Machine). line_count (shape_of m)) t.machine)

  tests : line_answer s l ≡ check (leb (length (table_in s)) l) (Number 0) Taken
  unfolding line_answer
  tests = yes_of _ (page_answer s) (accepted (page_answer s)) (pages.page_yes s r t)

  pub line_none : line_count (shape_of r.machine) ≤ l → Number 0 ≡ line_answer s l
  line_none h = sym (tests ∙ rw (le-leb (length (table_in s)) l (omega (arith, lines_are))))

  module _ (h : l < line_count (shape_of r.machine)) where
    pub line_taken : Taken ≡ line_answer s l
    line_taken = sym (tests ∙ rw (lt-leb (length (table_in s)) l (omega (arith, lines_are))))

    held : Held (get_or r.rows l no_row).at (get_or r.rows l no_row).count (get_or (table_in s) l [])
    held = rw (← at_of r.rows l, ← count_of_lem r.rows l) (t.tables.held l (omega (arith, lines_are)))

    line_is : line_in s l ≡ get_or (table_in s) l []
    unfolding line_in
    line_is = rw (← line_taken)

    -- at most sixteen, since the page is not refused
    pub line_few : (get_or r.rows l no_row).count ≤ 16
    line_few = omega (arith, count_of_lem r.rows l, (pages.page_ready s r t).1 l h)

    pub line_count_lem : (get_or r.rows l no_row).count ≡ length (line_in s l)
    line_count_lem = omega (arith, held.counted, line_few, ap length line_is)

    pub line_row : first_of (get_or r.rows l no_row).at (get_or r.rows l no_row).count ≡ sixteen (line_in s l)
    unfolding first_of
    line_row =
        tabs.front_same (content_at (get_or r.rows l no_row).at) (content_at (get_or (table_in s) l [])) (get_or r.rows l no_row).count blank_row
        (λ j q. held.same j (omega (arith, line_few)) (omega (arith, line_count_lem, ap length line_is)))
        ∙ ap (λ (n : ℕ). front (content_at (get_or (table_in s) l [])) n blank_row) line_count_lem
        ∙ ap (λ (c : List Content). front (content_at c) (length (line_in s l)) blank_row) (sym line_is)

    pub line_shows : record { count = (get_or r.rows l no_row).count; contents = first_of (get_or r.rows l no_row).at (get_or r.rows l no_row).count } ≡ line_shown s l
    line_shows = ap₂ (λ (n : ℕ) (c : List Content). record { count = n; contents = c }) line_count_lem line_row
