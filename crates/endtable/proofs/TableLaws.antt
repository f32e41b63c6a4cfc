-- The code's table stands for the bench's lists: after a start, and after each event.
use Prim.Native.Nat.{ℕ, ◌≤◌, ◌<◌}
use mathlib.Core.Path.{◌≡◌, refl, sym, ap, subst, ◌∙◌}
use mathlib.Core.Bool.{Bool, true, false}
use mathlib.Core.List.{List, []}
use native.Mathlib.Omega.{arith}
use native.Mathlib.Decide.{ℕ_discrete}
use lib.ListN.{length, get_or, set, length-set}
use lib.Seq.{get_or-set_same, get_or-set_other}
use lib.Dec.{ltb}
use borrow.Author.Tests.{ltb-true, ltb-false}
use Rattle.lists.specs.Find.{pick}
use Rattle.lists.specs.Word.{has}
use Rattle.lists.proofs.BoolLaws.{false_true}
use Rattle.lists.specs.Tab.{front}
use Rattle.lists.proofs.TabLaws as tabs
use Rattle.image.specs.declared.Content.{Content}
use Rattle.machine.specs.Line.{shape_of, line_count, line_at, number_of, cached_at, persisted_at, over_at}
use Rattle.machine.specs.declared.Line.{Line}
use Rattle.machine.specs.declared.Machine.{Machine}
use Rattle.image.specs.Form.{head_lines}
use Rattle.image.specs.declared.Shape.{Shape}
use Rattle.machine.proofs.LineLaws.{LineIn, line_in, number_line}
use Rattle.schedule.specs.Run.{Bench, begins, goes_on}
use Rattle.page.specs.Contents.{contents_of, table_of}
use Rattle.machine.specs.declared.Touch.{Touch}
use Rattle.machine.specs.declared.Touch.TheVariants.{Nothing as nothing, Store as a_store, Persist as a_persist, Flush as a_flush, Fence as a_fence}
use Rattle.endtable.specs.Rows.{row_after, count_after, no_row}
use Rattle.endtable.specs.Touched.{Touched, touched_row}
use Rattle.endtable.specs.Opened.{blank_table, blank_counts, line_opened, line_counted, opened_table, opened_counts}
use Rattle.endtable.specs.Tables.{Held, Tables, over_line, table_after, counts_after}
use Rattle.endtable.specs.Benches.{Sinces}
use Rattle.endtable.specs.declared.row.Row.{Row}
use Rattle.moments.specs.Frame.{StoresTo, Persists, FencesTo, Even, Frame}
use Rattle.endtable.proofs.RowLaws as rows
use Rattle.endtable.proofs.Openings as openings
use Rattle.moments.proofs.Moments as moments
use Rattle.moments.proofs.Steps as steps
use Rattle.moments.proofs.Frame as frame
use Rattle.moments.proofs.Waiting.{Fencing}
use Rattle.moments.proofs.Known.{Known}
use Rattle.endtable.proofs.Flushing.{Flushing}
use Rattle.endtable.proofs.SinceLaws as sinces

-- ---- a start

pub tables_begin : (m : Machine) → m.n ≤ 64 → head_lines (shape_of m) ≤ 8 → Tables (opened_table m (line_count (shape_of m))) (opened_counts m (line_count (shape_of m))) (table_of (begins m))
unfolding opened_table opened_counts
tables_begin m h few = record {
  tall = tabs.front_size (line_opened m) (line_count (shape_of m)) blank_table (omega (arith, openings.length_blank_table)) ∙ openings.length_blank_table;
  long = tabs.front_size (line_counted m) (line_count (shape_of m)) blank_counts (omega (arith, openings.length_blank_counts)) ∙ openings.length_blank_counts;
  held = λ l p. at l (omega (arith, moments.table_length (begins m)));
}
  where
    at : (l : ℕ) → l < line_count (shape_of m) → Held (get_or (front (line_opened m) (line_count (shape_of m)) blank_table) l []) (get_or (front (line_counted m) (line_count (shape_of m)) blank_counts) l 0) (get_or (table_of (begins m)) l [])
    at l p =
        rw (tabs.front_at (line_opened m) (line_count (shape_of m)) blank_table l [] p, tabs.front_at (line_counted m) (line_count (shape_of m)) blank_counts l 0 p, moments.table_at (begins m) l p, moments.contents_begin m (line_at (shape_of m) l))
        (rows.held_opened (persisted_at m (line_at (shape_of m) l)) (cached_at m (line_at (shape_of m) l)))

-- ---- one line changed

tables_line : (t : List (List Content)) (cs : List ℕ) (lists next : List (List Content)) (x : ℕ) (row : List Content) (n : ℕ)
    → Tables t cs lists → length next ≡ length lists → length lists ≤ 72 → ((l : ℕ) → l < length lists → (l ≡ x → ⊥) → get_or next l [] ≡ get_or lists l [])
    → (x < length lists → Held row n (get_or next x [])) → Tables (set t x row) (set cs x n) next
tables_line t cs lists next x row n h e small others this = record {
  tall = length-set t x row ∙ h.tall;
  long = length-set cs x n ∙ h.long;
  held = λ l p. at l (omega arith) (ℕ_discrete l x);
}
  where
    at : (l : ℕ) → l < length lists → Dec (l ≡ x) → Held (get_or (set t x row) l []) (get_or (set cs x n) l 0) (get_or next l [])
    at l p (yes q) = rw (q, get_or-set_same t x row [] (omega (arith, h.tall)), get_or-set_same cs x n 0 (omega (arith, h.long))) (this (omega arith))
    at l p (no ne) = rw (get_or-set_other t x l row [] ne, get_or-set_other cs x l n 0 ne, others l p ne) (h.held l p)

tables_still : (t : List (List Content)) (cs : List ℕ) (lists next : List (List Content)) → Tables t cs lists → length next ≡ length lists
    → ((l : ℕ) → l < length lists → get_or next l [] ≡ get_or lists l []) → Tables t cs next
tables_still t cs lists next h e all = record {
  tall = h.tall;
  long = h.long;
  held = λ l p. let q : l < length lists = omega arith in rw (all l q) (h.held l q);
}

-- ---- an event

-- a line of another number is not touched
module _ (z : Shape) (l : ℕ) where
  pub not_stored : (w : Touch) → (l ≡ (touched_row z w).line → ⊥) → StoresTo w (line_at z l) → ⊥
  not_stored nothing ne p = p
  not_stored (a_store x) ne p = ne (sym (number_line z l) ∙ ap (number_of z) p)
  not_stored (a_persist x) ne p = p
  not_stored (a_flush k x) ne p = p
  not_stored (a_fence k x) ne p = p

  not_persisted : (w : Touch) → (l ≡ (touched_row z w).line → ⊥) → Persists w (line_at z l) → ⊥
  not_persisted nothing ne p = p
  not_persisted (a_store x) ne p = p
  not_persisted (a_persist x) ne p = ne (sym (number_line z l) ∙ ap (number_of z) p)
  not_persisted (a_flush k x) ne p = p
  not_persisted (a_fence k x) ne p = p

  not_fenced : (w : Touch) → (l ≡ (touched_row z w).line → ⊥) → FencesTo w (line_at z l) → ⊥
  not_fenced nothing ne p = p
  not_fenced (a_store x) ne p = p
  not_fenced (a_persist x) ne p = p
  not_fenced (a_flush k x) ne p = p
  not_fenced (a_fence k x) ne p = ne (sym (number_line z l) ∙ ap (number_of z) p)

module _ (b : Bench) (known : Known b) (small : b.machine.n ≤ 64) (few : head_lines (shape_of b.machine) ≤ 8) (even : Even b.machine) (m : Machine) where
  abbrev z : Shape
  z = shape_of b.machine

  -- the line of a number; the line that a touch names
  abbrev line : ℕ → Line
  line l = line_at z l

  abbrev line_of : Touch → Line
  line_of w = line (touched_row z w).line

  -- what stands for a line's contents behind the touch w of it
  abbrev New : Touch → List Content → ℕ → Type 0
  New w row n = Held row n (contents_of (goes_on b m w) (line_of w))

  -- a line that was stored to, or written back
  put_row : (w : Touch) → Frame b.machine m w → steps.There b.machine w → Flushing b.machine w → Fencing b.machine w
      → (touched_row z w).line < 72 → 8 ≤ (touched_row z w).thread → (row : List Content) (n : ℕ) → Held row n (contents_of b (line_of w))
      → New w (row_after row n (cached_at m (line_of w)) (touched_row z w).persisted) (count_after row n (cached_at m (line_of w)) (touched_row z w).persisted)
  put_row nothing f q fl fe p k row n h = absurd (omega arith)
  put_row (a_store x) f q fl fe p k row n h =
      let l = line_of (a_store x) in
      rw (moments.contents_joined b known.timed m (a_store x) l (λ z. z) (λ z. z) (frame.frame_kept b.machine m (a_store x) f l (λ z. z) (λ z. z)))
      (rows.held_joined row n (contents_of b l) (cached_at m l) h)
  put_row (a_persist x) f q fl fe p k row n h =
      rw (q x refl)
      (rw (moments.contents_persisted b m x (frame.frame_present b.machine m (a_persist x) f even x refl)) (rows.held_cleared row (cached_at m x) h.wide))
  put_row (a_flush u x) f q fl fe p k row n h = absurd (omega (arith, fl u refl, known.threads))
  put_row (a_fence u x) f q fl fe p k row n h = absurd (omega (arith, (fe u x (refl, refl)).0, known.threads))

  -- one that was flushed: nothing is assured yet
  flushed_row : (w : Touch) → Frame b.machine m w → (touched_row z w).thread < 8 → (touched_row z w).persisted ≡ true → contents_of (goes_on b m w) (line_of w) ≡ contents_of b (line_of w)
  flushed_row nothing f k e = absurd (omega arith)
  flushed_row (a_store x) f k e = absurd (omega arith)
  flushed_row (a_persist x) f k e = absurd (omega arith)
  flushed_row (a_flush u x) f k e =
      let l = line_of (a_flush u x) in
      moments.contents_kept b known.timed m (a_flush u x) l (λ z. z) (λ z. z) (frame.frame_kept b.machine m (a_flush u x) f l (λ z. z) (λ z. z)) (f.cached l (λ z. z))
  flushed_row (a_fence u x) f k e = false_true e

  -- one that was fenced, and something later was persisted already
  stays_row : (w : Touch) → Frame b.machine m w → steps.There b.machine w → Fencing b.machine w → LineIn z (line_of w)
      → (touched_row z w).thread < 8 → (touched_row z w).persisted ≡ false → over_line b.machine (touched_row z w) ≡ true
      → contents_of (goes_on b m w) (line_of w) ≡ contents_of b (line_of w)
  stays_row nothing f q fe here k e o = absurd (omega arith)
  stays_row (a_store x) f q fe here k e o = absurd (omega arith)
  stays_row (a_persist x) f q fe here k e o = absurd (omega arith)
  stays_row (a_flush u x) f q fe here k e o = false_true (sym e)
  stays_row (a_fence u x) f q fe here k e o =
      let a = fe u x (refl, refl) in
      subst (λ l. LineIn z l → has (over_at b.machine l) u ≡ true → contents_of (goes_on b m (a_fence u x)) l ≡ contents_of b l) (sym (q x refl))
      (λ hl o. sinces.fenced_stays b known m u x f a.0 hl a.1 o) here o

  -- or nothing later: the row since the flush takes its place
  moves_row : (w : Touch) → Frame b.machine m w → steps.There b.machine w → Fencing b.machine w → LineIn z (line_of w)
      → (touched_row z w).thread < 8 → (touched_row z w).persisted ≡ false → over_line b.machine (touched_row z w) ≡ false
      → (since : List Row) → Sinces b since → New w (get_or since (touched_row z w).thread no_row).at (get_or since (touched_row z w).thread no_row).count
  moves_row nothing f q fe here k e o since h = absurd (omega arith)
  moves_row (a_store x) f q fe here k e o since h = absurd (omega arith)
  moves_row (a_persist x) f q fe here k e o since h = absurd (omega arith)
  moves_row (a_flush u x) f q fe here k e o since h = false_true (sym e)
  moves_row (a_fence u x) f q fe here k e o since h =
      let a = fe u x (refl, refl) in
      subst (λ l. LineIn z l → has (over_at b.machine l) u ≡ false → sinces.Holds (get_or since u no_row) (contents_of (goes_on b m (a_fence u x)) l)) (sym (q x refl))
      (λ hl o. rw (sinces.fenced_moves b known m u x f a.0 hl a.1 o) (h.held u x a.0 hl a.1)) here o

  module _ (w : Touch) (f : Frame b.machine m w) (there : steps.There b.machine w) (fl : Flushing b.machine w) (fe : Fencing b.machine w) where
    abbrev after : Bench
    after = goes_on b m w

    abbrev v : Touched
    v = touched_row z w

    after_at : (l : ℕ) → l < line_count z → get_or (table_of after) l [] ≡ contents_of after (line l)
    after_at l p = moments.table_at after l (subst (λ z. l < line_count z) (sym f.shape) p) ∙ ap (λ z. contents_of after (line_at z l)) f.shape

    size : length (table_of after) ≡ length (table_of b)
    size = moments.table_length after ∙ ap line_count f.shape ∙ sym (moments.table_length b)

    -- the lines that are not touched
    others : (l : ℕ) → l < length (table_of b) → (l ≡ v.line → ⊥) → get_or (table_of after) l [] ≡ get_or (table_of b) l []
    others l p ne =
        let q : l < line_count z = omega (arith, moments.table_length b) in
        let un = not_persisted z l w ne in
        let uf = not_fenced z l w ne in
        after_at l q
        ∙ moments.contents_kept b known.timed m w (line l) un uf (frame.frame_kept b.machine m w f (line l) un uf) (f.cached (line l) (not_stored z l w ne))
        ∙ sym (moments.table_at b l q)

    module _ (t : List (List Content)) (cs : List ℕ) (since : List Row) (h : Tables t cs (table_of b)) (hs : Sinces b since) where
      -- no row changes, where that of the touched line stands for the same
      still : (v.line < line_count z → contents_of after (line_of w) ≡ contents_of b (line_of w)) → Tables t cs (table_of after)
      still e = tables_still t cs (table_of b) (table_of after) h size (λ l p. by l p (ℕ_discrete l v.line))
        where
          by : (l : ℕ) → l < length (table_of b) → Dec (l ≡ v.line) → get_or (table_of after) l [] ≡ get_or (table_of b) l []
          by l p (no ne) = others l p ne
          by l p (yes i) =
              let q : l < line_count z = omega (arith, moments.table_length b) in
              after_at l q
              ∙ subst (λ l. l < line_count z → contents_of after (line l) ≡ contents_of b (line l)) (sym i) e q
              ∙ sym (moments.table_at b l q)

      -- another row in place of the touched line's
      other : (row : List Content) (n : ℕ) → (v.line < line_count z → New w row n) → Tables (set t v.line row) (set cs v.line n) (table_of after)
      other row n e =
          tables_line t cs (table_of b) (table_of after) v.line row n h size (omega (arith, moments.table_length b)) others
          (λ p. let q : v.line < line_count z = omega (arith, moments.table_length b) in rw (after_at v.line q) (e q))

      was : v.line < line_count z → Held (get_or t v.line []) (get_or cs v.line 0) (contents_of b (line_of w))
      was q = rw (moments.table_at b v.line q) at (h.held v.line (omega (arith, moments.table_length b)))

      pub tables_after : Tables (table_after t cs since (over_line b.machine v) v (cached_at m (line_of w)))
          (counts_after t cs since (over_line b.machine v) v (cached_at m (line_of w))) (table_of after)
      unfolding table_after counts_after
      tables_after = by (ltb v.line 72) refl (ltb v.thread 8) refl v.persisted refl (over_line b.machine v) refl
        where
          c : Content
          c = cached_at m (line_of w)

          new_row : Bool → List Content
          new_row p = row_after (get_or t v.line []) (get_or cs v.line 0) c p

          new_count : Bool → ℕ
          new_count p = count_after (get_or t v.line []) (get_or cs v.line 0) c p

          by : (x : Bool) → ltb v.line 72 ≡ x → (y : Bool) → ltb v.thread 8 ≡ y → (p : Bool) → v.persisted ≡ p → (o : Bool) → over_line b.machine v ≡ o
              → Tables (pick x (pick y (pick p t (pick o t (set t v.line (get_or since v.thread no_row).at))) (set t v.line (new_row p))) t)
              (pick x (pick y (pick p cs (pick o cs (set cs v.line (get_or since v.thread no_row).count))) (set cs v.line (new_count p))) cs) (table_of after)
          by false ex y ey p ep o eo = still (λ q. absurd (omega (arith, ltb-false v.line 72 ex)))
          by true ex false ey p ep o eo =
              other (new_row p) (new_count p)
              (λ q. subst (λ p. New w (new_row p) (new_count p)) ep
              (put_row w f there fl fe (ltb-true v.line 72 ex) (ltb-false v.thread 8 ey) (get_or t v.line []) (get_or cs v.line 0) (was q)))
          by true ex true ey true ep o eo = still (λ q. flushed_row w f (ltb-true v.thread 8 ey) ep)
          by true ex true ey false ep true eo = still (λ q. stays_row w f there fe (line_in z v.line q) (ltb-true v.thread 8 ey) ep eo)
          by true ex true ey false ep false eo =
              other (get_or since v.thread no_row).at (get_or since v.thread no_row).count
              (λ q. moves_row w f there fe (line_in z v.line q) (ltb-true v.thread 8 ey) ep eo since hs)
